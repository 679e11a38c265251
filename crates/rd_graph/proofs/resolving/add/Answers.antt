use Rattle.std.proofs.Common.{◌∙◌, ap, sym}
use Rattle.std.proofs.lemmas.Result.{on_ok_weaker}
use Rattle.rd_graph.specs.Names.{same_entry}
use Rattle.rd_graph.specs.Internal.Passes.{all_pushed}
use Rattle.rd_graph.proofs.Patches.Numbers.{in_place_none, in_place_some}
use Rattle.rd_graph.proofs.resolving.add.Goals as goal

pub returns-in-Some-clause-names : goal.returns-in-Some-clause-names
returns-in-Some-clause-names c =
    let is = in_place_some c.args.gone.now.names c.args.notes.now c.args.key c.in-Some.number c.in-Some.ensures in
    on_ok_weaker c.add_noted.result (λ h. h ∙ ap (all_pushed same_entry c.args.seen.now.names.items) (sym is)) c.add_noted.ensures.names

pub returns-in-None-clause-names : goal.returns-in-None-clause-names
returns-in-None-clause-names c =
    let is = in_place_none c.args.gone.now.names c.args.notes.now c.args.key c.in-None.ensures in
    on_ok_weaker c.push_new.result (λ h. h ∙ ap (all_pushed same_entry c.args.seen.now.names.items) (sym is)) c.push_new.ensures.names
