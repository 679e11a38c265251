use Rattle.std.proofs.Common.{◌∙◌, ap, sym}
use Rattle.std.proofs.lemmas.Result.{on_ok_weaker}
use Rattle.rd_graph.specs.Names.{same_entry}
use Rattle.rd_graph.specs.Internal.Passes.{all_pushed}
use Rattle.rd_graph.proofs.Patches.Numbers.{note_here, note_none}
use Rattle.rd_graph.proofs.resolving.add_noted.Goals as goal

pub returns-then-number-notes-clause-names : goal.returns-then-number-notes-clause-names
returns-then-number-notes-clause-names c =
    let is = note_here c.args.notes.now c.args.number c.index-notes-number.result c.if-number-notes.true c.index-notes-number.is in
    on_ok_weaker c.push_all.result (λ h. h ∙ ap (all_pushed same_entry c.args.seen.now.names.items) (c.deref.ensures ∙ sym is)) c.push_all.ensures.names

pub returns-clause-names : goal.returns-clause-names
returns-clause-names c = ap (all_pushed same_entry c.args.seen.now.names.items) (sym (note_none c.args.notes.now c.args.number c.if-number-notes.false))
