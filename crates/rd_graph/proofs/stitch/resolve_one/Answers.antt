use Rattle.std.proofs.Common.{◌≡◌, subst, Bool, cond, [], ◌∷◌}
use Rattle.std.specs.Prelude.{OnOk}
use Rattle.rd_graph.specs.Internal.Passes.{all_pushed}
use Rattle.rd_graph.specs.Internal.Tables.{noted_in}
use Rattle.rd_graph.specs.Names.{same_entry}
use Rattle.rd_graph.proofs.stitch.resolve_one.Goals as goal

pub returns-then-not-has-clause-names : goal.returns-then-not-has-clause-names
returns-then-not-has-clause-names c =
    subst (λ (b : Bool). OnOk c.push_new.result (c.push_new.new.seen.names.items ≡ all_pushed same_entry c.args.seen.now.names.items (cond b (noted_in c.args.notes.now c.args.key) (c.args.key ∷ []))))
    c.if-not-has.ensures c.push_new.ensures.names
