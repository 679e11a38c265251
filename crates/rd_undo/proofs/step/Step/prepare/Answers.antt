use Rattle.std.proofs.Common.{sym, subst}
use Rattle.rd_tree.specs.Proper.{IsProper}
use Rattle.rd_tree.proofs.Nodes.Distinct.{distinct_ids}
use Rattle.rd_undo.specs.Undoing.{Undoes}
use Rattle.rd_undo.proofs.Law.{inverse_undoes}
use Rattle.rd_undo.proofs.step.Step.prepare.Goals as goal

pub inverse_of-requires-clause-proper : goal.inverse_of-requires-clause-proper
inverse_of-requires-clause-proper g c =
    let r = c.root.ensures in
    record { rooted = r.rooted; apart = r.apart; distinct = distinct_ids c.args.tree.now.boxes r.apart r.ids; keyed = r.keyed; room = r.most; limits = r.limits; shallow = r.depth }

pub returns-clause-undoes : goal.returns-clause-undoes
returns-clause-undoes g c =
    let r = c.root.ensures in
    let w : IsProper c.args.tree.now =
    record { rooted = r.rooted; apart = r.apart; distinct = distinct_ids c.args.tree.now.boxes r.apart r.ids; keyed = r.keyed; room = r.most; limits = r.limits; shallow = r.depth } in
    subst (λ es. Undoes es c.args.edit.now c.args.tree.now) (sym c.in_ok-edits.ensures.inverse) (inverse_undoes c.args.edit.now c.args.tree.now w c.requires)
