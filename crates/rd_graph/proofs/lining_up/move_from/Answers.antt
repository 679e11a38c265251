use Rattle.std.proofs.Common.{◌∙◌, ◌++◌, ◌-◌, ap, arith, length, take, drop}
use Rattle.std.proofs.lemmas.List.{length-drop}
use Rattle.std.specs.Vec.Iter.{into_iter_items}
use Rattle.rd_graph.proofs.lining_up.move_from.Goals as goal

pub move_run-requires-clause-rest : goal.move_run-requires-clause-rest
move_run-requires-clause-rest g c =
    let over = c.args.place - c.args.next in
    let left = ap length c.pass_over.ensures ∙ length-drop over (into_iter_items c.args.rest.now) in
    let rest = c.requires.rest in
    omega (arith, left, rest)

pub returns-clause-left : goal.returns-clause-left
returns-clause-left g c = c.move_run.ensures.left ∙ ap (drop c.args.count) c.pass_over.ensures

pub returns-clause-moved : goal.returns-clause-moved
returns-clause-moved g c = c.move_run.ensures.moved ∙ ap (λ zs. c.args.room.now.items ++ take c.args.count zs) c.pass_over.ensures
