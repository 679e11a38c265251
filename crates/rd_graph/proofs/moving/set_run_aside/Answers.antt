use Rattle.std.proofs.Common.{◌++◌, ◌∙◌, ap, arith, sym}
use Rattle.rd_graph.specs.Gathered.{gathered}
use Rattle.rd_graph.proofs.LinedUp.RunGathering.{aside_one, kept_outside, one_long}
use Rattle.rd_graph.proofs.moving.set_run_aside.Goals as goal

pub gather_run-requires-clause-room : goal.gather_run-requires-clause-room
gather_run-requires-clause-room g c =
    let one = one_long c.args.run c.if-run.true in
    let room = c.requires.room in
    omega (arith, one, room)

pub returns-then-run-clause-moved : goal.returns-then-run-clause-moved
returns-then-run-clause-moved g c =
    c.gather_run.ensures.moved ∙ ap (λ ps. c.args.aside.now.items ++ gathered ps (c.args.old.now.items ++ c.args.made.now.items)) (sym (aside_one c.args.run c.if-run.true))

pub returns-then-run-clause-others : goal.returns-then-run-clause-others
returns-then-run-clause-others g c = kept_outside c.args.run (c.args.old.now.items ++ c.args.made.now.items) (c.gather_run.new.old.items ++ c.gather_run.new.made.items) c.if-run.true c.gather_run.ensures.others

pub returns-then-run-clause-len : goal.returns-then-run-clause-len
returns-then-run-clause-len g c =
    let one = one_long c.args.run c.if-run.true in
    let len = c.gather_run.ensures.len in
    omega (arith, one, len)
