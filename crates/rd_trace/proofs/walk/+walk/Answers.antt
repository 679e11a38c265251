use Rattle.std.proofs.Common.{arith}
use Rattle.rd_tree.specs.Drawn.{drawn}
use Rattle.rd_stack.proofs.Walk.Going.{sizes, next_sibling_is}
use Rattle.rd_trace.proofs.Going.{go_on}
use Rattle.rd_trace.proofs.walk.+walk.Goals as goal

pub trace_all-loop-next-preserved : goal.trace_all-loop-next-preserved
trace_all-loop-next-preserved g t c =
    let w = c.in-Some-look_at.ensures.seen in
    let on = go_on c.args.s.now (drawn c.args.tree.now).boxes c.args.above.now c.loop-next.next c.in-Some.key c.in-Some-look_at.visit.here c.in-Some-look_at.visit.first_child c.in-Some-look_at.visit.next_sibling
    _ c.loop-next.all.items c.append.new.self.items c.in_ok-traced.traced.items _
    w c.in-Some.is (c.loop-next.invariant.0, c.loop-next.invariant.1) c.in_ok-traced.ensures.traced c.in_ok-append.ensures.items in
    let s = sizes (drawn c.args.tree.now).boxes c.loop-next.next c.in-Some.key c.in-Some-look_at.visit.here c.in-Some-look_at.visit.first_child c.in-Some-look_at.visit.next_sibling w c.in-Some.is in (
      on.0,
      on.1,
      next_sibling_is (drawn c.args.tree.now).boxes c.in-Some.key c.in-Some-look_at.visit.here c.in-Some-look_at.visit.first_child c.in-Some-look_at.visit.next_sibling w,
      omega (arith, s, c.trace_one.ensures.looks, c.in-Some-look_at.ensures.looks, c.loop-next.invariant.3),
    )
