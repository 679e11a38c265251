use Rattle.std.proofs.Common.{arith}
use Rattle.rd_undo.proofs.Visiting.{head_there, one_more, one_scrolled, sizes, next_there, child_there}
use Rattle.rd_undo.proofs.inverse.+push_insertions.Goals as goal

pub visit_box-seen-requires : goal.visit_box-seen-requires
visit_box-seen-requires g t c = head_there c.in-Some.key c.loop-next.next c.args.tree.now.boxes c.in-Some.is c.loop-next.invariant.3

pub push_insertions-requires : goal.push_insertions-requires
push_insertions-requires g t c =
    let w = c.visit_box-seen.ensures.seen in
    let s = sizes c.args.tree.now.boxes c.loop-next.next c.in-Some.key c.visit_box-seen.result w c.in-Some.is in
    λ κs o. (omega (arith, s, c.loop-next.invariant.0, c.decreases), (o, child_there c.args.tree.now.boxes c.in-Some.key c.visit_box-seen.result w))

pub loop-next-smaller : goal.loop-next-smaller
loop-next-smaller g t c =
    let s = sizes c.args.tree.now.boxes c.loop-next.next c.in-Some.key c.visit_box-seen.result c.visit_box-seen.ensures.seen c.in-Some.is in
    omega (arith, s)

pub loop-next-preserved : goal.loop-next-preserved
loop-next-preserved g t c =
    let w = c.visit_box-seen.ensures.seen in
    let s = sizes c.args.tree.now.boxes c.loop-next.next c.in-Some.key c.visit_box-seen.result w c.in-Some.is in (
      omega (arith, s, c.loop-next.invariant.0),
      one_more c.args.tree.now.boxes c.args.parent.now c.loop-next.next c.in-Some.key c.visit_box-seen.result c.loop-next.out.items c.push_insertion.new.out.items
          c.push_insertions.new.out.items _ c.in-Some.is w c.loop-next.invariant.1 c.in_ok-push_insertion.ensures c.in_ok-push_insertions.ensures.pushed,
      one_scrolled c.args.tree.now.boxes c.loop-next.next c.in-Some.key c.visit_box-seen.result c.loop-next.scrolls.items c.push_scrolling.new.out.items
          c.push_insertions.new.scrolls.items _ c.in-Some.is w c.loop-next.invariant.2 c.in_ok-push_scrolling.ensures c.in_ok-push_insertions.ensures.scrolled,
      next_there c.args.tree.now.boxes c.in-Some.key c.visit_box-seen.result w,
      omega (arith, s, c.push_insertions.ensures.looks, c.visit_box-seen.ensures.looks, c.loop-next.invariant.4),
    )
