use Rattle.std.proofs.Common.{refl, ◌∙◌, ap, sym, arith}
use Rattle.std.specs.Prelude.{Some}
use Rattle.rd_keys.specs.Keys.{same_key}
use Rattle.rd_tree.specs.Forest.{from_some}
use Rattle.rd_tree.specs.Hulls.{touched_in}
use Rattle.rd_partial.specs.Internal.BoxLook.{here_of}
use Rattle.rd_partial.proofs.Kids.{live_next}
use Rattle.rd_partial.proofs.Touching.{added_one, fewer_below, added_looks, added_end, left_after, none_left}
use Rattle.rd_partial.proofs.Searching.{added_over}
use Rattle.rd_geom.specs.Canvas.{canvas_of}
use Rattle.rd_geom.specs.Plane.{holds_pixel}
use Rattle.rd_partial.specs.Internal.Touched.{branch_shows, own_shows, shows_below}
use Rattle.rd_partial.proofs.Adding.{joins_off, joins_then}
use Rattle.rd_partial.proofs.Unseen.{branch_off}
use Rattle.rd_partial.proofs.touched.+touching.Goals as goal
use Rattle.rd_tree.specs.Drawn.{drawn}

pub add_siblings-loop-left-preserved : goal.add_siblings-loop-left-preserved
add_siblings-loop-left-preserved g t c =
    let n = c.in-Some.ensures in
    let v = c.in-Some.looked in (
      live_next (drawn c.args.tree.now).boxes n.key (here_of v) v.first_child v.next_sibling v.hull n.told,
      left_after c.args.s.now (drawn c.args.tree.now) n.key v n.told n.marks c.loop-left.left c.own_marks.result c.loop-left.at c.loop-left.invariant.1 n.passed.marks c.own_marks.ensures,
      added_one c.args.s.now (drawn c.args.tree.now) n.key v n.told n.marks (from_some same_key c.args.first (drawn c.args.tree.now).boxes) c.args.area.now c.loop-left.area
          c.add_branch.new.area c.args.looks.now n.before c.next_marked.new.looks c.add_branch.new.looks (Some n.key) refl
          (added_over c.args.s.now (drawn c.args.tree.now) (from_some same_key c.args.first (drawn c.args.tree.now).boxes) c.loop-left.at (Some n.key) c.args.area.now
          c.loop-left.area c.args.looks.now c.loop-left.looks n.before c.loop-left.invariant.2 n.passed)
          c.in_ok-add_branch.ensures.area n.cost c.add_branch.ensures.looks,
      c.in_ok-add_branch.ensures.area.size ∙ c.loop-left.invariant.3,
    )

pub add_siblings-returns-clause-area : goal.add_siblings-returns-clause-area
add_siblings-returns-clause-area g t c =
    let next = from_some same_key c.loop-left.at (drawn c.args.tree.now).boxes in
    (added_end c.args.s.now (from_some same_key c.args.first (drawn c.args.tree.now).boxes) next c.args.area.now c.loop-left.area c.args.looks.now c.loop-left.looks
    (none_left c.loop-left.left (touched_in next) c.loop-left.invariant.1 c.loop-left-test.false) c.loop-left.invariant.2).0

pub add_siblings-returns-in_err-add_branch-clause-looks : goal.add_siblings-returns-in_err-add_branch-clause-looks
add_siblings-returns-in_err-add_branch-clause-looks g t c =
    let n = c.in-Some.ensures in
    added_looks c.args.s.now (drawn c.args.tree.now) n.key c.in-Some.looked n.told n.marks (from_some same_key c.args.first (drawn c.args.tree.now).boxes) c.args.area.now c.loop-left.area
    c.args.looks.now n.before c.next_marked.new.looks c.add_branch.new.looks (Some n.key) refl
    (added_over c.args.s.now (drawn c.args.tree.now) (from_some same_key c.args.first (drawn c.args.tree.now).boxes) c.loop-left.at (Some n.key) c.args.area.now
    c.loop-left.area c.args.looks.now c.loop-left.looks n.before c.loop-left.invariant.2 n.passed) n.cost c.add_branch.ensures.looks

pub add_siblings-add_branch-requires : goal.add_siblings-add_branch-requires
add_siblings-add_branch-requires g t c κs within =
    let n = c.in-Some.ensures in
    let v = c.in-Some.looked in
    let fewer = fewer_below c.args.s.now (drawn c.args.tree.now) n.key v n.told n.marks (from_some same_key c.args.first (drawn c.args.tree.now).boxes) c.args.area.now c.loop-left.area
    c.args.looks.now n.before (Some n.key) refl
    (added_over c.args.s.now (drawn c.args.tree.now) (from_some same_key c.args.first (drawn c.args.tree.now).boxes) c.loop-left.at (Some n.key) c.args.area.now
    c.loop-left.area c.args.looks.now c.loop-left.looks n.before c.loop-left.invariant.2 n.passed) in (
      omega (arith, fewer, c.decreases),
      (
        within,
        (
          c.requires.below,
          (
            c.requires.canvas ∙ ap canvas_of (sym c.loop-left.invariant.3),
            (n.fits, record { key = n.key; told = n.told; marks = n.marks }),
          ),
        ),
      ),
    )

pub add_branch-returns-then-not-may_show-clause-area : goal.add_branch-returns-then-not-may_show-clause-area
add_branch-returns-then-not-may_show-clause-area g t c = joins_off (branch_shows c.args.s.now c.args.looked.now (drawn c.args.tree.now)) c.args.area.now
    (λ x y h. branch_off c.args.s.now (drawn c.args.tree.now) c.args.looked.now c.requires.told c.requires.below (sym c.may_show.ensures ∙ c.if-not-may_show.true) x y (ap (λ q. holds_pixel q x y) c.requires.canvas ∙ h))

pub add_branch-returns-clause-area : goal.add_branch-returns-clause-area
add_branch-returns-clause-area g t c = joins_then (own_shows c.args.s.now c.args.looked.now) (shows_below c.args.s.now c.args.looked.now (drawn c.args.tree.now))
    c.args.area.now c.add_if_touched.new.area c.add_below.new.area c.in_ok-add_if_touched.ensures c.in_ok-add_below.ensures.area
