use Rattle.std.proofs.Common.{refl, ap}
use Rattle.std.specs.Prelude.{Some}
use Rattle.rd_keys.specs.Keys.{same_key}
use Rattle.rd_tree.specs.Forest.{from_some}
use Rattle.rd_tree.specs.Hulls.{touched_in}
use Rattle.rd_partial.specs.Internal.BoxLook.{here_of}
use Rattle.rd_partial.specs.Internal.Touched.{own_shows, shows_below}
use Rattle.rd_partial.proofs.Adding.{joins_then}
use Rattle.rd_partial.proofs.Touching.{added_begin, added_one, added_looks, added_end}
use Rattle.rd_partial.proofs.Invalidating.{root_last}
use Rattle.rd_partial.proofs.touched.add_root.Goals as goal
use Rattle.rd_tree.specs.Drawn.{drawn}

pub returns-in_err-add_below-clause-looks : goal.returns-in_err-add_below-clause-looks
returns-in_err-add_below-clause-looks g c =
    let first = from_some same_key (Some c.args.root) (drawn c.args.tree.now).boxes in
    added_looks c.args.s.now (drawn c.args.tree.now) c.args.root c.in-Some.looked c.in-Some.ensures.told c.in-Some.ensures.marks first c.args.area.now c.args.area.now
    c.args.looks.now c.args.looks.now c.look_at.new.looks c.add_below.new.looks (Some c.args.root) refl
    (added_begin c.args.s.now first c.args.area.now c.args.looks.now) c.look_at.ensures.cost c.add_below.ensures.looks

pub returns-clause-looks : goal.returns-clause-looks
returns-clause-looks g c =
    let first = from_some same_key (Some c.args.root) (drawn c.args.tree.now).boxes in
    added_looks c.args.s.now (drawn c.args.tree.now) c.args.root c.in-Some.looked c.in-Some.ensures.told c.in-Some.ensures.marks first c.args.area.now c.args.area.now
    c.args.looks.now c.args.looks.now c.look_at.new.looks c.add_below.new.looks (Some c.args.root) refl
    (added_begin c.args.s.now first c.args.area.now c.args.looks.now) c.look_at.ensures.cost c.add_below.ensures.looks

pub returns-clause-area : goal.returns-clause-area
returns-clause-area g c =
    let v = c.in-Some.looked in
    let first = from_some same_key (Some c.args.root) (drawn c.args.tree.now).boxes in
    let last = root_last (drawn c.args.tree.now) c.requires.rooted c.args.root c.requires.root (here_of v) v.first_child v.next_sibling v.hull c.in-Some.ensures.told in
    (added_end c.args.s.now first (from_some same_key v.next_sibling (drawn c.args.tree.now).boxes) c.args.area.now c.add_below.new.area c.args.looks.now c.add_below.new.looks (ap touched_in last)
    (added_one c.args.s.now (drawn c.args.tree.now) c.args.root v c.in-Some.ensures.told c.in-Some.ensures.marks first c.args.area.now c.args.area.now
    c.add_below.new.area c.args.looks.now c.args.looks.now c.look_at.new.looks c.add_below.new.looks (Some c.args.root) refl
    (added_begin c.args.s.now first c.args.area.now c.args.looks.now)
    (joins_then (own_shows c.args.s.now v) (shows_below c.args.s.now v (drawn c.args.tree.now)) c.args.area.now c.add_if_touched.new.area c.add_below.new.area
    c.in_ok-add_if_touched.ensures c.in_ok-add_below.ensures.area) c.look_at.ensures.cost c.add_below.ensures.looks)).0
