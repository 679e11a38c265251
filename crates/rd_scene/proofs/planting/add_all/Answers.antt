use Rattle.rd_tree.specs.Document.{Document, BoxForest}
use Rattle.std.proofs.Common.{subst, reverse, ◌≡◌, ◌<◌, ◌+◌, ◌∙◌, ◌∷◌, ◌++◌, [], sym, ap, arith, length, take, drop}
use Rattle.std.proofs.lemmas.List.{take_more}
use Rattle.rd_tree.specs.Touching.{touch}
use Rattle.rd_scene.specs.Order.{are_in_order}
use Rattle.rd_scene.specs.Planting.{item_of}
use Rattle.rd_scene.proofs.Growing.{grow}
use Rattle.rd_scene.proofs.OrderLemmas.{before_more, next_box}
use Rattle.rd_tree.proofs.Changing.NextKeys.{next-absent}
use Rattle.rd_scene.proofs.Plants.{so_far, Stands, stands, not_first, known_parent, room_below, new_name, SameDepths, depths_grown, depths_marked, adds_push}
use Rattle.rd_scene.proofs.Keyed.{regrouped, added_is, added_well}
use Rattle.rd_scene.proofs.planting.add_all.Goals as goal

pub add-requires-clause-parent : goal.add-requires-clause-parent
add-requires-clause-parent g c =
    let within : c.loop-b.b-index < length c.args.rest.now = omega arith in
    let b = c.b-item.result in
    let before = so_far c.args.first.now (take c.loop-b.b-index c.args.rest.now) in
    let others = drop (c.loop-b.b-index + 1) c.args.rest.now in
    let s : Stands before others b = stands before others b (sym (ap (are_in_order before) (next_box _ _ b within c.b-item.is)) ∙ c.loop-b.invariant.order) in
    known_parent c.loop-b.tree.boxes c.args.first.now (take c.loop-b.b-index c.args.rest.now) others b c.loop-b.invariant.depths s

pub add-requires-clause-depth : goal.add-requires-clause-depth
add-requires-clause-depth g c = λ p e.
    let within : c.loop-b.b-index < length c.args.rest.now = omega arith in
    let b = c.b-item.result in
    let before = so_far c.args.first.now (take c.loop-b.b-index c.args.rest.now) in
    let others = drop (c.loop-b.b-index + 1) c.args.rest.now in
    let s : Stands before others b = stands before others b (sym (ap (are_in_order before) (next_box _ _ b within c.b-item.is)) ∙ c.loop-b.invariant.order) in
    room_below c.loop-b.tree.boxes before b p c.loop-b.invariant.depths (not_first (reverse (take c.loop-b.b-index c.args.rest.now)) c.args.first.now) s.place e

pub add-requires-clause-new_id : goal.add-requires-clause-new_id
add-requires-clause-new_id g c =
    let within : c.loop-b.b-index < length c.args.rest.now = omega arith in
    let b = c.b-item.result in
    let before = so_far c.args.first.now (take c.loop-b.b-index c.args.rest.now) in
    let others = drop (c.loop-b.b-index + 1) c.args.rest.now in
    let s : Stands before others b = stands before others b (sym (ap (are_in_order before) (next_box _ _ b within c.b-item.is)) ∙ c.loop-b.invariant.order) in
    new_name c.loop-b.tree.boxes before b c.loop-b.invariant.depths s.free

pub loop-b-preserved : goal.loop-b-preserved
loop-b-preserved g c =
    let within : c.loop-b.b-index < length c.args.rest.now = omega arith in
    let b = c.b-item.result in
    let i = c.loop-b.b-index in
    let bs = c.args.rest.now in
    let before = so_far c.args.first.now (take i bs) in
    let others = drop (i + 1) bs in
    let s : Stands before others b = stands before others b (sym (ap (are_in_order before) (next_box _ _ b within c.b-item.is)) ∙ c.loop-b.invariant.order) in
    let more : so_far c.args.first.now (take (i + 1) bs) ≡ b ∷ before = ap (λ r. r ++ c.args.first.now ∷ []) (before_more bs i b within c.b-item.is) in
    let adds = c.in_ok-add.ensures.added in
    let taken : take (i + 1) bs ≡ take i bs ++ b ∷ [] = take_more bs i b within ∙ ap (λ x. take i bs ++ x ∷ []) (sym c.b-item.is) in
    record {
      added = rw taken (adds_push (take i bs) b _ _ _ c.loop-b.invariant.added adds);
      depths = rw more (subst (λ (f : BoxForest). SameDepths f (b ∷ before)) (sym (ap (λ (t : Document). t.boxes) (added_is b c.loop-b.tree _ c.loop-b.invariant.well adds)))
          (depths_marked (regrouped b c.loop-b.tree _ adds) (grow adds.parent adds.key (touch (item_of b)) c.loop-b.tree.boxes) (b ∷ before)
          (depths_grown c.loop-b.tree.boxes before b adds.parent adds.key c.loop-b.invariant.depths (next-absent c.loop-b.tree adds.key c.loop-b.invariant.well.keyed adds.next) adds.parent_is s.free)));
      order = rw more s.others;
      well = added_well b c.loop-b.tree _ c.loop-b.invariant.well adds;
      taken = c.in_ok-add.ensures.more ∙ ap (λ n. n + 1) c.loop-b.invariant.taken;
    }
