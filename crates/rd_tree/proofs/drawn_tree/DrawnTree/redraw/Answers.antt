use Rattle.std.proofs.Common.{◌≡◌, ◌∙◌, ap, refl, sym, subst, true, false, cond}
use Rattle.rd_keys.specs.Keys.{same_key}
use Rattle.rd_keys.proofs.Keys.{same_key-sound, same_key-refl}
use Rattle.rd_tree.specs.Forest.{has, children}
use Rattle.rd_tree.specs.Drawn.{AllNear}
use Rattle.rd_tree.specs.Internal.Links.{child_and_sibling}
use Rattle.rd_tree.specs.Internal.Linked.{IsRead, linked, seen, seen_from}
use Rattle.rd_tree.specs.Internal.Hands.{CanHand, HasHands, hand_at, handed_to}
use Rattle.rd_tree.specs.Internal.Laid.{drawn_again}
use Rattle.rd_tree.specs.Internal.Redraws.{AllRedraw, Redraws, drawn_far}
use Rattle.rd_tree.specs.Internal.Renews.{whole_at}
use Rattle.rd_tree.specs.declared.table.renew.Stale.TheVariants.{Branch}
use Rattle.rd_tree.proofs.Linking.Cutting.{in_children}
use Rattle.rd_tree.proofs.Tables.Renewed.{row_here, few_here, renews, renewed}
use Rattle.rd_tree.proofs.Laying.Again.{again_read, again_below, again_live, again_slots, again_sees, again_sound, again_edited, again_blending, again_shallow, drawn_near}
use Rattle.rd_tree.proofs.drawn_tree.DrawnTree.redraw.Goals as goal

pub whole_of-whole-requires-clause-here : goal.whole_of-whole-requires-clause-here
whole_of-whole-requires-clause-here g c = (row_here c.self.inside.nodes c.self.inside.root c.args.key c.self.inside.ids
    c.self.invariant.sound (rw (← c.self.view_is) at c.requires.live) c.self.inside.table.rows c.self.invariant.table)

pub whole_of-whole-requires-clause-few : goal.whole_of-whole-requires-clause-few
whole_of-whole-requires-clause-few g c = (few_here c.self.inside.nodes c.self.inside.root c.args.key c.self.inside.ids
    c.self.invariant.sound (rw (← c.self.view_is) at c.requires.live) c.self.inside.table.rows c.self.invariant.table)

pub draw_at-requires-clause-can : goal.draw_at-requires-clause-can
draw_at-requires-clause-can g c = drawn_near c.self.inside.nodes c.self.inside.root c.args.key c.self.inside.ids c.args.old c.args.new c.args.rows.now.items c.args.inside
    c.self.invariant.sound (rw (← c.self.view_is) at c.requires.near)

pub redraw-requires-clause-read : goal.redraw-requires-clause-read
redraw-requires-clause-read g c = subst (λ o. IsRead c.draw_at.new.nodes o.0) (sym c.child_and_sibling-below.ensures) (again_read (drawn_far c.args.old c.args.new) (record { id = λ d. refl; style = λ d. refl }) c.self.inside.nodes c.draw_at.new.nodes c.self.inside.root c.args.key c.self.inside.ids c.self.invariant.sound (rw (← c.self.view_is) at c.requires.live) c.draw_at.ensures)

pub redraw-requires-clause-has_rows : goal.redraw-requires-clause-has_rows
redraw-requires-clause-has_rows g c =
    let told : seen_from c.draw_at.new.nodes c.child_and_sibling-below.result.0 ≡ children same_key c.args.key (seen c.self.inside.nodes c.self.inside.root) =
    ap (λ o. seen_from c.draw_at.new.nodes o.0) c.child_and_sibling-below.ensures ∙ again_below (drawn_far c.args.old c.args.new) (record { id = λ d. refl; style = λ d. refl }) c.self.inside.nodes c.draw_at.new.nodes c.self.inside.root c.args.key c.self.inside.ids c.self.invariant.sound (rw (← c.self.view_is) at c.requires.live) c.draw_at.ensures in
    let rows : HasHands c.args.rows.now.items (seen c.self.inside.nodes c.self.inside.root) = rw (← c.self.view_is) at c.requires.has_rows in
    λ j v. rows j (in_children same_key same_key-sound same_key-refl j c.args.key (seen c.self.inside.nodes c.self.inside.root) (sym (ap (has same_key j) told) ∙ v))

pub redraw-requires-clause-can : goal.redraw-requires-clause-can
redraw-requires-clause-can g c =
    let told : seen_from c.draw_at.new.nodes c.child_and_sibling-below.result.0 ≡ children same_key c.args.key (seen c.self.inside.nodes c.self.inside.root) =
    ap (λ o. seen_from c.draw_at.new.nodes o.0) c.child_and_sibling-below.ensures ∙ again_below (drawn_far c.args.old c.args.new) (record { id = λ d. refl; style = λ d. refl }) c.self.inside.nodes c.draw_at.new.nodes c.self.inside.root c.args.key c.self.inside.ids c.self.invariant.sound (rw (← c.self.view_is) at c.requires.live) c.draw_at.ensures in
    subst (CanHand c.args.inside) (sym told) (rw (← c.self.view_is) at c.requires.can)

pub redraw-requires-clause-fits : goal.redraw-requires-clause-fits
redraw-requires-clause-fits g c =
    let told : seen_from c.draw_at.new.nodes c.child_and_sibling-below.result.0 ≡ children same_key c.args.key (seen c.self.inside.nodes c.self.inside.root) =
    ap (λ o. seen_from c.draw_at.new.nodes o.0) c.child_and_sibling-below.ensures ∙ again_below (drawn_far c.args.old c.args.new) (record { id = λ d. refl; style = λ d. refl }) c.self.inside.nodes c.draw_at.new.nodes c.self.inside.root c.args.key c.self.inside.ids c.self.invariant.sound (rw (← c.self.view_is) at c.requires.live) c.draw_at.ensures in
    subst (AllRedraw c.args.rows.now.items c.args.inside) (sym told) (rw (← c.self.view_is) at c.requires.fits)

pub renew_up-requires : goal.renew_up-requires
renew_up-requires g c =
    let m : has same_key c.args.key (seen c.self.inside.nodes c.self.inside.root) ≡ true = (rw (← c.self.view_is) at c.requires.live) in
    let near : AllNear (drawn_again c.args.rows.now.items c.args.key c.args.old c.args.new c.args.inside (seen c.self.inside.nodes c.self.inside.root)) = rw (← c.self.view_is) at c.requires.near in
    let r2 : Redraws false c.draw_at.new.nodes c.redraw.new.nodes c.args.rows.now.items c.args.inside (seen_from c.draw_at.new.nodes (child_and_sibling (linked c.draw_at.new.nodes c.args.key)).0) =
    subst (λ o. Redraws false c.draw_at.new.nodes c.redraw.new.nodes c.args.rows.now.items c.args.inside (seen_from c.draw_at.new.nodes o.0)) c.child_and_sibling-below.ensures c.redraw.ensures.drawn in
    let o : c.whole_of-whole.result ≡ whole_at c.self.inside.nodes c.self.inside.table.rows c.args.key = c.whole_of-whole.ensures in
    renews c.self.inside.nodes c.redraw.new.nodes c.self.inside.root c.args.key c.self.inside.ids c.self.inside.table.rows Branch c.whole_of-whole.result c.self.invariant.sound
    (again_sound (drawn_far c.args.old c.args.new) (record { id = λ d. refl; style = λ d. refl }) c.self.inside.nodes c.draw_at.new.nodes c.self.inside.root c.args.key c.self.inside.ids c.self.invariant.sound m c.draw_at.ensures c.redraw.new.nodes c.args.rows.now.items c.args.inside false r2 near)
    (again_slots (drawn_far c.args.old c.args.new) (record { id = λ d. refl; style = λ d. refl }) c.self.inside.nodes c.draw_at.new.nodes c.self.inside.root c.args.key c.self.inside.ids c.self.invariant.sound m c.draw_at.ensures c.redraw.new.nodes c.args.rows.now.items c.args.inside false r2 near)
    c.self.invariant.table m
    (again_edited (drawn_far c.args.old c.args.new) (record { id = λ d. refl; style = λ d. refl }) c.self.inside.nodes c.draw_at.new.nodes c.self.inside.root c.args.key c.self.inside.ids c.self.invariant.sound m c.draw_at.ensures c.redraw.new.nodes c.args.rows.now.items c.args.inside false r2 near)
    o tt

pub invariant_of-self : goal.invariant_of-self
invariant_of-self g c =
    let m : has same_key c.args.key (seen c.self.inside.nodes c.self.inside.root) ≡ true = (rw (← c.self.view_is) at c.requires.live) in
    let near : AllNear (drawn_again c.args.rows.now.items c.args.key c.args.old c.args.new c.args.inside (seen c.self.inside.nodes c.self.inside.root)) = rw (← c.self.view_is) at c.requires.near in
    let r2 : Redraws false c.draw_at.new.nodes c.redraw.new.nodes c.args.rows.now.items c.args.inside (seen_from c.draw_at.new.nodes (child_and_sibling (linked c.draw_at.new.nodes c.args.key)).0) =
    subst (λ o. Redraws false c.draw_at.new.nodes c.redraw.new.nodes c.args.rows.now.items c.args.inside (seen_from c.draw_at.new.nodes o.0)) c.child_and_sibling-below.ensures c.redraw.ensures.drawn in
    let o : c.whole_of-whole.result ≡ whole_at c.self.inside.nodes c.self.inside.table.rows c.args.key = c.whole_of-whole.ensures in
    let sound = again_sound (drawn_far c.args.old c.args.new) (record { id = λ d. refl; style = λ d. refl }) c.self.inside.nodes c.draw_at.new.nodes c.self.inside.root c.args.key c.self.inside.ids c.self.invariant.sound m c.draw_at.ensures c.redraw.new.nodes c.args.rows.now.items c.args.inside false r2 near in
    record {
      sound = sound;
      blending = again_blending (drawn_far c.args.old c.args.new) (record { id = λ d. refl; style = λ d. refl }) c.self.inside.nodes c.draw_at.new.nodes c.self.inside.root c.args.key c.self.inside.ids c.self.invariant.sound m c.draw_at.ensures c.redraw.new.nodes c.args.rows.now.items c.args.inside false r2 near
          c.self.inside.blends.items c.self.invariant.blending;
      shallow = again_shallow (drawn_far c.args.old c.args.new) (record { id = λ d. refl; style = λ d. refl }) c.self.inside.nodes c.draw_at.new.nodes c.self.inside.root c.args.key c.self.inside.ids c.self.invariant.sound m c.draw_at.ensures c.redraw.new.nodes c.args.rows.now.items c.args.inside false r2 near
          c.self.invariant.shallow;
      table = renewed c.self.inside.nodes c.redraw.new.nodes c.self.inside.root c.args.key c.self.inside.ids c.self.inside.table.rows Branch c.whole_of-whole.result c.self.invariant.sound sound
          (again_slots (drawn_far c.args.old c.args.new) (record { id = λ d. refl; style = λ d. refl }) c.self.inside.nodes c.draw_at.new.nodes c.self.inside.root c.args.key c.self.inside.ids c.self.invariant.sound m c.draw_at.ensures c.redraw.new.nodes c.args.rows.now.items c.args.inside false r2 near)
          c.self.invariant.table m
          (again_edited (drawn_far c.args.old c.args.new) (record { id = λ d. refl; style = λ d. refl }) c.self.inside.nodes c.draw_at.new.nodes c.self.inside.root c.args.key c.self.inside.ids c.self.invariant.sound m c.draw_at.ensures c.redraw.new.nodes c.args.rows.now.items c.args.inside false r2 near)
          o tt c.renew_up.new.table.rows c.renew_up.ensures.right c.renew_up.ensures.same_length;
    }

pub returns-clause-drawn : goal.returns-clause-drawn
returns-clause-drawn g c =
    let m : has same_key c.args.key (seen c.self.inside.nodes c.self.inside.root) ≡ true = (rw (← c.self.view_is) at c.requires.live) in
    let near : AllNear (drawn_again c.args.rows.now.items c.args.key c.args.old c.args.new c.args.inside (seen c.self.inside.nodes c.self.inside.root)) = rw (← c.self.view_is) at c.requires.near in
    let r2 : Redraws false c.draw_at.new.nodes c.redraw.new.nodes c.args.rows.now.items c.args.inside (seen_from c.draw_at.new.nodes (child_and_sibling (linked c.draw_at.new.nodes c.args.key)).0) =
    subst (λ o. Redraws false c.draw_at.new.nodes c.redraw.new.nodes c.args.rows.now.items c.args.inside (seen_from c.draw_at.new.nodes o.0)) c.child_and_sibling-below.ensures c.redraw.ensures.drawn in
    let slots = again_slots (drawn_far c.args.old c.args.new) (record { id = λ d. refl; style = λ d. refl }) c.self.inside.nodes c.draw_at.new.nodes c.self.inside.root c.args.key c.self.inside.ids c.self.invariant.sound m c.draw_at.ensures c.redraw.new.nodes c.args.rows.now.items c.args.inside false r2 near in
    let boxes = again_sees (drawn_far c.args.old c.args.new) (record { id = λ d. refl; style = λ d. refl }) c.self.inside.nodes c.draw_at.new.nodes c.self.inside.root c.args.key c.self.inside.ids c.self.invariant.sound m c.draw_at.ensures c.redraw.new.nodes c.args.rows.now.items c.args.inside false r2 near in
    rw (← c.self.view_is, boxes, slots) refl

pub returns-clause-handed : goal.returns-clause-handed
returns-clause-handed g c =
    let told : seen_from c.draw_at.new.nodes c.child_and_sibling-below.result.0 ≡ children same_key c.args.key (seen c.self.inside.nodes c.self.inside.root) =
    ap (λ o. seen_from c.draw_at.new.nodes o.0) c.child_and_sibling-below.ensures ∙ again_below (drawn_far c.args.old c.args.new) (record { id = λ d. refl; style = λ d. refl }) c.self.inside.nodes c.draw_at.new.nodes c.self.inside.root c.args.key c.self.inside.ids c.self.invariant.sound (rw (← c.self.view_is) at c.requires.live) c.draw_at.ensures in
    rw (← c.self.view_is) (λ k m.
    c.redraw.ensures.handed k (again_live (drawn_far c.args.old c.args.new) (record { id = λ d. refl; style = λ d. refl }) c.self.inside.nodes c.draw_at.new.nodes c.self.inside.root c.args.key c.self.inside.ids c.self.invariant.sound (rw (← c.self.view_is) at c.requires.live) c.draw_at.ensures k m)
    ∙ ap (λ f. cond (has same_key k f) (handed_to k c.args.inside f) (hand_at c.args.rows.now.items k)) told)
