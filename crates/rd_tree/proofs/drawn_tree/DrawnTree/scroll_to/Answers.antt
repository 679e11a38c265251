use Rattle.std.proofs.Common.{◌≡◌, ◌∙◌, ap, refl, sym, subst, true, cond}
use Rattle.rd_keys.specs.Keys.{same_key}
use Rattle.rd_keys.proofs.Keys.{same_key-sound, same_key-refl}
use Rattle.rd_tree.specs.Forest.{has, children}
use Rattle.rd_tree.specs.Changes.{scrolling, with_scroll}
use Rattle.rd_tree.specs.Touching.{edited}
use Rattle.rd_tree.specs.Drawn.{AllNear}
use Rattle.rd_tree.specs.Internal.Links.{child_and_sibling}
use Rattle.rd_tree.specs.Internal.Linked.{IsRead, linked, marks, seen, seen_from}
use Rattle.rd_tree.specs.Internal.Hands.{CanHand, HasHands, hand_at, handed_to}
use Rattle.rd_tree.specs.Internal.Laid.{each_by, drawn_below, IsHandedDown}
use Rattle.rd_tree.specs.Internal.Redraws.{AllRedraw, Redraws}
use Rattle.rd_tree.specs.Internal.Renews.{whole_at}
use Rattle.rd_tree.specs.declared.table.renew.Stale.TheVariants.{Branch}
use Rattle.rd_tree.proofs.Linking.Cutting.{in_children}
use Rattle.rd_tree.proofs.Tables.Renewed.{row_here, few_here, renews, renewed}
use Rattle.rd_tree.proofs.Scrolled.{known, anew_is}
use Rattle.rd_tree.proofs.Laying.Again.{anew, again_read, again_below, again_live, again_slots, again_sees, again_sound, again_edited, again_blending, again_shallow}
use Rattle.rd_tree.proofs.drawn_tree.DrawnTree.scroll_to.Goals as goal

pub whole_of-was-requires-clause-here : goal.whole_of-was-requires-clause-here
whole_of-was-requires-clause-here g c = (row_here c.self.inside.nodes c.self.inside.root c.args.key c.self.inside.ids
    c.self.invariant.sound (rw (← c.self.view_is) at c.requires.live) c.self.inside.table.rows c.self.invariant.table)

pub whole_of-was-requires-clause-few : goal.whole_of-was-requires-clause-few
whole_of-was-requires-clause-few g c = (few_here c.self.inside.nodes c.self.inside.root c.args.key c.self.inside.ids
    c.self.invariant.sound (rw (← c.self.view_is) at c.requires.live) c.self.inside.table.rows c.self.invariant.table)

pub redraw_where-requires-clause-read : goal.redraw_where-requires-clause-read
redraw_where-requires-clause-read g c = subst (λ o. IsRead c.put_scroll-asked.new.self o.0) (sym c.child_and_sibling-below.ensures) (again_read (with_scroll c.args.scroll) (record { id = λ d. refl; style = λ d. refl }) c.self.inside.nodes c.put_scroll-asked.new.self c.self.inside.root c.args.key c.self.inside.ids c.self.invariant.sound (rw (← c.self.view_is) at c.requires.live) c.put_scroll-asked.ensures.put)

pub redraw_where-requires-clause-has_rows : goal.redraw_where-requires-clause-has_rows
redraw_where-requires-clause-has_rows g c =
    let told : seen_from c.put_scroll-asked.new.self c.child_and_sibling-below.result.0 ≡ children same_key c.args.key (seen c.self.inside.nodes c.self.inside.root) =
    ap (λ o. seen_from c.put_scroll-asked.new.self o.0) c.child_and_sibling-below.ensures ∙ again_below (with_scroll c.args.scroll) (record { id = λ d. refl; style = λ d. refl }) c.self.inside.nodes c.put_scroll-asked.new.self c.self.inside.root c.args.key c.self.inside.ids c.self.invariant.sound (rw (← c.self.view_is) at c.requires.live) c.put_scroll-asked.ensures.put in
    let rows : HasHands c.args.rows.now.items (seen c.self.inside.nodes c.self.inside.root) = rw (← c.self.view_is) at c.requires.has_rows in
    λ j v. rows j (in_children same_key same_key-sound same_key-refl j c.args.key (seen c.self.inside.nodes c.self.inside.root) (sym (ap (has same_key j) told) ∙ v))

pub redraw_where-requires-clause-can : goal.redraw_where-requires-clause-can
redraw_where-requires-clause-can g c =
    let told : seen_from c.put_scroll-asked.new.self c.child_and_sibling-below.result.0 ≡ children same_key c.args.key (seen c.self.inside.nodes c.self.inside.root) =
    ap (λ o. seen_from c.put_scroll-asked.new.self o.0) c.child_and_sibling-below.ensures ∙ again_below (with_scroll c.args.scroll) (record { id = λ d. refl; style = λ d. refl }) c.self.inside.nodes c.put_scroll-asked.new.self c.self.inside.root c.args.key c.self.inside.ids c.self.invariant.sound (rw (← c.self.view_is) at c.requires.live) c.put_scroll-asked.ensures.put in
    subst (CanHand c.args.inside) (sym told) (rw (← c.self.view_is) at c.requires.can)

pub redraw_where-requires-clause-fits : goal.redraw_where-requires-clause-fits
redraw_where-requires-clause-fits g c =
    let told : seen_from c.put_scroll-asked.new.self c.child_and_sibling-below.result.0 ≡ children same_key c.args.key (seen c.self.inside.nodes c.self.inside.root) =
    ap (λ o. seen_from c.put_scroll-asked.new.self o.0) c.child_and_sibling-below.ensures ∙ again_below (with_scroll c.args.scroll) (record { id = λ d. refl; style = λ d. refl }) c.self.inside.nodes c.put_scroll-asked.new.self c.self.inside.root c.args.key c.self.inside.ids c.self.invariant.sound (rw (← c.self.view_is) at c.requires.live) c.put_scroll-asked.ensures.put in
    subst (AllRedraw c.args.rows.now.items c.args.inside) (sym told) (rw (← c.self.view_is) at c.requires.fits)

pub redraw_where-requires-clause-still : goal.redraw_where-requires-clause-still
redraw_where-requires-clause-still g c =
    let told : seen_from c.put_scroll-asked.new.self c.child_and_sibling-below.result.0 ≡ children same_key c.args.key (seen c.self.inside.nodes c.self.inside.root) =
    ap (λ o. seen_from c.put_scroll-asked.new.self o.0) c.child_and_sibling-below.ensures ∙ again_below (with_scroll c.args.scroll) (record { id = λ d. refl; style = λ d. refl }) c.self.inside.nodes c.put_scroll-asked.new.self c.self.inside.root c.args.key c.self.inside.ids c.self.invariant.sound (rw (← c.self.view_is) at c.requires.live) c.put_scroll-asked.ensures.put in
    λ no. subst (IsHandedDown c.args.rows.now.items c.args.inside) (sym told) (subst (λ f. IsHandedDown c.args.rows.now.items c.args.inside (children same_key c.args.key f))
    (sym (ap (λ d. d.boxes) c.self.view_is)) (c.requires.still (sym (known c.self.inside.nodes c.self.inside.root c.args.key c.self.inside.ids c.self.invariant.sound c.args.rows.now.items c.args.inside c.args.scroll c.put_scroll-asked.result c.args.self.now
    (sym (ap (λ d. d.boxes) c.self.view_is)) c.is-is_root.result (c.is-is_root.ensures ∙ ap (λ d. same_key c.args.key d.root) c.self.view_is) c.put_scroll-asked.ensures.clips) ∙ no)))

pub renew_up-requires : goal.renew_up-requires
renew_up-requires g c =
    let m : has same_key c.args.key (seen c.self.inside.nodes c.self.inside.root) ≡ true = (rw (← c.self.view_is) at c.requires.live) in
    let near : AllNear (each_by (anew (with_scroll c.args.scroll) c.put_scroll-asked.result c.args.rows.now.items c.args.key c.args.inside (seen c.self.inside.nodes c.self.inside.root)) (seen c.self.inside.nodes c.self.inside.root)) =
    subst AllNear (sym (anew_is c.self.inside.nodes c.self.inside.root c.args.key c.self.inside.ids c.self.invariant.sound c.args.rows.now.items c.args.inside c.args.scroll c.put_scroll-asked.result c.args.self.now
    (sym (ap (λ d. d.boxes) c.self.view_is)) c.is-is_root.result (c.is-is_root.ensures ∙ ap (λ d. same_key c.args.key d.root) c.self.view_is) c.put_scroll-asked.ensures.clips)) c.requires.near in
    let r2 : Redraws c.put_scroll-asked.result c.put_scroll-asked.new.self c.redraw_where.new.nodes c.args.rows.now.items c.args.inside (seen_from c.put_scroll-asked.new.self (child_and_sibling (linked c.put_scroll-asked.new.self c.args.key)).0) =
    subst (λ o. Redraws c.put_scroll-asked.result c.put_scroll-asked.new.self c.redraw_where.new.nodes c.args.rows.now.items c.args.inside (seen_from c.put_scroll-asked.new.self o.0)) c.child_and_sibling-below.ensures c.redraw_where.ensures.drawn in
    let o : c.whole_of-was.result ≡ whole_at c.self.inside.nodes c.self.inside.table.rows c.args.key = c.whole_of-was.ensures in
    renews c.self.inside.nodes c.redraw_where.new.nodes c.self.inside.root c.args.key c.self.inside.ids c.self.inside.table.rows Branch c.whole_of-was.result c.self.invariant.sound
    (again_sound (with_scroll c.args.scroll) (record { id = λ d. refl; style = λ d. refl }) c.self.inside.nodes c.put_scroll-asked.new.self c.self.inside.root c.args.key c.self.inside.ids c.self.invariant.sound m c.put_scroll-asked.ensures.put c.redraw_where.new.nodes c.args.rows.now.items c.args.inside c.put_scroll-asked.result r2 near)
    (again_slots (with_scroll c.args.scroll) (record { id = λ d. refl; style = λ d. refl }) c.self.inside.nodes c.put_scroll-asked.new.self c.self.inside.root c.args.key c.self.inside.ids c.self.invariant.sound m c.put_scroll-asked.ensures.put c.redraw_where.new.nodes c.args.rows.now.items c.args.inside c.put_scroll-asked.result r2 near)
    c.self.invariant.table m
    (again_edited (with_scroll c.args.scroll) (record { id = λ d. refl; style = λ d. refl }) c.self.inside.nodes c.put_scroll-asked.new.self c.self.inside.root c.args.key c.self.inside.ids c.self.invariant.sound m c.put_scroll-asked.ensures.put c.redraw_where.new.nodes c.args.rows.now.items c.args.inside c.put_scroll-asked.result r2 near)
    o tt

pub invariant_of-self : goal.invariant_of-self
invariant_of-self g c =
    let m : has same_key c.args.key (seen c.self.inside.nodes c.self.inside.root) ≡ true = (rw (← c.self.view_is) at c.requires.live) in
    let near : AllNear (each_by (anew (with_scroll c.args.scroll) c.put_scroll-asked.result c.args.rows.now.items c.args.key c.args.inside (seen c.self.inside.nodes c.self.inside.root)) (seen c.self.inside.nodes c.self.inside.root)) =
    subst AllNear (sym (anew_is c.self.inside.nodes c.self.inside.root c.args.key c.self.inside.ids c.self.invariant.sound c.args.rows.now.items c.args.inside c.args.scroll c.put_scroll-asked.result c.args.self.now
    (sym (ap (λ d. d.boxes) c.self.view_is)) c.is-is_root.result (c.is-is_root.ensures ∙ ap (λ d. same_key c.args.key d.root) c.self.view_is) c.put_scroll-asked.ensures.clips)) c.requires.near in
    let r2 : Redraws c.put_scroll-asked.result c.put_scroll-asked.new.self c.redraw_where.new.nodes c.args.rows.now.items c.args.inside (seen_from c.put_scroll-asked.new.self (child_and_sibling (linked c.put_scroll-asked.new.self c.args.key)).0) =
    subst (λ o. Redraws c.put_scroll-asked.result c.put_scroll-asked.new.self c.redraw_where.new.nodes c.args.rows.now.items c.args.inside (seen_from c.put_scroll-asked.new.self o.0)) c.child_and_sibling-below.ensures c.redraw_where.ensures.drawn in
    let o : c.whole_of-was.result ≡ whole_at c.self.inside.nodes c.self.inside.table.rows c.args.key = c.whole_of-was.ensures in
    let sound = again_sound (with_scroll c.args.scroll) (record { id = λ d. refl; style = λ d. refl }) c.self.inside.nodes c.put_scroll-asked.new.self c.self.inside.root c.args.key c.self.inside.ids c.self.invariant.sound m c.put_scroll-asked.ensures.put c.redraw_where.new.nodes c.args.rows.now.items c.args.inside c.put_scroll-asked.result r2 near in
    record {
      sound = sound;
      blending = again_blending (with_scroll c.args.scroll) (record { id = λ d. refl; style = λ d. refl }) c.self.inside.nodes c.put_scroll-asked.new.self c.self.inside.root c.args.key c.self.inside.ids c.self.invariant.sound m c.put_scroll-asked.ensures.put c.redraw_where.new.nodes c.args.rows.now.items c.args.inside c.put_scroll-asked.result r2 near
          c.self.inside.blends.items c.self.invariant.blending;
      shallow = again_shallow (with_scroll c.args.scroll) (record { id = λ d. refl; style = λ d. refl }) c.self.inside.nodes c.put_scroll-asked.new.self c.self.inside.root c.args.key c.self.inside.ids c.self.invariant.sound m c.put_scroll-asked.ensures.put c.redraw_where.new.nodes c.args.rows.now.items c.args.inside c.put_scroll-asked.result r2 near
          c.self.invariant.shallow;
      table = renewed c.self.inside.nodes c.redraw_where.new.nodes c.self.inside.root c.args.key c.self.inside.ids c.self.inside.table.rows Branch c.whole_of-was.result c.self.invariant.sound sound
          (again_slots (with_scroll c.args.scroll) (record { id = λ d. refl; style = λ d. refl }) c.self.inside.nodes c.put_scroll-asked.new.self c.self.inside.root c.args.key c.self.inside.ids c.self.invariant.sound m c.put_scroll-asked.ensures.put c.redraw_where.new.nodes c.args.rows.now.items c.args.inside c.put_scroll-asked.result r2 near)
          c.self.invariant.table m
          (again_edited (with_scroll c.args.scroll) (record { id = λ d. refl; style = λ d. refl }) c.self.inside.nodes c.put_scroll-asked.new.self c.self.inside.root c.args.key c.self.inside.ids c.self.invariant.sound m c.put_scroll-asked.ensures.put c.redraw_where.new.nodes c.args.rows.now.items c.args.inside c.put_scroll-asked.result r2 near)
          o tt c.renew_up.new.table.rows c.renew_up.ensures.right c.renew_up.ensures.same_length;
    }

pub returns-clause-drawn : goal.returns-clause-drawn
returns-clause-drawn g c =
    let m : has same_key c.args.key (seen c.self.inside.nodes c.self.inside.root) ≡ true = (rw (← c.self.view_is) at c.requires.live) in
    let near : AllNear (each_by (anew (with_scroll c.args.scroll) c.put_scroll-asked.result c.args.rows.now.items c.args.key c.args.inside (seen c.self.inside.nodes c.self.inside.root)) (seen c.self.inside.nodes c.self.inside.root)) =
    subst AllNear (sym (anew_is c.self.inside.nodes c.self.inside.root c.args.key c.self.inside.ids c.self.invariant.sound c.args.rows.now.items c.args.inside c.args.scroll c.put_scroll-asked.result c.args.self.now
    (sym (ap (λ d. d.boxes) c.self.view_is)) c.is-is_root.result (c.is-is_root.ensures ∙ ap (λ d. same_key c.args.key d.root) c.self.view_is) c.put_scroll-asked.ensures.clips)) c.requires.near in
    let r2 : Redraws c.put_scroll-asked.result c.put_scroll-asked.new.self c.redraw_where.new.nodes c.args.rows.now.items c.args.inside (seen_from c.put_scroll-asked.new.self (child_and_sibling (linked c.put_scroll-asked.new.self c.args.key)).0) =
    subst (λ o. Redraws c.put_scroll-asked.result c.put_scroll-asked.new.self c.redraw_where.new.nodes c.args.rows.now.items c.args.inside (seen_from c.put_scroll-asked.new.self o.0)) c.child_and_sibling-below.ensures c.redraw_where.ensures.drawn in
    let slots : marks c.redraw_where.new.nodes ≡ c.args.self.now.slots = again_slots (with_scroll c.args.scroll) (record { id = λ d. refl; style = λ d. refl }) c.self.inside.nodes c.put_scroll-asked.new.self c.self.inside.root c.args.key c.self.inside.ids c.self.invariant.sound m c.put_scroll-asked.ensures.put c.redraw_where.new.nodes c.args.rows.now.items c.args.inside c.put_scroll-asked.result r2 near ∙ ap (λ d. d.slots) c.self.view_is in
    let boxes : seen c.redraw_where.new.nodes c.self.inside.root ≡ drawn_below c.args.rows.now.items c.args.key c.args.inside (edited (scrolling c.args.key c.args.scroll) c.args.self.now).boxes =
    again_sees (with_scroll c.args.scroll) (record { id = λ d. refl; style = λ d. refl }) c.self.inside.nodes c.put_scroll-asked.new.self c.self.inside.root c.args.key c.self.inside.ids c.self.invariant.sound m c.put_scroll-asked.ensures.put c.redraw_where.new.nodes c.args.rows.now.items c.args.inside c.put_scroll-asked.result r2 near ∙ anew_is c.self.inside.nodes c.self.inside.root c.args.key c.self.inside.ids c.self.invariant.sound c.args.rows.now.items c.args.inside c.args.scroll c.put_scroll-asked.result c.args.self.now
    (sym (ap (λ d. d.boxes) c.self.view_is)) c.is-is_root.result (c.is-is_root.ensures ∙ ap (λ d. same_key c.args.key d.root) c.self.view_is) c.put_scroll-asked.ensures.clips in
    λ i. record (c.self.view_is i) { boxes = boxes i; slots = slots i }

pub returns-clause-handed : goal.returns-clause-handed
returns-clause-handed g c =
    let told : seen_from c.put_scroll-asked.new.self c.child_and_sibling-below.result.0 ≡ children same_key c.args.key (seen c.self.inside.nodes c.self.inside.root) =
    ap (λ o. seen_from c.put_scroll-asked.new.self o.0) c.child_and_sibling-below.ensures ∙ again_below (with_scroll c.args.scroll) (record { id = λ d. refl; style = λ d. refl }) c.self.inside.nodes c.put_scroll-asked.new.self c.self.inside.root c.args.key c.self.inside.ids c.self.invariant.sound (rw (← c.self.view_is) at c.requires.live) c.put_scroll-asked.ensures.put in
    rw (← c.self.view_is) (λ k m.
    c.redraw_where.ensures.handed k (again_live (with_scroll c.args.scroll) (record { id = λ d. refl; style = λ d. refl }) c.self.inside.nodes c.put_scroll-asked.new.self c.self.inside.root c.args.key c.self.inside.ids c.self.invariant.sound (rw (← c.self.view_is) at c.requires.live) c.put_scroll-asked.ensures.put k m)
    ∙ ap (λ f. cond (has same_key k f) (handed_to k c.args.inside f) (hand_at c.args.rows.now.items k)) told)
