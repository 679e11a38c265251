-- Boxes stay within the limits where they are laid out.
use Rattle.std.proofs.Common.{◌≡◌, refl, ap, ◌∙◌, sym, subst, ℤ, Bool, true, false, cond, inl, inr}
use Rattle.std.specs.Prelude.{Option, Some, None, IfSome}
use Rattle.rd_geom.specs.Plane.{Rectangle}
use Rattle.rd_style.specs.declared.styles.StyleChange.{StyleChange}
use Rattle.rd_style.specs.Changes.{changed}
use Rattle.rd_style.specs.Limits.{FitsRect, Fits}
use Rattle.rd_keys.specs.Keys.{same_key}
use Rattle.rd_keys.proofs.Keys.{same_key-sound, same_key-refl}
use Rattle.rd_tree.specs.declared.scroll.Scroll.{Scroll}
use Rattle.rd_tree.specs.Forest.{empty, tree, top, has, item_of, children, insert_among, without_branch, branch, map_where, at_box, at_subtree, in_subtree, AllItems, IsApart}
use Rattle.rd_tree.specs.Document.{Document, BoxKey, Item, BoxForest, AllFit, with_child}
use Rattle.rd_tree.specs.Limits.{FitsScroll}
use Rattle.rd_tree.specs.Changes.{insertion, removal, moving, styling, placing, shifting, scrolling, restyle, with_rect, with_scroll, shifted, shift_item, put_elsewhere, CanRestyle, CanShift}
use Rattle.rd_tree.specs.Touching.{touch, settled, touched_by, edited}
use Rattle.rd_tree.specs.Internal.Works.{ShiftFits}
use Rattle.rd_tree.proofs.Forests.All.{all_children, all_among, all_put, all_without, all_branch, all_item, all_found}
use Rattle.rd_tree.proofs.Forests.ByKey.{where-by}
use Rattle.rd_tree.proofs.Forests.Under.{which}
use Rattle.rd_tree.proofs.Nodes.Shifts.{shift_fits}
use Rattle.rd_tree.proofs.Summaries.Nearby.{from-children}
use Rattle.rd_tree.proofs.Laying.Near.{FitsItem, to_items, from_items}

-- what is so at the key that is meant
if_some : (P : Item → Type 0) (o : Option Item) (d : Item) → IfSome o P → o ≡ Some d → P d
if_some P None d h e = cc (e)
if_some P (Some x) d h e = let n : x ≡ d = cc (e) in subst P n h

-- Items that change where a test says so, each into one within the limits.
pub fit_where : (p : BoxKey → Bool) (x : Item → Item) (f : BoxForest) → IsApart same_key f
    → ((j : BoxKey) (d : Item) → item_of same_key j f ≡ Some d → p j ≡ true → FitsItem d → FitsItem (x d)) → AllFit f → AllFit (map_where p x f)
fit_where p x f a q h =
    from_items (map_where p x f) (subst (AllItems FitsItem) (sym (where-by p x f))
    (all_found same_key same_key-sound same_key-refl FitsItem FitsItem (λ k d. cond (p k) (x d) d) f a (λ j d u v w. at (p j) j d refl v w) (to_items f h))) where
      at : (b : Bool) (j : BoxKey) (d : Item) → p j ≡ b → item_of same_key j f ≡ Some d → FitsItem d → FitsItem (cond b (x d) d)
      at true j d e v w = q j d v e w
      at false j d e v w = w

pub fit_marks : (p : BoxKey → Bool) (f : BoxForest) → AllFit f → AllFit (map_where p touch f)
fit_marks p empty h = tt
fit_marks p (tree k d low rest) h = by (p k) (fit_marks p low h.2) (fit_marks p rest h.3) where
  by : (b : Bool) → AllFit (map_where p touch low) → AllFit (map_where p touch rest) → AllFit (tree k (cond b (touch d) d) (map_where p touch low) (map_where p touch rest))
  by true l r = (h.0, h.1, l, r, h.4)
  by false l r = (h.0, h.1, l, r, h.4)

module _ (t : Document) (h : AllFit t.boxes) where
  pub fit_settled : AllFit (map_where (λ _. true) settled t.boxes)
  fit_settled = all t.boxes h where
    all : (f : BoxForest) → AllFit f → AllFit (map_where (λ _. true) settled f)
    all empty h = tt
    all (tree k d low rest) h = (h.0, h.1, all low h.2, all rest h.3, h.4)

  pub fit_removed : (k : BoxKey) → AllFit (edited (removal k) t).boxes
  fit_removed k = fit_marks (touched_by (removal k) t) (without_branch same_key k t.boxes)
      (from_items (without_branch same_key k t.boxes) (all_without FitsItem same_key k t.boxes (to_items t.boxes h)))

  pub fit_inserted : (p : BoxKey) (before : Option BoxKey) (k : BoxKey) (d : Item) → FitsItem d → AllFit (edited (insertion p before k d) t).boxes
  fit_inserted p before k d w =
      let all : AllItems FitsItem t.boxes = to_items t.boxes h in
      fit_marks (touched_by (insertion p before k d) t) (with_child p before k d t.boxes) (from_items (with_child p before k d t.boxes)
      (all_put FitsItem same_key p (insert_among same_key before (tree k d empty empty) (children same_key p t.boxes)) t.boxes
      (all_among FitsItem same_key before (tree k d empty empty) (children same_key p t.boxes) (w, tt, tt) (all_children FitsItem same_key p t.boxes all)) all))

  pub fit_moved : (k p : BoxKey) (before : Option BoxKey) → AllFit (edited (moving k p before) t).boxes
  fit_moved k p before =
      let all : AllItems FitsItem t.boxes = to_items t.boxes h in
      let g : BoxForest = without_branch same_key k t.boxes in
      let less : AllItems FitsItem g = all_without FitsItem same_key k t.boxes all in
      fit_marks (touched_by (moving k p before) t) (put_elsewhere k p before t.boxes) (from_items (put_elsewhere k p before t.boxes)
      (all_put FitsItem same_key p (insert_among same_key before (branch same_key k t.boxes) (children same_key p g)) g
      (all_among FitsItem same_key before (branch same_key k t.boxes) (children same_key p g) (all_branch FitsItem same_key k t.boxes all) (all_children FitsItem same_key p g less)) less))

  module _ (a : IsApart same_key t.boxes) where
    -- the box that is meant
    meant : (k j : BoxKey) (d : Item) → item_of same_key j t.boxes ≡ Some d → same_key j k ≡ true → item_of same_key k t.boxes ≡ Some d
    meant k j d v e = ap (λ z. item_of same_key z t.boxes) (sym (same_key-sound j k e)) ∙ v

    pub fit_styled : (k : BoxKey) (c : StyleChange) → CanRestyle k c t.boxes → AllFit (edited (styling k c) t).boxes
    fit_styled k c can = fit_marks (touched_by (styling k c) t) (at_box same_key k (restyle c) t.boxes)
        (fit_where (λ j. same_key j k) (restyle c) t.boxes a (λ j d v e w.
        (w.0, if_some (λ d. Fits (changed d.style c)) (item_of same_key k t.boxes) d can (meant k j d v e), w.2)) h)

    pub fit_placed : (k : BoxKey) (r : Rectangle) → FitsRect r → AllFit (edited (placing k r) t).boxes
    fit_placed k r f = fit_marks (touched_by (placing k r) t) (at_box same_key k (with_rect r) t.boxes)
        (fit_where (λ j. same_key j k) (with_rect r) t.boxes a (λ j d v e w. (f, w.1, w.2)) h)

    pub fit_scrolled : (k : BoxKey) (s : Scroll) → FitsScroll s → AllFit (edited (scrolling k s) t).boxes
    fit_scrolled k s f = fit_marks (touched_by (scrolling k s) t) (at_box same_key k (with_scroll s) t.boxes)
        (fit_where (λ j. same_key j k) (with_scroll s) t.boxes a (λ j d v e w. (w.0, w.1, f)) h)

    pub fit_shifted : (k : BoxKey) (dx dy : ℤ) → CanShift dx dy k t.boxes → AllFit (edited (shifting k dx dy) t).boxes
    fit_shifted k dx dy can =
        let w : ShiftFits dx dy k t.boxes = shift_fits dx dy k t.boxes can in
        fit_marks (touched_by (shifting k dx dy) t) (at_subtree same_key k (shift_item dx dy) t.boxes)
        (fit_where (λ j. in_subtree same_key j k t.boxes) (shift_item dx dy) t.boxes a (λ j d v e x. (
          elim (which (same_key j k) (has same_key j (children same_key k t.boxes)) e) [
            | inl s ↦ if_some (λ d. FitsRect (shifted dx dy d.rect)) (item_of same_key k t.boxes) d w.0 (meant k j d v s)
            | inr s ↦ all_item (λ d. FitsRect (shifted dx dy d.rect)) same_key j d (children same_key k t.boxes) w.1
                (ap top (sym (from-children same_key same_key-sound same_key-refl j k t.boxes a s)) ∙ v)
          ],
          x.1,
          x.2,
        )) h)
