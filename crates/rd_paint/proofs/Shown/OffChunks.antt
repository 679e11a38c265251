-- Chunks that are passed over, since their hull is off an area.
use Rattle.std.proofs.Common.{◌≡◌, refl, ◌∙◌, sym, ap, ℤ, ℕ, ◌+◌, Bool, true, false, not, List, ◌++◌, take, drop}
use Rattle.std.proofs.lemmas.List.{take-append-drop, drop-drop}
use Rattle.rd_geom.specs.Areas.{Region, meets_area}
use Rattle.rd_geom.specs.Plane.{Rectangle, IsWithin, holds_pixel}
use Rattle.rd_geom.proofs.Areas.{shares-meets_area}
use Rattle.rd_item.specs.Items.{Made}
use Rattle.rd_item.specs.declared.leaf.Leaf as item
use Rattle.rd_keys.specs.declared.entry.EntryKey.{EntryKey}
use Rattle.rd_list.specs.Chunks.{AreHeld, AreWithin}
use Rattle.rd_list.specs.Displayed.{shown}
use Rattle.rd_list.specs.Entries.{Entries, nil, leaf, group, flat}
use Rattle.rd_list.specs.EntryNames.{kept_leaves}
use Rattle.rd_list.specs.Kept.{Ordered}
use Rattle.rd_list.specs.KeptView.{kept_entries}
use Rattle.rd_list.specs.Wrappers.{Wrapper}
use Rattle.rd_list.specs.declared.kept.Entry.{Entry}
use Rattle.rd_list.proofs.Covering.{held_leaves}
use Rattle.rd_list.proofs.Displaying.{shown-append}
use Rattle.rd_list.proofs.Parting.{within_left, within_right}
use Rattle.rd_paint.specs.Internal.Picks.{InArea, SameWhere, ServesWhere}
use Rattle.rd_paint.proofs.Shown.Showing.{group_unseen, last_false, same_join, serves_past}

-- a pixel that an area has is not in a rectangle that shares none with it
pub off_area : (a : Region) (r : Rectangle) → meets_area a r ≡ false → (x y : ℤ) → InArea a x y → holds_pixel r x y ≡ false
off_area a r f x y h = by (holds_pixel r x y) refl
  where
    by : (b : Bool) → holds_pixel r x y ≡ b → holds_pixel r x y ≡ false
    by false e = e
    by true e = absurd (let m = shares-meets_area a r (record { x = x; y = y; first = h; second = e }) in cc)

module _ (p : ℤ → ℤ → Type 0) (r : Rectangle) (off : (x y : ℤ) → p x y → holds_pixel r x y ≡ false) where
  pub leaf_off : (l : item.Leaf) → IsWithin l.visible r → SameWhere p nil (leaf l nil)
  leaf_off l w x y d h = sym (rw (last_false (holds_pixel l.shape.outer x y) (not (holds_pixel l.shape.inner x y)) (holds_pixel l.visible x y) (by (holds_pixel l.visible x y) refl)) refl)
    where
      by : (b : Bool) → holds_pixel l.visible x y ≡ b → holds_pixel l.visible x y ≡ false
      by false e = e
      by true e = absurd (let t = w x y e in let f = off x y h in cc)

  -- a list of leaves in the rectangle shows nothing outside of it
  list_off : (xs : Entries (Ordered EntryKey Wrapper) Made) → AreWithin r (flat xs) → SameWhere p nil (kept_leaves xs)
  list_off nil h = λ x y d k. refl
  list_off (leaf m rest) h = same_join p nil (leaf m.leaf nil) nil (kept_leaves rest) (leaf_off m.leaf h.0) (list_off rest h.1)
  list_off (group g inner rest) h =
      same_join p nil (group g.of (kept_leaves inner) nil) nil (kept_leaves rest)
      (group_unseen p g.of (kept_leaves inner) (list_off inner (within_left r (flat inner) (flat rest) h)))
      (list_off rest (within_right r (flat inner) (flat rest) h))

  -- from behind a chunk whose hull it is
  pub chunk_past : {A : Type 0} (es : List (Entry A)) (i n : ℕ) → AreHeld r (take n (drop i es)) → ServesWhere p (shown (drop (i + n) es)) (shown (drop i es))
  chunk_past es i n h =
      serves_past p (shown (take n (drop i es))) (shown (drop (i + n) es)) (shown (drop i es))
      (ap shown (sym (take-append-drop n (drop i es)) ∙ ap (λ zs. take n (drop i es) ++ zs) (drop-drop n i es)) ∙ shown-append (take n (drop i es)) (drop (i + n) es))
      (list_off (kept_entries (take n (drop i es))) (held_leaves r (take n (drop i es)) h))
