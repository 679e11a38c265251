-- Parts of a level.
use Rattle.std.proofs.Common.{◌≡◌, ℕ, zero, suc, ◌-◌, ◌≤◌, List, [], ◌∷◌, ◌++◌, length, take, drop, arith}
use Rattle.std.proofs.lemmas.List.{length-drop, take_all}
use Rattle.rd_geom.specs.Plane.{Rectangle}
use Rattle.rd_item.specs.Items.{Made}
use Rattle.rd_list.specs.Chunks.{AreWithin}
use Rattle.rd_list.specs.Entries.{list_size}
use Rattle.rd_list.specs.KeptView.{kept_entries}
use Rattle.rd_list.specs.declared.kept.Entry.{Entry}
use Rattle.rd_list.specs.declared.kept.Entry.TheVariants.{Leaf, Group}

-- what is within a rectangle, of the first leaves and of those after them
pub within_left : (r : Rectangle) (ms ns : List Made) → AreWithin r (ms ++ ns) → AreWithin r ms
within_left r [] ns h = tt
within_left r (m ∷ ms) ns h = (h.0, within_left r ms ns h.1)

pub within_right : (r : Rectangle) (ms ns : List Made) → AreWithin r (ms ++ ns) → AreWithin r ns
within_right r [] ns h = h
within_right r (m ∷ ms) ns h = within_right r ms ns h.1

module _ {A : Type 0} where
  -- a part of a level is no larger
  pub drop_size : (es : List (Entry A)) (p : ℕ) → list_size (kept_entries (drop p es)) ≤ list_size (kept_entries es)
  drop_size es zero = omega arith
  drop_size [] (suc p) = omega arith
  drop_size (Leaf i ∷ es) (suc p) = let r = drop_size es p in omega (arith, r)
  drop_size (Group g ∷ es) (suc p) = let r = drop_size es p in omega (arith, r)

  take_size : (es : List (Entry A)) (n : ℕ) → list_size (kept_entries (take n es)) ≤ list_size (kept_entries es)
  take_size es zero = omega arith
  take_size [] (suc n) = omega arith
  take_size (Leaf i ∷ es) (suc n) = let r = take_size es n in omega (arith, r)
  take_size (Group g ∷ es) (suc n) = let r = take_size es n in omega (arith, r)

  pub part_size : (es : List (Entry A)) (p n : ℕ) → list_size (kept_entries (take n (drop p es))) ≤ list_size (kept_entries es)
  part_size es p n = let a = take_size (drop p es) n in let b = drop_size es p in omega (arith, a, b)

  -- the part from a place on
  pub rest_is : (es : List (Entry A)) (p : ℕ) → take (length es - p) (drop p es) ≡ drop p es
  rest_is es p = let n = length-drop p es in take_all (length es - p) (drop p es) (omega (arith, n))
