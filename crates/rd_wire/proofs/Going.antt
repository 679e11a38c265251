-- Reading entries one after the other, as a loop does.
use Rattle.std.proofs.Common.{◌≡◌, ℕ, suc, ◌-◌, ◌+◌, ◌≤◌, ◌<◌, List, [], ◌∷◌, ◌++◌, Option, Some, None, refl, sym, ap, ◌∙◌, arith, inl, inr}
use Rattle.rd_item.specs.Items.{Made}
use Rattle.rd_list.specs.Wrappers.{Wrapper}
use Rattle.rd_list.specs.Entries.{Entries, nil, leaf, group, ◌▷◌}
use Rattle.rd_geom.specs.Plane.{Rectangle}
use Rattle.rd_wire.specs.declared.fault.WireFault.{WireFault}
use Rattle.rd_wire.specs.declared.fault.WireFault.TheVariants.{Form, NoMemory}
use Rattle.rd_wire.specs.declared.wire.WireEntry.{WireEntry}
use Rattle.rd_wire.specs.Internal.Reading.{Reader, ◌>>=◌}
use Rattle.rd_wire.specs.Internal.Ones.{One, below}
use Rattle.rd_wire.specs.Internal.Listed.{one_of, listed}
use Rattle.rd_wire.specs.Internal.LevelReading.{entry_at, entries_at}
use Rattle.rd_wire.specs.Internal.Gives.{Fails}

abbrev Items : Type 0
Items = Entries Wrapper Made

-- what was read before, and what is still read
abbrev pub with_front : Items → Option (Items × List ℕ) → Option (Items × List ℕ)
with_front front read = read >>= λ x. Some (front ▷ x.0, x.1)

join_assoc : (xs ys zs : Items) → (xs ▷ ys) ▷ zs ≡ xs ▷ (ys ▷ zs)
join_assoc nil ys zs = refl
join_assoc (leaf l xs) ys zs = ap (leaf l) (join_assoc xs ys zs)
join_assoc (group g inner xs) ys zs = ap (group g inner) (join_assoc xs ys zs)

join-nil : (xs : Items) → xs ▷ nil ≡ xs
join-nil nil = refl
join-nil (leaf l xs) = ap (leaf l) (join-nil xs)
join-nil (group g inner xs) = ap (group g inner) (join-nil xs)

below-join : (e : One) (xs ys : Items) → below e xs ▷ ys ≡ below e (xs ▷ ys)
below-join (inl m) xs ys = refl
below-join (inr g) xs ys = refl

pub listed-append : (es fs : List WireEntry) → listed (es ++ fs) ≡ listed es ▷ listed fs
listed-append [] fs = refl
listed-append (e ∷ es) fs = ap (below (one_of e)) (listed-append es fs) ∙ sym (below-join (one_of e) (listed es) (listed fs))

regroup : (front : Items) (e : One) (read : Option (Items × List ℕ)) → with_front front (read >>= λ x. Some (below e x.0, x.1)) ≡ with_front (front ▷ below e nil) read
regroup front e (Some x) = ap (λ (xs : Items). Some (xs, x.1)) (ap (λ ys. front ▷ ys) (sym (below-join e nil x.0)) ∙ sym (join_assoc front (below e nil) x.0))
regroup front e None = refl

abbrev with_one : One → Option (Items × List ℕ) → Option ((One × Items) × List ℕ)
with_one e r = r >>= λ y. Some ((e, y.0), y.1)

abbrev put_all : Option ((One × Items) × List ℕ) → Option (Items × List ℕ)
put_all r = r >>= λ p. Some (below p.0.0 p.0.1, p.1)

module _ (canvas : Rectangle) (inside : Reader Items) where
  one_more : (n : ℕ) (bytes : List ℕ) (e : One) (after : List ℕ) → entry_at canvas inside bytes ≡ Some (e, after)
      → entries_at canvas inside (suc n) bytes ≡ (entries_at canvas inside n after >>= λ x. Some (below e x.0, x.1))
  unfolding entries_at
  one_more n bytes e after h = rw h (by (entries_at canvas inside n after))
    where
      by : (r : Option (Items × List ℕ)) → put_all (with_one e r) ≡ (r >>= λ x. Some (below e x.0, x.1))
      by (Some x) = refl
      by None = refl

  no_more : (n : ℕ) (bytes : List ℕ) → entry_at canvas inside bytes ≡ None → entries_at canvas inside (suc n) bytes ≡ None
  unfolding entries_at
  no_more n bytes h = rw h refl

  pub goes_on : (front : List WireEntry) (count i : ℕ) (bytes : List ℕ) (e : WireEntry) (after : List ℕ) (total : Option (Items × List ℕ)) → i < count → entry_at canvas inside bytes ≡ Some (one_of e, after)
      → with_front (listed front) (entries_at canvas inside (count - i) bytes) ≡ total → with_front (listed (front ++ e ∷ [])) (entries_at canvas inside (count - (i + 1)) after) ≡ total
  goes_on front count i bytes e after total lt h so_far =
      let k : count - i ≡ suc (count - (i + 1)) = omega arith in
      let m = one_more (count - (i + 1)) bytes (one_of e) after h in
      let one : with_front (listed front) (entries_at canvas inside (count - i) bytes) ≡ with_front (listed front ▷ below (one_of e) nil) (entries_at canvas inside (count - (i + 1)) after) = rw (k, m) (regroup (listed front) (one_of e) (entries_at canvas inside (count - (i + 1)) after)) in
      ap (λ xs. with_front xs (entries_at canvas inside (count - (i + 1)) after)) (listed-append front (e ∷ [])) ∙ sym one ∙ so_far

  pub ends : (f : WireFault) (front : List WireEntry) (count i : ℕ) (bytes : List ℕ) (total : Option (Items × List ℕ)) → i < count → Fails f (entry_at canvas inside bytes)
      → with_front (listed front) (entries_at canvas inside (count - i) bytes) ≡ total → Fails f total
  ends NoMemory front count i bytes total lt h so_far = tt
  ends Form front count i bytes total lt h so_far =
      let k : count - i ≡ suc (count - (i + 1)) = omega arith in
      let m = no_more (count - (i + 1)) bytes h in
      let one : with_front (listed front) (entries_at canvas inside (count - i) bytes) ≡ None = rw (k, m) refl in
      sym so_far ∙ one

  pub is_done : (front : List WireEntry) (count i : ℕ) (bytes : List ℕ) (total : Option (Items × List ℕ)) → count ≤ i → with_front (listed front) (entries_at canvas inside (count - i) bytes) ≡ total → total ≡ Some (listed front, bytes)
  unfolding entries_at
  is_done front count i bytes total le so_far =
      let k : count - i ≡ 0 = omega arith in
      let one : with_front (listed front) (entries_at canvas inside (count - i) bytes) ≡ Some (listed front, bytes) = rw k (ap (λ (xs : Items). Some (xs, bytes)) (join-nil (listed front))) in
      sym so_far ∙ one
