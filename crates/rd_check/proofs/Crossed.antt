-- Pairs of entries, one after another.
use Rattle.std.proofs.Common.{◌≡◌, ℕ, ◌+◌, ◌<◌, ◌≤◌, true, false, List, length, get_or, Some, refl, sym, ap, ◌∙◌, arith}
use Rattle.std.specs.Prelude.{slice_get}
use Rattle.std.proofs.lemmas.List.{length-map}
use Rattle.std.proofs.lemmas.Option.{slice_get_read, same_Some}
use Rattle.rd_check.specs.declared.seen.Seen.{Seen}
use Rattle.rd_check.specs.declared.near.Cluster.{Cluster}
use Rattle.rd_check.specs.Verdicts.{IsFirst, Never}
use Rattle.rd_check.specs.Internal.Finding.{Sight, is_crossed, IsCrossedIn}
use Rattle.rd_check.specs.Internal.Sights.{sight_of, sights_of}
use Rattle.rd_check.specs.Internal.Crossing.{IsEntered, AreEntered}
use Rattle.rd_check.proofs.Searching.{NoneBelow, none_more, none_all, first_here}
use Rattle.rd_check.proofs.Slots.{map_slice}
use Rattle.rd_check.proofs.Nearby.{NoPair, none_crossed, pair_all}

pub sight_here : (seen : List Seen) (i : ℕ) (x : Seen) → i < length seen → x ≡ get_or seen i x → slice_get (sights_of seen) i ≡ Some (sight_of x)
sight_here seen i x h e = map_slice sight_of seen i x (slice_get_read seen (length seen) i x refl h e)

module _ (seen : List Seen) (i j : ℕ) (x y : Seen) (below : i < j) (within : j < length seen) (x_is : x ≡ get_or seen i x) (y_is : y ≡ get_or seen j y) where
  one : slice_get (sights_of seen) i ≡ Some (sight_of x)
  one = sight_here seen i x (omega (arith, below, within)) x_is

  other : slice_get (sights_of seen) j ≡ Some (sight_of y)
  other = sight_here seen j y within y_is

  crossed : is_crossed (sight_of x) (sight_of y) ≡ true → IsCrossedIn (sights_of seen) i j
  crossed t = record { below = below; lower = sight_of x; upper = sight_of y; lower_at = one; upper_at = other; crossed = t }

  apart : is_crossed (sight_of x) (sight_of y) ≡ false → IsCrossedIn (sights_of seen) i j → ⊥
  apart f c =
      let a : c.lower ≡ sight_of x = same_Some c.lower (sight_of x) (sym c.lower_at ∙ one) in
      let b : c.upper ≡ sight_of y = same_Some c.upper (sight_of y) (sym c.upper_at ∙ other) in
      let no : true ≡ false = sym c.crossed ∙ ap (λ (z : Sight). is_crossed z c.upper) a ∙ ap (is_crossed (sight_of x)) b ∙ f in
      absurd cc

pub crossed_first : (seen : List Seen) (i j : ℕ) (x y : Seen) → NoneBelow (λ i. IsCrossedIn (sights_of seen) i j) i → i < j → j < length seen → x ≡ get_or seen i x → y ≡ get_or seen j y
    → is_crossed (sight_of x) (sight_of y) ≡ true → IsFirst (λ i. IsCrossedIn (sights_of seen) i j) i
crossed_first seen i j x y n below within xi yi t = first_here (λ i. IsCrossedIn (sights_of seen) i j) i n (crossed seen i j x y below within xi yi t)

pub crossed_not : (seen : List Seen) (i j : ℕ) (x y : Seen) → NoneBelow (λ i. IsCrossedIn (sights_of seen) i j) i → i < j → j < length seen → x ≡ get_or seen i x → y ≡ get_or seen j y
    → is_crossed (sight_of x) (sight_of y) ≡ false → NoneBelow (λ i. IsCrossedIn (sights_of seen) i j) (i + 1)
crossed_not seen i j x y n below within xi yi f = none_more (λ i. IsCrossedIn (sights_of seen) i j) i n (apart seen i j x y below within xi yi f)

pub crossed_never : (seen : List Seen) (i j : ℕ) → NoneBelow (λ i. IsCrossedIn (sights_of seen) i j) i → j ≤ i → Never (λ i. IsCrossedIn (sights_of seen) i j)
crossed_never seen i j n past = none_all (λ i. IsCrossedIn (sights_of seen) i j) i j n past (λ k c. c.below)

-- none is crossed where the clusters have none that is
pub never_near : (bs : List Cluster) (seen : List Seen) (j : ℕ) (y : Seen) → AreEntered bs (sights_of seen) j → j < length seen → y ≡ get_or seen j y
    → ((t : Sight) → IsEntered bs t → is_crossed t (sight_of y) ≡ false) → Never (λ i. IsCrossedIn (sights_of seen) i j)
never_near bs seen j y a h e none = none_crossed bs (sights_of seen) j (sight_of y) a (sight_here seen j y h e) none

pub pairs_over : (seen : List Seen) (j : ℕ) → NoPair (sights_of seen) j → length seen ≤ j → (a b : ℕ) → IsCrossedIn (sights_of seen) a b → ⊥
pairs_over seen j n past = pair_all (sights_of seen) j (length seen) n past (length-map seen sight_of)
