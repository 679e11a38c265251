-- Leaves that do not cover a pixel may go, and it stays as it is.
use Rattle.std.proofs.Common.{◌≡◌, refl, ap, ◌∙◌, sym, Bool, true, false, ◌&&◌, List, ◌∷◌, ℤ, suc, arith}
use Rattle.std.specs.Prelude.{Contains}
use Rattle.std.proofs.lemmas.List.Elements.{Contains-append_left, Contains-append_right}
use Rattle.rd_geom.specs.Colors.{Premultiplied}
use Rattle.rd_item.specs.declared.leaf.Leaf.{Leaf}
use Rattle.rd_item.specs.Leaves.{covers}
use Rattle.rd_list.specs.Wrappers.{Wrapper}
use Rattle.rd_list.specs.Entries.{Entries, nil, leaf, group, flat, only}
use Rattle.rd_list.specs.Lists.{composed}
use Rattle.rd_list.proofs.Merges.Narrowing.{only_only}
use Rattle.rd_stack.proofs.Leafwise.{EachLeaf, only_where}
use Rattle.rd_stack.proofs.Orders.Covered.{composed-only}

pub first_in : {A : Type 0} (x : A) (xs : List A) → Contains (x ∷ xs) x
first_in x xs = (0, omega arith, refl)

pub later_in : {A : Type 0} (x y : A) (xs : List A) → Contains xs y → Contains (x ∷ xs) y
later_in x y xs c = let l = c.1 in (suc c.0, omega (arith, l), c.2)

-- what holds of the leaves of a list holds leaf by leaf
each_leaf : (Q : Leaf → Type 0) (xs : Entries Wrapper Leaf) → ((l : Leaf) → Contains (flat xs) l → Q l) → EachLeaf Q xs
each_leaf Q nil h = tt
each_leaf Q (leaf l xs) h = (h l (first_in l (flat xs)), each_leaf Q xs (λ m c. h m (later_in l m (flat xs) c)))
each_leaf Q (group g inner xs) h = (
  each_leaf Q inner (λ l c. h l (Contains-append_left (flat inner) (flat xs) l c)),
  each_leaf Q xs (λ l c. h l (Contains-append_right (flat inner) (flat xs) l c)),
)

both : (a b : Bool) → (a ≡ false → b ≡ false) → (a && b) ≡ b
both true b h = refl
both false b h = sym (h refl)

-- A pixel of a list is that of the leaves that pass a test, where none that fails covers it.
pub composed-where : (x y : ℤ) (d : Premultiplied) (p : Leaf → Bool) (xs : Entries Wrapper Leaf)
    → ((l : Leaf) → Contains (flat xs) l → p l ≡ false → covers l x y ≡ false)
    → composed x y d (only p xs) ≡ composed x y d xs
composed-where x y d p xs h =
    let here : Leaf → Bool = λ l. covers l x y in
    let same : only here (only p xs) ≡ only here xs =
    only_only p here xs ∙ only_where (λ l. p l && here l) here xs (each_leaf (λ l. (p l && here l) ≡ here l) xs (λ l c. both (p l) (here l) (h l c))) in
    composed-only x y d (only p xs) ∙ ap (λ zs. composed x y d zs) same ∙ sym (composed-only x y d xs)
