-- The numbers of items after a paint.
use Rattle.std.proofs.Common.{◌≡◌, ℕ, zero, suc, ◌<◌, false, List, [], ◌∷◌, length, refl, subst, arith, slice_index_or}
use Rattle.std.specs.Prelude.{find, AllPairs}
use Rattle.std.specs.Option.{option_map_or}
use Rattle.rd_item.specs.Items.{Made}
use Rattle.rd_list.specs.Lists.{same_leaf}
use Rattle.rd_stack.proofs.Orders.Orders.{same_leaf-refl}

-- an item is found by its leaf, where each leaf is there once
pub found : (ls : List Made) (i : Made) (k : ℕ) → k < length ls → slice_index_or ls k i ≡ i
    → AllPairs (λ a b. same_leaf a.leaf b.leaf ≡ false) ls
    → option_map_or (λ j. j.made_at) (find (λ j. same_leaf j.leaf i.leaf) ls) 0 ≡ i.made_at
found [] i k l e h = absurd (omega arith)
found (y ∷ ys) i zero l e h = rw (e, same_leaf-refl i.leaf) refl
found (y ∷ ys) i (suc k) l e h =
    let apart : same_leaf y.leaf i.leaf ≡ false = subst (λ (z : Made). same_leaf y.leaf z.leaf ≡ false) e (h 0 (suc k) i (omega arith) l) in
    rw apart (found ys i k (omega (arith, l)) e (λ a b d p q. h (suc a) (suc b) d (omega (arith, p)) (omega (arith, q))))
