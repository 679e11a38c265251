-- Sums over boxes.
use Rattle.std.proofs.Common.{◌≡◌, refl, ℕ, ◌+◌, ◌≤◌, Bool, true, false, ◌||◌, cond, arith}
use Rattle.std.specs.Prelude.{nat_lt}
use Rattle.rd_tree.specs.Forest.{Forest, empty, tree, size, ◌▷◌}
use Rattle.rd_tree.specs.Document.{BoxForest}
use Rattle.rd_tree.specs.Hulls.{breadth, any_touched, touched_in}

pub breadth-join : {K D : Type 0} (f g : Forest K D) → breadth (f ▷ g) ≡ breadth f + breadth g
breadth-join empty g = omega arith
breadth-join (tree k d below rest) g = omega (arith, breadth-join rest g)

pub breadth_small : {K D : Type 0} (f : Forest K D) → breadth f ≤ size f
breadth_small empty = omega arith
breadth_small (tree k d below rest) = omega (arith, breadth_small rest)

pub touched-join : (f g : BoxForest) → touched_in (f ▷ g) ≡ touched_in f + touched_in g
touched-join empty g = omega arith
touched-join (tree k d below rest) g = omega (arith, touched-join rest g)

at_most_one : (b : Bool) → cond b 1 0 ≤ 1
at_most_one true = omega arith
at_most_one false = omega arith

pub touched_small : (f : BoxForest) → touched_in f ≤ size f
touched_small empty = omega arith
touched_small (tree k d below rest) = omega (arith, at_most_one d.touched, touched_small below, touched_small rest)

some_of : (a b : ℕ) → nat_lt 0 (a + b) ≡ (nat_lt 0 a || nat_lt 0 b)
some_of a b = grind arith

one_if : (b : Bool) → nat_lt 0 (cond b 1 0) ≡ b
one_if true = refl
one_if false = refl

pub any_touched-is : (f : BoxForest) → any_touched f ≡ nat_lt 0 (touched_in f)
any_touched-is empty = refl
any_touched-is (tree k d below rest) =
    rw (
      some_of (cond d.touched 1 0) (touched_in below + touched_in rest),
      some_of (touched_in below) (touched_in rest),
      one_if d.touched,
      any_touched-is
          below,
      any_touched-is rest,
    ) refl
