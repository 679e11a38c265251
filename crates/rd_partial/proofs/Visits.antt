-- How many looks a walk takes that enters some boxes.
use Rattle.std.proofs.Common.{◌≡◌, refl, Bool, true, false, cond, ◌+◌, ◌≤◌, arith}
use Rattle.rd_geom.specs.Plane.{Rectangle}
use Rattle.rd_tree.specs.Forest.{empty, tree, size}
use Rattle.rd_tree.specs.Document.{BoxForest}
use Rattle.rd_tree.specs.declared.node.Item.{Item}
use Rattle.rd_tree.specs.Hulls.{breadth}
use Rattle.rd_partial.specs.Looks.{BoxTest, looks_in, looks_bound, LooksLaw}
use Rattle.rd_partial.specs.Internal.Counting.{looks_below, wanted_hull, root_visits}

module _ (enters : BoxTest) where
  pub visits_bound : (f : BoxForest) → looks_below enters f ≤ breadth f + looks_in enters f
  visits_bound empty = omega arith
  visits_bound (tree k d ch nx) = by (enters d ch) (visits_bound ch) (visits_bound nx)
    where
      by : (t : Bool) → looks_below enters ch ≤ breadth ch + looks_in enters ch → looks_below enters nx ≤ breadth nx + looks_in enters nx
          → 1 + cond t (looks_below enters ch) 0 + looks_below enters nx ≤ (1 + breadth nx) + (cond t (1 + breadth ch) 0 + (looks_in enters ch + looks_in enters nx))
      by true h i = omega (arith, h, i)
      by false h i = omega (arith, h, i)

  -- no box is looked at twice
  pub visits_size : (f : BoxForest) → looks_below enters f ≤ size f
  visits_size empty = omega arith
  visits_size (tree k d ch nx) = by (enters d ch) (visits_size ch) (visits_size nx)
    where
      by : (t : Bool) → looks_below enters ch ≤ size ch → looks_below enters nx ≤ size nx → 1 + cond t (looks_below enters ch) 0 + looks_below enters nx ≤ 1 + (size ch + size nx)
      by true h i = omega (arith, h, i)
      by false h i = omega (arith, h, i)

module _ (wants : Rectangle → Bool) where
  pub root_bound : (f : BoxForest) → root_visits wants f ≤ looks_bound (wanted_hull wants) f
  root_bound empty = omega arith
  root_bound (tree k d ch nx) = omega (arith, visits_bound (wanted_hull wants) ch)

  pub root_size : (f : BoxForest) → root_visits wants f ≤ size f
  root_size empty = omega arith
  root_size (tree k d ch nx) = omega (arith, visits_size (wanted_hull wants) ch)

in_more : (p q : BoxTest) → ((d : Item) (below : BoxForest) → p d below ≡ true → q d below ≡ true) → (f : BoxForest) → looks_in p f ≤ looks_in q f
in_more p q h empty = omega arith
in_more p q h (tree k d ch nx) = by (p d ch) (q d ch) (h d ch) (in_more p q h ch) (in_more p q h nx)
  where
    by : (t u : Bool) → (t ≡ true → u ≡ true) → looks_in p ch ≤ looks_in q ch → looks_in p nx ≤ looks_in q nx
        → cond t (1 + breadth ch) 0 + (looks_in p ch + looks_in p nx) ≤ cond u (1 + breadth ch) 0 + (looks_in q ch + looks_in q nx)
    by true true g i j = omega (arith, i, j)
    by true false g i j = let e : false ≡ true = g refl in cc
    by false true g i j = omega (arith, i, j)
    by false false g i j = omega (arith, i, j)

pub looks : LooksLaw
looks p q h empty = omega arith
looks p q h (tree k d ch nx) = omega (arith, in_more p q h ch)
