-- A fresh list has at most four leaves and one group for each box.
use Rattle.std.proofs.Common.{◌≡◌, refl, ap, ◌∙◌, Bool, true, false, ◌&&◌, cond, [], ℕ, ◌+◌, ◌*◌, ◌≤◌, length, length-append, arith}
use Rattle.std.specs.Prelude.{Option, Some, None}
use Rattle.rd_geom.specs.Plane.{Rectangle}
use Rattle.rd_keys.specs.Keys.{same_key}
use Rattle.rd_keys.specs.declared.entry.Part.{Part}
use Rattle.rd_keys.specs.declared.entry.Part.TheVariants.{Back, Border, Content, Outline}
use Rattle.rd_item.specs.declared.leaf.Leaf.{Leaf}
use Rattle.rd_tree.specs.Forest.{empty, tree, size, IsApart}
use Rattle.rd_tree.specs.Document.{BoxForest}
use Rattle.rd_list.specs.Wrappers.{Wrapper}
use Rattle.rd_list.specs.Entries.{Entries, nil, group, ◌▷◌, flat, option_entry, has_leaf}
use Rattle.rd_list.specs.Lists.{groups}
use Rattle.rd_list.proofs.Joins.{flat-join}
use Rattle.rd_stack.specs.Paths.{BoxPath}
use Rattle.rd_stack.specs.Parts.{leaf_at}
use Rattle.rd_stack.specs.Painting.{Painted, paint, entry_of, wrapper_of}
use Rattle.rd_stack.specs.Fresh.{grouping, root_order}
use Rattle.rd_stack.proofs.Counting.Weights.{Weighs}
use Rattle.rd_stack.proofs.Counting.Takes.{all, root_fit}
use Rattle.rd_stack.proofs.Counting.Counted.{groups-join}

all-ones : (f : BoxForest) → all (λ b. 1) f ≡ size f
all-ones empty = refl
all-ones (tree k d c n) = omega (arith, all-ones c, all-ones n)

all-fours : (f : BoxForest) → all (λ b. 4) f ≡ 4 * size f
all-fours empty = refl
all-fours (tree k d c n) = omega (arith, all-fours c, all-fours n)

-- Leaves.
abbrev leaf_count : Entries Wrapper Leaf → ℕ
leaf_count xs = length (flat xs)

leaf_count-join : (xs ys : Entries Wrapper Leaf) → leaf_count (xs ▷ ys) ≡ leaf_count xs + leaf_count ys
leaf_count-join xs ys = ap length (flat-join xs ys) ∙ length-append (flat xs) (flat ys)

leaf_count-group : (x : Painted) → leaf_count (entry_of x) ≤ 0 + leaf_count x.order
leaf_count-group x = choose (x.grouped && has_leaf (flat x.order))
  where
    choose : (b : Bool) → leaf_count (cond b (group (wrapper_of x.at) x.order nil) x.order) ≤ 0 + leaf_count x.order
    choose true = let s = length-append (flat x.order) [] in omega (arith, s)
    choose false = omega arith

leaf_count-part : (o : Option Leaf) → leaf_count (option_entry o) ≤ 1
leaf_count-part None = omega arith
leaf_count-part (Some l) = omega arith

-- Groups.
abbrev group_count : Entries Wrapper Leaf → ℕ
group_count xs = length (groups xs)

group_count-join : (xs ys : Entries Wrapper Leaf) → group_count (xs ▷ ys) ≡ group_count xs + group_count ys
group_count-join xs ys = ap length (groups-join xs ys) ∙ length-append (groups xs) (groups ys)

group_count-group : (x : Painted) → group_count (entry_of x) ≤ 1 + group_count x.order
group_count-group x = choose (x.grouped && has_leaf (flat x.order))
  where
    choose : (b : Bool) → group_count (cond b (group (wrapper_of x.at) x.order nil) x.order) ≤ 1 + group_count x.order
    choose true = let s = length-append (groups x.order) [] in omega (arith, s)
    choose false = omega arith

group_count-part : (o : Option Leaf) → group_count (option_entry o) ≡ 0
group_count-part None = refl
group_count-part (Some l) = refl

module _ (canvas : Rectangle) where
  leaf_parts : (x : BoxPath) → 0 + (leaf_count (paint canvas Back x) + leaf_count (paint canvas Border x) + leaf_count (paint canvas Content x) + leaf_count (paint canvas Outline x)) ≤ 4
  leaf_parts x =
      let s = λ (part : Part). leaf_count-part (leaf_at canvas x part) in
      omega (arith, s Back, s Border, s Content, s Outline)

  group_parts : (x : BoxPath) → 1 + (group_count (paint canvas Back x) + group_count (paint canvas Border x) + group_count (paint canvas Content x) + group_count (paint canvas Outline x)) ≤ 1
  group_parts x =
      let s = λ (part : Part). group_count-part (leaf_at canvas x part) in
      omega (arith, s Back, s Border, s Content, s Outline)

  pub few_leaves : (f : BoxForest) → IsApart same_key f → leaf_count (root_order grouping canvas f) ≤ 4 * size f
  few_leaves f apart =
      let w : Weighs canvas leaf_count (λ b. 0) (λ b. 4) = record { none = refl; join = leaf_count-join; group = leaf_count-group; parts = leaf_parts } in
      omega (arith, root_fit canvas leaf_count (λ b. 0) (λ b. 4) w f apart, all-fours f)

  pub few_groups : (f : BoxForest) → IsApart same_key f → group_count (root_order grouping canvas f) ≤ size f
  few_groups f apart =
      let w : Weighs canvas group_count (λ b. 1) (λ b. 1) = record { none = refl; join = group_count-join; group = group_count-group; parts = group_parts } in
      omega (arith, root_fit canvas group_count (λ b. 1) (λ b. 1) w f apart, all-ones f)
