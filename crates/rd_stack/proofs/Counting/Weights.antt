-- What a box paints weighs no more than the boxes that it paints.
use Rattle.std.proofs.Common.{◌≡◌, refl, ap, ◌∙◌, Bool, true, false, not, ◌&&◌, ◌||◌, cond, List, [], ◌∷◌, ℕ, ◌+◌, ◌≤◌, ℤ, pos, arith}
use Rattle.std.proofs.lemmas.Int.{ints}
use Rattle.std.specs.Prelude.{filter, int_lt}
use Rattle.rd_geom.specs.Plane.{Rectangle}
use Rattle.rd_style.specs.declared.kinds.Class.{Class}
use Rattle.rd_style.specs.declared.kinds.Class.TheVariants.{Layer, Float, Atom, Block, Inline}
use Rattle.rd_keys.specs.declared.entry.Part.TheVariants.{Back, Border, Content, Outline}
use Rattle.rd_item.specs.declared.leaf.Leaf.{Leaf}
use Rattle.rd_list.specs.Wrappers.{Wrapper}
use Rattle.rd_list.specs.Entries.{Entries, nil, ◌▷◌, each}
use Rattle.rd_stack.specs.Paths.{BoxData, BoxPath, is_root, is_context, class_of, is_class, has_class, is_local, is_layer, is_in_line, is_inline_level}
use Rattle.rd_stack.specs.Painting.{Painted, local_boxes, layers_of, line_of, of_class, is_negative, is_positive, is_zero, by_level, paint_if, entry_of, is_blocky, paint, back_border, inline_part, content_and_line, steps, level_of}
use Rattle.rd_stack.proofs.Walk.Filters.{filter_both}
use Rattle.rd_stack.proofs.Counting.Sums.{total, total-filter, total-le, total-plus, total-cond, total-by_level}

-- A weight of lists: it adds up, a group weighs no more than its list and something extra for its box,
-- and what a box paints of itself, with that extra, weighs no more than the box.
pub record Weighs (canvas : Rectangle) (weight : Entries Wrapper Leaf → ℕ) (extra own : BoxData → ℕ) : Type 0 where
  pub none : weight nil ≡ 0
  pub join : (xs ys : Entries Wrapper Leaf) → weight (xs ▷ ys) ≡ weight xs + weight ys
  pub group : (x : Painted) → weight (entry_of x) ≤ extra x.at.here + weight x.order
  pub parts : (x : BoxPath) → extra x.here + (weight (paint canvas Back x) + weight (paint canvas Border x) + weight (paint canvas Content x) + weight (paint canvas Outline x)) ≤ own x.here

module _ (canvas : Rectangle) (weight : Entries Wrapper Leaf → ℕ) (extra own : BoxData → ℕ) (w : Weighs canvas weight extra own) where
  pub weight-each : {A : Type 0} (f : A → Entries Wrapper Leaf) (xs : List A) → weight (each f xs) ≡ total (λ x. weight (f x)) xs
  weight-each f [] = w.none
  weight-each f (x ∷ xs) = w.join (f x) (each f xs) ∙ ap (λ n. weight (f x) + n) (weight-each f xs)

  pub weight-when : (b : Bool) (xs : Entries Wrapper Leaf) → weight (paint_if b xs) ≡ cond b (weight xs) 0
  weight-when true xs = refl
  weight-when false xs = w.none

  weight-if : (b : Bool) (xs ys : Entries Wrapper Leaf) → weight (cond b xs ys) ≡ cond b (weight xs) (weight ys)
  weight-if true xs ys = refl
  weight-if false xs ys = refl

  -- of the boxes of a kind
  weight-kind : (f : Painted → Entries Wrapper Leaf) (p q : Painted → Bool) (xs : List Painted) → weight (each f (filter q (filter p xs))) ≡ total (λ x. cond (p x && q x) (weight (f x)) 0) xs
  weight-kind f p q xs = weight-each f (filter q (filter p xs)) ∙ ap (total (λ x. weight (f x))) (filter_both p q xs) ∙ total-filter (λ x. weight (f x)) (λ x. p x && q x) xs

  abbrev pub parts_of : BoxPath → ℕ
  parts_of x = weight (paint canvas Back x) + weight (paint canvas Border x) + weight (paint canvas Content x) + weight (paint canvas Outline x)

  -- what a group weighs at most
  abbrev pub entry_weight : Painted → ℕ
  entry_weight x = extra x.at.here + weight x.order

  abbrev pub inline_of : Painted → ℕ
  inline_of x = weight (inline_part canvas x)

  -- the lines of some boxes, as e paints them
  abbrev pub line_weight : BoxPath → List Painted → BoxPath → ℕ
  line_weight e below c = total (λ x. cond (is_in_line e c x.at) (inline_of x) 0) below

  abbrev pub lines_weight : BoxPath → List Painted → List Painted → ℕ
  lines_weight e below cs = total (λ c. cond (is_local e c.at && has_class Block c.at) (line_weight e below c.at) 0) cs

  abbrev pub flows_weight : BoxPath → List Painted → ℕ
  flows_weight e xs = total (λ x. cond (is_local e x.at && is_inline_level x.at) (inline_of x) 0) xs

  -- what e takes of a box below it
  abbrev pub taken_of : BoxPath → Painted → ℕ
  taken_of e x =
      cond (is_local e x.at && (has_class Block x.at || has_class Inline x.at)) (parts_of x.at) 0
      + cond (is_local e x.at && (has_class Float x.at || has_class Atom x.at)) (weight x.order) 0
      + cond (is_context e && is_layer e x.at) (entry_weight x) 0

  weight-line : (e : BoxPath) (below : List Painted) (c : BoxPath) → weight (each (inline_part canvas) (line_of e below c)) ≡ line_weight e below c
  weight-line e below c = weight-each (inline_part canvas) (line_of e below c) ∙ total-filter (λ x. weight (inline_part canvas x)) (λ x. is_in_line e c x.at) below

  weight-flow : (e : BoxPath) (below : List Painted) (c : BoxPath) → weight (content_and_line canvas e below c) ≡ weight (paint canvas Content c) + line_weight e below c
  weight-flow e below c = w.join (paint canvas Content c) (each (inline_part canvas) (line_of e below c)) ∙ ap (λ n. weight (paint canvas Content c) + n) (weight-line e below c)

  weight-back_border : (x : BoxPath) → weight (back_border canvas x) ≡ weight (paint canvas Back x) + weight (paint canvas Border x)
  weight-back_border x = w.join (paint canvas Back x) (paint canvas Border x)

  weight-inline : (x : Painted) → inline_of x ≡ cond (has_class Atom x.at) (weight x.order) (weight (paint canvas Back x.at) + weight (paint canvas Border x.at) + weight (paint canvas Content x.at))
  weight-inline x =
      weight-if (has_class Atom x.at) x.order (back_border canvas x.at ▷ paint canvas Content x.at)
      ∙ ap (cond (has_class Atom x.at) (weight x.order)) (w.join (back_border canvas x.at) (paint canvas Content x.at) ∙ ap (λ n. n + weight (paint canvas Content x.at)) (weight-back_border x.at))

  -- layers of one sign
  layers_le : (c : Bool) (e : BoxPath) (q : Painted → Bool) (xs below : List Painted) → total (λ x. weight (entry_of x)) xs ≡ total (λ x. weight (entry_of x)) (filter q (layers_of e below))
      → weight (paint_if c (each entry_of xs)) ≤ total (λ x. cond (c && is_layer e x.at) (cond (q x) (entry_weight x) 0) 0) below
  layers_le c e q xs below h =
      let a : weight (paint_if c (each entry_of xs)) ≡ cond c (total (λ x. cond (is_layer e x.at && q x) (weight (entry_of x)) 0) below) 0 =
      weight-when c (each entry_of xs)
      ∙ ap (λ n. cond c n 0) (weight-each entry_of xs ∙ h ∙ ap (total (λ x. weight (entry_of x))) (filter_both (λ x. is_layer e x.at) q below) ∙ total-filter (λ x. weight (entry_of x)) (λ x. is_layer e x.at && q x) below) in
      let b : cond c (total (λ x. cond (is_layer e x.at && q x) (weight (entry_of x)) 0) below) 0 ≡ total (λ x. cond c (cond (is_layer e x.at && q x) (weight (entry_of x)) 0) 0) below =
      total-cond c (λ x. cond (is_layer e x.at && q x) (weight (entry_of x)) 0) below in
      rw (a, b) (total-le _ _ below (λ x. one c (is_layer e x.at) (q x) (weight (entry_of x)) (entry_weight x) (w.group x)))
    where
      one : (c l q : Bool) (m n : ℕ) → m ≤ n → cond c (cond (l && q) m 0) 0 ≤ cond (c && l) (cond q n 0) 0
      one false l q m n h = omega arith
      one true false q m n h = omega arith
      one true true false m n h = omega arith
      one true true true m n h = h

  -- one box below, in all steps together
  abbrev steps_of : BoxPath → Painted → ℕ
  steps_of e x =
      cond (is_context e && is_layer e x.at) (cond (is_negative x) (entry_weight x) 0) 0
      + (cond (is_local e x.at && has_class Block x.at) (weight (back_border canvas x.at)) 0
      + (cond (is_local e x.at && has_class Float x.at) (weight x.order) 0
      + (cond (is_local e x.at && has_class Block x.at) (weight (paint canvas Content x.at)) 0
      + (cond (is_local e x.at && is_inline_level x.at) (inline_of x) 0
      + (cond (is_context e && is_layer e x.at) (cond (is_zero x) (entry_weight x) 0) 0
      + (cond (is_context e && is_layer e x.at) (cond (is_positive x) (entry_weight x) 0) 0
      + cond (is_local e x.at && (has_class Block x.at || has_class Inline x.at)) (weight (paint canvas Outline x.at)) 0))))))

  signs : (n : ℤ) → (int_lt n (pos 0) && int_lt (pos 0) n) ≡ false
  signs n = grind (arith, ints)

  level_once : (c neg up : Bool) (n : ℕ) → (neg && up) ≡ false → cond c (cond neg n 0) 0 + (cond c (cond (not neg && not up) n 0) 0 + cond c (cond up n 0) 0) ≤ cond c n 0
  level_once false neg up n h = omega arith
  level_once true true true n h = cc
  level_once true true false n h = omega arith
  level_once true false true n h = omega arith
  level_once true false false n h = omega arith

  class_once : (c : Class) (l : Bool) (bk bd ct ol o : ℕ) →
      cond (l && is_class Block c) (bk + bd) 0
      + (cond (l && is_class Float c) o 0
      + (cond (l && is_class Block c) ct 0
      + (cond (l && (is_class Inline c || is_class Atom c)) (cond (is_class Atom c) o (bk + bd + ct)) 0
      + cond (l && (is_class Block c || is_class Inline c)) ol 0)))
      ≤ cond (l && (is_class Block c || is_class Inline c)) (bk + bd + ct + ol) 0 + cond (l && (is_class Float c || is_class Atom c)) o 0
  class_once c false bk bd ct ol o = omega arith
  class_once Layer true bk bd ct ol o = omega arith
  class_once Float true bk bd ct ol o = omega arith
  class_once Atom true bk bd ct ol o = omega arith
  class_once Block true bk bd ct ol o = omega arith
  class_once Inline true bk bd ct ol o = omega arith

  steps_le : (e : BoxPath) (x : Painted) → steps_of e x ≤ taken_of e x
  steps_le e x =
      let a = level_once (is_context e && is_layer e x.at) (is_negative x) (is_positive x) (entry_weight x) (signs (level_of x)) in
      let b = class_once (class_of x.at) (is_local e x.at) (weight (paint canvas Back x.at)) (weight (paint canvas Border x.at)) (weight (paint canvas Content x.at)) (weight (paint canvas Outline x.at)) (weight x.order) in
      rw (weight-back_border x.at, weight-inline x) (together _ _ _ _ _ _ _ _ _ _ a b)
    where
      together : (n b f ct i z p o v u : ℕ) → n + (z + p) ≤ u → b + (f + (ct + (i + o))) ≤ v → n + (b + (f + (ct + (i + (z + (p + o)))))) ≤ v + u
      together n b f ct i z p o v u h k = omega (arith, h, k)

  -- what e paints of itself, and its line
  self_once : (root block : Bool) (bk bd ct ol line : ℕ) → (root ≡ true → block ≡ true) →
      cond root bk 0 + (cond block (cond (not root) bk 0 + bd) 0 + (cond (not block) ((bk + bd) + (ct + line)) 0 + (cond block (ct + line) 0 + ol))) ≡ (bk + bd + ct + ol) + line
  self_once true true bk bd ct ol line h = omega arith
  self_once true false bk bd ct ol line h = let e : false ≡ true = h refl in cc
  self_once false true bk bd ct ol line h = omega arith
  self_once false false bk bd ct ol line h = omega arith

  root_block : (e : BoxPath) → is_root e ≡ true → is_blocky e ≡ true
  root_block e h = rw h refl

  up : {a b : Entries Wrapper Leaf} {m n : ℕ} → weight a ≤ m → weight b ≤ n → weight (a ▷ b) ≤ m + n
  up {a = a} {b = b} {m = m} {n = n} h k = rw (w.join a b) (omega (arith, h, k))

  le : {m n : ℕ} → m ≡ n → m ≤ n
  le e = omega (arith, e)

  total-eight : {A : Type 0} (f1 f2 f3 f4 f5 f6 f7 f8 : A → ℕ) (xs : List A)
      → total (λ x. f1 x + (f2 x + (f3 x + (f4 x + (f5 x + (f6 x + (f7 x + f8 x))))))) xs ≡ total f1 xs + (total f2 xs + (total f3 xs + (total f4 xs + (total f5 xs + (total f6 xs + (total f7 xs + total f8 xs))))))
  total-eight f1 f2 f3 f4 f5 f6 f7 f8 xs =
      let g7 : _ → ℕ = λ x. f7 x + f8 x in
      let g6 : _ → ℕ = λ x. f6 x + g7 x in
      let g5 : _ → ℕ = λ x. f5 x + g6 x in
      let g4 : _ → ℕ = λ x. f4 x + g5 x in
      let g3 : _ → ℕ = λ x. f3 x + g4 x in
      let g2 : _ → ℕ = λ x. f2 x + g3 x in
      omega (arith, total-plus f1 g2 xs, total-plus f2 g3 xs, total-plus f3 g4 xs, total-plus f4 g5 xs, total-plus f5 g6 xs, total-plus f6 g7 xs, total-plus f7 f8 xs)

  block_flows : (e : BoxPath) (below : List Painted)
      → weight (each (λ x. content_and_line canvas e below x.at) (of_class Block (local_boxes e below))) ≡ total (λ x. cond (is_local e x.at && has_class Block x.at) (weight (paint canvas Content x.at)) 0) below + lines_weight e below below
  block_flows e below =
      weight-kind (λ x. content_and_line canvas e below x.at) (λ x. is_local e x.at) (λ x. has_class Block x.at) below
      ∙ all_same below
    where
      cond_plus : (c : Bool) (m n k : ℕ) → k ≡ m + n → cond c k 0 ≡ cond c m 0 + cond c n 0
      cond_plus true m n k h = h
      cond_plus false m n k h = refl

      all_same : (xs : List Painted) → total (λ x. cond (is_local e x.at && has_class Block x.at) (weight (content_and_line canvas e below x.at)) 0) xs
          ≡ total (λ x. cond (is_local e x.at && has_class Block x.at) (weight (paint canvas Content x.at)) 0) xs + lines_weight e below xs
      all_same [] = refl
      all_same (x ∷ xs) =
          let h = cond_plus (is_local e x.at && has_class Block x.at) (weight (paint canvas Content x.at)) (line_weight e below x.at) (weight (content_and_line canvas e below x.at)) (weight-flow e below x.at) in
          omega (arith, h, all_same xs)

  gathered : (g m1 m2 n f4 f5 m6 m7 ct lw z p ol f12 bk bd c o line fl own_e all s8 : ℕ)
      → m1 + (m2 + (m6 + (m7 + ol))) ≡ (bk + bd + c + o) + line → line + lw ≤ fl → s8 ≡ n + (f4 + (f5 + (ct + (fl + (z + (p + f12)))))) → s8 ≤ all → g + (bk + bd + c + o) ≤ own_e
      → g + (m1 + (m2 + (n + (f4 + (f5 + (m6 + (m7 + ((ct + lw) + (z + (p + (ol + f12))))))))))) ≤ own_e + all
  gathered g m1 m2 n f4 f5 m6 m7 ct lw z p ol f12 bk bd c o line fl own_e all s8 h k i t j = omega (arith, h, k, i, t, j)

  -- What e paints weighs no more than e and what it takes of the boxes below, where no line is painted twice.
  pub steps_fit : (e : BoxPath) (below : List Painted) → line_weight e below e + lines_weight e below below ≤ flows_weight e below → extra e.here + weight (steps canvas e below) ≤ own e.here + total (taken_of e) below
  unfolding steps
  steps_fit e below lines =
      let bk = weight (paint canvas Back e) in
      let bd = weight (paint canvas Border e) in
      let ct = weight (paint canvas Content e) in
      let ol = weight (paint canvas Outline e) in
      let line = line_weight e below e in
      let root = is_root e in
      let block = is_blocky e in
      let context = is_context e in
      let flowing : weight (content_and_line canvas e below e) ≡ ct + line = weight-flow e below e in
      let back2 : weight (paint_if (not root) (paint canvas Back e) ▷ paint canvas Border e) ≡ cond (not root) bk 0 + bd =
      w.join (paint_if (not root) (paint canvas Back e)) (paint canvas Border e) ∙ ap (λ n. n + bd) (weight-when (not root) (paint canvas Back e)) in
      let all6 : weight (back_border canvas e ▷ content_and_line canvas e below e) ≡ (bk + bd) + (ct + line) =
      w.join (back_border canvas e) (content_and_line canvas e below e) ∙ (ap (λ n. n + weight (content_and_line canvas e below e)) (weight-back_border e) ∙ ap (λ n. (bk + bd) + n) flowing) in
      let s : total (steps_of e) below ≤ total (taken_of e) below = total-le (steps_of e) (taken_of e) below (steps_le e) in
      let summed = total-eight
      (λ x. cond (context && is_layer e x.at) (cond (is_negative x) (entry_weight x) 0) 0)
      (λ x. cond (is_local e x.at && has_class Block x.at) (weight (back_border canvas x.at)) 0)
      (λ x. cond (is_local e x.at && has_class Float x.at) (weight x.order) 0)
      (λ x. cond (is_local e x.at && has_class Block x.at) (weight (paint canvas Content x.at)) 0)
      (λ x. cond (is_local e x.at && is_inline_level x.at) (inline_of x) 0)
      (λ x. cond (context && is_layer e x.at) (cond (is_zero x) (entry_weight x) 0) 0)
      (λ x. cond (context && is_layer e x.at) (cond (is_positive x) (entry_weight x) 0) 0)
      (λ x. cond (is_local e x.at && (has_class Block x.at || has_class Inline x.at)) (weight (paint canvas Outline x.at)) 0)
      below in
      let whole =
      up (le (weight-when root (paint canvas Back e)))
      (up (le (weight-when block (paint_if (not root) (paint canvas Back e) ▷ paint canvas Border e) ∙ ap (λ n. cond block n 0) back2))
      (up (layers_le context e is_negative (by_level (filter is_negative (layers_of e below))) below (total-by_level (λ x. weight (entry_of x)) (filter is_negative (layers_of e below))))
      (up (le (weight-kind (λ x. back_border canvas x.at) (λ x. is_local e x.at) (λ x. has_class Block x.at) below))
      (up (le (weight-kind (λ x. x.order) (λ x. is_local e x.at) (λ x. has_class Float x.at) below))
      (up (le (weight-when (not block) (back_border canvas e ▷ content_and_line canvas e below e) ∙ ap (λ n. cond (not block) n 0) all6))
      (up (up (le (weight-when block (content_and_line canvas e below e) ∙ ap (λ n. cond block n 0) flowing))
      (le (block_flows e below)))
      (up (layers_le context e is_zero (by_level (filter is_zero (layers_of e below))) below (total-by_level (λ x. weight (entry_of x)) (filter is_zero (layers_of e below))))
      (up (layers_le context e is_positive (by_level (filter is_positive (layers_of e below))) below (total-by_level (λ x. weight (entry_of x)) (filter is_positive (layers_of e below))))
      (up {a = paint canvas Outline e} (le refl)
      (le (weight-kind (λ x. paint canvas Outline x.at) (λ x. is_local e x.at) (λ x. has_class Block x.at || has_class Inline x.at) below))))))))))) in
      let most = gathered (extra e.here) _ _ _ _ _ _ _ _ _ _ _ _ _ bk bd ct ol line (flows_weight e below) (own e.here) (total (taken_of e) below) (total (steps_of e) below)
      (self_once root block bk bd ct ol line (root_block e)) lines summed s (w.parts e) in
      omega (arith, whole, most)
