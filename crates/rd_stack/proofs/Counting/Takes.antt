-- Every box is painted by one box at most: the sums behind it.
use Rattle.std.proofs.Common.{◌≡◌, refl, ap, Bool, true, false, not, ◌&&◌, ◌||◌, cond, List, [], ◌∷◌, ◌++◌, ℕ, ◌+◌, ◌≤◌, arith}
use Rattle.std.specs.List.{list_all}
use Rattle.rd_geom.specs.Plane.{Rectangle}
use Rattle.rd_item.specs.declared.leaf.Leaf.{Leaf}
use Rattle.rd_style.specs.declared.styles.Style.{Style}
use Rattle.rd_style.specs.declared.kinds.Class.{Class}
use Rattle.rd_style.specs.declared.kinds.Display.TheVariants as display
use Rattle.rd_style.specs.declared.kinds.Class.TheVariants.{Layer, Float, Atom, Block, Inline}
use Rattle.rd_style.specs.Classes.{class, real, makes_layer, in_flow_class}
use Rattle.rd_keys.specs.Keys.{same_key}
use Rattle.rd_tree.specs.Forest.{empty, tree, has, IsApart}
use Rattle.rd_tree.specs.Document.{BoxForest}
use Rattle.rd_list.specs.Wrappers.{Wrapper}
use Rattle.rd_list.specs.Entries.{Entries}
use Rattle.rd_stack.specs.Paths.{BoxData, BoxPath, is_class, is_local, is_context, is_plain, is_no_context, is_none, boxes_between}
use Rattle.rd_stack.specs.Fresh.{box_data, grouping, painted, root_order}
use Rattle.rd_stack.proofs.Counting.Paths.{between-path, is_none-path}
use Rattle.rd_stack.proofs.Counting.Sums.{total, total-append}
use Rattle.rd_stack.proofs.Counting.Weights.{Weighs, steps_fit, taken_of, parts_of, inline_of}
use Rattle.rd_stack.proofs.Counting.InlineLines.{painted_box, lines_fit, AreOff, off_below, in_below, in_rest}

-- how a box takes part: a layer that makes a stacking context, one that makes none, a float or atomic inline, any other
pub data Kind : Type 0 where
  real_layer : Kind
  auto_layer : Kind
  aside : Kind
  plain : Kind

abbrev kind_by : Class → Bool → Kind
kind_by Layer true = real_layer
kind_by Layer false = auto_layer
kind_by Float r = aside
kind_by Atom r = aside
kind_by Block r = plain
kind_by Inline r = plain

abbrev pub kind : BoxData → Kind
kind b = kind_by (class b.style false) (real b.style false)

module _ (own : BoxData → ℕ) where
  -- all boxes
  abbrev pub all : BoxForest → ℕ
  all empty = 0
  all (tree k d c n) = own (box_data k d) + all c + all n

  -- what one box adds to those not at or below a layer, and to those at or below one
  abbrev outside_of : Kind → ℕ → ℕ → ℕ
  outside_of real_layer o c = 0
  outside_of auto_layer o c = 0
  outside_of aside o c = o + c
  outside_of plain o c = o + c

  abbrev inside_of : Kind → ℕ → ℕ → ℕ → ℕ
  inside_of real_layer o a c = o + a
  inside_of auto_layer o a c = o + a
  inside_of aside o a c = c
  inside_of plain o a c = c

  abbrev outside : BoxForest → ℕ
  outside empty = 0
  outside (tree k d c n) = outside_of (kind (box_data k d)) (own (box_data k d)) (outside c) + outside n

  abbrev inside : BoxForest → ℕ
  inside empty = 0
  inside (tree k d c n) = inside_of (kind (box_data k d)) (own (box_data k d)) (all c) (inside c) + inside n

  -- What a box paints of a box below it and the boxes below that one: real says whether it is the stacking context,
  -- open whether only plain boxes stand between; below r o is the same of the boxes below.
  abbrev pub share : Kind → Bool → Bool → ℕ → (Bool → Bool → ℕ) → ℕ
  share real_layer context unblocked o below = cond context (o + below true true) 0
  share auto_layer context unblocked o below = cond context (o + below false true) 0 + below context false
  share aside context unblocked o below = cond unblocked (o + below false true) 0 + below context false
  share plain context unblocked o below = cond unblocked o 0 + below context unblocked

  abbrev pub taken : Bool → Bool → BoxForest → ℕ
  taken context unblocked empty = 0
  taken context unblocked (tree k d c n) = share (kind (box_data k d)) context unblocked (own (box_data k d)) (λ r o. taken r o c) + taken context unblocked n

  pub record Sums (f : BoxForest) : Type 0 where
    pub split : all f ≡ outside f + inside f
    pub none : taken false false f ≡ 0
    pub outer : taken false true f ≡ outside f
    pub inner : taken true false f ≡ inside f
    pub both : taken true true f ≡ all f

  sums_of : (k : Kind) (o : ℕ) (c n : BoxForest) → Sums c → Sums n
      → (o + all c + all n ≡ (outside_of k o (outside c) + outside n) + (inside_of k o (all c) (inside c) + inside n))
      × (share k false false o (λ r q. taken r q c) + taken false false n ≡ 0)
      × (share k false true o (λ r q. taken r q c) + taken false true n ≡ outside_of k o (outside c) + outside n)
      × (share k true false o (λ r q. taken r q c) + taken true false n ≡ inside_of k o (all c) (inside c) + inside n)
      × (share k true true o (λ r q. taken r q c) + taken true true n ≡ o + all c + all n)
  sums_of real_layer o c n p q = (omega arith, omega arith, omega arith, omega arith, omega arith)
  sums_of auto_layer o c n p q = (omega arith, omega arith, omega arith, omega arith, omega arith)
  sums_of aside o c n p q = (omega arith, omega arith, omega arith, omega arith, omega arith)
  sums_of plain o c n p q = (omega arith, omega arith, omega arith, omega arith, omega arith)

  -- a stacking context takes each box below it once
  pub sums : (f : BoxForest) → Sums f
  sums empty = record { split = refl; none = refl; outer = refl; inner = refl; both = refl }
  sums (tree k d c n) =
      let s = sums_of (kind (box_data k d)) (own (box_data k d)) c n (sums c) (sums n) in
      record { split = s.0; none = s.1; outer = s.2; inner = s.3; both = s.4 }

-- Only a layer makes a stacking context below the root.
pub unreal : (s : Style) → is_class Layer (class s false) ≡ false → real s false ≡ false
unreal s h = by (makes_layer s false) refl h
  where
    flow_layer : (f : Bool) → is_class Layer (cond f Float (in_flow_class s.display)) ≡ false
    flow_layer true = refl
    flow_layer false = no_layer s.display
      where
        no_layer : (d : _) → is_class Layer (in_flow_class d) ≡ false
        no_layer display.Block = refl
        no_layer display.Inline = refl
        no_layer display.InlineBlock = refl

    by : (t : Bool) → makes_layer s false ≡ t → is_class Layer (class s false) ≡ false → real s false ≡ false
    by true e h = let k : true ≡ false = rw e at h in cc
    by false e h = rw e refl

module _ (canvas : Rectangle) (weight : Entries Wrapper Leaf → ℕ) (extra own : BoxData → ℕ) (w : Weighs canvas weight extra own) where
  -- what is taken of one box and of those below it
  head_take : (c : Class) (r context unblocked : Bool) (parts order extra_b own_b : ℕ) (below : Bool → Bool → ℕ)
      → (is_class Layer c ≡ false → r ≡ false) → extra_b + parts ≤ own_b → extra_b + order ≤ own_b + below r true → below false false ≡ 0
      → (cond (unblocked && (is_class Block c || is_class Inline c)) parts 0 + cond (unblocked && (is_class Float c || is_class Atom c)) order 0 + cond (context && is_class Layer c) (extra_b + order) 0)
      + below (context && not r) ((is_class Block c || is_class Inline c) && unblocked) ≤ share own (kind_by c r) context unblocked own_b below
  head_take Layer true true true parts order extra_b own_b below h p o z = omega (arith, p, o, z)
  head_take Layer true true false parts order extra_b own_b below h p o z = omega (arith, p, o, z)
  head_take Layer true false true parts order extra_b own_b below h p o z = omega (arith, p, o, z)
  head_take Layer true false false parts order extra_b own_b below h p o z = omega (arith, p, o, z)
  head_take Layer false true true parts order extra_b own_b below h p o z = omega (arith, p, o, z)
  head_take Layer false true false parts order extra_b own_b below h p o z = omega (arith, p, o, z)
  head_take Layer false false true parts order extra_b own_b below h p o z = omega (arith, p, o, z)
  head_take Layer false false false parts order extra_b own_b below h p o z = omega (arith, p, o, z)
  head_take Float true context unblocked parts order extra_b own_b below h p o z = let e : true ≡ false = h refl in cc
  head_take Float false true true parts order extra_b own_b below h p o z = omega (arith, p, o, z)
  head_take Float false true false parts order extra_b own_b below h p o z = omega (arith, p, o, z)
  head_take Float false false true parts order extra_b own_b below h p o z = omega (arith, p, o, z)
  head_take Float false false false parts order extra_b own_b below h p o z = omega (arith, p, o, z)
  head_take Atom true context unblocked parts order extra_b own_b below h p o z = let e : true ≡ false = h refl in cc
  head_take Atom false true true parts order extra_b own_b below h p o z = omega (arith, p, o, z)
  head_take Atom false true false parts order extra_b own_b below h p o z = omega (arith, p, o, z)
  head_take Atom false false true parts order extra_b own_b below h p o z = omega (arith, p, o, z)
  head_take Atom false false false parts order extra_b own_b below h p o z = omega (arith, p, o, z)
  head_take Block true context unblocked parts order extra_b own_b below h p o z = let e : true ≡ false = h refl in cc
  head_take Block false true true parts order extra_b own_b below h p o z = omega (arith, p, o, z)
  head_take Block false true false parts order extra_b own_b below h p o z = omega (arith, p, o, z)
  head_take Block false false true parts order extra_b own_b below h p o z = omega (arith, p, o, z)
  head_take Block false false false parts order extra_b own_b below h p o z = omega (arith, p, o, z)
  head_take Inline true context unblocked parts order extra_b own_b below h p o z = let e : true ≡ false = h refl in cc
  head_take Inline false true true parts order extra_b own_b below h p o z = omega (arith, p, o, z)
  head_take Inline false true false parts order extra_b own_b below h p o z = omega (arith, p, o, z)
  head_take Inline false false true parts order extra_b own_b below h p o z = omega (arith, p, o, z)
  head_take Inline false false false parts order extra_b own_b below h p o z = omega (arith, p, o, z)

  swap : (c a n : Bool) → (c && (a && n)) ≡ ((c && n) && a)
  swap true true true = refl
  swap true true false = refl
  swap true false true = refl
  swap true false false = refl
  swap false a n = refl

  and_true : (b : Bool) → (b && true) ≡ b
  and_true true = refl
  and_true false = refl

  head_fit : (s : Style) (l l2 root n n2 context : Bool) (parts order extra_b own_b : ℕ) (below : Bool → Bool → ℕ) → l ≡ l2 → root ≡ false → n ≡ n2
      → extra_b + parts ≤ own_b → extra_b + order ≤ own_b + below (real s false) true → below false false ≡ 0
      → (cond (l && (is_class Block (class s root) || is_class Inline (class s root))) parts 0 + cond (l && (is_class Float (class s root) || is_class Atom (class s root))) order 0
      + cond (context && (is_class Layer (class s root) && n)) (extra_b + order) 0)
      + below (context && (not (real s false) && n2)) ((is_class Block (class s false) || is_class Inline (class s false)) && l2)
      ≤ share own (kind_by (class s false) (real s false)) (context && n2) l2 own_b below
  head_fit s l l2 root n n2 context parts order extra_b own_b below e1 e2 e3 p o z =
      rw (e1, e2, e3, swap context (is_class Layer (class s false)) n2, swap context (not (real s false)) n2)
      (head_take (class s false) (real s false) (context && n2) l2 parts order extra_b own_b below (unreal s) p o z)

  -- What e takes of the boxes below it.
  taken_fit : (e : BoxPath) (path : List BoxData) (f : BoxForest) → IsApart same_key f → AreOff f (path ++ e.here ∷ e.above)
      → total (taken_of canvas weight extra own w e) (painted grouping canvas (path ++ e.here ∷ e.above) f) ≤ taken own (is_context e && list_all is_no_context path) (list_all is_plain path) f
  taken_fit e path empty a o = omega arith
  taken_fit e path (tree k d ch nx) a o =
      let above = path ++ e.here ∷ e.above in
      let b = box_data k d in
      let x = painted_box canvas above b ch in
      let p1 = painted grouping canvas (b ∷ above) ch in
      let p2 = painted grouping canvas above nx in
      let take = taken_of canvas weight extra own w e in
      let o1 : AreOff ch above = λ j m. o j (in_below j k (has same_key j ch) (has same_key j nx) m) in
      let o2 : AreOff nx above = λ j m. o j (in_rest j k (has same_key j ch) (has same_key j nx) m) in
      let o3 : AreOff ch (b ∷ above) = off_below k b ch above refl a.0 o1 in
      let root : is_none above ≡ false = is_none-path path e.here e.above in
      let own_steps = steps_fit canvas weight extra own w x.at p1 (lines_fit canvas x.at (inline_of canvas weight extra own w) ch a.3 o3) in
      let own_taken : total (taken_of canvas weight extra own w x.at) p1 ≤ taken own (real b.style false) true ch =
      rw (root, and_true (real b.style false)) at (taken_fit x.at [] ch a.3 o3) in
      let order : extra b + weight x.order ≤ own b + taken own (real b.style false) true ch = omega (arith, own_steps, own_taken) in
      let here = head_fit b.style (is_local e x.at) (list_all is_plain path) (is_none above) (list_all is_no_context (boxes_between e x.at)) (list_all is_no_context path) (is_context e)
      (parts_of canvas weight extra own w x.at) (weight x.order) (extra b) (own b) (λ r u. taken own r u ch)
      (ap (list_all is_plain) (between-path e x.at path refl)) root (ap (list_all is_no_context) (between-path e x.at path refl)) (w.parts x.at) order (sums own ch).none in
      let split = total-append take p1 p2 in
      omega (arith, here, split, taken_fit e (b ∷ path) ch a.3 o3, taken_fit e path nx a.4 o2)

  -- What a tree paints weighs no more than all its boxes.
  pub root_fit : (f : BoxForest) → IsApart same_key f → weight (root_order grouping canvas f) ≤ all own f
  root_fit empty a = rw w.none (omega arith)
  root_fit (tree k d ch nx) a =
      let b = box_data k d in
      let x = painted_box canvas [] b ch in
      let p1 = painted grouping canvas (b ∷ []) ch in
      let o : AreOff ch (b ∷ []) = off_below k b ch [] refl a.0 (λ j m. refl) in
      let own_steps = steps_fit canvas weight extra own w x.at p1 (lines_fit canvas x.at (inline_of canvas weight extra own w) ch a.3 o) in
      let own_taken = taken_fit x.at [] ch a.3 o in
      omega (arith, w.group x, own_steps, own_taken, (sums own ch).both)
