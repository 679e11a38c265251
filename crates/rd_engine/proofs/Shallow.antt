-- The groups of a painting order stand no deeper than its boxes.
use Rattle.std.proofs.Common.{Bool, true, false, not, ◌&&◌, cond, List, [], ◌∷◌, ◌++◌, ℕ, ◌+◌, ◌≤◌, max, arith, subst}
use Rattle.std.specs.Prelude.{filter, Option, Some, None}
use Rattle.rd_geom.specs.Plane.{Rectangle}
use Rattle.rd_geom.specs.Canvas.{canvas_of}
use Rattle.rd_keys.specs.declared.entry.Part.{Part}
use Rattle.rd_keys.specs.declared.entry.Part.TheVariants.{Back, Border, Content, Outline}
use Rattle.rd_item.specs.declared.leaf.Leaf.{Leaf}
use Rattle.rd_list.specs.Wrappers.{Wrapper}
use Rattle.rd_list.specs.Entries.{Entries, nil, leaf, group, ◌▷◌, each, option_entry, flat, has_leaf}
use Rattle.rd_list.specs.Views.{levels, deeper}
use Rattle.rd_tree.specs.Forest.{empty, tree, height}
use Rattle.rd_tree.specs.Document.{BoxForest, Document}
use Rattle.rd_tree.specs.Drawn.{drawn}
use Rattle.rd_tree.proofs.DrawnBoxes.{height-drawn}
use Rattle.rd_stack.specs.Paths.{BoxData, BoxPath, is_root, is_context, is_local, is_layer, is_in_line}
use Rattle.rd_stack.specs.Parts.{leaf_at}
use Rattle.rd_stack.specs.Painting.{Painted, by_level, insert_by_level, is_lower, entry_of, wrapper_of, paint_if, paint, back_border, inline_part, content_and_line, steps, layers_of, line_of, is_negative, is_positive, is_zero, is_blocky}
use Rattle.rd_stack.specs.Fresh.{box_data, grouping, painted, painted_at, root_order, fresh_list}
use Rattle.rd_engine.proofs.Larger.{larger_within, left_within, right_within, deeper_within}

-- A list has at most so many levels.
record IsShallow (n : ℕ) (xs : Entries Wrapper Leaf) : Type 0 where
  within : levels xs ≤ n

none : (n : ℕ) → IsShallow n nil
none n = record { within = omega arith }

more : (n m : ℕ) (xs : Entries Wrapper Leaf) → n ≤ m → IsShallow n xs → IsShallow m xs
more n m xs l h = let w = h.within in record { within = omega (arith, l, w) }

join_within : (n : ℕ) (xs ys : Entries Wrapper Leaf) → levels xs ≤ n → levels ys ≤ n → levels (xs ▷ ys) ≤ n
join_within n nil ys h k = k
join_within n (leaf l xs) ys h k =
    let a = left_within 1 (levels xs) in
    let b = right_within 1 (levels xs) in
    larger_within 1 (levels (xs ▷ ys)) n (omega (arith, a, h)) (join_within n xs ys (omega (arith, b, h)) k)
join_within n (group g inner xs) ys h k =
    let d = deeper (levels inner) in
    let a = left_within d (levels xs) in
    let b = right_within d (levels xs) in
    larger_within d (levels (xs ▷ ys)) n (omega (arith, a, h)) (join_within n xs ys (omega (arith, b, h)) k)

join : (n : ℕ) (xs ys : Entries Wrapper Leaf) → IsShallow n xs → IsShallow n ys → IsShallow n (xs ▷ ys)
join n xs ys h k = record { within = join_within n xs ys h.within k.within }

choice : (n : ℕ) (b : Bool) (xs ys : Entries Wrapper Leaf) → IsShallow n xs → IsShallow n ys → IsShallow n (cond b xs ys)
choice n true xs ys h k = h
choice n false xs ys h k = k

when : (n : ℕ) (b : Bool) (xs : Entries Wrapper Leaf) → IsShallow n xs → IsShallow n (paint_if b xs)
when n b xs h = choice n b xs nil h (none n)

single : (n : ℕ) (o : Option Leaf) → IsShallow (n + 1) (option_entry o)
single n None = none (n + 1)
single n (Some l) = record { within = omega arith }

-- a group adds one
entry : (n : ℕ) (x : Painted) → IsShallow n x.order → IsShallow (n + 1) (entry_of x)
entry n x h =
    choice (n + 1) (x.grouped && has_leaf (flat x.order)) (group (wrapper_of x.at) x.order nil) x.order
    (record { within = larger_within (deeper (levels x.order)) 0 (n + 1) (deeper_within (levels x.order) n h.within) (omega arith) })
    (more n (n + 1) x.order (omega arith) h)

-- ---- the orders of some boxes

abbrev EachOrder : ℕ → List Painted → Type 0
EachOrder n [] = Unit {0}
EachOrder n (x ∷ xs) = IsShallow n x.order × EachOrder n xs

each_filter : (n : ℕ) (p : Painted → Bool) (xs : List Painted) → EachOrder n xs → EachOrder n (filter p xs)
each_filter n p [] h = tt
each_filter n p (x ∷ xs) h =
    elim (p x) as (λ b. EachOrder n (cond b (x ∷ filter p xs) (filter p xs))) [
      | true ↦ (h.0, each_filter n p xs h.1)
      | false ↦ each_filter n p xs h.1
    ]

each_put : (n : ℕ) (x : Painted) (ys : List Painted) → IsShallow n x.order → EachOrder n ys → EachOrder n (insert_by_level x ys)
each_put n x [] h k = (h, tt)
each_put n x (y ∷ ys) h k =
    elim (is_lower y x) as (λ b. EachOrder n (cond b (y ∷ insert_by_level x ys) (x ∷ y ∷ ys))) [
      | true ↦ (k.0, each_put n x ys h k.1)
      | false ↦ (h, k)
    ]

each_by_level : (n : ℕ) (xs : List Painted) → EachOrder n xs → EachOrder n (by_level xs)
each_by_level n [] h = tt
each_by_level n (x ∷ xs) h = each_put n x (by_level xs) h.0 (each_by_level n xs h.1)

each_append : (n : ℕ) (xs ys : List Painted) → EachOrder n xs → EachOrder n ys → EachOrder n (xs ++ ys)
each_append n [] ys h k = k
each_append n (x ∷ xs) ys h k = (h.0, each_append n xs ys h.1 k)

each_more : (n m : ℕ) (xs : List Painted) → n ≤ m → EachOrder n xs → EachOrder m xs
each_more n m [] l h = tt
each_more n m (x ∷ xs) l h = (more n m x.order l h.0, each_more n m xs l h.1)

laid : (n m : ℕ) (f : Painted → Entries Wrapper Leaf) → ((x : Painted) → IsShallow n x.order → IsShallow m (f x)) → (xs : List Painted) → EachOrder n xs → IsShallow m (each f xs)
laid n m f e [] h = none m
laid n m f e (x ∷ xs) h = join m (f x) (each f xs) (e x h.0) (laid n m f e xs h.1)

module _ (canvas : Rectangle) where
  part : (n : ℕ) (p : Part) (x : BoxPath) → IsShallow (n + 1) (paint canvas p x)
  part n p x = single n (leaf_at canvas x p)

  back : (n : ℕ) (x : BoxPath) → IsShallow (n + 1) (back_border canvas x)
  back n x = join (n + 1) (paint canvas Back x) (paint canvas Border x) (part n Back x) (part n Border x)

  inline : (n : ℕ) (x : Painted) → IsShallow n x.order → IsShallow (n + 1) (inline_part canvas x)
  inline n x h =
      choice (n + 1) _ x.order (back_border canvas x.at ▷ paint canvas Content x.at) (more n (n + 1) x.order (omega arith) h)
      (join (n + 1) (back_border canvas x.at) (paint canvas Content x.at) (back n x.at) (part n Content x.at))

  flowing : (n : ℕ) (e : BoxPath) (below : List Painted) (c : BoxPath) → EachOrder n below → IsShallow (n + 1) (content_and_line canvas e below c)
  flowing n e below c h =
      join (n + 1) (paint canvas Content c) (each (inline_part canvas) (line_of e below c)) (part n Content c)
      (laid n (n + 1) (inline_part canvas) (inline n) (line_of e below c) (each_filter n (λ x. is_in_line e c x.at) below h))

  kind : (n : ℕ) (f : Painted → Entries Wrapper Leaf) (p q : Painted → Bool) → ((x : Painted) → IsShallow n x.order → IsShallow (n + 1) (f x)) → (below : List Painted) → EachOrder n below
      → IsShallow (n + 1) (each f (filter q (filter p below)))
  kind n f p q e below h = laid n (n + 1) f e _ (each_filter n q _ (each_filter n p below h))

  layer : (n : ℕ) (e : BoxPath) (q : Painted → Bool) (below : List Painted) → EachOrder n below → IsShallow (n + 1) (each entry_of (by_level (filter q (layers_of e below))))
  layer n e q below h = laid n (n + 1) entry_of (entry n) _ (each_by_level n _ (each_filter n q _ (each_filter n (λ x. is_layer e x.at) below h)))

  -- What a box paints has at most one level more than what the boxes below it paint.
  in_steps : (n : ℕ) (e : BoxPath) (below : List Painted) → EachOrder n below → IsShallow (n + 1) (steps canvas e below)
  unfolding steps
  in_steps n e below h =
      let m = n + 1 in
      let local : Painted → Bool = λ x. is_local e x.at in
      join m _ _ (when m (is_root e) _ (part n Back e))
      (join m _ _ (when m (is_blocky e) _ (join m _ _ (when m (not (is_root e)) _ (part n Back e)) (part n Border e)))
      (join m _ _ (when m (is_context e) _ (layer n e is_negative below h))
      (join m _ _ (kind n (λ x. back_border canvas x.at) local _ (λ x k. back n x.at) below h)
      (join m _ _ (kind n (λ x. x.order) local _ (λ x k. more n m x.order (omega arith) k) below h)
      (join m _ _ (when m (not (is_blocky e)) _ (join m _ _ (back n e) (flowing n e below e h)))
      (join m _ _ (join m _ _ (when m (is_blocky e) _ (flowing n e below e h))
      (kind n (λ x. content_and_line canvas e below x.at) local _ (λ x k. flowing n e below x.at h) below h))
      (join m _ _ (when m (is_context e) _ (layer n e is_zero below h))
      (join m _ _ (when m (is_context e) _ (layer n e is_positive below h))
      (join m _ _ (part n Outline e)
      (kind n (λ x. paint canvas Outline x.at) local _ (λ x k. part n Outline x.at) below h))))))))))

  in_painted : (above : List BoxData) (f : BoxForest) → EachOrder (height f) (painted grouping canvas above f)
  in_painted above empty = tt
  in_painted above (tree k d below rest) =
      let e : BoxPath = record { above = above; here = box_data k d } in
      let inner = painted grouping canvas (box_data k d ∷ above) below in
      let next = painted grouping canvas above rest in
      let h = in_painted (box_data k d ∷ above) below in
      let m = max (1 + height below) (height rest) in (
        more (height below + 1) m (steps canvas e inner) (omega arith) (in_steps (height below) e inner h),
        each_append m inner next (each_more (height below) m inner (omega arith) h) (each_more (height rest) m next (omega arith) (in_painted above rest)),
      )

  in_order : (f : BoxForest) → IsShallow (height f + 1) (root_order grouping canvas f)
  in_order empty = none 1
  in_order (tree k d below rest) =
      let e : BoxPath = record { above = []; here = box_data k d } in
      let inner = painted grouping canvas (box_data k d ∷ []) below in
      let order = in_steps (height below) e inner (in_painted (box_data k d ∷ []) below) in
      more (height below + 1 + 1) (height (tree k d below rest) + 1) _ (omega arith) (entry (height below + 1) (painted_at grouping canvas e inner) order)

-- A fresh list has at most one level more than its tree.
pub shallow : (t : Document) → levels (fresh_list t) ≤ height t.boxes + 1
shallow t = subst (λ n. levels (fresh_list t) ≤ n + 1) (height-drawn [] t.boxes) (in_order (canvas_of t.canvas) (drawn t).boxes).within
