-- A pass gives each leaf of each box once.
use Rattle.std.proofs.Common.{◌≡◌, refl, ap, ◌∙◌, Bool, true, false, not, ◌&&◌, ◌||◌, cond, List, [], ◌∷◌, ◌++◌, ℕ, ◌+◌, length, length-append, arith, ℤ, pos}
use Rattle.std.proofs.lemmas.Int.{ints}
use Rattle.std.specs.Prelude.{int_lt}
use Rattle.rd_style.specs.declared.kinds.Class.{Class}
use Rattle.rd_style.specs.declared.kinds.Class.TheVariants.{Layer, Float, Atom, Block, Inline}
use Rattle.rd_style.specs.Classes.{blocky, real, class}
use Rattle.rd_keys.specs.declared.entry.Part.{Part}
use Rattle.rd_keys.specs.declared.entry.Part.TheVariants.{Back, Border, Content, Outline}
use Rattle.rd_list.specs.Entries.{Entries, nil, group, ◌▷◌, each, flat, has_leaf, is_empty}
use Rattle.rd_list.proofs.Joins.{flat-join}
use Rattle.rd_list.specs.Wrappers.{Wrapper, wrapper}
use Rattle.rd_tree.specs.Forest.{empty, tree}
use Rattle.rd_tree.specs.Document.{BoxForest}
use Rattle.rd_tree.specs.Contexts.{blends_in}
use Rattle.rd_stack.specs.Paths.{BoxData, is_class, is_plain}
use Rattle.rd_stack.specs.Fresh.{box_data}
use Rattle.rd_stack.proofs.Counting.Takes.{unreal}
use Rattle.rd_partial.specs.Internal.ContextLists.{ContextLists, LayerOrder, ◌⊕◌, entries_if, list_if, stacked, insert_layer, by_level}
use Rattle.rd_partial.specs.Internal.Pass.{order_of, pass, box_lists, is_one, as_group, is_of, has_negative_level, has_positive_level, has_zero_level, level_in}
use Rattle.rd_partial.specs.Internal.Counting.{leaves_in, given_of, given}
use Rattle.rd_partial.proofs.Pass.Levels.{none_there}

module _ {L : Type 0} where
  leaves-join : (xs ys : Entries Wrapper L) → leaves_in (xs ▷ ys) ≡ leaves_in xs + leaves_in ys
  leaves-join xs ys = ap length (flat-join xs ys) ∙ length-append (flat xs) (flat ys)

  record Counts (xs : Entries Wrapper L) (n : ℕ) : Type 0 where
    is : leaves_in xs ≡ n

  self : (xs : Entries Wrapper L) → Counts xs (leaves_in xs)
  self xs = record { is = refl }

  over : {xs ys : Entries Wrapper L} {m n : ℕ} → Counts xs m → Counts ys n → Counts (xs ▷ ys) (m + n)
  over {xs = xs} {ys = ys} h k = record { is = leaves-join xs ys ∙ rw (h.is, k.is) refl }

  when_so : {xs : Entries Wrapper L} {n : ℕ} → (t : Bool) → Counts xs n → Counts (entries_if t xs) (cond t n 0)
  when_so true h = h
  when_so false h = record { is = refl }

  in_group : {xs : Entries Wrapper L} {n : ℕ} → (grouped : Bool) (b : BoxData) → Counts xs n → Counts (as_group grouped b xs) n
  in_group {xs = xs} {n = n} grouped b h = record { is = by (grouped && has_leaf (flat xs)) ∙ h.is }
    where
      by : (t : Bool) → leaves_in (cond t (group (wrapper b.key b.style.opacity b.style.blend) xs nil) xs) ≡ leaves_in xs
      by true = length-append (flat xs) [] ∙ omega arith
      by false = refl

  abbrev stack_leaves : List (LayerOrder L) → ℕ
  stack_leaves [] = 0
  stack_leaves (y ∷ ys) = leaves_in y.order + stack_leaves ys

  abbrev pub local_leaves : ContextLists L → ℕ
  local_leaves b = leaves_in b.backgrounds + leaves_in b.floats + leaves_in b.line + leaves_in b.contents + leaves_in b.outlines

  abbrev pub layer_leaves : ContextLists L → ℕ
  layer_leaves b = stack_leaves b.negatives + leaves_in b.zeros + stack_leaves b.positives

  stack-put : (x : LayerOrder L) (ys : List (LayerOrder L)) → stack_leaves (insert_layer x ys) ≡ leaves_in x.order + stack_leaves ys
  stack-put x [] = refl
  stack-put x (y ∷ ys) =
      elim (int_lt y.level x.level) as (λ t. stack_leaves (cond t (y ∷ insert_layer x ys) (x ∷ y ∷ ys)) ≡ leaves_in x.order + (leaves_in y.order + stack_leaves ys)) [
        | true ↦ omega (arith, stack-put x ys)
        | false ↦ refl
      ]

  stack-by_level : (ys : List (LayerOrder L)) → stack_leaves (by_level ys) ≡ stack_leaves ys
  stack-by_level [] = refl
  stack-by_level (y ∷ ys) = omega (arith, stack-put y (by_level ys), stack-by_level ys)

  stack-each : (ys : List (LayerOrder L)) → leaves_in (each (λ y. y.order) ys) ≡ stack_leaves ys
  stack-each [] = refl
  stack-each (y ∷ ys) = leaves-join y.order (each (λ z. z.order) ys) ∙ omega (arith, stack-each ys)

  levels : (ys : List (LayerOrder L)) → Counts (each (λ y. y.order) (by_level ys)) (stack_leaves ys)
  levels ys = record { is = stack-each (by_level ys) ∙ stack-by_level ys }

  stack-append : (xs ys : List (LayerOrder L)) → stack_leaves (xs ++ ys) ≡ stack_leaves xs + stack_leaves ys
  stack-append [] ys = omega arith
  stack-append (x ∷ xs) ys = omega (arith, stack-append xs ys)

  stack-some : (t : Bool) (xs : List (LayerOrder L)) → stack_leaves (list_if t xs) ≡ cond t (stack_leaves xs) 0
  stack-some true xs = refl
  stack-some false xs = refl

  stack-one : (n : ℤ) (order : Entries Wrapper L) → stack_leaves (stacked n order) ≡ leaves_in order
  stack-one n order = by (is_empty order) refl
    where
      by : (t : Bool) → is_empty order ≡ t → stack_leaves (list_if (not t) (record { level = n; order = order } ∷ [])) ≡ leaves_in order
      by true e = rw (none_there order e) refl
      by false e = omega arith

  module _ {S : Type 0} (enter : S → BoxData → S) (give : S → BoxData → Part → Entries Wrapper L) where
    self_once : (root block ctx : Bool) (bk bd ct ol u b f l w z o t : ℕ) → (root ≡ true → block ≡ true)
        → cond root bk 0 + (cond block (cond (not root) bk 0 + bd) 0 + (cond ctx u 0 + (b + (f + (cond (not block) ((bk + bd) + (ct + l)) 0 + (cond block (ct + l) 0 + (w + (cond ctx z 0 + (cond ctx o 0 + (ol + t))))))))))
        ≡ (bk + bd + ct + ol) + (b + f + l + w + t) + cond ctx (u + z + o) 0
    self_once true true true bk bd ct ol u b f l w z o t h = omega arith
    self_once true true false bk bd ct ol u b f l w z o t h = omega arith
    self_once true false ctx bk bd ct ol u b f l w z o t h = let e : false ≡ true = h refl in cc
    self_once false true true bk bd ct ol u b f l w z o t h = omega arith
    self_once false true false bk bd ct ol u b f l w z o t h = omega arith
    self_once false false true bk bd ct ol u b f l w z o t h = omega arith
    self_once false false false bk bd ct ol u b f l w z o t h = omega arith

    root_block : (root : Bool) (b : BoxData) → root ≡ true → blocky b.style root ≡ true
    root_block root b h = rw h refl

    pub count-order : (root : Bool) (s : S) (b : BoxData) (below : ContextLists L) → leaves_in (order_of enter give root s b below) ≡ given_of enter give s b + local_leaves below + cond (real b.style root) (layer_leaves below) 0
    count-order root s b below =
        let part = λ (p : Part). self (give s b p) in
        let all =
        over (when_so root (part Back))
        (over (when_so (blocky b.style root) (over (when_so (not root) (part Back)) (part Border)))
        (over (when_so (real b.style root) (levels below.negatives))
        (over (self below.backgrounds)
        (over (self below.floats)
        (over (when_so (not (blocky b.style root)) (over (over (part Back) (part Border)) (over (part Content) (self below.line))))
        (over (when_so (blocky b.style root) (over (part Content) (self below.line)))
        (over (self below.contents)
        (over (when_so (real b.style root) (self below.zeros))
        (over (when_so (real b.style root) (levels below.positives))
        (over (part Outline) (self below.outlines))))))))))) in
        all.is ∙ self_once root (blocky b.style root) (real b.style root) _ _ _ _ _ _ _ _ _ _ _ _ (root_block root b)

    one_level : (u o : Bool) (n : ℕ) → (u && o) ≡ false → cond u n 0 + cond (not u && not o) n 0 + cond o n 0 ≡ n
    one_level true true n h = cc
    one_level true false n h = omega arith
    one_level false true n h = omega arith
    one_level false false n h = omega arith

    signs : (n : ℤ) → (int_lt n (pos 0) && int_lt (pos 0) n) ≡ false
    signs n = grind (arith, ints)

    by_class : (c : Class) (r u o : Bool) (bk bd ct ol b f l w t xu xz xo order : ℕ) → (is_class Layer c ≡ false → r ≡ false) → (u && o) ≡ false
        → order ≡ (bk + bd + ct + ol) + (b + f + l + w + t) + cond r (xu + xz + xo) 0
        → ((cond (is_class Block c) (bk + bd) 0 + cond (is_class Block c || is_class Inline c) b 0)
        + (cond (is_class Float c) order 0 + cond (is_class Block c || is_class Inline c) f 0)
        + ((cond (is_class Inline c) ((bk + bd) + ct) 0 + cond (is_class Atom c) order 0) + cond (is_class Inline c) l 0)
        + (cond (is_class Block c) (ct + l) 0 + cond (is_class Block c || is_class Inline c) w 0)
        + (cond (is_class Block c || is_class Inline c) ol 0 + cond (is_class Block c || is_class Inline c) t 0))
        + ((cond (is_class Layer c && u) order 0 + cond (not r) xu 0)
        + (cond (is_class Layer c && (not u && not o)) order 0 + cond (not r) xz 0)
        + (cond (is_class Layer c && o) order 0 + cond (not r) xo 0))
        ≡ (bk + bd + ct + ol) + ((b + f + l + w + t) + (xu + xz + xo))
    by_class Layer true u o bk bd ct ol b f l w t xu xz xo order h s e = let k = one_level u o order s in omega (arith, k, e)
    by_class Layer false u o bk bd ct ol b f l w t xu xz xo order h s e = let k = one_level u o order s in omega (arith, k, e)
    by_class Float true u o bk bd ct ol b f l w t xu xz xo order h s e = let k : true ≡ false = h refl in cc
    by_class Float false u o bk bd ct ol b f l w t xu xz xo order h s e = omega (arith, e)
    by_class Atom true u o bk bd ct ol b f l w t xu xz xo order h s e = let k : true ≡ false = h refl in cc
    by_class Atom false u o bk bd ct ol b f l w t xu xz xo order h s e = omega (arith, e)
    by_class Block true u o bk bd ct ol b f l w t xu xz xo order h s e = let k : true ≡ false = h refl in cc
    by_class Block false u o bk bd ct ol b f l w t xu xz xo order h s e = omega (arith, e)
    by_class Inline true u o bk bd ct ol b f l w t xu xz xo order h s e = let k : true ≡ false = h refl in cc
    by_class Inline false u o bk bd ct ol b f l w t xu xz xo order h s e = omega (arith, e)

    count-box : (s : S) (b : BoxData) (grouped : Bool) (order : Entries Wrapper L) (below : ContextLists L) → leaves_in order ≡ given_of enter give s b + local_leaves below + cond (real b.style false) (layer_leaves below) 0
        → local_leaves (box_lists enter give s b grouped order below) + layer_leaves (box_lists enter give s b grouped order below) ≡ given_of enter give s b + (local_leaves below + layer_leaves below)
    count-box s b grouped order below e =
        let part = λ (p : Part). self (give s b p) in
        let back_border = over (part Back) (part Border) in
        let h1 = over (when_so (is_of Block b) back_border) (when_so (is_plain b) (self below.backgrounds)) in
        let h2 = over (when_so (is_of Float b) (self order)) (when_so (is_plain b) (self below.floats)) in
        let h3 = over (over (when_so (is_of Inline b) (over back_border (part Content))) (when_so (is_of Atom b) (self order))) (when_so (is_of Inline b) (self below.line)) in
        let h4 = over (when_so (is_of Block b) (over (part Content) (self below.line))) (when_so (is_plain b) (self below.contents)) in
        let h5 = over (when_so (is_plain b) (part Outline)) (when_so (is_plain b) (self below.outlines)) in
        let h6 = over (when_so (is_of Layer b && has_zero_level b) (in_group grouped b (self order))) (when_so (not (real b.style false)) (self below.zeros)) in
        rw (h1.is, h2.is, h3.is, h4.is, h5.is, h6.is, layers (is_of Layer b && has_negative_level b) below.negatives, layers (is_of Layer b && has_positive_level b) below.positives)
        (by_class (class b.style false) (real b.style false) (has_negative_level b) (has_positive_level b) _ _ _ _ _ _ _ _ _ _ _ _ _ (unreal b.style) (signs (level_in b)) e)
      where
        layers : (t : Bool) (ys : List (LayerOrder L)) → stack_leaves (list_if t (stacked (level_in b) (as_group grouped b order)) ++ list_if (not (real b.style false)) ys) ≡ cond t (leaves_in order) 0 + cond (not (real b.style false)) (stack_leaves ys) 0
        layers t ys =
            stack-append (list_if t (stacked (level_in b) (as_group grouped b order))) (list_if (not (real b.style false)) ys)
            ∙ rw (stack-some t (stacked (level_in b) (as_group grouped b order)), stack-some (not (real b.style false)) ys, stack-one (level_in b) (as_group grouped b order), (in_group grouped b (self order)).is) refl

    count-add : (x y : ContextLists L) → local_leaves (x ⊕ y) + layer_leaves (x ⊕ y) ≡ (local_leaves x + layer_leaves x) + (local_leaves y + layer_leaves y)
    count-add x y =
        rw (leaves-join x.backgrounds y.backgrounds, leaves-join x.floats y.floats, leaves-join x.line y.line, leaves-join x.contents y.contents, leaves-join x.outlines y.outlines, leaves-join x.zeros y.zeros, stack-append x.negatives y.negatives, stack-append x.positives y.positives) (omega arith)

    pub count-pass : (s : S) (f : BoxForest) → local_leaves (pass enter give s f) + layer_leaves (pass enter give s f) ≡ given enter give s f
    count-pass s empty = omega arith
    count-pass s (tree k d ch nx) =
        let b = box_data k d in
        let below = pass enter give (enter s b) ch in
        let order = order_of enter give false s b below in
        let one = is_one false (blends_in ch) b in
        let h1 = count-add (box_lists enter give s b one order below) (pass enter give s nx) in
        let h2 = count-box s b one order below (count-order false s b below) in
        h1 ∙ together _ _ _ _ _ _ h2 (count-pass (enter s b) ch) (count-pass s nx)
      where
        together : (x y z u v w : ℕ) → x ≡ u + y → y ≡ v → z ≡ w → x + z ≡ u + v + w
        together x y z u v w h k m = omega (arith, h, k, m)

    -- the leaves of the list of a root
    pub count-root : (s : S) (b : BoxData) (grouped : Bool) (f : BoxForest) → leaves_in (as_group grouped b (order_of enter give true s b (pass enter give (enter s b) f))) ≡ given_of enter give s b + given enter give (enter s b) f
    count-root s b grouped f =
        let below = pass enter give (enter s b) f in
        (in_group grouped b (self (order_of enter give true s b below))).is
        ∙ count-order true s b below
        ∙ omega (arith, count-pass (enter s b) f)
