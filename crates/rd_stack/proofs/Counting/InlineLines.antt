-- No inline box is in the lines of two blocks.
use Rattle.std.proofs.Common.{◌≡◌, refl, ap, ◌∙◌, sym, subst, Bool, true, false, ◌&&◌, ◌||◌, cond, List, [], ◌∷◌, ◌++◌, ℕ, ◌+◌, ◌≤◌, arith, inl, inr}
use Rattle.std.specs.List.{list_all, list_any}
use Rattle.rd_geom.specs.Plane.{Rectangle}
use Rattle.rd_style.specs.declared.kinds.Class.{Class}
use Rattle.rd_style.specs.declared.kinds.Class.TheVariants.{Layer, Float, Atom, Block, Inline}
use Rattle.rd_style.specs.Classes.{class}
use Rattle.rd_keys.specs.Keys.{BoxKey, same_key}
use Rattle.rd_keys.proofs.Keys.{same_key-sound, same_key-refl}
use Rattle.rd_tree.specs.Forest.{empty, tree, has, IsApart}
use Rattle.rd_tree.specs.Document.{BoxForest}
use Rattle.rd_tree.proofs.Linking.Standing.{cases, differs_back, apart_back, from_left, from_right, either}
use Rattle.rd_stack.specs.Paths.{BoxData, BoxPath, is_class, has_class, is_local, is_in_line, is_below, is_all_inline, is_inline, is_inline_level}
use Rattle.rd_stack.specs.Painting.{Painted}
use Rattle.rd_stack.specs.Fresh.{box_data, grouping, painted_at, painted}
use Rattle.rd_stack.proofs.Counting.Paths.{between-path, is_none-path}
use Rattle.rd_stack.proofs.Counting.Sums.{total, total-append, total-le}

-- Is there a box with this key among some boxes?
abbrev pub key_in : BoxKey → List BoxData → Bool
key_in k above = list_any (λ b. same_key b.key k) above

-- No box of the forest is among those above it.
abbrev pub AreOff : BoxForest → List BoxData → Type 0
AreOff f above = (j : BoxKey) → has same_key j f ≡ true → key_in j above ≡ false

pub in_below : (j k : BoxKey) (a b : Bool) → a ≡ true → (same_key j k || (a || b)) ≡ true
in_below j k a b h = from_right (same_key j k) (a || b) (from_left a b h)

pub in_rest : (j k : BoxKey) (a b : Bool) → b ≡ true → (same_key j k || (a || b)) ≡ true
in_rest j k a b h = from_right (same_key j k) (a || b) (from_right a b h)

pub off_below : (k : BoxKey) (b : BoxData) (f : BoxForest) (above : List BoxData) → b.key ≡ k → has same_key k f ≡ false → AreOff f above → AreOff f (b ∷ above)
off_below k b f above e h o j m =
    let d : same_key k j ≡ false = differs_back same_key same_key-sound same_key-refl f k j h m in
    rw (e, d) (o j m)

module _ (canvas : Rectangle) where
  -- a box with all that it paints
  abbrev pub painted_box : List BoxData → BoxData → BoxForest → Painted
  painted_box above b children =
      let e : BoxPath = record { above = above; here = b } in
      painted_at grouping canvas e (painted grouping canvas (b ∷ above) children)

  -- what a weight gives the boxes below a key
  abbrev pub below_sum : BoxKey → (Painted → ℕ) → List Painted → ℕ
  below_sum j h xs = total (λ x. cond (key_in j x.at.above) (h x) 0) xs

  cond_le : (c : Bool) (n : ℕ) → cond c n 0 ≤ n
  cond_le true n = omega arith
  cond_le false n = omega arith

  off_cond : (c : Bool) (n : ℕ) → c ≡ false → cond c n 0 ≡ 0
  off_cond c n h = rw h refl

  below_le : (j : BoxKey) (h : Painted → ℕ) (xs : List Painted) → below_sum j h xs ≤ total h xs
  below_le j h xs = total-le (λ x. cond (key_in j x.at.above) (h x) 0) h xs (λ x. cond_le (key_in j x.at.above) (h x))

  -- below a key that is nowhere there is nothing
  none_below : (j : BoxKey) (h : Painted → ℕ) (above : List BoxData) (f : BoxForest) → key_in j above ≡ false → has same_key j f ≡ false → below_sum j h (painted grouping canvas above f) ≡ 0
  none_below j h above empty o n = refl
  none_below j h above (tree k d ch nx) o n =
      let s : (same_key j k ≡ false) × ((has same_key j ch || has same_key j nx) ≡ false) = either (same_key j k) (has same_key j ch || has same_key j nx) n in
      let t : (has same_key j ch ≡ false) × (has same_key j nx ≡ false) = either (has same_key j ch) (has same_key j nx) s.1 in
      let b = box_data k d in
      let turned : same_key k j ≡ false = turn j k s.0 in
      let o2 : key_in j (b ∷ above) ≡ false = rw turned o in
      let head : cond (key_in j above) (h (painted_box above b ch)) 0 ≡ 0 = off_cond (key_in j above) (h (painted_box above b ch)) o in
      let split = total-append (λ x. cond (key_in j x.at.above) (h x) 0) (painted grouping canvas (b ∷ above) ch) (painted grouping canvas above nx) in
      omega (arith, head, split, none_below j h (b ∷ above) ch o2 t.0, none_below j h above nx o t.1)
    where
      turn : (j k : BoxKey) → same_key j k ≡ false → same_key k j ≡ false
      turn j k e = elim (cases (same_key k j)) [
        | inl u ↦ let v : k ≡ j = same_key-sound k j u in let w : same_key j k ≡ true = subst (λ x. same_key j x ≡ true) (sym v) (same_key-refl j) in cc
        | inr u ↦ u
      ]

  module _ (e : BoxPath) (v : Painted → ℕ) where
    -- in the lines that e paints, at most
    abbrev pub flow_at : Painted → ℕ
    flow_at x = cond (is_local e x.at && is_inline_level x.at) (v x) 0

    -- in the line of c
    abbrev pub line_at : BoxPath → Painted → ℕ
    line_at c x = cond (is_in_line e c x.at) (v x) 0

    -- in the line of c, where it is below c
    abbrev under_at : BoxPath → Painted → ℕ
    under_at c x = cond (is_local e x.at && is_inline_level x.at && is_all_inline c x.at) (v x) 0

    line-with_children : (l f b i : Bool) (n : ℕ) → cond (l && f && b && i) n 0 ≡ cond b (cond (l && f && i) n 0) 0
    line-with_children false f true i n = refl
    line-with_children false f false i n = refl
    line-with_children true false true i n = refl
    line-with_children true false false i n = refl
    line-with_children true true true i n = refl
    line-with_children true true false i n = refl

    under_le : (l f i : Bool) (n : ℕ) → cond (l && f && i) n 0 ≤ cond (l && f) n 0
    under_le false f i n = omega arith
    under_le true false i n = omega arith
    under_le true true i n = cond_le i n

    total-line : (c : BoxPath) (xs : List Painted) → total (line_at c) xs ≡ below_sum c.here.key (under_at c) xs
    total-line c [] = refl
    total-line c (x ∷ xs) =
        let h = line-with_children (is_local e x.at) (is_inline_level x.at) (is_below c x.at) (is_all_inline c x.at) (v x) in
        omega (arith, h, total-line c xs)

    abbrev pub lines_in : List Painted → List Painted → ℕ
    lines_in whole cs = total (λ c. cond (is_local e c.at && has_class Block c.at) (total (line_at c.at) whole) 0) cs

    -- past a box that is not inline no line goes on
    no_line : (c : BoxPath) (path : List BoxData) (f : BoxForest) → list_all is_inline path ≡ false → total (under_at c) (painted grouping canvas (path ++ c.here ∷ c.above) f) ≡ 0
    no_line c path empty h = refl
    no_line c path (tree k d ch nx) h =
        let above = path ++ c.here ∷ c.above in
        let b = box_data k d in
        let x = painted_box above b ch in
        let i : is_all_inline c x.at ≡ false = ap (list_all is_inline) (between-path c x.at path refl) ∙ h in
        let head : under_at c x ≡ 0 = none (is_local e x.at && is_inline_level x.at) (is_all_inline c x.at) (v x) i in
        let h2 : list_all is_inline (b ∷ path) ≡ false = also (is_inline b) (list_all is_inline path) h in
        let split = total-append (under_at c) (painted grouping canvas (b ∷ above) ch) (painted grouping canvas above nx) in
        omega (arith, head, split, no_line c (b ∷ path) ch h2, no_line c path nx h)
      where
        none : (l i : Bool) (n : ℕ) → i ≡ false → cond (l && i) n 0 ≡ 0
        none true i n h = rw h refl
        none false i n h = refl

        also : (a b : Bool) → b ≡ false → (a && b) ≡ false
        also true b h = h
        also false b h = refl

    abbrev IsWhole : BoxForest → List BoxData → List Painted → Type 0
    IsWhole f above whole = (j : BoxKey) → has same_key j f ≡ true → (h : Painted → ℕ) → below_sum j h whole ≡ below_sum j h (painted grouping canvas above f)

    block_not_inline : (c : Class) → is_class Block c ≡ true → is_class Inline c ≡ false
    block_not_inline Layer h = cc
    block_not_inline Float h = cc
    block_not_inline Atom h = cc
    block_not_inline Block h = refl
    block_not_inline Inline h = cc

    -- The line of c and the lines of the blocks below it, together.
    lines_once : (c : BoxPath) (path : List BoxData) (f : BoxForest) (whole : List Painted) → IsApart same_key f → AreOff f (path ++ c.here ∷ c.above) → IsWhole f (path ++ c.here ∷ c.above) whole
        → total (under_at c) (painted grouping canvas (path ++ c.here ∷ c.above) f) + lines_in whole (painted grouping canvas (path ++ c.here ∷ c.above) f) ≤ total flow_at (painted grouping canvas (path ++ c.here ∷ c.above) f)
    lines_once c path empty whole a o w = omega arith
    lines_once c path (tree k d ch nx) whole a o w =
        let above = path ++ c.here ∷ c.above in
        let b = box_data k d in
        let x = painted_box above b ch in
        let p1 = painted grouping canvas (b ∷ above) ch in
        let p2 = painted grouping canvas above nx in
        let lines : Painted → ℕ = λ y. cond (is_local e y.at && has_class Block y.at) (total (line_at y.at) whole) 0 in
        let k_off : key_in k above ≡ false = o k (from_left (same_key k k) (has same_key k ch || has same_key k nx) (same_key-refl k)) in
        let o1 : AreOff ch above = λ j m. o j (in_below j k (has same_key j ch) (has same_key j nx) m) in
        let o2 : AreOff nx above = λ j m. o j (in_rest j k (has same_key j ch) (has same_key j nx) m) in
        let o3 : AreOff ch (b ∷ above) = off_below k b ch above refl a.0 o1 in
        let w1 : IsWhole ch (b ∷ above) whole = λ j m h.
        let first : cond (key_in j above) (h x) 0 ≡ 0 = off_cond (key_in j above) (h x) (o1 j m) in
        let split = total-append (λ y. cond (key_in j y.at.above) (h y) 0) p1 p2 in
        let last = none_below j h above nx (o1 j m) (a.2 j m) in
        let all = w j (in_below j k (has same_key j ch) (has same_key j nx) m) h in
        omega (arith, first, split, last, all) in
        let w2 : IsWhole nx above whole = λ j m h.
        let first : cond (key_in j above) (h x) 0 ≡ 0 = off_cond (key_in j above) (h x) (o2 j m) in
        let split = total-append (λ y. cond (key_in j y.at.above) (h y) 0) p1 p2 in
        let not_in : has same_key j ch ≡ false = apart_back same_key same_key-sound same_key-refl ch nx a.2 j m in
        let apart : same_key k j ≡ false = differs_back same_key same_key-sound same_key-refl nx k j a.1 m in
        let off : key_in j (b ∷ above) ≡ false = rw apart (o2 j m) in
        let middle = none_below j h (b ∷ above) ch off not_in in
        let all = w j (in_rest j k (has same_key j ch) (has same_key j nx) m) h in
        omega (arith, first, split, middle, all) in
        let s1 = total-append (under_at c) p1 p2 in
        let s2 = total-append lines p1 p2 in
        let s3 = total-append flow_at p1 p2 in
        let later = lines_once c path nx whole a.4 o2 w2 in
        let head = under_le (is_local e x.at) (is_inline_level x.at) (is_all_inline c x.at) (v x) in
        elim (cases (is_local e x.at && has_class Block x.at)) [
          | inl t ↦
              let own_line : total (line_at x.at) whole ≤ total (under_at x.at) p1 =
              let l1 = total-line x.at whole in
              let l2 = w k (from_left (same_key k k) (has same_key k ch || has same_key k nx) (same_key-refl k)) (under_at x.at) in
              let first = off_cond (key_in k above) (under_at x.at x) k_off in
              let split = total-append (λ y. cond (key_in k y.at.above) (under_at x.at y) 0) p1 p2 in
              let last = none_below k (under_at x.at) above nx k_off a.1 in
              let most = below_le k (under_at x.at) p1 in
              omega (arith, l1, l2, first, split, last, most) in
              let here : lines x ≡ total (line_at x.at) whole = rw t refl in
              let deeper = lines_once x.at [] ch whole a.3 o3 w1 in
              let blocky : is_inline b ≡ false = block_not_inline (class b.style false) (second (is_local e x.at) (is_class Block (class b.style false)) (rw (is_none-path path c.here c.above) at t)) in
              let stopped = no_line c (b ∷ path) ch (rw blocky refl) in
              omega (arith, s1, s2, s3, later, head, own_line, here, deeper, stopped)
          | inr t ↦
              let here : lines x ≡ 0 = off_cond (is_local e x.at && has_class Block x.at) (total (line_at x.at) whole) t in
              let deeper = lines_once c (b ∷ path) ch whole a.3 o3 w1 in
              omega (arith, s1, s2, s3, later, head, here, deeper)
        ]
      where
        second : (a b : Bool) → (a && b) ≡ true → b ≡ true
        second true b h = h
        second false b h = cc

    -- All lines that e paints weigh no more than the boxes that flow in them.
    pub lines_fit : (f : BoxForest) → IsApart same_key f → AreOff f (e.here ∷ e.above)
        → total (line_at e) (painted grouping canvas (e.here ∷ e.above) f) + lines_in (painted grouping canvas (e.here ∷ e.above) f) (painted grouping canvas (e.here ∷ e.above) f) ≤ total flow_at (painted grouping canvas (e.here ∷ e.above) f)
    lines_fit f a o =
        let below = painted grouping canvas (e.here ∷ e.above) f in
        let l1 = total-line e below in
        let l2 = below_le e.here.key (under_at e) below in
        omega (arith, l1, l2, lines_once e [] f below a o (λ j m h. refl))
