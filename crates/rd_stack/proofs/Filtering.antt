-- Subtrees that are off an area.
use Rattle.std.proofs.Common.{◌≡◌, refl, ap, ◌∙◌, sym, subst, Bool, true, false, not, ◌&&◌, ◌||◌, cond, List, [], ◌∷◌, ℕ, pos, ◌+ℤ◌, ◌-ℤ◌, IsTrue, arith, nat_lt}
use Rattle.std.specs.Prelude.{Option, Some, None, option_map}
use Rattle.std.proofs.lemmas.Int.{ints}
use Rattle.rd_geom.specs.Plane.{Rectangle, right, bottom, meet, has_none, no_pixels, hull_of, around, outset, inset, holds_pixel, IsWithin}
use Rattle.rd_geom.specs.Areas.{meets_area}
use Rattle.rd_geom.specs.Canvas.{canvas_of}
use Rattle.rd_geom.specs.declared.color.Color.{Color}
use Rattle.rd_geom.proofs.Pixels.{At, at_holds, holds_at, AtBetween, holds_between, common_pixels, none_is_within, within_around_left, within_around_right, left_of}
use Rattle.rd_keys.specs.Keys.{BoxKey, same_key}
use Rattle.rd_keys.proofs.Keys.{same_key-sound, same_key-refl}
use Rattle.rd_keys.specs.declared.entry.Part.{Part}
use Rattle.rd_keys.specs.declared.entry.Part.TheVariants.{Back, Border, Content, Outline}
use Rattle.rd_item.specs.declared.leaf.Leaf.{Leaf}
use Rattle.rd_item.specs.declared.leaf.Shape.{Shape}
use Rattle.rd_list.specs.Wrappers.{Wrapper}
use Rattle.rd_list.specs.Entries.{Entries, nil, leaf, group, only}
use Rattle.rd_list.proofs.Merges.Narrowing.{only_only}
use Rattle.rd_tree.specs.Forest.{empty, tree, has, IsApart}
use Rattle.rd_tree.specs.declared.node.Item.{Item}
use Rattle.rd_tree.specs.Document.{BoxForest}
use Rattle.rd_tree.specs.Hulls.{extent, hull_in}
use Rattle.rd_tree.specs.Drawn.{drawn}
use Rattle.rd_tree.proofs.Drawing.{apart_drawn, rooted_drawn}
use Rattle.rd_tree.proofs.Linking.Standing.{never, refute, either, from_left, from_right, apart_back, differs}
use Rattle.rd_stack.specs.Paths.{BoxData, BoxPath, is_none, is_root}
use Rattle.rd_stack.specs.Clips.{clip_of, padding_box}
use Rattle.rd_stack.specs.Parts.{shown, shape_of, is_seen, takes_hits, has_border, solid, frame, background}
use Rattle.rd_stack.specs.Fresh.{box_data, given, grouped_in, root_order}
use Rattle.rd_stack.specs.Cut.{pruned, all_cut, IsClosed}
use Rattle.rd_stack.specs.Reached.{Grows, reached, reached_tree, FilteringLaw, MeetingLaw}
use Rattle.rd_stack.proofs.Growing.{grows_area}
use Rattle.rd_stack.proofs.Left.Cuts.{all_from_has, closed_all}
use Rattle.rd_stack.proofs.Cutting.{order-cut}
use Rattle.rd_stack.proofs.Grouping.Own.{given_list}
use Rattle.rd_list.specs.Lists.{meeting}
use Rattle.rd_stack.proofs.Leafwise.{EachLeaf, OfLeaf, OfParts, EachBox, in_order, only_where}

within_hull_left : (a b : Rectangle) → IsWithin a (hull_of a b)
within_hull_left a b = by (has_none a) (has_none b) refl refl
  where
    by : (p q : Bool) → has_none a ≡ p → has_none b ≡ q → IsWithin a (cond p (cond q no_pixels b) (cond q a (around a b)))
    by true q e f = none_is_within a _ e
    by false true e f = λ x y h. h
    by false false e f = within_around_left a b

within_hull_right : (a b : Rectangle) → IsWithin b (hull_of a b)
within_hull_right a b = by (has_none a) (has_none b) refl refl
  where
    by : (p q : Bool) → has_none a ≡ p → has_none b ≡ q → IsWithin b (cond p (cond q no_pixels b) (cond q a (around a b)))
    by p true e f = none_is_within b _ f
    by true false e f = λ x y h. h
    by false false e f = within_around_right a b

within_grown : (r : Rectangle) (n : ℕ) → IsWithin r (outset r n)
within_grown r n x y h =
    let p : At r x y = holds_at r x y h in
    at_holds (outset r n) x y (record { left = omega (arith, ints); right = omega (arith, ints); top = omega (arith, ints); bottom = omega (arith, ints) })

within_inset : (r : Rectangle) (t e b l : ℕ) → IsWithin (inset r t e b l) r
within_inset r t e b l x y h =
    let m : AtBetween (r.x +ℤ pos l) (r.y +ℤ pos t) (right r -ℤ pos e) (bottom r -ℤ pos b) x y = holds_between _ _ _ _ x y h in
    at_holds r x y (record { left = omega (arith, ints); right = omega (arith, ints); top = omega (arith, ints); bottom = omega (arith, ints) })

within_common : (a b : Rectangle) → IsWithin (meet a b) a
within_common a b x y h = let t : IsTrue (holds_pixel a x y && holds_pixel b x y) = subst (λ t. IsTrue t) (common_pixels a b x y) h in left_of _ _ t

within_then : (a b c : Rectangle) → IsWithin a b → IsWithin b c → IsWithin a c
within_then a b c p q x y h = q x y (p x y h)

module _ (meets : Rectangle → Bool) (grows : Grows meets) (cut : BoxKey → Bool) (canvas : Rectangle) where
  off : (r s : Rectangle) → IsWithin r s → meets s ≡ false → meets r ≡ false
  off r s w n = refute (meets r) (λ u. never (meets s) (grows r s w u) n)

  -- A leaf of a box that is cut off does not meet the area.
  abbrev IsOff : Leaf → Type 0
  IsOff l = cut l.owner ≡ true → meets l.visible ≡ false

  of_shown : (x : BoxPath) (part : Part) (s : Shape × Color) → (cut x.here.key ≡ true → meets s.0.outer ≡ false) → OfLeaf IsOff (shown (clip_of canvas x) x.here part (Some s))
  of_shown x part s h =
      let v = meet s.0.outer (clip_of canvas x) in
      elim (has_none v) as (λ b. OfLeaf IsOff (cond b None (Some (record { owner = x.here.key; part = part; visible = v; shape = s.0; color = s.1; hits = takes_hits x.here.style.pointer })))) [
        | true ↦ tt
        | false ↦ λ c. off v s.0.outer (within_common s.0.outer (clip_of canvas x)) (h c)
      ]

  -- the extent of a box
  abbrev extent_of : BoxData → Rectangle
  extent_of b = outset b.rect b.style.outline_width

  of_shape : (above : List BoxData) (b : BoxData) (part : Part) → is_none above ≡ false → (cut b.key ≡ true → meets (extent_of b) ≡ false)
      → let x : BoxPath = record { above = above; here = b } in OfLeaf IsOff (shown (clip_of canvas x) x.here part (shape_of canvas (is_root x) x.here part))
  of_shape above b Back n h =
      let x : BoxPath = record { above = above; here = b } in
      of_shown x Back (solid (background canvas (is_root x) x.here), b.style.background) (λ c. rw n (off b.rect (extent_of b) (within_grown b.rect b.style.outline_width) (h c)))
  of_shape above b Border n h =
      let x : BoxPath = record { above = above; here = b } in
      elim (has_border b.style.border_width) as (λ t. OfLeaf IsOff (shown (clip_of canvas x) x.here Border (cond t (Some (frame b.rect (padding_box b), b.style.border_color)) None))) [
        | true ↦ of_shown x Border (frame b.rect (padding_box b), b.style.border_color) (λ c. off b.rect (extent_of b) (within_grown b.rect b.style.outline_width) (h c))
        | false ↦ tt
      ]
  of_shape above b Content n h = by b.style.content
    where
      by : (o : Option Color) → let x : BoxPath = record { above = above; here = b } in OfLeaf IsOff (shown (clip_of canvas x) x.here Content (option_map (λ c. (solid (padding_box b), c)) o))
      by None = tt
      by (Some q) = of_shown (record { above = above; here = b }) Content (solid (padding_box b), q) (λ c. off (padding_box b) (extent_of b)
          (within_then (padding_box b) b.rect (extent_of b) (within_inset b.rect b.style.border_width.top b.style.border_width.right b.style.border_width.bottom b.style.border_width.left) (within_grown b.rect b.style.outline_width)) (h c))
  of_shape above b Outline n h =
      let x : BoxPath = record { above = above; here = b } in
      elim (nat_lt 0 b.style.outline_width) as (λ t. OfLeaf IsOff (shown (clip_of canvas x) x.here Outline (cond t (Some (frame (extent_of b) b.rect, b.style.outline_color)) None))) [
        | true ↦ of_shown x Outline (frame (extent_of b) b.rect, b.style.outline_color) h
        | false ↦ tt
      ]

  of_parts : (above : List BoxData) (b : BoxData) → is_none above ≡ false → (cut b.key ≡ true → meets (extent_of b) ≡ false) → OfParts IsOff canvas (record { above = above; here = b })
  of_parts above b n h part =
      let x : BoxPath = record { above = above; here = b } in
      elim (is_seen b.style.visibility) as (λ t. OfLeaf IsOff (cond t (shown (clip_of canvas x) x.here part (shape_of canvas (is_root x) x.here part)) None)) [ true ↦ of_shape above b part n h | false ↦ tt ]

  -- the parts of a box that is not cut off
  of_root : (x : BoxPath) → cut x.here.key ≡ false → OfParts IsOff canvas x
  of_root x n part =
      elim (is_seen x.here.style.visibility) as (λ t. OfLeaf IsOff (cond t (shown (clip_of canvas x) x.here part (shape_of canvas (is_root x) x.here part)) None)) [ true ↦ by (shape_of canvas (is_root x) x.here part) | false ↦ tt ]
    where
      by : (s : Option (Shape × Color)) → OfLeaf IsOff (shown (clip_of canvas x) x.here part s)
      by None = tt
      by (Some s) = of_shown x part s (λ c. absurd (never (cut x.here.key) c n))

  -- The boxes that are cut off are off the area.
  abbrev AreFar : BoxForest → Type 0
  AreFar empty = Unit {0}
  AreFar (tree k d below rest) = (cut k ≡ true → meets (extent d) ≡ false) × AreFar below × AreFar rest

  far_boxes : (above : List BoxData) (f : BoxForest) → is_none above ≡ false → AreFar f → EachBox IsOff canvas above f
  far_boxes above empty n h = tt
  far_boxes above (tree k d below rest) n h = (of_parts above (box_data k d) n h.0, far_boxes (box_data k d ∷ above) below refl h.1, far_boxes above rest n h.2)

  far_all : (f : BoxForest) → meets (hull_in f) ≡ false → AreFar f
  far_all empty h = tt
  far_all (tree k d below rest) h =
      let here : meets (hull_of (extent d) (hull_in below)) ≡ false = off _ _ (within_hull_left (hull_of (extent d) (hull_in below)) (hull_in rest)) h in (
        (λ _. off _ _ (within_hull_left (extent d) (hull_in below)) here),
        far_all below (off _ _ (within_hull_right (extent d) (hull_in below)) here),
        far_all rest (off _ _ (within_hull_right (hull_of (extent d) (hull_in below)) (hull_in rest)) h),
      )

  far_reached : (f : BoxForest) → ((j : BoxKey) → has same_key j (reached meets f) ≡ true → cut j ≡ false) → AreFar f
  far_reached empty h = tt
  far_reached (tree k d below rest) h = by (meets (hull_of (extent d) (hull_in below))) refl h (far_reached below) (far_reached rest)
    where
      by : (b : Bool) → meets (hull_of (extent d) (hull_in below)) ≡ b
          → ((j : BoxKey) → has same_key j (cond b (tree k d (reached meets below) (reached meets rest)) (reached meets rest)) ≡ true → cut j ≡ false)
          → (((j : BoxKey) → has same_key j (reached meets below) ≡ true → cut j ≡ false) → AreFar below)
          → (((j : BoxKey) → has same_key j (reached meets rest) ≡ true → cut j ≡ false) → AreFar rest)
          → AreFar (tree k d below rest)
      by true e g p q = (
        (λ c. absurd (never (cut k) c (g k (from_left (same_key k k) (has same_key k (reached meets below) || has same_key k (reached meets rest)) (same_key-refl k))))),
        p (λ j u. g j (from_right (same_key j k) (has same_key j (reached meets below) || has same_key j (reached meets rest)) (from_left (has same_key j (reached meets below)) (has same_key j (reached meets rest)) u))),
        q (λ j u. g j (from_right (same_key j k) (has same_key j (reached meets below) || has same_key j (reached meets rest)) (from_right (has same_key j (reached meets below)) (has same_key j (reached meets rest)) u))),
      )
      by false e g p q = (
        (λ _. off _ _ (within_hull_left (extent d) (hull_in below)) e),
        far_all below (off _ _ (within_hull_right (extent d) (hull_in below)) e),
        q g,
      )

-- What is reached is there.
not_reached : (meets : Rectangle → Bool) (j : BoxKey) (f : BoxForest) → has same_key j f ≡ false → has same_key j (reached meets f) ≡ false
not_reached meets j empty h = refl
not_reached meets j (tree k d below rest) h =
    let s = either (same_key j k) (has same_key j below || has same_key j rest) h in
    let t = either (has same_key j below) (has same_key j rest) s.1 in
    elim (meets (hull_of (extent d) (hull_in below))) as (λ b. has same_key j (cond b (tree k d (reached meets below) (reached meets rest)) (reached meets rest)) ≡ false) [
      | true ↦ rw (s.0, not_reached meets j below t.0, not_reached meets j rest t.1) refl
      | false ↦ not_reached meets j rest t.1
    ]

module _ (meets : Rectangle → Bool) (cut : BoxKey → Bool) where
  -- Exactly what is not reached is cut off.
  abbrev IsRest : BoxForest → Type 0
  IsRest f = (j : BoxKey) → has same_key j f ≡ true → cut j ≡ not (has same_key j (reached meets f))

  record Parted (k : BoxKey) (d : Item) (below rest : BoxForest) (b : Bool) : Type 0 where
    here : cut k ≡ not b
    low : (j : BoxKey) → has same_key j below ≡ true → cut j ≡ not (b && has same_key j (reached meets below))
    later : IsRest rest

  parted : (k : BoxKey) (d : Item) (below rest : BoxForest) → IsApart same_key (tree k d below rest) → IsRest (tree k d below rest) → Parted k d below rest (meets (hull_of (extent d) (hull_in below)))
  parted k d below rest a h = by (meets (hull_of (extent d) (hull_in below))) h
    where
      by : (b : Bool) → ((j : BoxKey) → has same_key j (tree k d below rest) ≡ true → cut j ≡ not (has same_key j (cond b (tree k d (reached meets below) (reached meets rest)) (reached meets rest)))) → Parted k d below rest b
      by true g = record {
        here = g k (from_left (same_key k k) (has same_key k below || has same_key k rest) (same_key-refl k)) ∙ ap not (from_left (same_key k k) _ (same_key-refl k));
        low = λ j u.
            g j (from_right (same_key j k) (has same_key j below || has same_key j rest) (from_left (has same_key j below) (has same_key j rest) u))
            ∙ ap not (rw (differs same_key same_key-sound same_key-refl below j k u a.0, not_reached meets j rest (a.2 j u)) (or_none (has same_key j (reached meets below))));
        later = λ j u.
            g j (from_right (same_key j k) (has same_key j below || has same_key j rest) (from_right (has same_key j below) (has same_key j rest) u))
            ∙ ap not (rw (differs same_key same_key-sound same_key-refl rest j k u a.1, not_reached meets j below (apart_back same_key same_key-sound same_key-refl below rest a.2 j u)) refl);
      }
        where
          or_none : (b : Bool) → (b || false) ≡ b
          or_none true = refl
          or_none false = refl
      by false g = record {
        here = g k (from_left (same_key k k) (has same_key k below || has same_key k rest) (same_key-refl k)) ∙ ap not (not_reached meets k rest a.1);
        low = λ j u. g j (from_right (same_key j k) (has same_key j below || has same_key j rest) (from_left (has same_key j below) (has same_key j rest) u)) ∙ ap not (not_reached meets j rest (a.2 j u));
        later = λ j u. g j (from_right (same_key j k) (has same_key j below || has same_key j rest) (from_right (has same_key j below) (has same_key j rest) u));
      }

  rest_pruned : (f : BoxForest) → IsApart same_key f → IsRest f → pruned cut f ≡ reached meets f
  rest_pruned empty a h = refl
  rest_pruned (tree k d below rest) a h = by (meets (hull_of (extent d) (hull_in below))) (parted k d below rest a h) (rest_pruned below a.3) (rest_pruned rest a.4)
    where
      by : (b : Bool) → Parted k d below rest b → (IsRest below → pruned cut below ≡ reached meets below) → (IsRest rest → pruned cut rest ≡ reached meets rest)
          → cond (cut k) (pruned cut rest) (tree k d (pruned cut below) (pruned cut rest)) ≡ cond b (tree k d (reached meets below) (reached meets rest)) (reached meets rest)
      by true p u v = rw p.here (λ i. tree k d (u p.low i) (v p.later i))
      by false p u v = rw p.here (v p.later)

  rest_closed : (f : BoxForest) → IsApart same_key f → IsRest f → IsClosed cut f
  rest_closed empty a h = tt
  rest_closed (tree k d below rest) a h = by (meets (hull_of (extent d) (hull_in below))) (parted k d below rest a h) (rest_closed below a.3) (rest_closed rest a.4)
    where
      by : (b : Bool) → Parted k d below rest b → (IsRest below → IsClosed cut below) → (IsRest rest → IsClosed cut rest) → IsClosed cut (tree k d below rest)
      by true p u v = ((λ c. absurd (never (cut k) c p.here)), u p.low, v p.later)
      by false p u v = let low : all_cut cut below ≡ true = all_from_has cut below p.low in ((λ _. low), closed_all cut below low, v p.later)

order-reached : (g : BoxKey → Bool) (meets : Rectangle → Bool) → Grows meets → (canvas : Rectangle) (k : BoxKey) (d : Item) (f : BoxForest) → IsApart same_key (tree k d f empty)
    → only (λ l. meets l.visible) (root_order (given g) canvas (tree k d f empty)) ≡ only (λ l. meets l.visible) (root_order (given g) canvas (tree k d (reached meets f) empty))
order-reached g meets grows canvas k d f a =
    let cut : BoxKey → Bool = λ j. not (has same_key j (tree k d (reached meets f) empty)) in
    let p : Leaf → Bool = λ l. meets l.visible in
    let root : cut k ≡ false = ap not (from_left (same_key k k) _ (same_key-refl k)) in
    let rest : IsRest meets cut f = λ j u. ap not (rw (differs same_key same_key-sound same_key-refl f j k u a.0) (or_none (has same_key j (reached meets f)))) in
    let far : AreFar meets grows cut canvas f = far_reached meets grows cut canvas f (λ j u. ap not (from_right (same_key j k) _ (from_left (has same_key j (reached meets f)) false u))) in
    let whole = tree k d f empty in
    let each : EachLeaf (IsOff meets grows cut canvas) (root_order (given g) canvas whole) =
    in_order (IsOff meets grows cut canvas) canvas (given g) whole (of_root meets grows cut canvas (record { above = []; here = box_data k d }) root, far_boxes meets grows cut canvas (box_data k d ∷ []) f refl far, tt) in
    let c : IsClosed cut f = rest_closed meets cut f a.3 rest in
    let left : pruned cut whole ≡ tree k d (reached meets f) empty = rw root (ap (λ z. tree k d z empty) (rest_pruned meets cut f a.3 rest)) in
    only_where p (λ l. not (cut l.owner) && p l) (root_order (given g) canvas whole) (agree cut p (root_order (given g) canvas whole) each)
    ∙ (sym (only_only (λ l. not (cut l.owner)) p (root_order (given g) canvas whole))
    ∙ ap (only p) (order-cut g cut canvas k d f c root ∙ ap (root_order (given g) canvas) left))
  where
    or_none : (b : Bool) → (b || false) ≡ b
    or_none true = refl
    or_none false = refl

    one : (c m : Bool) → (c ≡ true → m ≡ false) → m ≡ (not c && m)
    one true m h = h refl
    one false m h = refl

    agree : (cut : BoxKey → Bool) (p : Leaf → Bool) (xs : Entries Wrapper Leaf) → EachLeaf (λ l. cut l.owner ≡ true → p l ≡ false) xs → EachLeaf (λ l. p l ≡ (not (cut l.owner) && p l)) xs
    agree cut p nil h = tt
    agree cut p (leaf l xs) h = (one (cut l.owner) (p l) h.0, agree cut p xs h.1)
    agree cut p (group g inner xs) h = (agree cut p inner h.0, agree cut p xs h.1)

pub filtering : FilteringLaw
filtering g t a r meets grows =
    subst (λ z. only (λ l. meets l.visible) (root_order (given g) (canvas_of t.canvas) z) ≡ only (λ l. meets l.visible) (root_order (given g) (canvas_of t.canvas) (reached_tree meets z))) (sym r.2)
    (order-reached g meets grows (canvas_of t.canvas) t.root r.0 r.1 (subst (λ z. IsApart same_key z) r.2 a))

pub meeting_area : MeetingLaw
meeting_area t a r area =
    ap (meeting area) (given_list t a r)
    ∙ filtering (grouped_in t.boxes) (drawn t) (apart_drawn [] t.boxes a) (rooted_drawn t r) (meets_area area) (grows_area area)
