-- Which leaves may be seen so, as tests tell.
use Rattle.std.proofs.Common.{◌≡◌, ℕ, ℤ, pos, ◌^◌, ◌<◌, ◌&&◌, Bool, true, false, List, Some, refl, sym, ap, subst, arith}
use Rattle.std.specs.Prelude.{int_le, IsTrue, IsFalse}
use Rattle.std.specs.Ordering.{int_eq}
use Rattle.std.proofs.lemmas.Int.{ints}
use Rattle.rd_geom.specs.Plane.{Rectangle, IsPlaced, IsWithin, has_none, no_pixels, right, bottom}
use Rattle.rd_geom.proofs.Pixels.{edges_within}
use Rattle.rd_geom.proofs.Hulls.{Holds, within_holds}
use Rattle.rd_geom.specs.declared.color.Color.{Color}
use Rattle.rd_item.specs.Items.{Made}
use Rattle.rd_keys.specs.Keys.{BoxKey}
use Rattle.rd_keys.specs.declared.entry.Part.{Part}
use Rattle.rd_wire.specs.Fields.{IsKey, IsColor}
use Rattle.rd_wire.specs.Leaves.{name_form, place_form, look_form, leaf_form, FitsLeaf, IsSeen}
use Rattle.rd_wire.specs.Internal.LeafReading.{lies_in, is_plain, both_zero, is_seen, allowed, name_at, place_at, look_at, item_of, leaf_at}
use Rattle.rd_wire.proofs.Parts.{Reads, reads_pair, reads_made, reads_64, some_is}
use Rattle.rd_wire.proofs.Spelled.{both, le_true, true_le, let_through, Every, reads_rect, reads_key, reads_part, reads_color, reads_flag}

lies_within : (a b : Rectangle) → lies_in a b ≡ true → IsWithin a b
lies_within a b h =
    let p = both _ (int_le (bottom a) (bottom b)) h in
    let q = both _ (int_le (right a) (right b)) p.0 in
    let r = both (int_le b.x a.x) (int_le b.y a.y) q.0 in
    edges_within a b (le_true _ _ r.0) (le_true _ _ r.1) (le_true _ _ q.1) (le_true _ _ p.1)

within_lies : (a b : Rectangle) → has_none a ≡ false → IsWithin a b → lies_in a b ≡ true
within_lies a b e w =
    let s : Holds b a = within_holds a b e w in
    rw (true_le b.x a.x s.left, true_le b.y a.y s.top, true_le (right a) (right b) s.right, true_le (bottom a) (bottom b) s.bottom) refl

pub lies_told : (a b : Rectangle) (r : Bool) → has_none a ≡ false → (IsTrue r → IsWithin a b) → (IsFalse r → has_none a ≡ false → IsWithin a b → ⊥) → r ≡ lies_in a b
lies_told a b true e t f = sym (within_lies a b e (t refl))
lies_told a b false e t f = by (lies_in a b) refl
  where
    by : (r : Bool) → lies_in a b ≡ r → false ≡ r
    by true h = absurd (f refl e (lies_within a b h))
    by false h = refl

zero_true : (a b : ℤ) → both_zero a b ≡ true → (a ≡ pos 0) × (b ≡ pos 0)
zero_true a b h = let p = both (int_eq a (pos 0)) (int_eq b (pos 0)) h in (is_zero a p.0, is_zero b p.1)
  where
    is_zero : (z : ℤ) → int_eq z (pos 0) ≡ true → z ≡ pos 0
    is_zero z h = grind (arith, ints)

plain_true : (r : Rectangle) → is_plain r ≡ true → IsTrue (has_none r) → r ≡ no_pixels
plain_true r h n =
    let p : (both_zero r.x r.y && both_zero r.w r.h) ≡ true = rw n at h in
    let q = both (both_zero r.x r.y) (both_zero r.w r.h) p in
    let a = zero_true r.x r.y q.0 in
    let b = zero_true r.w r.h q.1 in
    let ax : r.x ≡ pos 0 = a.0 in
    let ay : r.y ≡ pos 0 = a.1 in
    let bw : r.w ≡ pos 0 = b.0 in
    let bh : r.h ≡ pos 0 = b.1 in
    all_zero r.x r.y r.w r.h ax ay bw bh
  where
    all_zero : (x y w h : ℤ) → x ≡ pos 0 → y ≡ pos 0 → w ≡ pos 0 → h ≡ pos 0 → ◌≡◌ {A = Rectangle} (record { x = x; y = y; w = w; h = h }) no_pixels
    all_zero x y w h a b c d = rw (a, b, c, d) refl

true_plain : (r : Rectangle) → (IsTrue (has_none r) → r ≡ no_pixels) → is_plain r ≡ true
true_plain r h = by (has_none r) refl
  where
    by : (b : Bool) → has_none r ≡ b → is_plain r ≡ true
    by true e = ap is_plain (h e)
    by false e = rw e refl

-- what is seen so, said of four rectangles
pub record Seen (canvas visible outer inner : Rectangle) : Type 0 where
  pub some : has_none visible ≡ false
  pub in_outer : IsWithin visible outer
  pub on_canvas : IsWithin visible canvas
  pub plain : IsTrue (has_none inner) → inner ≡ no_pixels

pub seen_true : (canvas visible outer inner : Rectangle) → is_seen canvas visible outer inner ≡ true → Seen canvas visible outer inner
seen_true canvas visible outer inner h = by (has_none visible) refl
  where
    by : (b : Bool) → has_none visible ≡ b → Seen canvas visible outer inner
    by true e = let no : false ≡ true = rw e at h in absurd cc
    by false e =
        let p : (lies_in visible outer && lies_in visible canvas && is_plain inner) ≡ true = rw e at h in
        let q = both (lies_in visible outer && lies_in visible canvas) (is_plain inner) p in
        let r = both (lies_in visible outer) (lies_in visible canvas) q.0 in
        record { some = e; in_outer = lies_within visible outer r.0; on_canvas = lies_within visible canvas r.1; plain = plain_true inner q.1 }

pub true_seen : (canvas visible outer inner : Rectangle) → Seen canvas visible outer inner → is_seen canvas visible outer inner ≡ true
true_seen canvas visible outer inner s =
    let e = s.some in
    let a = within_lies visible outer e s.in_outer in
    let b = within_lies visible canvas e s.on_canvas in
    let c = true_plain inner s.plain in
    rw (e, a, b, c) refl

-- ---- leaves

abbrev Places : Type 0
Places = Rectangle × (Rectangle × Rectangle)

abbrev place : Places → List ℕ
place p = place_form p.0 p.1.0 p.1.1

abbrev FitsPlace : Rectangle → Places → Type 0
FitsPlace canvas p = (IsPlaced p.0 × (IsPlaced p.1.0 × IsPlaced p.1.1)) × Seen canvas p.0 p.1.0 p.1.1

reads_place : (canvas : Rectangle) → Reads (FitsPlace canvas) place (place_at canvas)
unfolding place_at place_form
reads_place canvas = reads_made (reads_pair reads_rect (reads_pair reads_rect reads_rect)) (allowed canvas) (λ p. p) (FitsPlace canvas)
    (λ p q f e. let k = let_through (is_seen canvas p.0 p.1.0 p.1.1) p q e in
    (sym k.1, subst (FitsPlace canvas) k.1 (f, seen_true canvas p.0 p.1.0 p.1.1 k.0)))
    (λ p f. (f.0, let t = true_seen canvas p.0 p.1.0 p.1.1 f.1 in rw t refl))

reads_name : Reads (λ (p : BoxKey × Part). IsKey p.0 × Every p.1) (λ p. name_form p.0 p.1) name_at
unfolding name_at name_form
reads_name = reads_pair reads_key reads_part

reads_look : Reads (λ (p : Color × (Bool × ℕ)). IsColor p.0 × (Every p.1.0 × (p.1.1 < 2 ^ 64))) (λ p. look_form p.0 p.1.0 p.1.1) look_at
unfolding look_at look_form
reads_look = reads_pair reads_color (reads_pair reads_flag reads_64)

abbrev pub GoodLeaf : Rectangle → Made → Type 0
GoodLeaf canvas m = FitsLeaf m × IsSeen canvas m.leaf

abbrev fields_of : Made → (BoxKey × Part) × (Places × (Color × (Bool × ℕ)))
fields_of m = ((m.leaf.owner, m.leaf.part), ((m.leaf.visible, (m.leaf.shape.outer, m.leaf.shape.inner)), (m.leaf.color, (m.leaf.hits, m.made_at))))

pub reads_leaf : (canvas : Rectangle) → Reads (GoodLeaf canvas) leaf_form (leaf_at canvas)
unfolding leaf_at
reads_leaf canvas = reads_made (reads_pair reads_name (reads_pair (reads_place canvas) reads_look)) (λ p. Some (item_of p)) (λ m. fields_of m) (GoodLeaf canvas)
    (λ p m f e. let k = some_is (item_of p) m e in (
      ap (λ (n : Made). fields_of n) (sym k),
      subst (GoodLeaf canvas) k (
        record { owner = f.0.0; visible = f.1.0.0.0; outer = f.1.0.0.1.0; inner = f.1.0.0.1.1; color = f.1.1.0; made = f.1.1.1.1 },
        record { some = f.1.0.1.some; in_outer = f.1.0.1.in_outer; on_canvas = f.1.0.1.on_canvas; inner = f.1.0.1.plain },
      ),
    ))
    (λ m f. (((f.0.owner, tt), (((f.0.visible, (f.0.outer, f.0.inner)), record { some = f.1.some; in_outer = f.1.in_outer; on_canvas = f.1.on_canvas; plain = f.1.inner }), (f.0.color, (tt, f.0.made)))), refl))
