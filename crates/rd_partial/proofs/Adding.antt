-- Areas that gain pixels, one test after another.
use Rattle.std.proofs.Common.{◌≡◌, refl, ap, ◌∙◌, sym, Bool, true, false, ◌&&◌, ◌||◌, ℤ, List, [], ◌∷◌, ◌++◌}
use Rattle.std.specs.List.{list_any}
use Rattle.rd_geom.specs.Plane.{Rectangle, meet, holds_pixel}
use Rattle.rd_geom.specs.Canvas.{canvas_of}
use Rattle.rd_geom.specs.Areas.{Region, in_area}
use Rattle.rd_geom.proofs.Pixels.{common_pixels}
use Rattle.rd_keys.specs.declared.entry.Part.TheVariants.{Back, Border, Content, Outline}
use Rattle.rd_stack.specs.Paths.{BoxData}
use Rattle.rd_partial.specs.Internal.Inherited.{Inherited, leaf_in}
use Rattle.rd_partial.specs.Internal.Touched.{Joins, leaf_shows, box_shows}

abbrev Test : Type 0
Test = ℤ → ℤ → Bool

both_added : (p q h o : Bool) → ((q && h) || ((p && h) || o)) ≡ (((p || q) && h) || o)
both_added true true true o = refl
both_added true true false o = refl
both_added true false true o = refl
both_added true false false o = refl
both_added false true true o = refl
both_added false true false o = refl
both_added false false true o = refl
both_added false false false o = refl

-- one after another
pub joins_then : (p q : Test) (a b c : Region) → Joins p a b → Joins q b c → Joins (λ x y. p x y || q x y) a c
joins_then p q a b c h k = record {
  size = k.size ∙ h.size;
  pixels = λ x y.
      k.pixels x y
      ∙ ap (λ z. (q x y && holds_pixel (canvas_of z) x y) || in_area b x y) h.size
      ∙ ap (λ z. (q x y && holds_pixel (canvas_of a.size) x y) || z) (h.pixels x y)
      ∙ both_added (p x y) (q x y) (holds_pixel (canvas_of a.size) x y) (in_area a x y);
}

-- by a test that is the same
pub joins_same : (p q : Test) (a b : Region) → ((x y : ℤ) → p x y ≡ q x y) → Joins p a b → Joins q a b
joins_same p q a b e h = record {
  size = h.size;
  pixels = λ x y. h.pixels x y ∙ ap (λ z. (z && holds_pixel (canvas_of a.size) x y) || in_area a x y) (e x y);
}

-- by a test that nothing passes
pub joins_none : (p : Test) (a : Region) → ((x y : ℤ) → p x y ≡ false) → Joins p a a
joins_none p a e = record { size = refl; pixels = λ x y. sym (ap (λ z. (z && holds_pixel (canvas_of a.size) x y) || in_area a x y) (e x y)) }

-- by a test that no pixel of the canvas passes
pub joins_off : (p : Test) (a : Region) → ((x y : ℤ) → holds_pixel (canvas_of a.size) x y ≡ true → p x y ≡ false) → Joins p a a
joins_off p a e = record { size = refl; pixels = λ x y. sym (by (p x y) (holds_pixel (canvas_of a.size) x y) (in_area a x y) (e x y)) }
  where
    by : (t h o : Bool) → (h ≡ true → t ≡ false) → ((t && h) || o) ≡ o
    by t true o f = ap (λ z. (z && true) || o) (f refl)
    by true false o f = refl
    by false false o f = refl

-- the pixels of a rectangle
pub joins_rect : (r : Rectangle) (a b : Region) → b.size ≡ a.size → ((x y : ℤ) → in_area b x y ≡ (holds_pixel (meet r (canvas_of a.size)) x y || in_area a x y)) → Joins (λ x y. holds_pixel r x y) a b
joins_rect r a b e h = record { size = e; pixels = λ x y. h x y ∙ ap (λ z. z || in_area a x y) (common_pixels r (canvas_of a.size) x y) }

or_right : (a b c d : Bool) → (((a || b) || c) || d) ≡ (a || (b || (c || d)))
or_right true b c d = refl
or_right false true c d = refl
or_right false false true d = refl
or_right false false false d = refl

-- the four parts of a box
pub joins_box : (s : Inherited) (b : BoxData) (a a1 a2 a3 a4 : Region) → Joins (leaf_shows (leaf_in s b Back)) a a1 → Joins (leaf_shows (leaf_in s b Border)) a1 a2 → Joins (leaf_shows (leaf_in s b Content)) a2 a3 → Joins (leaf_shows (leaf_in s b Outline)) a3 a4
    → Joins (box_shows s b) a a4
joins_box s b a a1 a2 a3 a4 h1 h2 h3 h4 =
    let t1 = leaf_shows (leaf_in s b Back) in
    let t2 = leaf_shows (leaf_in s b Border) in
    let t3 = leaf_shows (leaf_in s b Content) in
    let t4 = leaf_shows (leaf_in s b Outline) in
    joins_same (λ x y. ((t1 x y || t2 x y) || t3 x y) || t4 x y) (box_shows s b) a a4 (λ x y. or_right (t1 x y) (t2 x y) (t3 x y) (t4 x y))
    (joins_then (λ x y. (t1 x y || t2 x y) || t3 x y) t4 a a3 a4
    (joins_then (λ x y. t1 x y || t2 x y) t3 a a2 a3 (joins_then t1 t2 a a1 a2 h1 h2) h3) h4)

pub any-append : {A : Type 0} (p : A → Bool) (xs ys : List A) → list_any p (xs ++ ys) ≡ (list_any p xs || list_any p ys)
any-append p [] ys = refl
any-append p (x ∷ xs) ys = by (p x) (any-append p xs ys)
  where
    by : (t : Bool) → list_any p (xs ++ ys) ≡ (list_any p xs || list_any p ys) → (t || list_any p (xs ++ ys)) ≡ ((t || list_any p xs) || list_any p ys)
    by true h = refl
    by false h = h
