-- What tests of equal values say.
use Rattle.std.proofs.Common.{◌≡◌, Bool, true, false, List, [], ◌∷◌, refl, sym}
use Rattle.std.specs.Prelude.{◌&&◌, ◌==◌}
use Rattle.std.specs.Bool.{beq}
use Rattle.std.specs.Ordering.{int_eq}
use Rattle.std.proofs.lemmas.Bool.{and_parts, and_from}
use Rattle.std.proofs.lemmas.Bool.Decides.{Decides-eqb, Decides-int_eq}
use Rattle.rd_geom.specs.Plane.{Rectangle}
use Rattle.rd_geom.specs.declared.color.Color.{Color}
use Rattle.rd_geom.specs.declared.blend.Blend.{Blend}
use Rattle.rd_geom.specs.declared.blend.Blend.TheVariants.{Normal, Multiply, Screen, Darken, Lighten}
use Rattle.rd_item.specs.declared.leaf.Leaf.{Leaf}
use Rattle.rd_keys.specs.Keys.{same_key}
use Rattle.rd_keys.specs.declared.entry.EntryKey.TheVariants as key
use Rattle.rd_keys.proofs.Keys.{same_key-sound, same_key-refl}
use Rattle.rd_list.specs.Wrappers.{Wrapper}
use Rattle.rd_check.specs.Internal.Finding.{same_corner, same_extent, same_rect, same_shape, same_area, same_look, same_color, same_mode, same_values, same_group, same_groups, leaf_name}

-- ---- rectangles, colours, modes

rect_is : (a b : Rectangle) → same_rect a b ≡ true → a ≡ b
rect_is a b h =
    let p = and_parts (same_corner a b) (same_extent a b) h in
    let q = and_parts (int_eq a.x b.x) (int_eq a.y b.y) p.0 in
    let r = and_parts (int_eq a.w b.w) (int_eq a.h b.h) p.1 in
    from a b ((Decides-int_eq a.x b.x).0 q.0) ((Decides-int_eq a.y b.y).0 q.1) ((Decides-int_eq a.w b.w).0 r.0) ((Decides-int_eq a.h b.h).0 r.1)
  where
    from : (a b : Rectangle) → a.x ≡ b.x → a.y ≡ b.y → a.w ≡ b.w → a.h ≡ b.h → a ≡ b
    from a b p q r s = λ i. record { x = p i; y = q i; w = r i; h = s i }

rect_same : (a : Rectangle) → same_rect a a ≡ true
rect_same a =
    and_from (same_corner a a) (same_extent a a)
    (and_from (int_eq a.x a.x) (int_eq a.y a.y) ((Decides-int_eq a.x a.x).1 refl) ((Decides-int_eq a.y a.y).1 refl))
    (and_from (int_eq a.w a.w) (int_eq a.h a.h) ((Decides-int_eq a.w a.w).1 refl) ((Decides-int_eq a.h a.h).1 refl))

color_is : (a b : Color) → same_color a b ≡ true → a ≡ b
color_is a b h =
    let p = and_parts ((a.r == b.r) && (a.g == b.g) && (a.b == b.b)) (a.a == b.a) h in
    let q = and_parts ((a.r == b.r) && (a.g == b.g)) (a.b == b.b) p.0 in
    let r = and_parts (a.r == b.r) (a.g == b.g) q.0 in
    from a b ((Decides-eqb a.r b.r).0 r.0) ((Decides-eqb a.g b.g).0 r.1) ((Decides-eqb a.b b.b).0 q.1) ((Decides-eqb a.a b.a).0 p.1)
  where
    from : (x y : Color) → x.r ≡ y.r → x.g ≡ y.g → x.b ≡ y.b → x.a ≡ y.a → x ≡ y
    from x y p q r s = λ i. record { r = p i; g = q i; b = r i; a = s i }

color_same : (a : Color) → same_color a a ≡ true
color_same a =
    and_from ((a.r == a.r) && (a.g == a.g) && (a.b == a.b)) (a.a == a.a)
    (and_from ((a.r == a.r) && (a.g == a.g)) (a.b == a.b)
    (and_from (a.r == a.r) (a.g == a.g) ((Decides-eqb a.r a.r).1 refl) ((Decides-eqb a.g a.g).1 refl)) ((Decides-eqb a.b a.b).1 refl)) ((Decides-eqb a.a a.a).1 refl)

mode_is : (a b : Blend) → same_mode a b ≡ true → a ≡ b
mode_is Normal Normal h = refl
mode_is Multiply Multiply h = refl
mode_is Screen Screen h = refl
mode_is Darken Darken h = refl
mode_is Lighten Lighten h = refl
mode_is _ _ h = absurd (cc)

mode_same : (a : Blend) → same_mode a a ≡ true
mode_same Normal = refl
mode_same Multiply = refl
mode_same Screen = refl
mode_same Darken = refl
mode_same Lighten = refl

flag_is : (a b : Bool) → beq a b ≡ true → a ≡ b
flag_is true true h = refl
flag_is true false h = sym h
flag_is false true h = h
flag_is false false h = refl

flag_same : (a : Bool) → beq a a ≡ true
flag_same true = refl
flag_same false = refl

-- ---- leaves of one name

pub leaf_is : (a b : Leaf) → leaf_name a ≡ leaf_name b → same_values a b ≡ true → a ≡ b
leaf_is a b e h =
    let p = and_parts (same_area a b) (same_look a b) h in
    let q = and_parts (same_rect a.visible b.visible) (same_shape a.shape b.shape) p.0 in
    let r = and_parts (same_rect a.shape.outer b.shape.outer) (same_rect a.shape.inner b.shape.inner) q.1 in
    let s = and_parts (same_color a.color b.color) (beq a.hits b.hits) p.1 in
    let f : key.Leaf a.owner a.part ≡ key.Leaf b.owner b.part = e in
    let k : a.owner ≡ b.owner = cc in
    let m : a.part ≡ b.part = cc in
    from a b k m (rect_is a.visible b.visible q.0) (rect_is a.shape.outer b.shape.outer r.0) (rect_is a.shape.inner b.shape.inner r.1)
    (color_is a.color b.color s.0) (flag_is a.hits b.hits s.1)
  where
    from : (a b : Leaf) → a.owner ≡ b.owner → a.part ≡ b.part → a.visible ≡ b.visible → a.shape.outer ≡ b.shape.outer → a.shape.inner ≡ b.shape.inner
        → a.color ≡ b.color → a.hits ≡ b.hits → a ≡ b
    from a b k m v o n c h = λ i. record { owner = k i; part = m i; visible = v i; shape = record { outer = o i; inner = n i }; color = c i; hits = h i }

pub leaf_same : (a : Leaf) → same_values a a ≡ true
leaf_same a =
    and_from (same_area a a) (same_look a a)
    (and_from (same_rect a.visible a.visible) (same_shape a.shape a.shape) (rect_same a.visible)
    (and_from (same_rect a.shape.outer a.shape.outer) (same_rect a.shape.inner a.shape.inner) (rect_same a.shape.outer) (rect_same a.shape.inner)))
    (and_from (same_color a.color a.color) (beq a.hits a.hits) (color_same a.color) (flag_same a.hits))

-- ---- groups

group_is : (a b : Wrapper) → same_group a b ≡ true → a ≡ b
group_is a b h =
    let p = and_parts (same_key a.key b.key && (a.opacity == b.opacity)) (same_mode a.blend b.blend) h in
    let q = and_parts (same_key a.key b.key) (a.opacity == b.opacity) p.0 in
    from a b (same_key-sound a.key b.key q.0) ((Decides-eqb a.opacity b.opacity).0 q.1) (mode_is a.blend b.blend p.1)
  where
    from : (a b : Wrapper) → a.key ≡ b.key → a.opacity ≡ b.opacity → a.blend ≡ b.blend → a ≡ b
    from a b k o m = λ i. record { key = k i; opacity = o i; blend = m i }

group_same : (a : Wrapper) → same_group a a ≡ true
group_same a =
    and_from (same_key a.key a.key && (a.opacity == a.opacity)) (same_mode a.blend a.blend)
    (and_from (same_key a.key a.key) (a.opacity == a.opacity) (same_key-refl a.key) ((Decides-eqb a.opacity a.opacity).1 refl)) (mode_same a.blend)

pub groups_are : (xs ys : List Wrapper) → same_groups xs ys ≡ true → xs ≡ ys
groups_are [] [] h = refl
groups_are [] (y ∷ ys) h = absurd (cc)
groups_are (x ∷ xs) [] h = absurd (cc)
groups_are (x ∷ xs) (y ∷ ys) h =
    let p = and_parts (same_group x y) (same_groups xs ys) h in
    let first : x ≡ y = group_is x y p.0 in
    let rest : xs ≡ ys = groups_are xs ys p.1 in
    λ i. first i ∷ rest i

pub groups_same : (xs : List Wrapper) → same_groups xs xs ≡ true
groups_same [] = refl
groups_same (x ∷ xs) = and_from (same_group x x) (same_groups xs xs) (group_same x) (groups_same xs)
