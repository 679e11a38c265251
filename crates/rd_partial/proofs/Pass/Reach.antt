-- A box whose hull is not wanted gives nothing, nor does any box below it.
use Rattle.std.proofs.Common.{◌≡◌, refl, ap, sym, subst, Bool, true, false, ◌&&◌, cond, pos, ℕ, ◌+ℤ◌, ◌-ℤ◌, arith, inl, inr}
use Rattle.std.proofs.lemmas.Int.{ints}
use Rattle.std.specs.Prelude.{Option, Some, None, option_map, IsTrue, nat_lt}
use Rattle.rd_geom.specs.Plane.{Rectangle, has_none, meet, holds_pixel, IsWithin, hull_of, around, no_pixels, outset}
use Rattle.rd_geom.proofs.Pixels.{At, at_holds, holds_at, common_pixels, left_of, right_of, none_is_within, within_around_left, within_around_right, inset_pixels}
use Rattle.rd_geom.specs.declared.color.Color.{Color}
use Rattle.rd_keys.specs.declared.entry.Part.{Part}
use Rattle.rd_keys.specs.declared.entry.Part.TheVariants.{Back, Border, Content, Outline}
use Rattle.rd_item.specs.declared.leaf.Shape.{Shape}
use Rattle.rd_list.specs.Entries.{nil, option_entry}
use Rattle.rd_tree.specs.Forest.{empty, tree}
use Rattle.rd_tree.specs.Document.{BoxForest}
use Rattle.rd_tree.specs.Hulls.{extent, hull_in}
use Rattle.rd_tree.proofs.Linking.Standing.{cases}
use Rattle.rd_stack.specs.Paths.{BoxData}
use Rattle.rd_stack.specs.Fresh.{box_data}
use Rattle.rd_stack.specs.Parts.{is_seen, takes_hits, has_border, solid, frame, shown, shape_of}
use Rattle.rd_stack.specs.Clips.{padding_box}
use Rattle.rd_partial.specs.Internal.Inherited.{Inherited}
use Rattle.rd_partial.specs.Internal.Inherited.{below, clip_in}
use Rattle.rd_partial.specs.Internal.Given.{gives, if_wanted}
use Rattle.rd_partial.proofs.Pass.Pruned.{GiveNone}

pub within_through : (a b c : Rectangle) → IsWithin a b → IsWithin b c → IsWithin a c
within_through a b c h k x y p = k x y (h x y p)

pub within_first : (a b : Rectangle) → IsWithin (meet a b) a
within_first a b x y h = left_of (holds_pixel a x y) (holds_pixel b x y) (subst (λ t. IsTrue t) (common_pixels a b x y) h)

pub hull_left : (a b : Rectangle) → IsWithin a (hull_of a b)
hull_left a b = by (has_none a) (has_none b) refl refl
  where
    by : (s t : Bool) → has_none a ≡ s → has_none b ≡ t → IsWithin a (cond s (cond t no_pixels b) (cond t a (around a b)))
    by true true e f = none_is_within a no_pixels e
    by true false e f = none_is_within a b e
    by false true e f = λ x y h. h
    by false false e f = within_around_left a b

pub hull_right : (a b : Rectangle) → IsWithin b (hull_of a b)
hull_right a b = by (has_none a) (has_none b) refl refl
  where
    by : (s t : Bool) → has_none a ≡ s → has_none b ≡ t → IsWithin b (cond s (cond t no_pixels b) (cond t a (around a b)))
    by true true e f = none_is_within b no_pixels f
    by true false e f = λ x y h. h
    by false true e f = none_is_within b a f
    by false false e f = within_around_right a b

in_grown : (r : Rectangle) (n : ℕ) → IsWithin r (outset r n)
in_grown r n x y h =
    let p : At r x y = holds_at r x y h in
    at_holds (outset r n) x y (record { left = omega (arith, ints, p.left); right = omega (arith, ints, p.right); top = omega (arith, ints, p.top); bottom = omega (arith, ints, p.bottom) })

in_padding : (b : BoxData) → IsWithin (padding_box b) b.rect
in_padding b x y h =
    let w = b.style.border_width in
    let f : Bool = holds_pixel b.rect (x -ℤ pos w.left) (y -ℤ pos w.top) in
    let l : Bool = holds_pixel b.rect (x +ℤ pos w.right) (y +ℤ pos w.bottom) in
    let both : IsTrue (f && l) = subst (λ t. IsTrue t) (inset_pixels b.rect w.top w.right w.bottom w.left x y) h in
    let p : At b.rect (x -ℤ pos w.left) (y -ℤ pos w.top) = holds_at b.rect (x -ℤ pos w.left) (y -ℤ pos w.top) (left_of f l both) in
    let q : At b.rect (x +ℤ pos w.right) (y +ℤ pos w.bottom) = holds_at b.rect (x +ℤ pos w.right) (y +ℤ pos w.bottom) (right_of f l both) in
    at_holds b.rect x y (record { left = omega (arith, ints, p.left); right = omega (arith, ints, q.right); top = omega (arith, ints, p.top); bottom = omega (arith, ints, q.bottom) })

-- The shape of a part of a box lies in H.
abbrev pub OuterIn : Rectangle → Option (Shape × Color) → Type 0
OuterIn H None = Unit {0}
OuterIn H (Some s) = IsWithin s.0.outer H

module _ (H : Rectangle) (s : Inherited) (b : BoxData) (root : s.root ≡ false) (held : IsWithin (outset b.rect b.style.outline_width) H) where
  in_rect : IsWithin b.rect H
  in_rect = within_through b.rect (outset b.rect b.style.outline_width) H (in_grown b.rect b.style.outline_width) held

  pub outer_in : (part : Part) → OuterIn H (shape_of s.canvas s.root b part)
  outer_in Back = subst (λ t. IsWithin (cond t s.canvas b.rect) H) (sym root) in_rect
  outer_in Border = elim (has_border b.style.border_width) as (λ t. OuterIn H (cond t (Some (frame b.rect (padding_box b), b.style.border_color)) None)) [ true ↦ in_rect | false ↦ tt ]
  outer_in Content = elim b.style.content as (λ o. OuterIn H (option_map (λ c. (solid (padding_box b), c)) o)) [ None ↦ tt | Some c ↦ within_through (padding_box b) b.rect H (in_padding b) in_rect ]
  outer_in Outline = elim (nat_lt 0 b.style.outline_width) as (λ t. OuterIn H (cond t (Some (frame (outset b.rect b.style.outline_width) b.rect, b.style.outline_color)) None)) [ true ↦ held | false ↦ tt ]

module _ (wants : Rectangle → Bool) (n : ℕ) (grows : (a b : Rectangle) → IsWithin a b → wants a ≡ true → wants b ≡ true) (H : Rectangle) (unwanted : wants H ≡ false) where
  not_wanted : (r : Rectangle) → IsWithin r H → wants r ≡ false
  not_wanted r w = elim (cases (wants r)) [
    | inl t ↦ let k : wants H ≡ true = grows r H w t in cc
    | inr t ↦ t
  ]

  none_shown : (clip : Rectangle) (b : BoxData) (part : Part) (q : Option (Shape × Color)) → OuterIn H q → if_wanted wants n (shown clip b part q) ≡ None
  none_shown clip b part None h = refl
  none_shown clip b part (Some s) h =
      elim (has_none (meet s.0.outer clip)) as (λ t. if_wanted wants n (cond t None (Some (record { owner = b.key; part = part; visible = meet s.0.outer clip; shape = s.0; color = s.1; hits = takes_hits b.style.pointer }))) ≡ None) [
        | true ↦ refl
        | false ↦ rw (not_wanted (meet s.0.outer clip) (within_through (meet s.0.outer clip) s.0.outer H (within_first s.0.outer clip) h)) refl
      ]

  module _ (s : Inherited) (b : BoxData) (root : s.root ≡ false) (held : IsWithin (outset b.rect b.style.outline_width) H) where
    none_part : (part : Part) → gives wants n s b part ≡ nil
    none_part part = ap option_entry (elim (is_seen b.style.visibility) as (λ t. if_wanted wants n (cond t (shown (clip_in s b.style) b part (shape_of s.canvas s.root b part)) None) ≡ None) [
      | true ↦ none_shown (clip_in s b.style) b part (shape_of s.canvas s.root b part) (outer_in H s b root held part)
      | false ↦ refl
    ])

  pub give_none : (s : Inherited) (f : BoxForest) → s.root ≡ false → IsWithin (hull_in f) H → GiveNone below (gives wants n) s f
  give_none s empty r h = tt
  give_none s (tree k d ch nx) r h =
      let one = hull_of (extent d) (hull_in ch) in
      let in_one : IsWithin one H = within_through one (hull_of one (hull_in nx)) H (hull_left one (hull_in nx)) h in (
        none_part s (box_data k d) r (within_through (extent d) one H (hull_left (extent d) (hull_in ch)) in_one),
        give_none (below s (box_data k d)) ch refl (within_through (hull_in ch) one H (hull_right (extent d) (hull_in ch)) in_one),
        give_none s nx r (within_through (hull_in nx) (hull_of one (hull_in nx)) H (hull_right one (hull_in nx)) h),
      )

  pub none_of : (s : Inherited) (b : BoxData) → s.root ≡ false → IsWithin (outset b.rect b.style.outline_width) H → (part : Part) → gives wants n s b part ≡ nil
  none_of s b r h part = none_part s b r h part
