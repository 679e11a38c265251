-- Of boxes whose hull is off the canvas nothing may be seen.
use Rattle.std.proofs.Common.{◌≡◌, refl, ◌∙◌, subst, Bool, true, false, ◌&&◌, ◌||◌, cond, ℤ, inl, inr}
use Rattle.std.specs.Prelude.{Option, Some, None}
use Rattle.rd_geom.specs.Plane.{Rectangle, has_none, meet, meets, holds_pixel, IsWithin, hull_of, outset}
use Rattle.rd_geom.proofs.Pixels.{shares_meets}
use Rattle.rd_geom.specs.declared.color.Color.{Color}
use Rattle.rd_keys.specs.declared.entry.Part.{Part}
use Rattle.rd_keys.specs.declared.entry.Part.TheVariants.{Back, Border, Content, Outline}
use Rattle.rd_item.specs.declared.leaf.Shape.{Shape}
use Rattle.rd_tree.specs.Forest.{empty, tree}
use Rattle.rd_tree.specs.Document.{BoxForest, Document}
use Rattle.rd_tree.specs.Hulls.{extent, hull_in}
use Rattle.rd_tree.proofs.Linking.Standing.{cases}
use Rattle.rd_stack.specs.Paths.{BoxData}
use Rattle.rd_stack.specs.Fresh.{box_data}
use Rattle.rd_stack.specs.Parts.{is_seen, takes_hits, shown, shape_of}
use Rattle.rd_partial.specs.Looks.{hull_at}
use Rattle.rd_partial.specs.Internal.Inherited.{Inherited, below, clip_in, leaf_in}
use Rattle.rd_partial.specs.Internal.Touched.{IsTold, branch_shows, box_shows, leaf_shows, touched_shows}
use Rattle.rd_partial.specs.declared.look.BoxLook.{BoxLook}
use Rattle.rd_partial.proofs.Pass.Reach.{OuterIn, outer_in, hull_left, hull_right, within_first, within_through}
use Rattle.rd_partial.proofs.Touching.{branch_is}

module _ (H : Rectangle) (x y : ℤ) (off : holds_pixel H x y ≡ false) where
  not_in : (r : Rectangle) → IsWithin r H → holds_pixel r x y ≡ false
  not_in r w = elim (cases (holds_pixel r x y)) [
    | inl t ↦ let k : holds_pixel H x y ≡ true = w x y t in cc
    | inr t ↦ t
  ]

  off_shown : (clip : Rectangle) (b : BoxData) (part : Part) (q : Option (Shape × Color)) → OuterIn H q → leaf_shows (shown clip b part q) x y ≡ false
  off_shown clip b part None h = refl
  off_shown clip b part (Some s) h =
      elim (has_none (meet s.0.outer clip)) as (λ t. leaf_shows (cond t None (Some (record { owner = b.key; part = part; visible = meet s.0.outer clip; shape = s.0; color = s.1; hits = takes_hits b.style.pointer }))) x y ≡ false) [
        | true ↦ refl
        | false ↦ not_in (meet s.0.outer clip) (within_through (meet s.0.outer clip) s.0.outer H (within_first s.0.outer clip) h)
      ]

  module _ (s : Inherited) (b : BoxData) (root : s.root ≡ false) (held : IsWithin (outset b.rect b.style.outline_width) H) where
    off_part : (part : Part) → leaf_shows (leaf_in s b part) x y ≡ false
    off_part part = elim (is_seen b.style.visibility) as (λ t. leaf_shows (cond t (shown (clip_in s b.style) b part (shape_of s.canvas s.root b part)) None) x y ≡ false) [
      | true ↦ off_shown (clip_in s b.style) b part (shape_of s.canvas s.root b part) (outer_in H s b root held part)
      | false ↦ refl
    ]

    off_box : box_shows s b x y ≡ false
    off_box = rw (off_part Back, off_part Border, off_part Content, off_part Outline) refl

  no_pixel : (t : Bool) → ((t && false) || false) ≡ false
  no_pixel true = refl
  no_pixel false = refl

  off_forest : (s : Inherited) (f : BoxForest) → s.root ≡ false → IsWithin (hull_in f) H → touched_shows s f x y ≡ false
  off_forest s empty r h = refl
  off_forest s (tree k d ch nx) r h =
      let one = hull_of (extent d) (hull_in ch) in
      let in_one : IsWithin one H = within_through one (hull_of one (hull_in nx)) H (hull_left one (hull_in nx)) h in
      rw (
        off_box s (box_data k d) r (within_through (extent d) one H (hull_left (extent d) (hull_in ch)) in_one),
        off_forest (below s (box_data k d)) ch refl (within_through (hull_in ch) one H (hull_right (extent d) (hull_in ch)) in_one),
        off_forest s nx r (within_through (hull_in nx) (hull_of one (hull_in nx)) H (hull_right one (hull_in nx)) h),
      ) (no_pixel d.touched)

-- A pixel of the canvas is in no rectangle that has none of its pixels.
off_canvas : (canvas r : Rectangle) (x y : ℤ) → meets canvas r ≡ false → holds_pixel canvas x y ≡ true → holds_pixel r x y ≡ false
off_canvas canvas r x y m c = elim (cases (holds_pixel r x y)) [
  | inl t ↦ let k : meets canvas r ≡ true = shares_meets canvas r (record { x = x; y = y; first = c; second = t }) in cc
  | inr t ↦ t
]

-- of a box whose hull is off the canvas, and of those below it
pub branch_off : (s : Inherited) (t : Document) (v : BoxLook) → IsTold t v → s.root ≡ false → meets s.canvas v.hull ≡ false → (x y : ℤ) → holds_pixel s.canvas x y ≡ true
    → branch_shows s v t x y ≡ false
branch_off s t v w r m x y c =
    let d = w.told.item in
    let ch = w.told.below in
    let H = hull_at d ch in
    let off : holds_pixel H x y ≡ false = subst (λ z. holds_pixel z x y ≡ false) w.told.hull_is (off_canvas s.canvas v.hull x y m c) in
    branch_is s t w.key v w.told w.marks x y
    ∙ rw (
      off_box H x y off s (box_data w.key d) r (hull_left (extent d) (hull_in ch)),
      off_forest H x y off (below s (box_data w.key d)) ch refl (hull_right (extent d) (hull_in ch)),
    ) (no_pixel H x y off d.touched)
