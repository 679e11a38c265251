-- Every leaf may be seen on the canvas.
use Rattle.std.proofs.Common.{◌≡◌, refl, ap, ◌∙◌, subst, Bool, true, false, not, ◌&&◌, cond, List, [], ◌∷◌, ◌+◌, ◌≤◌, ℤ, pos, ◌-ℤ◌, ◌≤ℤ◌, arith}
use Rattle.std.proofs.lemmas.Int.{ints}
use Rattle.std.specs.Prelude.{Option, Some, None, IsTrue, int_le}
use Rattle.rd_geom.specs.Plane.{Rectangle, right, bottom, has_none, meet, holds_pixel, IsWithin}
use Rattle.rd_geom.proofs.Pixels.{At, at_holds, holds_at, common_pixels, HasSome, some_of, first_at, last_at, shares_meets}
use Rattle.rd_geom.specs.declared.color.Color.{Color}
use Rattle.rd_style.specs.Classes.{clips}
use Rattle.rd_clip.specs.Clipping as clipping
use Rattle.rd_clip.specs.Clipping.{Entered, clipped, containing_chain, sought}
use Rattle.rd_keys.specs.Keys.{same_key}
use Rattle.rd_keys.specs.declared.entry.Part.{Part}
use Rattle.rd_keys.specs.declared.entry.Part.TheVariants.{Back, Border, Content, Outline}
use Rattle.rd_item.specs.declared.leaf.Leaf.{Leaf}
use Rattle.rd_item.specs.declared.leaf.Shape.{Shape}
use Rattle.rd_tree.specs.Forest.{IsApart}
use Rattle.rd_tree.specs.Document.{BoxForest}
use Rattle.rd_stack.specs.Paths.{BoxPath, is_root}
use Rattle.rd_stack.specs.Clips.{clip_of, entered}
use Rattle.rd_stack.specs.Parts.{leaf_at, shown, shape_of, is_seen, takes_hits}
use Rattle.rd_stack.specs.Painting.{paint}
use Rattle.rd_stack.specs.Fresh.{grouping, root_order}
use Rattle.rd_stack.specs.Laws.{IsOnCanvas}
use Rattle.rd_stack.proofs.Counting.Weights.{Weighs}
use Rattle.rd_stack.proofs.Counting.Takes.{root_fit}
use Rattle.rd_stack.proofs.Counting.Counted.{leaves_that, that-join, that-group, that-option_entry, leaf_weight, all-none, one}

-- a test of rectangles: has the first a pixel, and does it lie in the second?
abbrev pub lies_in : Rectangle → Rectangle → Bool
lies_in canvas v = not (has_none v) && int_le canvas.x v.x && int_le (right v) (right canvas) && int_le canvas.y v.y && int_le (bottom v) (bottom canvas)

record Inside (a b : Rectangle) : Type 0 where
  left : b.x ≤ℤ a.x
  right_end : right a ≤ℤ right b
  top : b.y ≤ℤ a.y
  bottom_end : bottom a ≤ℤ bottom b

inside_of : (a b : Rectangle) → has_none a ≡ false → IsWithin a b → Inside a b
inside_of a b e w =
    let s : HasSome a = some_of a e in
    let p : At b a.x a.y = holds_at b _ _ (w _ _ (at_holds a _ _ (first_at a s))) in
    let q : At b (right a -ℤ pos 1) (bottom a -ℤ pos 1) = holds_at b _ _ (w _ _ (at_holds a _ _ (last_at a s))) in
    record { left = omega (arith, ints); right_end = omega (arith, ints); top = omega (arith, ints); bottom_end = omega (arith, ints) }

both : (a b : Bool) → a ≡ true → b ≡ true → (a && b) ≡ true
both true b h k = k
both false b h k = cc

le_true : (a b : ℤ) → a ≤ℤ b → int_le a b ≡ true
le_true a b h = grind (arith, ints)

lies : (canvas v : Rectangle) → has_none v ≡ false → IsWithin v canvas → lies_in canvas v ≡ true
lies canvas v e w =
    let i : Inside v canvas = inside_of v canvas e w in
    both _ _ (both _ _ (both _ _ (both _ _ (rw e refl) (le_true _ _ i.left)) (le_true _ _ i.right_end)) (le_true _ _ i.top)) (le_true _ _ i.bottom_end)

split : (a b : Bool) → (a && b) ≡ true → (a ≡ true) × (b ≡ true)
split true b h = (refl, h)
split false b h = cc

true_le : (a b : ℤ) → int_le a b ≡ true → a ≤ℤ b
true_le a b h = grind (arith, ints)

not_true : (b : Bool) → not b ≡ true → b ≡ false
not_true true h = cc
not_true false h = refl

-- what passes the test is on the canvas
pub on_canvas : (canvas : Rectangle) (l : Leaf) → lies_in canvas l.visible ≡ true → IsOnCanvas canvas l
on_canvas canvas l h =
    let v = l.visible in
    let s4 = split _ (int_le (bottom v) (bottom canvas)) h in
    let s3 = split _ (int_le canvas.y v.y) s4.0 in
    let s2 = split _ (int_le (right v) (right canvas)) s3.0 in
    let s1 = split (not (has_none v)) (int_le canvas.x v.x) s2.0 in
    let some : has_none v ≡ false = not_true (has_none v) s1.0 in
    let a : canvas.x ≤ℤ v.x = true_le _ _ s1.1 in
    let b : right v ≤ℤ right canvas = true_le _ _ s2.1 in
    let c : canvas.y ≤ℤ v.y = true_le _ _ s3.1 in
    let d : bottom v ≤ℤ bottom canvas = true_le _ _ s4.1 in
    let w : IsWithin v canvas = λ x y p. inner canvas v a b c d x y p in
    let first : IsTrue (holds_pixel v v.x v.y) = at_holds v _ _ (first_at v (some_of v some)) in
    record { some = some; within = w; meets = shares_meets canvas v (record { x = v.x; y = v.y; first = w v.x v.y first; second = first }) }
  where
    inner : (canvas v : Rectangle) → canvas.x ≤ℤ v.x → right v ≤ℤ right canvas → canvas.y ≤ℤ v.y → bottom v ≤ℤ bottom canvas → IsWithin v canvas
    inner canvas v a b c d x y p =
        let q : At v x y = holds_at v x y p in
        at_holds canvas x y (record { left = omega (arith, ints); right = omega (arith, ints); top = omega (arith, ints); bottom = omega (arith, ints) })

within_first : (a b : Rectangle) → IsWithin (meet a b) a
within_first a b x y h =
    let t : IsTrue (holds_pixel a x y && holds_pixel b x y) = subst (λ t. IsTrue t) (common_pixels a b x y) h in
    grind arith

within_second : (a b : Rectangle) → IsWithin (meet a b) b
within_second a b x y h =
    let t : IsTrue (holds_pixel a x y && holds_pixel b x y) = subst (λ t. IsTrue t) (common_pixels a b x y) h in
    grind arith

clipped_within : (canvas : Rectangle) (chain : List Entered) → IsWithin (clipped canvas chain) canvas
clipped_within canvas [] x y h = h
clipped_within canvas (b ∷ bs) x y h = clipped_within canvas bs x y (one_less (clips b.style b.root) (clipped canvas bs) (clipping.padding_box b.style b.rect) x y h)
  where
    one_less : (c : Bool) (r q : Rectangle) → IsWithin (cond c (meet r q) r) r
    one_less true r q = within_first r q
    one_less false r q = λ x y h. h

module _ (canvas : Rectangle) where
  abbrev test : Leaf → Bool
  test l = not (lies_in canvas l.visible)

  visible_lies : (x : BoxPath) (outer : Rectangle) → has_none (meet outer (clip_of canvas x)) ≡ false → lies_in canvas (meet outer (clip_of canvas x)) ≡ true
  visible_lies x outer e =
      lies canvas (meet outer (clip_of canvas x)) e
      (λ p q h. clipped_within canvas (containing_chain (sought x.here.style.position) (entered x.above)) p q (within_second outer (clip_of canvas x) p q h))

  shown-lies : (x : BoxPath) (part : Part) (s : Option (Shape × Color)) → leaf_weight test (shown (clip_of canvas x) x.here part s) ≡ 0
  shown-lies x part None = refl
  shown-lies x part (Some s) = by (has_none (meet s.0.outer (clip_of canvas x))) refl
    where
      by : (b : Bool) → has_none (meet s.0.outer (clip_of canvas x)) ≡ b
          → leaf_weight test (cond b None (Some (record { owner = x.here.key; part = part; visible = meet s.0.outer (clip_of canvas x); shape = s.0; color = s.1; hits = takes_hits x.here.style.pointer }))) ≡ 0
      by true e = refl
      by false e = ap (λ b. one (not b)) (visible_lies x s.0.outer e)

  leaf-lies : (x : BoxPath) (part : Part) → leaf_weight test (leaf_at canvas x part) ≡ 0
  leaf-lies x part =
      elim (is_seen x.here.style.visibility) as (λ b. leaf_weight test (cond b (shown (clip_of canvas x) x.here part (shape_of canvas (is_root x) x.here part)) None) ≡ 0) [
        | true ↦ shown-lies x part (shape_of canvas (is_root x) x.here part)
        | false ↦ refl
      ]

  lying_parts : (x : BoxPath) → 0 + (leaves_that test (paint canvas Back x) + leaves_that test (paint canvas Border x) + leaves_that test (paint canvas Content x) + leaves_that test (paint canvas Outline x)) ≤ 0
  lying_parts x =
      let s = λ (part : Part). that-option_entry test (leaf_at canvas x part) ∙ leaf-lies x part in
      omega (arith, s Back, s Border, s Content, s Outline)

  pub none_off : (f : BoxForest) → IsApart same_key f → leaves_that test (root_order grouping canvas f) ≤ 0
  none_off f apart =
      let w : Weighs canvas (leaves_that test) (λ b. 0) (λ b. 0) = record { none = refl; join = that-join test; group = that-group test; parts = lying_parts } in
      omega (arith, root_fit canvas (leaves_that test) (λ b. 0) (λ b. 0) w f apart, all-none f)
