-- Trees without blend modes and isolation are painted as they were before there were any.
use Rattle.std.proofs.Common.{◌≡◌, refl, ap, ◌∙◌, Bool, true, false, not, ◌&&◌, ◌||◌, cond, List, [], ◌∷◌, ◌++◌, pos, nat_lt}
use Rattle.std.specs.Prelude.{Option, Some, None}
use Rattle.rd_geom.specs.Plane.{Rectangle}
use Rattle.rd_geom.specs.Canvas.{canvas_of}
use Rattle.rd_style.specs.declared.styles.Style.{Style}
use Rattle.rd_style.specs.declared.kinds.Class.TheVariants.{Layer, Float, Block}
use Rattle.rd_style.specs.Classes.{real, blended, one_whole, positioned, floats, in_flow_class, is_fixed, class, level, used_z}
use Rattle.rd_tree.specs.Forest.{empty, tree, AllItems}
use Rattle.rd_tree.specs.declared.node.Item.{Item}
use Rattle.rd_tree.specs.Contexts.{blends_in}
use Rattle.rd_tree.specs.Document.{BoxForest, Document}
use Rattle.rd_tree.specs.Drawn.{Above, above_of, is_none, drawn_below, drawn}
use Rattle.rd_stack.specs.Paths.{BoxData, BoxPath}
use Rattle.rd_stack.specs.Painting.{steps, entry_of}
use Rattle.rd_stack.specs.Fresh.{box_data, grouping, painted, root_order, fresh_list}
use Rattle.rd_geom.specs.declared.blend.Blend.{Blend}
use Rattle.rd_geom.specs.declared.blend.Blend.TheVariants.{Normal, Multiply, Screen, Darken, Lighten}
use Rattle.rd_style.specs.Classes.{is_normal}
use Rattle.rd_item.specs.declared.leaf.Leaf.{Leaf}
use Rattle.rd_list.specs.Wrappers.{Wrapper}
use Rattle.rd_list.specs.Entries.{Entries, nil, leaf, group}
use Rattle.rd_list.specs.NormalModes.{AreNormal}
use Rattle.rd_list.proofs.Normals.{normal_pixels}
use Rattle.rd_tree.proofs.Linking.Standing.{never}
use Rattle.rd_stack.specs.Parts.{leaf_at}
use Rattle.rd_stack.proofs.Leafwise.{EachEntry, OfLeaf, EachPlace, in_entries}
use Rattle.rd_stack.specs.Normal.{IsNormal, translucent, plain_class, plain_z, plain_level, NormalLaw}
use Rattle.rd_stack.proofs.Present.{grouped-below}
use Rattle.rd_stack.proofs.Grouping.Shape.{grouped_box, box-found}

unblended : (s : Style) → IsNormal s → blended s ≡ false
unblended s n = ap not n.mode

or_none : (a : Bool) → (a || false || false) ≡ a
or_none true = refl
or_none false = refl

whole-plain : (s : Style) → IsNormal s → one_whole s ≡ nat_lt s.opacity 255
whole-plain s n = rw (unblended s n, n.isolation) (or_none (nat_lt s.opacity 255))

class-plain : (s : Style) → IsNormal s → (root : Bool) → class s root ≡ plain_class s root
class-plain s n root =
    ap (λ w. cond (not root && (positioned s || w)) Layer (cond (floats s root) Float (cond root Block (in_flow_class s.display)))) (whole-plain s n)

z-plain : (s : Style) → IsNormal s → used_z s s.z ≡ plain_z s s.z
z-plain s n = by s.z
  where
    by : (z : Option _) → used_z s z ≡ plain_z s z
    by (Some z) = refl
    by None = ap (λ w. cond (w || is_fixed s.position) (Some (pos 0)) None) (whole-plain s n)

level-plain : (s : Style) → IsNormal s → (root : Bool) → level s root ≡ plain_level s root
level-plain s n root =
    ap (λ w. cond root (Some (pos 0)) (cond (not root && (positioned s || w)) (cond (positioned s) (used_z s s.z) (Some (pos 0))) None)) (whole-plain s n)
    ∙ ap (λ z. cond root (Some (pos 0)) (cond (not root && (positioned s || nat_lt s.opacity 255)) (cond (positioned s) z (Some (pos 0))) None)) (z-plain s n)

all-from : (P Q : Item → Type 0) → ((d : Item) → P d → Q d) → (f : BoxForest) → AllItems P f → AllItems Q f
all-from P Q h empty a = tt
all-from P Q h (tree k d below rest) a = (h d a.0, all-from P Q h below a.1, all-from P Q h rest a.2)

none_blends : (f : BoxForest) → AllItems (λ d. IsNormal d.style) f → blends_in f ≡ false
none_blends empty a = refl
none_blends (tree k d below rest) a =
    (λ i. (unblended d.style a.0 i || (not (real d.style false) && none_blends below a.1 i)) || none_blends rest a.2 i) ∙ none (not (real d.style false))
  where
    none : (b : Bool) → ((b && false) || false) ≡ false
    none true = refl
    none false = refl

module _ (canvas : Rectangle) where
  painted-plain : (b : BoxData) (up : List BoxData) (f : BoxForest) → AllItems (λ d. IsNormal d.style) f → painted grouping canvas (b ∷ up) f ≡ painted translucent canvas (b ∷ up) f
  painted-plain b up empty a = refl
  painted-plain b up (tree k d below rest) a =
      let e : BoxPath = record { above = b ∷ up; here = box_data k d } in
      let low = painted-plain (box_data k d) (b ∷ up) below a.1 in
      let later = painted-plain b up rest a.2 in
      let own : grouped_box d (blends_in below) ≡ (real d.style false && nat_lt d.style.opacity 255) =
      (λ i. real d.style false && (nat_lt d.style.opacity 255 || unblended d.style a.0 i || none_blends below a.1 i)) ∙ ap (λ o. real d.style false && o) (or_none (nat_lt d.style.opacity 255)) in
      let here : grouping e (painted grouping canvas (box_data k d ∷ b ∷ up) below) ≡ (real d.style false && nat_lt d.style.opacity 255) =
      grouped-below canvas (record { at = e; below = below }) ∙ (box-found b up k d below ∙ own) in
      λ i. record { at = e; order = steps canvas e (low i); grouped = here i } ∷ low i ++ later i

  order-plain : (f : BoxForest) → AllItems (λ d. IsNormal d.style) f → root_order grouping canvas f ≡ root_order translucent canvas f
  order-plain empty a = refl
  order-plain (tree k d below rest) a =
      let e : BoxPath = record { above = []; here = box_data k d } in
      let low = painted-plain (box_data k d) [] below a.1 in
      let own : (nat_lt d.style.opacity 255 || blended d.style || false) ≡ nat_lt d.style.opacity 255 = rw (unblended d.style a.0) (or_none (nat_lt d.style.opacity 255)) in
      λ i. entry_of (record { at = e; order = steps canvas e (low i); grouped = own i })

-- The mode of each group is that of its box's style.
normal_mode : (m : Blend) → is_normal m ≡ true → m ≡ Normal
normal_mode Normal h = refl
normal_mode Multiply h = absurd (never (is_normal Multiply) h refl)
normal_mode Screen h = absurd (never (is_normal Screen) h refl)
normal_mode Darken h = absurd (never (is_normal Darken) h refl)
normal_mode Lighten h = absurd (never (is_normal Lighten) h refl)

abbrev AnyLeaf : Leaf → Type 0
AnyLeaf l = Unit {0}

abbrev HasNormal : Wrapper → Type 0
HasNormal g = g.blend ≡ Normal

any_leaf : (o : Option Leaf) → OfLeaf AnyLeaf o
any_leaf None = tt
any_leaf (Some l) = tt

each_normal : (canvas : Rectangle) (above : List BoxData) (f : BoxForest) → AllItems (λ d. IsNormal d.style) f → EachPlace AnyLeaf HasNormal canvas above f
each_normal canvas above empty a = tt
each_normal canvas above (tree k d below rest) a =
    (((λ part. any_leaf (leaf_at canvas (record { above = above; here = box_data k d }) part)), normal_mode d.style.blend a.0.mode), each_normal canvas (box_data k d ∷ above) below a.1, each_normal canvas above rest a.2)

are_normal : (xs : Entries Wrapper Leaf) → EachEntry AnyLeaf HasNormal xs → AreNormal xs
are_normal nil h = tt
are_normal (leaf l xs) h = are_normal xs h.1
are_normal (group g inner xs) h = (h.0, are_normal inner h.1, are_normal xs h.2)

normal_drawn : (above : List Above) (f : BoxForest) → AllItems (λ d. IsNormal d.style) f → AllItems (λ d. IsNormal d.style) (drawn_below above f)
normal_drawn above empty a = tt
normal_drawn above (tree k d below rest) a = (a.0, normal_drawn (above_of (is_none above) d ∷ above) below a.1, normal_drawn above rest a.2)

modes-normal : (t : Document) → AllItems (λ d. IsNormal d.style) t.boxes → AreNormal (fresh_list t)
modes-normal t a =
    let canvas = canvas_of t.canvas in
    are_normal (fresh_list t) (in_entries AnyLeaf HasNormal canvas grouping (drawn t).boxes (each_normal canvas [] (drawn t).boxes (normal_drawn [] t.boxes a)))

pub plainly : NormalLaw
plainly t a = record {
  classes = all-from (λ d. IsNormal d.style) (λ d. (root : Bool) → class d.style root ≡ plain_class d.style root) (λ d n. class-plain d.style n) t.boxes a;
  levels = all-from (λ d. IsNormal d.style) (λ d. (root : Bool) → level d.style root ≡ plain_level d.style root) (λ d n. level-plain d.style n) t.boxes a;
  order = order-plain (canvas_of t.canvas) (drawn t).boxes (normal_drawn [] t.boxes a);
  modes = modes-normal t a;
  pixels = λ x y. normal_pixels (fresh_list t) x y (modes-normal t a);
}
