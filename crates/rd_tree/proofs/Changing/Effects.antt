-- What each change of a tree comes to, its marks with it.
use Rattle.std.proofs.Common.{◌≡◌, refl, ap, ◌∙◌, sym, subst, ℤ, Bool, true, false, ◌&&◌, ◌||◌, cond, inl, inr}
use Rattle.std.specs.Prelude.{Option, Some, None}
use Rattle.std.specs.Option.{option_map_or}
use Rattle.rd_geom.specs.Plane.{Rectangle}
use Rattle.rd_style.specs.declared.styles.StyleChange.{StyleChange}
use Rattle.rd_style.specs.Classes.{clips}
use Rattle.rd_style.specs.Changes.{whole, names_any}
use Rattle.rd_keys.specs.Keys.{same_key}
use Rattle.rd_keys.proofs.Keys.{same_key-sound, same_key-refl}
use Rattle.rd_tree.specs.declared.reach.Reach.TheVariants.{Nothing}
use Rattle.rd_tree.specs.declared.scroll.Scroll.{Scroll}
use Rattle.rd_tree.specs.Forest.{Forest, empty, tree, has, children, with_children, insert_before, insert_among, without_branch, branch, map_where, at_box, at_subtree, in_subtree, item_of, IsApart}
use Rattle.rd_tree.specs.Document.{Document, BoxKey, Item, BoxForest, contains, with_child, with_taken}
use Rattle.rd_tree.specs.Changes.{insertion, removal, moving, styling, placing, shifting, scrolling, restyle, with_rect, with_scroll, shift_item, with_removed, put_elsewhere}
use Rattle.rd_tree.specs.Touching.{reached_by, touch, edited}
use Rattle.rd_tree.specs.Internal.Regrouping.{marked_reached}
use Rattle.rd_tree.specs.Internal.Works.{move_by}
use Rattle.rd_tree.specs.Internal.Reaching.{style_reach, rect_reach, touch_reached, restyled, replaced, moved, scrolled}
use Rattle.rd_tree.proofs.Linking.Standing.{cases, never}
use Rattle.rd_tree.proofs.Nodes.Each.{has-each, children-each, join-each, each_same}
use Rattle.rd_tree.proofs.Forests.EachBranch.{branch-each, without_branch-each, each_none, within_subtree, without_branch-within}

module _ {K D : Type 0} (q : K → Bool) (h : D → D) (same : K → K → Bool) where
  before-each : (j : K) (g f : Forest K D) → insert_before same j (map_where q h g) (map_where q h f) ≡ map_where q h (insert_before same j g f)
  before-each j g empty = refl
  before-each j g (tree k d below rest) =
      elim (cases (same j k)) [
        | inl e ↦ rw e (sym (join-each q h g (tree k d below rest)))
        | inr e ↦ rw (e, before-each j g rest) refl
      ]

  pub among-each : (o : Option K) (g f : Forest K D) → insert_among same o (map_where q h g) (map_where q h f) ≡ map_where q h (insert_among same o g f)
  among-each None g f = sym (join-each q h f g)
  among-each (Some j) g f = before-each j g f

  pub with_children-each : (p : K) (g f : Forest K D) → with_children same p (map_where q h g) (map_where q h f) ≡ map_where q h (with_children same p g f)
  with_children-each p g empty = refl
  with_children-each p g (tree k d below rest) =
      elim (cases (same p k)) [
        | inl e ↦ rw e refl
        | inr e ↦ rw (e, with_children-each p g below, with_children-each p g rest) refl
      ]

-- two changes of items at the same boxes
each-each : {K D : Type 0} (q : K → Bool) (g h : D → D) (f : Forest K D) → map_where q h (map_where q g f) ≡ map_where q (λ d. h (g d)) f
each-each q g h empty = refl
each-each q g h (tree k d below rest) =
    elim (cases (q k)) [
      | inl e ↦ rw (e, each-each q g h below, each-each q g h rest) refl
      | inr e ↦ rw (e, each-each q g h below, each-each q g h rest) refl
    ]

-- Where no box is asked for, nothing changes.
pub no-each : {K D : Type 0} (h : D → D) (f : Forest K D) → map_where (λ j. false) h f ≡ f
no-each h empty = refl
no-each h (tree k d below rest) = rw (no-each h below, no-each h rest) refl

-- the same boxes are below one whose items change
pub subtree-each : (q : BoxKey → Bool) (h : Item → Item) (j k : BoxKey) (f : BoxForest) → in_subtree same_key j k (map_where q h f) ≡ in_subtree same_key j k f
subtree-each q h j k f = ap (λ b. same_key j k || b) (ap (has same_key j) (children-each q h same_key k f) ∙ has-each q h same_key j (children same_key k f))

-- A move: the marks go with the boxes.
pub elsewhere-each : (q : BoxKey → Bool) (h : Item → Item) (k p : BoxKey) (o : Option BoxKey) (f : BoxForest) → put_elsewhere k p o (map_where q h f)
    ≡ map_where q h (put_elsewhere k p o f)
elsewhere-each q h k p o f =
    let g : BoxForest = without_branch same_key k f in
    let w : without_branch same_key k (map_where q h f) ≡ map_where q h g = without_branch-each q h same_key k f in
    let b : branch same_key k (map_where q h f) ≡ map_where q h (branch same_key k f) = branch-each q h same_key k f in
    let c : children same_key p (map_where q h g) ≡ map_where q h (children same_key p g) = children-each q h same_key p g in
    ap (λ z. with_children same_key p (insert_among same_key o (branch same_key k (map_where q h f)) (children same_key p z)) z) w
    ∙ (ap (λ z. with_children same_key p (insert_among same_key o z (children same_key p (map_where q h g))) (map_where q h g)) b
    ∙ (ap (λ z. with_children same_key p (insert_among same_key o (map_where q h (branch same_key k f)) z) (map_where q h g)) c
    ∙ (ap (λ z. with_children same_key p z (map_where q h g)) (among-each q h same_key o (branch same_key k f) (children same_key p g))
    ∙ with_children-each q h same_key p (insert_among same_key o (branch same_key k f) (children same_key p g)) g)))

pub reached-moving : (k p : BoxKey) (before : Option BoxKey) (t : Document) → marked_reached (moving k p before) t ≡ record t { boxes = moved k p before t.boxes }
reached-moving k p before t = ap (λ f. record t { boxes = f }) (sym (elsewhere-each (λ j. in_subtree same_key j k t.boxes) touch k p before t.boxes))

-- A removal: what it touches is gone.
pub reached-removal : (k : BoxKey) (t : Document) → IsApart same_key t.boxes → marked_reached (removal k) t ≡ with_removed k t
reached-removal k t a =
    let q : BoxKey → Bool = λ j. in_subtree same_key j k t.boxes in
    ap (λ f. record (with_removed k t) { boxes = f })
    (sym (without_branch-each q touch same_key k t.boxes) ∙ without_branch-within same_key same_key-sound same_key-refl q touch k t.boxes a (within_subtree
    same_key k t.boxes))

-- An insertion: the new box comes in touched.
pub reached-insertion : (p : BoxKey) (before : Option BoxKey) (k : BoxKey) (d : Item) (t : Document) → contains t k ≡ false →
    marked_reached (insertion p before k d) t ≡ record t { boxes = with_child p before k (touch d) t.boxes; slots = with_taken t.slots k }
reached-insertion p before k d t out =
    let q : BoxKey → Bool = λ j. same_key j k in
    let one : BoxForest = tree k d empty empty in
    let f : BoxForest = t.boxes in
    let none : map_where q touch f ≡ f = each_none q touch same_key same_key-refl f (λ j u. differs_back2 j f u out) in
    let c : map_where q touch (children same_key p f) ≡ children same_key p f = sym (children-each q touch same_key p f) ∙ ap (children same_key p) none in
    let new : map_where q touch one ≡ tree k (touch d) empty empty = rw (same_key-refl k) refl in
    ap (λ z. record t { boxes = z; slots = with_taken t.slots k })
    (sym (with_children-each q touch same_key p (insert_among same_key before one (children same_key p f)) f)
    ∙ (ap (λ z. with_children same_key p (map_where q touch (insert_among same_key before one (children same_key p f))) z) none
    ∙ ap (λ z. with_children same_key p z f) (sym (among-each q touch same_key before one (children same_key p f))
    ∙ (ap (λ z. insert_among same_key before z (map_where q touch (children same_key p f))) new
    ∙ ap (λ z. insert_among same_key before (tree k (touch d) empty empty) z) c)))) where
      differs_back2 : (j : BoxKey) (f : BoxForest) → has same_key j f ≡ true → has same_key k f ≡ false → same_key j k ≡ false
      differs_back2 j f u o = elim (cases (same_key j k)) [
        | inl e ↦ absurd (never (has same_key j f) u (subst (λ x. has same_key x f ≡ false) (sym (same_key-sound j k e)) o))
        | inr e ↦ e
      ]

-- what no change regroups
unregrouped : (q : BoxKey → Bool) (f : BoxForest) → map_where (λ j. q j || false) touch f ≡ map_where q touch f
unregrouped q f = each_same same_key same_key-refl (λ j. q j || false) q touch f (λ j u. alone (q j)) where
  alone : (b : Bool) → (b || false) ≡ b
  alone true = refl
  alone false = refl

-- A shift.
pub edited-shifting : (k : BoxKey) (dx dy : ℤ) (t : Document) → edited (shifting k dx dy) t ≡ record t { boxes = at_subtree same_key k (move_by dx dy) t.boxes }
edited-shifting k dx dy t = ap (λ f. record t { boxes = f }) (unregrouped (λ j. in_subtree same_key j k t.boxes) (at_subtree same_key k (shift_item dx dy) t.boxes)
    ∙ each-each (λ j. in_subtree same_key j k t.boxes) (shift_item dx dy) touch t.boxes)

-- Marks on one box or on a subtree, by what is known of the box.
marks-alone : (k : BoxKey) (q : BoxKey → Bool) (h : Item → Item) (f : BoxForest) → map_where (λ j. in_subtree same_key j k f) touch (map_where q h f)
    ≡ at_subtree same_key k touch (map_where q h f)
marks-alone k q h f = each_same same_key same_key-refl (λ j. in_subtree same_key j k f) (λ j. in_subtree same_key j k (map_where q h f)) touch (map_where q
    h f) (λ j u. sym (subtree-each q h j k f))

pub reached-styling : (k : BoxKey) (c : StyleChange) (t : Document) → marked_reached (styling k c) t ≡ record t { boxes = restyled t.root k c t.boxes }
reached-styling k c t = ap (λ f. record t { boxes = f }) (by (item_of same_key k t.boxes)) where
  g : BoxForest
  g = at_box same_key k (restyle c) t.boxes

  root : Bool
  root = same_key k t.root

  known : (d : Item) (w n : Bool) → whole d.style root c ≡ w → names_any c ≡ n →
      map_where (λ j. cond (whole d.style root c) (in_subtree same_key j k t.boxes) (names_any c && same_key j k)) touch g ≡ touch_reached (style_reach
      d.style root c) k g
  known d true n e i = rw e (marks-alone k (λ j. same_key j k) (restyle c) t.boxes)
  known d false true e i = rw (e, i) refl
  known d false false e i = rw (e, i) (no-each touch g)

  by : (o : Option Item) → map_where (λ j. option_map_or (λ d. cond (whole d.style root c) (in_subtree same_key j k t.boxes) (names_any c && same_key j k))
      o false) touch g
      ≡ touch_reached (option_map_or (λ d. style_reach d.style root c) o Nothing) k g
  by None = no-each touch g
  by (Some d) = known d (whole d.style root c) (names_any c) refl refl

pub edited-placing : (k : BoxKey) (r : Rectangle) (t : Document) → edited (placing k r) t ≡ record t { boxes = replaced t.root k r t.boxes }
edited-placing k r t = ap (λ f. record t { boxes = f }) (unregrouped (reached_by (placing k r) t) g ∙ by (item_of same_key k t.boxes)) where
  g : BoxForest
  g = at_box same_key k (with_rect r) t.boxes

  root : Bool
  root = same_key k t.root

  known : (d : Item) (w : Bool) → clips d.style root ≡ w → map_where (λ j. cond (clips d.style root) (in_subtree same_key j k t.boxes) (same_key j k))
      touch g ≡ touch_reached (rect_reach d.style root) k g
  known d true e = rw e (marks-alone k (λ j. same_key j k) (with_rect r) t.boxes)
  known d false e = rw e refl

  by : (o : Option Item) → map_where (λ j. option_map_or (λ d. cond (clips d.style root) (in_subtree same_key j k t.boxes) (same_key j k)) o false) touch g
      ≡ touch_reached (option_map_or (λ d. rect_reach d.style root) o Nothing) k g
  by None = no-each touch g
  by (Some d) = known d (clips d.style root) refl

-- Another scroll offset: what is below the box is touched, where it clips.
pub edited-scrolling : (k : BoxKey) (s : Scroll) (t : Document) → edited (scrolling k s) t
    ≡ record t { boxes = scrolled t.root k s t.boxes }
edited-scrolling k s t = ap (λ f. record t { boxes = f }) (unregrouped (reached_by (scrolling k s) t) g ∙ by (item_of same_key k t.boxes)) where
  g : BoxForest
  g = at_box same_key k (with_scroll s) t.boxes

  root : Bool
  root = same_key k t.root

  known : (d : Item) (w : Bool) → clips d.style root ≡ w → map_where (λ j. clips d.style root && has same_key j (children same_key k t.boxes)) touch g
      ≡ cond (clips d.style root) (map_where (λ j. has same_key j (children same_key k t.boxes)) touch g) g
  known d true e = rw e refl
  known d false e = rw e (no-each touch g)

  by : (o : Option Item) → map_where (λ j. option_map_or (λ d. clips d.style root && has same_key j (children same_key k t.boxes)) o false) touch g
      ≡ cond (option_map_or (λ d. clips d.style root) o false) (map_where (λ j. has same_key j (children same_key k t.boxes)) touch g) g
  by None = no-each touch g
  by (Some d) = known d (clips d.style root) refl

-- what is as one says is as the other says
pub by_that : (a b c : Document) → c ≡ b → a ≡ b → a ≡ c
by_that a b c e h = h ∙ sym e
