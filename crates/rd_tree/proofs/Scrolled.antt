-- A box that gets another scroll offset: those below it are touched where it clips, and drawn anew.
use Rattle.std.proofs.Common.{◌≡◌, refl, ap, ◌∙◌, sym, subst, Bool, true, false, ◌||◌, ◌&&◌, cond, List}
use Rattle.std.specs.Prelude.{Option, Some, None, String}
use Rattle.std.specs.Option.{option_map_or}
use Rattle.std.specs.HashMap.{HashMap}
use Rattle.rd_style.specs.Classes.{clips}
use Rattle.rd_keys.specs.Keys.{same_key}
use Rattle.rd_keys.specs.Arena.{Arena}
use Rattle.rd_keys.proofs.Keys.{same_key-sound, same_key-refl}
use Rattle.rd_tree.specs.declared.node.Node as inner
use Rattle.rd_tree.specs.declared.handed.ScrollSums.{ScrollSums}
use Rattle.rd_tree.specs.declared.scroll.Scroll.{Scroll}
use Rattle.rd_tree.specs.Forest.{has, children, item_of, map_where, at_box, IsApart}
use Rattle.rd_tree.specs.Document.{Document, BoxKey, Item, BoxForest}
use Rattle.rd_tree.specs.Changes.{scrolling, with_scroll}
use Rattle.rd_tree.specs.Touching.{touch, touched_by, edited}
use Rattle.rd_tree.specs.Internal.Hands.{hand_at, handed_to}
use Rattle.rd_tree.specs.Internal.Laid.{each_by, drawn_below}
use Rattle.rd_tree.specs.Internal.Linked.{linked, seen, item_at, IsConsistent}
use Rattle.rd_tree.specs.Internal.Redraws.{redrawn, redrawn_if}
use Rattle.rd_tree.specs.Internal.Works.{item_under}
use Rattle.rd_tree.proofs.Forests.ByKey.{by_items, by-map}
use Rattle.rd_tree.proofs.Nodes.Each.{has-each}
use Rattle.rd_tree.proofs.Nodes.Looking.{apart_seen}
use Rattle.rd_tree.proofs.Nodes.Naming.{item_seen}
use Rattle.rd_tree.proofs.Summaries.Within.{not_own}
use Rattle.rd_tree.proofs.Laying.Again.{anew}
use Rattle.rd_tree.proofs.Laying.Draws.{marked_low, marked_to}

alone : (b : Bool) → (b || false) ≡ b
alone true = refl
alone false = refl

-- In one walk it comes to what it does in two.
module _ (t : Document) (apart : IsApart same_key t.boxes) (rows : List ScrollSums) (h : ScrollSums) (k : BoxKey) (v : Scroll) (asked : Bool)
    (o : asked ≡ option_map_or (λ d. clips d.style (same_key k t.root)) (item_of same_key k t.boxes) false) where
  abbrev low : BoxForest
  low = children same_key k t.boxes

  abbrev q : BoxKey → Bool
  q = touched_by (scrolling k v) t

  abbrev then : BoxForest
  then = (edited (scrolling k v) t).boxes

  abbrev second : BoxKey → Item → Item
  second j d = cond (has same_key j (children same_key k then)) (redrawn (hand_at rows j) (handed_to j h (children same_key k then)) d) d

  clip_both : (x : Bool) (o : Option Item) → (option_map_or (λ d. clips d.style (same_key k t.root)) o false && x)
      ≡ (option_map_or (λ d. clips d.style (same_key k t.root) && x) o false || false)
  clip_both x None = refl
  clip_both x (Some d) = sym (alone (clips d.style (same_key k t.root) && x))

  asked_is : (j : BoxKey) → q j ≡ (asked && has same_key j low)
  asked_is j = sym (ap (λ b. b && has same_key j low) o ∙ clip_both (has same_key j low) (item_of same_key k t.boxes))

  then_low : children same_key k then ≡ map_where q touch low
  then_low = marked_low q (with_scroll v) k t.boxes apart

  has_low : (j : BoxKey) → has same_key j (children same_key k then) ≡ has same_key j low
  has_low j = ap (has same_key j) then_low ∙ has-each q touch same_key j low

  to_low : (j : BoxKey) → handed_to j h (children same_key k then) ≡ handed_to j h low
  to_low j = ap (handed_to j h) then_low ∙ marked_to q j h low

  out_of : (j : BoxKey) → same_key j k ≡ true → has same_key j low ≡ false
  out_of j e = ap (λ z. has same_key z low) (same_key-sound j k e) ∙ not_own same_key same_key-sound same_key-refl k t.boxes apart

  by : (j : BoxKey) (d : Item) (a x y : Bool) → (x ≡ true → y ≡ false) →
      cond y (redrawn (hand_at rows j) (handed_to j h low) (cond (a && y) (touch (cond x (with_scroll v d) d)) (cond x (with_scroll v d) d)))
      (cond (a && y) (touch (cond x (with_scroll v d) d)) (cond x (with_scroll v d) d))
      ≡ cond x (with_scroll v d) (cond y (redrawn_if a (hand_at rows j) (handed_to j h low) d) d)
  by j d a true true w = cc (w refl)
  by j d true true false w = refl
  by j d false true false w = refl
  by j d true false true w = refl
  by j d false false true w = refl
  by j d true false false w = refl
  by j d false false false w = refl

  one : (j : BoxKey) (d : Item) → second j (cond (q j) (touch (cond (same_key j k) (with_scroll v d) d)) (cond (same_key j k) (with_scroll v d) d))
      ≡ anew (with_scroll v) asked rows k h t.boxes j d
  one j d =
      (λ i. cond (has_low j i) (redrawn (hand_at rows j) (to_low j i) (cond (asked_is j i) (touch (cond (same_key j k) (with_scroll v d) d)) (cond (same_key j k) (with_scroll v d) d)))
      (cond (asked_is j i) (touch (cond (same_key j k) (with_scroll v d) d)) (cond (same_key j k) (with_scroll v d) d)))
      ∙ by j d asked (same_key j k) (has same_key j low) (out_of j)

  scrolled_is : each_by (anew (with_scroll v) asked rows k h t.boxes) t.boxes ≡ drawn_below rows k h then
  scrolled_is = sym (by-map second q touch (at_box same_key k (with_scroll v) t.boxes)
      ∙ (by-map (λ j d. second j (cond (q j) (touch d) d)) (λ j. same_key j k) (with_scroll v) t.boxes
      ∙ by_items same_key same_key-refl (λ j d. second j (cond (q j) (touch (cond (same_key j k) (with_scroll v d) d)) (cond (same_key j k) (with_scroll v d) d)))
      (anew (with_scroll v) asked rows k h t.boxes) t.boxes (λ j d u. one j d)))

-- The same of the boxes for which links stand.
module _ {Y S : Type 0} (a : Arena inner.Node) (root k : BoxKey) (ids : HashMap (String Y) BoxKey S) (s : IsConsistent a root ids) (rows : List ScrollSums) (h : ScrollSums) (v : Scroll) (asked : Bool)
    (t : Document) (e : t.boxes ≡ seen a root) (is_root : Bool) (n : is_root ≡ same_key k t.root) (o : asked ≡ option_map_or (λ d. clips d.style is_root) (item_under (linked a k)) false) where
  pub known : asked ≡ option_map_or (λ d. clips d.style (same_key k t.root)) (item_of same_key k t.boxes) false
  known =
      o ∙ (ap (λ z. option_map_or (λ d. clips d.style z) (item_at a k) false) n
      ∙ (ap (λ z. option_map_or (λ d. clips d.style (same_key k t.root)) z false) (item_seen a root k s.tree)
      ∙ ap (λ z. option_map_or (λ d. clips d.style (same_key k t.root)) (item_of same_key k z) false) (sym e)))

  pub anew_is : each_by (anew (with_scroll v) asked rows k h (seen a root)) (seen a root) ≡ drawn_below rows k h (edited (scrolling k v) t).boxes
  anew_is = subst (λ f. each_by (anew (with_scroll v) asked rows k h f) f ≡ drawn_below rows k h (edited (scrolling k v) t).boxes) e
      (scrolled_is t (subst (IsApart same_key) (sym e) (apart_seen a root s.tree)) rows h k v asked known)
