-- Trees that are alike but for their rectangles: the same changes touch the same boxes of them.
use Rattle.std.proofs.Common.{◌≡◌, refl, ap, ◌∙◌, sym, Bool, true, false, ◌&&◌, ◌||◌, cond}
use Rattle.std.specs.Prelude.{Option, Some, None, option_map}
use Rattle.std.specs.Option.{option_map_or}
use Rattle.rd_geom.specs.Plane.{Rectangle, no_pixels}
use Rattle.rd_style.specs.declared.styles.Style.{Style}
use Rattle.rd_style.specs.declared.styles.StyleChange.{StyleChange}
use Rattle.rd_style.specs.Classes.{blended, clips}
use Rattle.rd_style.specs.Changes.{names_class, names_any, whole}
use Rattle.rd_keys.specs.Keys.{same_key}
use Rattle.rd_tree.specs.declared.scroll.Scroll.{Scroll}
use Rattle.rd_tree.specs.Forest.{empty, tree, has, top, starting_at, item_of, children, branch, at_box, map_where, in_subtree}
use Rattle.rd_tree.specs.Document.{Document, BoxKey, Item, BoxForest, or_else}
use Rattle.rd_tree.specs.Changes.{with_rect, restyle, insertion, removal, moving, styling, placing, scrolling, after}
use Rattle.rd_tree.specs.Contexts.{nearest_context, own_context, context_of, context_round, in_context, any_of, holds_blended}
use Rattle.rd_tree.specs.Touching.{reached_by, regrouped_by, touched_by}
use Rattle.rd_tree.proofs.Nodes.Each.{has-each, children-each}
use Rattle.rd_tree.proofs.Forests.EachBranch.{from-each, branch-each}

-- boxes without their rectangles
abbrev pub plain : BoxForest → BoxForest
plain f = map_where (λ _. true) (with_rect no_pixels) f

-- What reads no rectangle reads the same of boxes that are alike.
pub blind : {A : Type 0} (F : BoxForest → A) → ((f : BoxForest) → F (plain f) ≡ F f) → (f g : BoxForest) → plain f ≡ plain g → F f ≡ F g
blind F e f g same = sym (e f) ∙ (ap F same ∙ e g)

has-plain : (j : BoxKey) (f : BoxForest) → has same_key j (plain f) ≡ has same_key j f
has-plain j f = has-each (λ _. true) (with_rect no_pixels) same_key j f

below-plain : (k : BoxKey) (f : BoxForest) → children same_key k (plain f) ≡ plain (children same_key k f)
below-plain k f = children-each (λ _. true) (with_rect no_pixels) same_key k f

branch-plain : (k : BoxKey) (f : BoxForest) → branch same_key k (plain f) ≡ plain (branch same_key k f)
branch-plain k f = branch-each (λ _. true) (with_rect no_pixels) same_key k f

nearest-plain : (p : BoxKey → BoxForest → Bool) → ((k : BoxKey) (f : BoxForest) → p k (plain f) ≡ p k f) → (f : BoxForest) → nearest_context p (plain f) ≡ nearest_context p f
nearest-plain p e empty = refl
nearest-plain p e (tree k d below rest) =
    λ i. cond (e k below i) (or_else (nearest-plain p e below i) (own_context k d)) (nearest-plain p e rest i)

any-plain : (f : BoxForest) → any_of (λ d. blended d.style) (plain f) ≡ any_of (λ d. blended d.style) f
any-plain empty = refl
any-plain (tree k d below rest) = λ i. blended d.style || any-plain below i || any-plain rest i

style-plain : (k : BoxKey) (f : BoxForest) → option_map (λ d. d.style) (item_of same_key k (plain f)) ≡ option_map (λ d. d.style) (item_of same_key k f)
style-plain k f = ap (λ z. option_map (λ d. d.style) (top z)) (from-each (λ _. true) (with_rect no_pixels) same_key k f) ∙ first (starting_at same_key k f) where
  first : (f : BoxForest) → option_map (λ d. d.style) (top (plain f)) ≡ option_map (λ d. d.style) (top f)
  first empty = refl
  first (tree i d below rest) = refl

by_style : (P : Style → Bool) (o : Option Item) → option_map_or (λ d. P d.style) o false ≡ option_map_or P (option_map (λ d. d.style) o) false
by_style P None = refl
by_style P (Some d) = refl

module _ (t : Document) (g : BoxForest) (same : plain g ≡ plain t.boxes) where
  abbrev other : Document
  other = record t { boxes = g }

  context_of-alike : (p : BoxKey) → context_of p other ≡ context_of p t
  context_of-alike p = blind (λ f. nearest_context (λ k below. same_key p k || has same_key p below) (children same_key t.root f))
      (λ f. ap (nearest_context (λ k below. same_key p k || has same_key p below)) (below-plain t.root f)
      ∙ nearest-plain (λ k below. same_key p k || has same_key p below) (λ k h. ap (λ b. same_key p k || b) (has-plain p h)) (children same_key t.root f)) g t.boxes same

  context_round-alike : (j : BoxKey) → context_round j other ≡ context_round j t
  context_round-alike j = blind (λ f. nearest_context (λ k below. has same_key j below) (children same_key t.root f))
      (λ f. ap (nearest_context (λ k below. has same_key j below)) (below-plain t.root f)
      ∙ nearest-plain (λ k below. has same_key j below) (λ k h. has-plain j h) (children same_key t.root f)) g t.boxes same

  holds_blended-alike : (k : BoxKey) → holds_blended k other ≡ holds_blended k t
  holds_blended-alike k = blind (λ f. any_of (λ d. blended d.style) (branch same_key k f))
      (λ f. ap (any_of (λ d. blended d.style)) (branch-plain k f) ∙ any-plain (branch same_key k f)) g t.boxes same

  below-alike : (j k : BoxKey) → has same_key j (children same_key k g) ≡ has same_key j (children same_key k t.boxes)
  below-alike j k = blind (λ f. has same_key j (children same_key k f)) (λ f. ap (has same_key j) (below-plain k f) ∙ has-plain j (children same_key k f)) g t.boxes same

  pub subtree-alike : (j k : BoxKey) → in_subtree same_key j k g ≡ in_subtree same_key j k t.boxes
  subtree-alike j k = ap (λ b. same_key j k || b) (below-alike j k)

  in_context-alike : (o : Option BoxKey) (j : BoxKey) → in_context o other j ≡ in_context o t j
  in_context-alike None j = refl
  in_context-alike (Some e) j = subtree-alike j e

  -- what is asked of the style of a box
  asked-alike : (k : BoxKey) (P : Style → Bool) → option_map_or (λ d. P d.style) (item_of same_key k g) false ≡ option_map_or (λ d. P d.style) (item_of same_key k t.boxes) false
  asked-alike k P = by_style P (item_of same_key k g) ∙ (ap (λ o. option_map_or P o false) (blind (λ f. option_map (λ d. d.style) (item_of same_key k f)) (style-plain k) g t.boxes same)
      ∙ sym (by_style P (item_of same_key k t.boxes)))

  -- Each change touches the same boxes.
  pub insertion-touches : (p : BoxKey) (before : Option BoxKey) (k : BoxKey) (d e : Item) (j : BoxKey) → e.style ≡ d.style
      → touched_by (insertion p before k e) other j ≡ touched_by (insertion p before k d) t j
  insertion-touches p before k d e j s = ap (λ b. same_key j k || b)
      (ap (λ z. blended z && in_context (context_of p other) other j) s
      ∙ (ap (λ o. blended d.style && in_context o other j) (context_of-alike p)
      ∙ ap (λ b. blended d.style && b) (in_context-alike (context_of p t) j)))

  pub removal-touches : (k j : BoxKey) → touched_by (removal k) other j ≡ touched_by (removal k) t j
  removal-touches k j =
      (λ i. subtree-alike j k i || (holds_blended-alike k i && in_context (context_round k other) other j))
      ∙ (ap (λ o. in_subtree same_key j k t.boxes || (holds_blended k t && in_context o other j)) (context_round-alike k)
      ∙ ap (λ b. in_subtree same_key j k t.boxes || (holds_blended k t && b)) (in_context-alike (context_round k t) j))

  pub moving-touches : (k p : BoxKey) (before : Option BoxKey) (j : BoxKey) → touched_by (moving k p before) other j ≡ touched_by (moving k p before) t j
  moving-touches k p before j =
      (λ i. subtree-alike j k i || (holds_blended-alike k i && (in_context (context_round k other) other j || in_context (context_of p other) other j)))
      ∙ (ap (λ o. in_subtree same_key j k t.boxes || (holds_blended k t && (in_context o other j || in_context (context_of p other) other j))) (context_round-alike k)
      ∙ (ap (λ o. in_subtree same_key j k t.boxes || (holds_blended k t && (in_context (context_round k t) other j || in_context o other j))) (context_of-alike p)
      ∙ (λ i. in_subtree same_key j k t.boxes || (holds_blended k t && (in_context-alike (context_round k t) j i || in_context-alike (context_of p t) j i)))))

  pub placing-touches : (k : BoxKey) (r q : Rectangle) (j : BoxKey) → touched_by (placing k q) other j ≡ touched_by (placing k r) t j
  placing-touches k r q j = ap (λ b. b || false)
      (ap (λ z. option_map_or (λ d. cond (clips d.style (same_key k t.root)) z (same_key j k)) (item_of same_key k g) false) (subtree-alike j k)
      ∙ asked-alike k (λ s. cond (clips s (same_key k t.root)) (in_subtree same_key j k t.boxes) (same_key j k)))

  pub shifting-touches : (k : BoxKey) (j : BoxKey) → in_subtree same_key j k g ≡ in_subtree same_key j k t.boxes
  shifting-touches k j = subtree-alike j k

  pub scrolling-touches : (k : BoxKey) (s : Scroll) (j : BoxKey) → touched_by (scrolling k s) other j ≡ touched_by (scrolling k s) t j
  scrolling-touches k s j = ap (λ b. b || false)
      (ap (λ z. option_map_or (λ d. clips d.style (same_key k t.root) && z) (item_of same_key k g) false) (below-alike j k)
      ∙ asked-alike k (λ s. clips s (same_key k t.root) && has same_key j (children same_key k t.boxes)))

-- A change of style leaves trees alike.
restyled-plain : (k : BoxKey) (c : StyleChange) (f : BoxForest) → plain (at_box same_key k (restyle c) f) ≡ at_box same_key k (restyle c) (plain f)
restyled-plain k c empty = refl
restyled-plain k c (tree i d below rest) = λ x. tree i (one (same_key i k) x) (restyled-plain k c below x) (restyled-plain k c rest x) where
  one : (b : Bool) → with_rect no_pixels (cond b (restyle c d) d) ≡ cond b (restyle c (with_rect no_pixels d)) (with_rect no_pixels d)
  one true = refl
  one false = refl

pub styling-touches : (t : Document) (g : BoxForest) → plain g ≡ plain t.boxes → (k : BoxKey) (c : StyleChange) (j : BoxKey)
    → touched_by (styling k c) (record t { boxes = g }) j ≡ touched_by (styling k c) t j
styling-touches t g same k c j =
    let u : Document = record t { boxes = g } in
    let then : plain (at_box same_key k (restyle c) g) ≡ plain (at_box same_key k (restyle c) t.boxes) =
    restyled-plain k c g ∙ (ap (at_box same_key k (restyle c)) same ∙ sym (restyled-plain k c t.boxes)) in
    let root : Bool = same_key k t.root in
    let reach : reached_by (styling k c) u j ≡ reached_by (styling k c) t j =
    ap (λ z. option_map_or (λ d. cond (whole d.style root c) z (names_any c && same_key j k)) (item_of same_key k g) false) (subtree-alike t g same j k)
    ∙ asked-alike t g same k (λ s. cond (whole s root c) (in_subtree same_key j k t.boxes) (names_any c && same_key j k)) in
    let group : regrouped_by (styling k c) u j ≡ regrouped_by (styling k c) t j =
    (λ i. (names_class c && (holds_blended-alike t g same k i || holds_blended-alike (after (styling k c) t) (at_box same_key k (restyle c) g) then k i)) && in_context (context_round k u) u j)
    ∙ (ap (λ o. (names_class c && (holds_blended k t || holds_blended k (after (styling k c) t))) && in_context o u j) (context_round-alike t g same k)
    ∙ ap (λ b. (names_class c && (holds_blended k t || holds_blended k (after (styling k c) t))) && b) (in_context-alike t g same (context_round k t) j)) in
    λ i. reach i || group i
