-- Edits that draw boxes elsewhere, as a whole.
use Rattle.std.proofs.Common.{◌≡◌, refl, ap, ◌∙◌, sym, subst, ℕ, ◌+◌, ◌≤◌, Bool, true, cond, List, length, arith}
use Rattle.std.specs.Prelude.{Option, Some, None, IfSome, option_map}
use Rattle.rd_style.specs.Changes.{changed}
use Rattle.rd_style.specs.Limits.{Fits}
use Rattle.rd_style.specs.declared.styles.StyleChange.{StyleChange}
use Rattle.rd_keys.specs.Keys.{same_key}
use Rattle.rd_keys.proofs.Keys.{same_key-sound}
use Rattle.rd_tree.specs.declared.handed.ScrollSums.{ScrollSums}
use Rattle.rd_tree.specs.declared.scroll.Scroll.{Scroll}
use Rattle.rd_tree.specs.Forest.{has, height, item_of, children, map_where, at_box, IsApart}
use Rattle.rd_tree.specs.Document.{Document, BoxKey, Item, BoxForest, contains, AllFit}
use Rattle.rd_tree.specs.Limits.{FitsScroll}
use Rattle.rd_tree.specs.Changes.{with_scroll, restyle, styling, scrolling, CanRestyle}
use Rattle.rd_tree.specs.Touching.{touch, touched_by, edited}
use Rattle.rd_tree.specs.Internal.Handing.{IsWithin}
use Rattle.rd_tree.specs.Internal.Hands.{hand_at, handed_to}
use Rattle.rd_tree.specs.Internal.Laid.{laid_at, laid_by, laid_tree, relaid, own_from, passed_from, unhanded, drawn_again, AreHanded, IsHandedDown, IsHanding, CanDraw}
use Rattle.rd_tree.proofs.Forests.ByKey.{apart_by, item-by}
use Rattle.rd_tree.proofs.Nodes.Each.{has-each, apart_each}
use Rattle.rd_tree.proofs.Laying.Rows.{handed_by}
use Rattle.rd_tree.proofs.Laying.Near.{scrolls_fit}
use Rattle.rd_tree.proofs.Laying.Fits.{fit_scrolled, fit_styled}
use Rattle.rd_tree.proofs.Laying.Kept.{IsTold, within_none, all_within, handing}
use Rattle.rd_tree.proofs.Laying.Draws.{how, style_kept, scroll_kept}
use Rattle.rd_tree.proofs.Laying.Results.{again-laid, scrolled-relaid, styled-relaid}
use Rattle.rd_tree.proofs.Laying.Done.{row_level, below_levels, below_then, right_then}

-- What drawing a box elsewhere leaves of a tree and of the table.
pub record IsRedrawn (u v : Document) (rows last : List ScrollSums) (k : BoxKey) (old : Scroll) (own : ScrollSums) : Type 0 where
  pub drawn : v ≡ record u { boxes = drawn_again rows k old (own_from own (item_of same_key k u.boxes)) (passed_from (same_key k u.root) own (item_of same_key k u.boxes)) u.boxes }
  pub handed : (i : BoxKey) → contains u i ≡ true → hand_at last i
      ≡ cond (same_key i k) own (cond (has same_key i (children same_key k u.boxes)) (handed_to i (passed_from (same_key k u.root) own (item_of same_key k u.boxes)) (children same_key k u.boxes)) (hand_at rows i))
  pub same_length : length last ≡ length rows

-- Where the rows are right and the boxes are laid out as they are to be, all is kept.
pub ends : (u v : Document) (rows last : List ScrollSums) (k : BoxKey) (old : Scroll) (own : ScrollSums) (w : BoxForest) → IsRedrawn u v rows last k old own → IsApart same_key u.boxes → IsTold v
    → length u.slots ≤ length rows → AreHanded last u.root unhanded u.boxes → relaid rows k old u.boxes ≡ w → AllFit w
    → IsHanding v last × (laid_tree last v ≡ record u { boxes = w })
ends u v rows last k old own w d a told n right rel fit =
    let inside : ScrollSums = passed_from (same_key k u.root) own (item_of same_key k u.boxes) in
    let boxes : laid_by last (drawn_again rows k old (own_from own (item_of same_key k u.boxes)) inside u.boxes) ≡ w = again-laid rows last k old own inside u.boxes a d.handed ∙ rel in
    let same : laid_tree last v ≡ record u { boxes = w } = ap (laid_tree last) d.drawn ∙ ap (λ f. record u { boxes = f }) boxes in
    let then : AreHanded last u.root unhanded (drawn_again rows k old (own_from own (item_of same_key k u.boxes)) inside u.boxes) =
    handed_by last u.root (how u rows k old own) (style_kept u rows k old own) (scroll_kept u rows k old own) unhanded u.boxes right in
    let m : length v.slots ≡ length u.slots = ap (λ z. length z.slots) d.drawn in (
      handing v last told.rooted told.apart (omega (arith, m, n, d.same_length)) (subst (λ z. AreHanded last z.root unhanded z.boxes) (sym d.drawn) then) (subst (λ z. AllFit z.boxes) (sym same) fit),
      same,
    )

-- A change in place.
module _ (t : Document) (rows : List ScrollSums) (told : IsTold t) (h : IsHanding t rows) (k : BoxKey) (m : contains t k ≡ true) (e : Item → Item) (q : BoxKey → Bool) (old : Scroll) (w : BoxForest)
    (rel : relaid rows k old (map_where q touch (at_box same_key k e t.boxes)) ≡ w) (fit : AllFit w) where
  abbrev then : Document
  then = record t { boxes = map_where q touch (at_box same_key k e t.boxes) }

  has_then : (j : BoxKey) → contains then j ≡ contains t j
  has_then j = has-each q touch same_key j (at_box same_key k e t.boxes) ∙ has-each (λ i. same_key i k) e same_key j t.boxes

  apart_then : IsApart same_key then.boxes
  apart_then = apart_each q touch same_key (at_box same_key k e t.boxes) (apart_each (λ i. same_key i k) e same_key t.boxes told.apart)

  level : (n : ℕ) × IsWithin n (hand_at rows k) × (n + (1 + height (children same_key k t.boxes)) ≤ 0 + height t.boxes)
  level = row_level rows t.root 0 unhanded t.boxes (within_none 0) (scrolls_fit rows t.boxes h.fits) h.right told.apart k m

  pub in_place_can : CanDraw then rows k old (hand_at rows k)
  in_place_can =
      let n : height (children same_key k then.boxes) ≡ height (children same_key k t.boxes) = below_levels t rows told h.right k e q in
      record {
        all_rows = h.all_rows;
        within = λ j u. all_within t rows told h j (sym (has_then j) ∙ u);
        fits = subst AllFit (sym rel) fit;
        levels = level.0;
        within_own = level.1;
        shallow = omega (arith, level.2, n, told.shallow);
      }

  pub in_place_below : IsHandedDown rows (passed_from (same_key k t.root) (hand_at rows k) (item_of same_key k t.boxes)) (children same_key k then.boxes)
  in_place_below = below_then t rows told h.right k e q m

  pub in_place_done : (v : Document) (last : List ScrollSums) → IsRedrawn then v rows last k old (hand_at rows k) → IsTold v → IsHanding v last × (laid_tree last v ≡ record t { boxes = w })
  in_place_done v last d told2 = ends then v rows last k old (hand_at rows k) w d apart_then told2 h.all_rows
      (right_then t rows told h.right k e q last (passed_from (same_key k t.root) (hand_at rows k) (item_of same_key k then.boxes)) refl d.handed) rel fit

-- A scroll offset and a style.
module _ (t : Document) (rows : List ScrollSums) (told : IsTold t) (h : IsHanding t rows) (k : BoxKey) (m : contains t k ≡ true) (old : Scroll) (o : old ≡ own_from (hand_at rows k) (item_of same_key k t.boxes)) where
  laid_apart : IsApart same_key (laid_by rows t.boxes)
  laid_apart = apart_by _ same_key t.boxes told.apart

  pub scroll_can : (s : Scroll) → FitsScroll s → CanDraw (edited (scrolling k s) t) rows k old (hand_at rows k)
  scroll_can s f = in_place_can t rows told h k m (with_scroll s) (touched_by (scrolling k s) t) old (edited (scrolling k s) (laid_tree rows t)).boxes (scrolled-relaid rows t told.apart k old o s)
      (fit_scrolled (laid_tree rows t) h.fits laid_apart k s f)

  pub scroll_done : (s : Scroll) → FitsScroll s → (v : Document) (last : List ScrollSums) → IsRedrawn (edited (scrolling k s) t) v rows last k old (hand_at rows k) → IsTold v
      → IsHanding v last × (laid_tree last v ≡ edited (scrolling k s) (laid_tree rows t))
  scroll_done s f v last d told2 = in_place_done t rows told h k m (with_scroll s) (touched_by (scrolling k s) t) old (edited (scrolling k s) (laid_tree rows t)).boxes (scrolled-relaid rows t told.apart k old o s)
      (fit_scrolled (laid_tree rows t) h.fits laid_apart k s f) v last d told2

  pub scroll_below : (s : Scroll) → FitsScroll s → IsHandedDown rows (passed_from (same_key k t.root) (hand_at rows k) (item_of same_key k t.boxes)) (children same_key k (edited (scrolling k s) t).boxes)
  scroll_below s f = in_place_below t rows told h k m (with_scroll s) (touched_by (scrolling k s) t) old (edited (scrolling k s) (laid_tree rows t)).boxes (scrolled-relaid rows t told.apart k old o s)
      (fit_scrolled (laid_tree rows t) h.fits laid_apart k s f)

  pub style_can : (c : StyleChange) → CanRestyle k c (laid_by rows t.boxes) → CanDraw (edited (styling k c) t) rows k old (hand_at rows k)
  style_can c f = in_place_can t rows told h k m (restyle c) (touched_by (styling k c) t) old (edited (styling k c) (laid_tree rows t)).boxes (styled-relaid rows t told.apart k old o c)
      (fit_styled (laid_tree rows t) h.fits laid_apart k c f)

  pub style_done : (c : StyleChange) → CanRestyle k c (laid_by rows t.boxes) → (v : Document) (last : List ScrollSums) → IsRedrawn (edited (styling k c) t) v rows last k old (hand_at rows k) → IsTold v
      → IsHanding v last × (laid_tree last v ≡ edited (styling k c) (laid_tree rows t))
  style_done c f v last d told2 = in_place_done t rows told h k m (restyle c) (touched_by (styling k c) t) old (edited (styling k c) (laid_tree rows t)).boxes (styled-relaid rows t told.apart k old o c)
      (fit_styled (laid_tree rows t) h.fits laid_apart k c f) v last d told2

  pub style_below : (c : StyleChange) → CanRestyle k c (laid_by rows t.boxes) → IsHandedDown rows (passed_from (same_key k t.root) (hand_at rows k) (item_of same_key k t.boxes)) (children same_key k (edited (styling k c) t).boxes)
  style_below c f = in_place_below t rows told h k m (restyle c) (touched_by (styling k c) t) old (edited (styling k c) (laid_tree rows t)).boxes (styled-relaid rows t told.apart k old o c)
      (fit_styled (laid_tree rows t) h.fits laid_apart k c f)

-- The box is still there.
pub scroll_there : (t : Document) (k : BoxKey) (s : Scroll) → contains t k ≡ true → contains (edited (scrolling k s) t) k ≡ true
scroll_there t k s m = has-each (touched_by (scrolling k s) t) touch same_key k (at_box same_key k (with_scroll s) t.boxes) ∙ (has-each (λ i. same_key i k) (with_scroll s) same_key k t.boxes ∙ m)

pub style_there : (t : Document) (k : BoxKey) (c : StyleChange) → contains t k ≡ true → contains (edited (styling k c) t) k ≡ true
style_there t k c m = has-each (touched_by (styling k c) t) touch same_key k (at_box same_key k (restyle c) t.boxes) ∙ (has-each (λ i. same_key i k) (restyle c) same_key k t.boxes ∙ m)

-- A style that fits where a box is laid out fits where it is drawn.
pub can_restyle : (rows : List ScrollSums) (t : Document) (k : BoxKey) (c : StyleChange) → CanRestyle k c (laid_by rows t.boxes) → CanRestyle k c t.boxes
can_restyle rows t k c w = at (item_of same_key k t.boxes) (subst (λ o. IfSome o (λ d. Fits (changed d.style c))) (item-by (λ j d. laid_at (hand_at rows j) d) same_key same_key-sound k t.boxes) w) where
  at : (o : Option Item) → IfSome (option_map (laid_at (hand_at rows k)) o) (λ d. Fits (changed d.style c)) → IfSome o (λ d. Fits (changed d.style c))
  at None h = tt
  at (Some d) h = h
