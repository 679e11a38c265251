-- Where a box is drawn where it was, and hands down what it did, no box is drawn elsewhere.
use Rattle.std.proofs.Common.{◌≡◌, refl, ap, ◌∙◌, sym, Bool, true, false, cond, List, length}
use Rattle.rd_keys.specs.Keys.{same_key}
use Rattle.rd_keys.proofs.Keys.{same_key-refl}
use Rattle.rd_tree.specs.declared.handed.ScrollSums.{ScrollSums}
use Rattle.rd_tree.specs.declared.scroll.Scroll.{Scroll}
use Rattle.rd_tree.specs.Forest.{empty, tree, has, item_of, children}
use Rattle.rd_tree.specs.Document.{Document, BoxKey, Item, BoxForest, contains}
use Rattle.rd_tree.specs.Internal.Handing.{offset_in}
use Rattle.rd_tree.specs.Internal.Hands.{hand_at, handed_to, PutsHand}
use Rattle.rd_tree.specs.Internal.Redraws.{drawn_far, redrawn}
use Rattle.rd_tree.specs.Internal.Laid.{each_by, own_from, passed_from, drawn_again, IsHandedDown}
use Rattle.rd_tree.proofs.Forests.ByKey.{by_items}
use Rattle.rd_tree.proofs.Offsets.{far_back}
use Rattle.rd_tree.proofs.Laying.Kept.{IsTold}
use Rattle.rd_tree.proofs.Laying.Added.{puts_key}
use Rattle.rd_tree.proofs.Laying.Draws.{how}
use Rattle.rd_tree.proofs.Laying.Ends.{IsRedrawn}

each_same : (f : BoxForest) → each_by (λ j d. d) f ≡ f
each_same empty = refl
each_same (tree k d low rest) = λ i. tree k d (each_same low i) (each_same rest i)

module _ (t : Document) (rows mid : List ScrollSums) (k : BoxKey) (old : Scroll) (own before : ScrollSums) (told : IsTold t) (m : contains t k ≡ true) (below : IsHandedDown rows before (children same_key k t.boxes))
    (place : old ≡ own_from own (item_of same_key k t.boxes)) (same : before ≡ passed_from (same_key k t.root) own (item_of same_key k t.boxes)) (put : PutsHand rows mid k own) where
  abbrev low : BoxForest
  low = children same_key k t.boxes

  abbrev new : Scroll
  new = own_from own (item_of same_key k t.boxes)

  abbrev inside : ScrollSums
  inside = passed_from (same_key k t.root) own (item_of same_key k t.boxes)

  row : (j : BoxKey) → has same_key j low ≡ true → hand_at rows j ≡ handed_to j inside low
  row j u = below j u ∙ ap (λ h. handed_to j h low) same

  one : (j : BoxKey) (d : Item) (x y : Bool) → (y ≡ true → hand_at rows j ≡ handed_to j inside low)
      → cond x (drawn_far old new d) (cond y (redrawn (hand_at rows j) (handed_to j inside low) d) d) ≡ d
  one j d true y q = ap (λ s. drawn_far old s d) (sym place) ∙ far_back old d
  one j d false true q = ap (λ h. redrawn (hand_at rows j) h d) (sym (q refl)) ∙ far_back (offset_in (hand_at rows j) d.style.position) d
  one j d false false q = refl

  boxes_stay : drawn_again rows k old new inside t.boxes ≡ t.boxes
  boxes_stay =
      by_items same_key same_key-refl (how t rows k old own) (λ j d. d) t.boxes (λ j d u. one j d (same_key j k) (has same_key j low) (row j))
      ∙ each_same t.boxes

  pub still : length mid ≡ length rows → IsRedrawn t t rows mid k old own
  still n = record {
    drawn = ap (λ f. record t { boxes = f }) (sym boxes_stay);
    handed = λ i u. puts_key t told.keyed rows mid k own put m i u ∙ ap (cond (same_key i k) own) (by i (has same_key i low) (row i));
    same_length = n;
  } where
    by : (i : BoxKey) (y : Bool) → (y ≡ true → hand_at rows i ≡ handed_to i inside low) → hand_at rows i ≡ cond y (handed_to i inside low) (hand_at rows i)
    by i true q = q refl
    by i false q = refl
