-- The test of a shift decides it.
use Rattle.std.proofs.Common.{◌≡◌, ◌∙◌, ap, sym, subst, ℤ, Bool, true, refl, List, Option, Some, None, IfSome, inl, inr}
use Rattle.std.specs.Prelude.{◌↔◌, IsTrue, option_map}
use Rattle.std.specs.Bool.{Decides, one_answer}
use Rattle.std.specs.Option.{option_map_or}
use Rattle.std.proofs.lemmas.Bool.Decides.{Decides-and, Decides-like}
use Rattle.rd_style.specs.Limits.{fits_rect, FitsRect}
use Rattle.rd_keys.specs.Keys.{same_key}
use Rattle.rd_keys.specs.Arena.{Arena}
use Rattle.rd_keys.proofs.Keys.{same_key-sound}
use Rattle.rd_tree.specs.declared.node.Node as inner
use Rattle.rd_tree.specs.declared.handed.ScrollSums.{ScrollSums}
use Rattle.rd_tree.specs.Internal.Links.{Node, child_and_sibling}
use Rattle.rd_tree.specs.Internal.Linked.{linked, IsTree, seen, seen_from, item_at}
use Rattle.rd_tree.specs.Internal.Hands.{hand_at}
use Rattle.rd_tree.specs.Internal.Laid.{laid_at, laid_by, LaidFitsAt, ShiftFitsAt}
use Rattle.rd_tree.proofs.Linking.Standing.{cases}
use Rattle.rd_tree.proofs.Forests.ByKey.{children-by, item-by}
use Rattle.rd_tree.proofs.Forests.All.{all_children}
use Rattle.rd_tree.proofs.Nodes.Naming.{item_seen}
use Rattle.rd_tree.proofs.Nodes.Each.{under_box}
use Rattle.rd_tree.specs.Forest.{empty, tree, has, AllItems, children, item_of}
use Rattle.rd_tree.specs.Document.{BoxKey, Item, BoxForest, AllFit}
use Rattle.rd_tree.specs.Changes.{shifted, all_of, fits_shift, CanShift}
use Rattle.rd_tree.specs.Internal.Works.{ShiftFits}

module _ (p : Item → Bool) (P : Item → Type 0) (each : (d : Item) → Decides (p d) (P d)) where
  if_there : (o : Option Item) → Decides (option_map_or p o true) (IfSome o P)
  if_there None = (λ _. tt, λ _. refl)
  if_there (Some d) = each d

  all_decide : (f : BoxForest) → Decides (all_of p f) (AllItems P f)
  all_decide empty = (λ _. tt, λ _. refl)
  all_decide (tree k d below rest) = Decides-like _ (λ h. (h.0.0, h.0.1, h.1)) (λ h. ((h.0, h.1), h.2))
      (Decides-and _ _ (Decides-and _ _ (each d) (all_decide below)) (all_decide rest))

shift_decides : (dx dy : ℤ) (k : BoxKey) (f : BoxForest) → Decides (fits_shift dx dy k f) (ShiftFits dx dy k f)
shift_decides dx dy k f =
    let p : Item → Bool = λ d. fits_rect (shifted dx dy d.rect) in
    let P : Item → Type 0 = λ d. FitsRect (shifted dx dy d.rect) in
    let each : (d : Item) → Decides (p d) (P d) = λ d. (λ h. h, λ h. h) in
    Decides-and _ _ (if_there p P each (item_of same_key k f)) (all_decide p P each (children same_key k f))

pub shift_within : (dx dy : ℤ) (k : BoxKey) (f : BoxForest) (b : Bool) → (IsTrue b ↔ ShiftFits dx dy k f) → b ≡ fits_shift dx dy k f
shift_within dx dy k f b i = one_answer b (fits_shift dx dy k f) i (shift_decides dx dy k f)

-- What the two parts of a test of a shift say, of the boxes where they are laid out.
module _ (rows : List ScrollSums) (a : Arena inner.Node) (root k : BoxKey) (dx dy : ℤ) (o : Option BoxKey) (t : IsTree a root) (m : has same_key k (seen a root) ≡ true)
    (e : o ≡ (child_and_sibling (linked a k)).0) where
  item_there : option_map (laid_at (hand_at rows k)) (item_at a k) ≡ item_of same_key k (laid_by rows (seen a root))
  item_there = ap (option_map (laid_at (hand_at rows k))) (item_seen a root k t) ∙ sym (item-by (λ j d. laid_at (hand_at rows j) d) same_key same_key-sound k (seen a root))

  below_there : laid_by rows (seen_from a o) ≡ children same_key k (laid_by rows (seen a root))
  below_there = ap (laid_by rows) (ap (seen_from a) e ∙ (under_box a root k t m).told) ∙ sym (children-by (λ j d. laid_at (hand_at rows j) d) same_key k (seen a root))

  pub can_shift : ShiftFitsAt (hand_at rows k) dx dy (linked a k) → AllItems (λ d. FitsRect (shifted dx dy d.rect)) (laid_by rows (seen_from a o))
      → ShiftFits dx dy k (laid_by rows (seen a root))
  can_shift here all = (
    subst (λ q. IfSome q (λ d. FitsRect (shifted dx dy d.rect))) item_there (at (linked a k) here),
    subst (λ f. AllItems (λ d. FitsRect (shifted dx dy d.rect)) f) below_there all,
  ) where
    at : (q : Option (Node BoxKey Item)) → ShiftFitsAt (hand_at rows k) dx dy q → IfSome (option_map (laid_at (hand_at rows k)) (option_map (λ n. n.item) q)) (λ d. FitsRect (shifted dx dy d.rect))
    at None h = tt
    at (Some n) h = h

  pub shift_parts : ShiftFits dx dy k (laid_by rows (seen a root)) → ShiftFitsAt (hand_at rows k) dx dy (linked a k)
      × AllItems (λ d. FitsRect (shifted dx dy d.rect)) (laid_by rows (seen_from a o))
  shift_parts can = (
    at (linked a k) (subst (λ q. IfSome q (λ d. FitsRect (shifted dx dy d.rect))) (sym item_there) can.0),
    subst (λ f. AllItems (λ d. FitsRect (shifted dx dy d.rect)) f) (sym below_there) can.1,
  ) where
    at : (q : Option (Node BoxKey Item)) → IfSome (option_map (laid_at (hand_at rows k)) (option_map (λ n. n.item) q)) (λ d. FitsRect (shifted dx dy d.rect)) → ShiftFitsAt (hand_at rows k) dx dy q
    at None h = tt
    at (Some n) h = h

  -- Boxes within the limits are so one by one.
  pub laid_here : AllFit (laid_by rows (seen a root)) → LaidFitsAt (hand_at rows k) (linked a k)
  laid_here all = at (linked a k) (subst (λ q. IfSome q (λ d. FitsRect d.rect)) (sym item_there) (first (laid_by rows (seen a root)) all)) where
    first : (f : BoxForest) → AllFit f → IfSome (item_of same_key k f) (λ d. FitsRect d.rect)
    first empty h = tt
    first (tree i d low rest) h =
        elim (cases (same_key k i)) [
          | inl s ↦ rw s h.0
          | inr s ↦ elim (cases (has same_key k low)) [ inl u ↦ rw (s, u) (first low h.2) | inr u ↦ rw (s, u) (first rest h.3) ]
        ]

    at : (q : Option (Node BoxKey Item)) → IfSome (option_map (laid_at (hand_at rows k)) (option_map (λ n. n.item) q)) (λ d. FitsRect d.rect) → LaidFitsAt (hand_at rows k) q
    at None h = tt
    at (Some n) h = h

  pub laid_below : AllFit (laid_by rows (seen a root)) → AllItems (λ d. FitsRect d.rect) (laid_by rows (seen_from a o))
  laid_below all = subst (λ f. AllItems (λ d. FitsRect d.rect) f) (sym below_there) (all_children (λ d. FitsRect d.rect) same_key k (laid_by rows (seen a root)) (rects (laid_by rows (seen a root)) all)) where
    rects : (f : BoxForest) → AllFit f → AllItems (λ d. FitsRect d.rect) f
    rects empty h = tt
    rects (tree i d low rest) h = (h.0, rects low h.2, rects rest h.3)

pub shift_fits : (dx dy : ℤ) (k : BoxKey) (f : BoxForest) → CanShift dx dy k f → ShiftFits dx dy k f
shift_fits dx dy k f h = (shift_decides dx dy k f).0 h
