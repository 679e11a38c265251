-- What is asked of boxes is the same where they are laid out.
use Rattle.std.proofs.Common.{◌≡◌, refl, ap, ◌∙◌, sym, true, cond, ◌+◌, ◌≤◌, List, ℕ, inl, inr, arith}
use Rattle.std.specs.Prelude.{Option, Some, None, option_map}
use Rattle.std.specs.Option.{option_map_or}
use Rattle.std.specs.Str.{bytes_eq}
use Rattle.rd_keys.specs.Keys.{same_key}
use Rattle.rd_keys.proofs.Keys.{same_key-sound}
use Rattle.rd_tree.specs.declared.handed.ScrollSums.{ScrollSums}
use Rattle.rd_tree.specs.Figures.{max_depth}
use Rattle.rd_tree.specs.Forest.{empty, tree, head, has, item_of, height, depth, children, is_among, starting_at, from_some, IsPlaceIn}
use Rattle.rd_tree.specs.Document.{Document, BoxKey, Item, BoxForest, or_else, named, id_of, is_touched, HasIds, IsRooted, IsKeyed}
use Rattle.rd_tree.specs.Internal.Hands.{hand_at}
use Rattle.rd_tree.specs.Internal.Laid.{laid_at, laid_by, laid_tree}
use Rattle.rd_tree.proofs.Linking.Standing.{cases}
use Rattle.rd_tree.proofs.Forests.ByKey.{has-by, height-by, children-by, is_among-by, from-by, item-by}

module _ (rows : List ScrollSums) where
  abbrev lay : BoxKey → Item → Item
  lay k d = laid_at (hand_at rows k) d

  pub rooted_laid : (t : Document) → IsRooted t → IsRooted (laid_tree rows t)
  rooted_laid t r = (lay t.root r.0, laid_by rows r.1, ap (laid_by rows) r.2)

  pub keyed_laid : (t : Document) → IsKeyed t → IsKeyed (laid_tree rows t)
  keyed_laid t q k m = q k (sym (has-by lay same_key k t.boxes) ∙ m)

  pub below-height : (k : BoxKey) (f : BoxForest) → height (children same_key k (laid_by rows f)) ≡ height (children same_key k f)
  below-height k f = ap height (children-by lay same_key k f) ∙ height-by lay (children same_key k f)

  pub depth-laid : (k : BoxKey) (f : BoxForest) → depth same_key k (laid_by rows f) ≡ depth same_key k f
  depth-laid k empty = refl
  depth-laid k (tree i d low rest) =
      elim (cases (same_key k i)) [
        | inl s ↦ rw s refl
        | inr s ↦ elim (cases (has same_key k low)) [
          | inl u ↦ rw (s, has-by lay same_key k low, u) (ap (λ n. 1 + n) (depth-laid k low))
          | inr u ↦ rw (s, has-by lay same_key k low, u) (depth-laid k rest)
        ]
      ]

  pub named-laid : (i : List ℕ) (f : BoxForest) → named i (laid_by rows f) ≡ named i f
  named-laid i empty = refl
  named-laid i (tree k d low rest) = λ x. cond (bytes_eq d.id i) (Some k) (or_else (named-laid i low x) (named-laid i rest x))

  pub id_of-laid : (k : BoxKey) (f : BoxForest) → id_of k (laid_by rows f) ≡ id_of k f
  id_of-laid k f = ap (option_map (λ d. d.id)) (item-by lay same_key same_key-sound k f) ∙ by (item_of same_key k f) where
    by : (o : Option Item) → option_map (λ d. d.id) (option_map (lay k) o) ≡ option_map (λ d. d.id) o
    by None = refl
    by (Some d) = refl

  pub ids_laid : (f : BoxForest) → HasIds f → HasIds (laid_by rows f)
  ids_laid f s = record {
    are = λ k i h. s.are k i (sym (id_of-laid k f) ∙ h);
    differ = λ j k i h g. s.differ j k i (sym (id_of-laid j f) ∙ h) (sym (id_of-laid k f) ∙ g);
  }

  pub is_touched-laid : (k : BoxKey) (f : BoxForest) → is_touched k (laid_by rows f) ≡ is_touched k f
  is_touched-laid k f = ap (λ o. option_map_or (λ d. d.touched) o true) (item-by lay same_key same_key-sound k f) ∙ by (item_of same_key k f) where
    by : (o : Option Item) → option_map_or (λ d. d.touched) (option_map (lay k) o) true ≡ option_map_or (λ d. d.touched) o true
    by None = refl
    by (Some d) = refl

  first : (f : BoxForest) → head (laid_by rows f) ≡ head f
  first empty = refl
  first (tree k d low rest) = refl

  pub head_laid : (o : Option BoxKey) (f : BoxForest) → head (from_some same_key o (laid_by rows f)) ≡ head (from_some same_key o f)
  head_laid None f = refl
  head_laid (Some k) f = ap head (from-by lay same_key k f) ∙ first (starting_at same_key k f)

  pub place_laid : (before : Option BoxKey) (p : BoxKey) (f : BoxForest) → IsPlaceIn same_key before (children same_key p (laid_by rows f)) → IsPlaceIn same_key before (children same_key p f)
  place_laid None p f w = tt
  place_laid (Some j) p f w = sym (is_among-by lay same_key j (children same_key p f)) ∙ (ap (is_among same_key j) (sym (children-by lay same_key p f)) ∙ w)

  pub depth_laid : (p k : BoxKey) (f : BoxForest) → depth same_key p (laid_by rows f) + (1 + height (children same_key k (laid_by rows f))) ≤ max_depth
      → depth same_key p f + (1 + height (children same_key k f)) ≤ max_depth
  depth_laid p k f w =
      let a : depth same_key p (laid_by rows f) ≡ depth same_key p f = depth-laid p f in
      let b : height (children same_key k (laid_by rows f)) ≡ height (children same_key k f) = below-height k f in
      omega (arith, a, b, w)

  pub deeper_laid : (p : BoxKey) (f : BoxForest) → depth same_key p (laid_by rows f) + 1 ≤ max_depth → depth same_key p f + 1 ≤ max_depth
  deeper_laid p f w = let a : depth same_key p (laid_by rows f) ≡ depth same_key p f = depth-laid p f in omega (arith, a, w)

  pub few_deep : (p : BoxKey) (f : BoxForest) → depth same_key p (laid_by rows f) + 1 ≤ max_depth → depth same_key p f ≤ 256
  few_deep p f w = let a : depth same_key p (laid_by rows f) ≡ depth same_key p f = depth-laid p f in omega (arith, a, w)
