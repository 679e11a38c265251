-- What is told of a box, from one box of the forest to the next.
use Rattle.std.proofs.Common.{◌≡◌, refl, ap, ◌∙◌, sym, true, false, ◌||◌, cond, inl, inr}
use Rattle.rd_keys.specs.Keys.{same_key}
use Rattle.rd_keys.proofs.Keys.{same_key-sound, same_key-refl}
use Rattle.rd_tree.specs.Forest.{empty, tree, ◌▷◌, has, starting_at}
use Rattle.rd_tree.specs.Document.{BoxKey, Item, BoxForest}
use Rattle.rd_tree.specs.Internal.Summaries.{summary_first, summary_of}
use Rattle.rd_tree.proofs.Linking.Standing.{cases, either}
use Rattle.rd_tree.proofs.Nodes.Looking.{nothing_from}

pub summary-here : (j i : BoxKey) (d : Item) (low rest : BoxForest) → same_key j i ≡ true → summary_of j (tree i d low rest) ≡ summary_first (tree i d low
    empty)
summary-here j i d low rest e = rw e refl

pub summary-inner : (j i : BoxKey) (d : Item) (low rest : BoxForest) → same_key j i ≡ false → has same_key j low ≡ true → summary_of j (tree i d low rest)
    ≡ summary_of j low
summary-inner j i d low rest e u = rw (e, u) refl

pub summary-later : (j i : BoxKey) (d : Item) (low rest : BoxForest) → same_key j i ≡ false → has same_key j low ≡ false → summary_of j (tree i d low rest)
    ≡ summary_of j rest
summary-later j i d low rest e u = rw (e, u) refl

pub summary-join : (j : BoxKey) (f g : BoxForest) → summary_of j (f ▷ g) ≡ cond (has same_key j f) (summary_of j f) (summary_of j g)
summary-join j empty g = refl
summary-join j (tree i d low rest) g =
    elim (cases (same_key j i)) [
      | inl e ↦ rw e refl
      | inr e ↦ elim (cases (has same_key j low)) [ inl u ↦ rw (e, u) refl | inr u ↦ rw (e, u) (summary-join j rest g) ]
    ]

-- A box among others leaves what is told of those.
pub summary-past : (j k : BoxKey) (d : Item) (below xs ys : BoxForest) → has same_key j (tree k d below empty) ≡ false → summary_of j (xs ▷ tree k d below
    ys) ≡ summary_of j (xs ▷ ys)
summary-past j k d below xs ys o =
    let s : (same_key j k ≡ false) × ((has same_key j below || false) ≡ false) = either (same_key j k) (has same_key j below || false) o in
    let t : has same_key j below ≡ false = (either (has same_key j below) false s.1).0 in
    summary-join j xs (tree k d below ys) ∙ (ap (cond (has same_key j xs) (summary_of j xs)) (summary-later j k d below ys s.0 t) ∙ sym (summary-join j xs ys))

-- What is told of it, and of those below it, stays.
pub summary-one : (j k : BoxKey) (d : Item) (below xs ys : BoxForest) → has same_key j xs ≡ false → has same_key j ys ≡ false → summary_of j (xs ▷ tree k d
    below ys) ≡ summary_of j (tree k d below empty)
summary-one j k d below xs ys o v =
    summary-join j xs (tree k d below ys) ∙ (ap (λ b. cond b (summary_of j xs) (summary_of j (tree k d below ys))) o ∙
    elim (cases (same_key j k)) [
      | inl e ↦ summary-here j k d below ys e ∙ sym (summary-here j k d below empty e)
      | inr e ↦ elim (cases (has same_key j below)) [
        | inl u ↦ summary-inner j k d below ys e u ∙ sym (summary-inner j k d below empty e u)
        | inr u ↦ rw (e, u, out j ys v) refl
      ]
    ]) where
      out : (j : BoxKey) (f : BoxForest) → has same_key j f ≡ false → starting_at same_key j f ≡ empty
      out j f h = nothing_from same_key same_key-sound same_key-refl j f h
