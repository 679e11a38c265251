-- Picking and numbering is numbering what was picked.
use Rattle.std.proofs.Common.{◌≡◌, refl, ap, ◌∙◌, sym, Bool, true, false, cond, ℕ, suc}
use Rattle.std.specs.Prelude.{Some, None}
use Rattle.rd_item.specs.declared.leaf.Leaf.{Leaf}
use Rattle.rd_list.specs.Wrappers.{Wrapper}
use Rattle.std.proofs.Common.{◌+◌, length-append}
use Rattle.rd_list.specs.Entries.{flat, Entries, nil, leaf, group, ◌▷◌, option_entry, only, grouped_if_any}
use Rattle.rd_partial.specs.Internal.Picking.{picked, made_if}
use Rattle.rd_partial.specs.Internal.Counting.{leaves_in}
use Rattle.rd_partial.specs.Numbered.{numbered}

numbered_group : (n : ℕ) (w : Wrapper) (inner rest : Entries Wrapper Leaf) → grouped_if_any w (numbered n inner) (numbered n rest) ≡ numbered n (grouped_if_any w inner rest)
numbered_group n w nil rest = refl
numbered_group n w (leaf l xs) rest = refl
numbered_group n w (group v i xs) rest = refl

pub only_is : (p : Leaf → Bool) (n : ℕ) (xs : Entries Wrapper Leaf) → picked (made_if p n) xs ≡ numbered n (only p xs)
only_is p n nil = refl
only_is p n (leaf l rest) = by (p l) (only_is p n rest)
  where
    by : (t : Bool) → picked (made_if p n) rest ≡ numbered n (only p rest) → option_entry (cond t (Some (record { leaf = l; made_at = n })) None) ▷ picked (made_if p n) rest ≡ numbered n (cond t (leaf l (only p rest)) (only p rest))
    by true h = ap (leaf (record { leaf = l; made_at = n })) h
    by false h = h
only_is p n (group w inner rest) =
    ap (λ z. grouped_if_any w z (picked (made_if p n) rest)) (only_is p n inner)
    ∙ ap (grouped_if_any w (numbered n (only p inner))) (only_is p n rest)
    ∙ numbered_group n w (only p inner) (only p rest)

-- to number leaves leaves as many
pub numbered_leaves : (n : ℕ) (xs : Entries Wrapper Leaf) → leaves_in (numbered n xs) ≡ leaves_in xs
numbered_leaves n nil = refl
numbered_leaves n (leaf l rest) = ap suc (numbered_leaves n rest)
numbered_leaves n (group w inner rest) =
    length-append (flat (numbered n inner)) (flat (numbered n rest))
    ∙ ap (λ z. z + leaves_in (numbered n rest)) (numbered_leaves n inner)
    ∙ ap (λ z. leaves_in inner + z) (numbered_leaves n rest)
    ∙ sym (length-append (flat inner) (flat rest))
