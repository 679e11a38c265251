-- Entries that are passed over.
use Rattle.std.proofs.Common.{◌≡◌, ℕ, ℤ, ◌+◌, ◌<◌, ◌∷◌, [], List, length, drop, get_or, arith, ap}
use Rattle.rd_list.specs.Displayed.{shown}
use Rattle.rd_list.specs.Entries.{nil}
use Rattle.rd_list.specs.declared.kept.Entry.{Entry}
use Rattle.rd_list.proofs.Displaying.{shown_from}
use Rattle.rd_paint.specs.Internal.Picks.{SameWhere, ServesWhere}
use Rattle.rd_paint.proofs.Shown.Showing.{serves_by, serves_past, serves_then}

module _ {A : Type 0} (p : ℤ → ℤ → Type 0) (es : List (Entry A)) where
  pub past_one : (i : ℕ) (x : Entry A) → i < length es → x ≡ get_or es i x → SameWhere p nil (shown (x ∷ []))
      → ServesWhere p (shown (drop (i + 1) es)) (shown (drop i es))
  past_one i x h e s = serves_past p (shown (x ∷ [])) (shown (drop (i + 1) es)) (shown (drop i es)) (shown_from es i x h e) s

  abbrev Past : ℕ → ℕ → Type 0
  Past j i = ServesWhere p (shown (drop j es)) (shown (drop i es))

  pub past_none : (i j : ℕ) → j ≡ i → Past j i
  past_none i j e = serves_by p (shown (drop j es)) (shown (drop i es)) (ap (λ n. shown (drop n es)) e)

  pub past_more : (i j k : ℕ) → Past j i → Past k j → Past k i
  past_more i j k s t = serves_then p (shown (drop k es)) (shown (drop j es)) (shown (drop i es)) t s

  past_two : (i : ℕ) → Past (i + 1) i → Past (i + 1 + 1) (i + 1) → Past (i + 2) i
  past_two i a b = past_more i (i + 1) (i + 2) a (past_more (i + 1) (i + 1 + 1) (i + 2) b (past_none (i + 1 + 1) (i + 2) (omega arith)))

  past_three : (i : ℕ) → Past (i + 1) i → Past (i + 1 + 1) (i + 1) → Past (i + 2 + 1) (i + 2) → Past (i + 3) i
  past_three i a b d = past_more i (i + 2) (i + 3) (past_two i a b) (past_more (i + 2) (i + 2 + 1) (i + 3) d (past_none (i + 2 + 1) (i + 3) (omega arith)))

  pub past_four : (i : ℕ) → Past (i + 1) i → Past (i + 1 + 1) (i + 1) → Past (i + 2 + 1) (i + 2) → Past (i + 3 + 1) (i + 3) → Past (i + 4) i
  past_four i a b d e = past_more i (i + 3) (i + 4) (past_three i a b d) (past_more (i + 3) (i + 3 + 1) (i + 4) e (past_none (i + 3 + 1) (i + 4) (omega arith)))
