-- A line of made elements alone, which stand in it as they are.
use Rattle.std.proofs.Common.{◌≡◌, ap, ◌∙◌, sym, ℕ, List, [], ◌∷◌, ◌++◌, length, get_or, arith}
use Rattle.std.proofs.lemmas.List.{append-nil, take_all}
use Rattle.rd_graph.specs.Gathered.{gathered}
use Rattle.rd_graph.specs.Runs.{places_of, up_from}
use Rattle.rd_graph.specs.declared.runs.Run.{Run}
use Rattle.rd_graph.proofs.LinedUp.RunLines.{gathered_up, none_long}

-- the only run of a line
pub only_run : (rs : List Run) (r : Run) (n : ℕ) → length rs ≡ 1 → r ≡ get_or rs 0 r → r.from ≡ 0 → r.count ≡ n → places_of rs ≡ up_from 0 n
only_run [] r n l is f c = absurd (omega (arith, l))
only_run (x ∷ []) r n l is f c = append-nil (up_from x.from x.count) ∙ ap (λ (q : Run). up_from q.from q.count) (sym is) ∙ ap (λ k. up_from k r.count) f ∙ ap (up_from 0) c
only_run (x ∷ y ∷ rs) r n l is f c = absurd (omega (arith, l))

-- ---- the elements there

module _ {T : Type 0} where
  whole_up : (xs : List T) → gathered (up_from 0 (length xs)) xs ≡ xs
  whole_up xs = gathered_up (length xs) 0 xs (omega arith) ∙ take_all (length xs) xs (omega arith)

  -- made ones, where there are no old ones
  pub only_made : (old made : List T) (ps : List ℕ) (n m : ℕ) → n ≡ 0 → length old ≡ n → length made ≡ m → ps ≡ up_from 0 m → made ≡ gathered ps (old ++ made)
  only_made old made ps n m z l k e =
      sym (ap (λ qs. gathered qs (old ++ made)) (e ∙ ap (up_from 0) (sym k)) ∙ ap (λ zs. gathered (up_from 0 (length made)) (zs ++ made)) (none_long old (l ∙ z)) ∙ whole_up made)
