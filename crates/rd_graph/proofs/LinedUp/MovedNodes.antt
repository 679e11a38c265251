-- The nodes of a run in the line that it is of.
use Rattle.std.proofs.Common.{◌≡◌, refl, ap, ◌∙◌, sym, subst, ℕ, zero, suc, ◌+◌, ◌<◌, ◌≤◌, List, [], ◌∷◌, length, map, take, drop, get_or, arith}
use Rattle.std.proofs.lemmas.List.{length-append}
use Rattle.rd_keys.specs.declared.entry.EntryKey.{EntryKey}
use Rattle.rd_graph.specs.Gathered.{gathered, ArePlaces}
use Rattle.rd_graph.specs.Graphs.{Graph}
use Rattle.rd_graph.specs.Runs.{places_of}
use Rattle.rd_graph.specs.Internal.Chunks.{IsMoved}
use Rattle.rd_graph.specs.declared.runs.Run.{Run}
use Rattle.rd_graph.proofs.Lists.Gatherings.{at_below, gathered_map}
use Rattle.rd_graph.proofs.LinedUp.RunGathering.{place_in_line, run_within}
use Rattle.rd_graph.proofs.LinedUp.RunLines.{count_within}

module _ {T : Type 0} where
  one_most : (p : ℕ) (xs : List T) → length (take 1 (drop p xs)) ≤ 1
  one_most zero [] = omega arith
  one_most zero (x ∷ xs) = omega arith
  one_most (suc p) [] = omega arith
  one_most (suc p) (x ∷ xs) = one_most p xs

  pub gathered_few : (ps : List ℕ) (xs : List T) → length (gathered ps xs) ≤ length ps
  gathered_few [] xs = omega arith
  gathered_few (p ∷ ps) xs =
      let one = one_most p xs in
      let more = gathered_few ps xs in
      let sum = length-append (take 1 (drop p xs)) (gathered ps xs) in
      omega (arith, one, more, sum)

  get_map : (f : ℕ → T) (ps : List ℕ) (k : ℕ) (d : T) → k < length ps → get_or (map f ps) k d ≡ f (get_or ps k 0)
  get_map f [] k d l = absurd (omega (arith, l))
  get_map f (p ∷ ps) zero d l = refl
  get_map f (p ∷ ps) (suc k) d l = get_map f ps k d (omega (arith, l))

  pub gathered_get : (ps : List ℕ) (xs : List T) (k : ℕ) (d : T) → ((j : ℕ) → j < length ps → get_or ps j 0 < length xs) → k < length ps → get_or (gathered ps xs) k d ≡ get_or xs (get_or ps k 0) d
  gathered_get ps xs k d within l = ap (λ zs. get_or zs k d) (gathered_map ps xs d (at_below (length xs) ps within)) ∙ get_map (λ p. get_or xs p d) ps k d l

pub moved_run : (rs : List Run) (i n : ℕ) (r : Run) (all : Graph EntryKey) → i < length rs → r ≡ get_or rs i r → ArePlaces (places_of rs) n → n ≡ length all
    → IsMoved all (gathered (places_of rs) all) r.from (length (places_of (take i rs))) r.count
moved_run rs i n r all l is are size k x w h =
    let s = length (places_of (take i rs)) in
    let far = count_within rs i r l is in
    let in_line : s + k < length (places_of rs) = omega (arith, far, w) in
    let within : (j : ℕ) → j < length (places_of rs) → get_or (places_of rs) j 0 < length all = λ j m. subst (λ z. get_or (places_of rs) j 0 < z) size (are.within j m) in (
      subst (λ z. r.from + k < z) size (run_within rs i n r l is are k w),
      sym (gathered_get (places_of rs) all (s + k) x within in_line ∙ ap (λ p. get_or all p x) (place_in_line rs i n r l is are k w)) ∙ h.1,
    )
