-- What chunks say of the entries of a line, part by part.
use Rattle.std.proofs.Common.{◌≡◌, refl, ap, ◌∙◌, sym, subst, ℕ, zero, suc, ◌+◌, ◌-◌, ◌<◌, ◌≤◌, false, List, [], ◌∷◌, ◌++◌, length, take, drop, get_or, arith}
use Rattle.std.proofs.lemmas.List.{length-append, length-take-le, length-drop, append_assoc, append-nil, take-append-drop, drop-drop}
use Rattle.rd_graph.specs.Gathered.{gathered, ArePlaces}
use Rattle.rd_graph.specs.Runs.{places_of, up_from}
use Rattle.rd_graph.specs.declared.runs.Run.{Run}
use Rattle.rd_graph.proofs.LinedUp.RunLines.{further, gathered_up, gathered_append, places_more, places-append}
use Rattle.rd_graph.proofs.LinedUp.RunGathering.{run_within}
use Rattle.rd_list.specs.Chunks.{Tells, Covers, CoversAll}
use Rattle.rd_list.specs.declared.chunks.Chunk.{Chunk}
use Rattle.rd_list.specs.declared.kept.Entry.{Entry}
use Rattle.rd_list.proofs.Covering.{all_append, covers_more, one_covers}
use Rattle.rd_merge.specs.Internal.Moving.{PartsAll, PartsTo}

module _ {A : Type 0} where
  taken_left : (count p : ℕ) (xs ys : List (Entry A)) → p + count ≤ length xs → take count (drop p (xs ++ ys)) ≡ take count (drop p xs)
  taken_left zero p xs ys l = refl
  taken_left (suc count) zero [] ys l = absurd (omega (arith, l))
  taken_left (suc count) zero (x ∷ xs) ys l = ap (λ zs. x ∷ zs) (taken_left count zero xs ys (omega (arith, l)))
  taken_left (suc count) (suc p) [] ys l = absurd (omega (arith, l))
  taken_left (suc count) (suc p) (x ∷ xs) ys l = taken_left (suc count) p xs ys (omega (arith, l))

  -- no part as yet
  pub parts_none : (old : List Chunk) (es : List (Entry A)) (from : ℕ) → PartsAll old old es from from
  parts_none old es from = λ before made c l. subst (CoversAll old) (sym (ap (λ n. before ++ take n (drop from (es ++ made))) (let e : from - from ≡ 0 = omega arith in e) ∙ append-nil before)) c

  -- the entries from one place up to a later one, and those after them
  parts_split : (xs before : List (Entry A)) (from place n : ℕ) → from ≤ place → before ++ take ((place + n) - from) (drop from xs) ≡ (before ++ take (place - from) (drop from xs)) ++ take n (drop place xs)
  parts_split xs before from place n l =
      let e : (place + n) - from ≡ (place - from) + n = omega (arith, l) in
      let f : drop (place - from) (drop from xs) ≡ drop place xs = drop-drop (place - from) from xs ∙ ap (λ k. drop k xs) (let g : from + (place - from) ≡ place = omega (arith, l) in g) in
      ap (λ k. before ++ take k (drop from xs)) e ∙ ap (λ ys. before ++ ys) (further (place - from) n (drop from xs) ∙ ap (λ ys. take (place - from) (drop from xs) ++ take n ys) f) ∙ sym (append_assoc before (take (place - from) (drop from xs)) (take n (drop place xs)))

  pub parts_next : (old now new : List Chunk) (es : List (Entry A)) (from place : ℕ) (b : Chunk) → from ≤ place → PartsAll old now es from place → (b.is_open ≡ false → place + b.count ≤ length es)
      → (b.is_open ≡ false → Tells b (take b.count (drop place es))) → new ≡ now ++ b ∷ [] → PartsAll old new es from (place + b.count)
  parts_next old now new es from place b l all within held is = λ before made c m.
      let xs : List (Entry A) = es ++ made in
      let n = length-drop place xs in
      let long : length (take b.count (drop place xs)) ≡ b.count = length-take-le b.count (drop place xs) (omega (arith, n, m)) in
      let one = one_covers b (take b.count (drop place xs)) long (λ f. subst (Tells b) (sym (taken_left b.count place es made (within f))) (held f)) in
      rw is (subst (CoversAll (now ++ b ∷ [])) (sym (parts_split xs before from place b.count l)) (all_append now (b ∷ []) (before ++ take (place - from) (drop from xs)) (take b.count (drop place xs)) (all before made c (omega (arith, m))) one))

  -- so far as there is room
  pub parts_full : (old now : List Chunk) (es : List (Entry A)) (from place end : ℕ) → from ≤ place → place ≤ end → PartsAll old now es from place → PartsTo old now es from end
  parts_full old now es from place end l m all = λ before made c n.
      let xs : List (Entry A) = es ++ made in
      subst (Covers now) (sym (ap (λ k. before ++ take (k - from) (drop from xs)) (let e : end ≡ place + (end - place) = omega (arith, m) in e) ∙ parts_split xs before from place (end - place) l))
      (covers_more now (before ++ take (place - from) (drop from xs)) (take (end - place) (drop place xs)) (all before made c (omega (arith, m, n))).0)

  -- ---- the entries of a line, run by run

  pub line_part : (bs : List Chunk) (j : ℕ) (ss : List Run) (zs : List (Entry A)) → Covers bs (gathered (places_of (take j ss)) zs) → Covers bs (gathered (places_of ss) zs)
  line_part bs j ss zs d =
      subst (Covers bs) (sym (gathered_append (places_of (take j ss)) (places_of (drop j ss)) zs) ∙ ap (λ ps. gathered ps zs) (sym (places-append (take j ss) (drop j ss)) ∙ ap places_of (take-append-drop j ss)))
      (covers_more bs (gathered (places_of (take j ss)) zs) (gathered (places_of (drop j ss)) zs) d)

  module _ (rs : List Run) (i : ℕ) (r : Run) (es made : List (Entry A)) (l : i < length rs) (is : r ≡ get_or rs i r) (are : ArePlaces (places_of rs) (length es + length made)) where
    abbrev xs : List (Entry A)
    xs = es ++ made

    gathered_next : gathered (places_of (take (i + 1) rs)) xs ≡ gathered (places_of (take i rs)) xs ++ gathered (up_from r.from r.count) xs
    gathered_next = ap (λ ps. gathered ps xs) (places_more rs i r l is) ∙ gathered_append (places_of (take i rs)) (up_from r.from r.count) xs

    run_end : 0 < r.count → r.from + r.count ≤ length xs
    run_end some =
        let n = length-append es made in
        let k = run_within rs i (length es + length made) r l is are (r.count - 1) (omega (arith, some)) in
        omega (arith, k, n, some)

    run_is : (end : ℕ) → end ≡ r.from + r.count → 0 < r.count → gathered (places_of (take i rs)) xs ++ take (end - r.from) (drop r.from xs) ≡ gathered (places_of (take (i + 1) rs)) xs
    run_is end e some =
        ap (λ n. gathered (places_of (take i rs)) xs ++ take n (drop r.from xs)) (let f : end - r.from ≡ r.count = omega (arith, e) in f)
        ∙ ap (λ ys. gathered (places_of (take i rs)) xs ++ ys) (sym (gathered_up r.count r.from xs (run_end some))) ∙ sym gathered_next

    pub line_next : (now new : List Chunk) (end : ℕ) → end ≡ r.from + r.count → 0 < r.count → CoversAll now (gathered (places_of (take i rs)) xs) → PartsAll now new es r.from end → CoversAll new (gathered (places_of (take (i + 1) rs)) xs)
    line_next now new end e some c all = let m = run_end some in subst (CoversAll new) (run_is end e some) (all (gathered (places_of (take i rs)) xs) made c (omega (arith, m, e)))

    pub line_same : (now : List Chunk) → r.count ≡ 0 → CoversAll now (gathered (places_of (take i rs)) xs) → CoversAll now (gathered (places_of (take (i + 1) rs)) xs)
    line_same now none c =
        subst (CoversAll now) (sym (gathered_next ∙ ap (λ n. gathered (places_of (take i rs)) xs ++ gathered (up_from r.from n) xs) none ∙ append-nil (gathered (places_of (take i rs)) xs))) c

    pub line_full : (now new : List Chunk) (end : ℕ) → end ≡ r.from + r.count → 0 < r.count → CoversAll now (gathered (places_of (take i rs)) xs) → PartsTo now new es r.from end → Covers new (gathered (places_of rs) xs)
    line_full now new end e some c parts =
        let m = run_end some in
        line_part new (i + 1) rs xs (subst (Covers new) (run_is end e some) (parts (gathered (places_of (take i rs)) xs) made c (omega (arith, m, e))))
