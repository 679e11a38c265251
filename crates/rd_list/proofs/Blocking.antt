-- Blocks over chunks, each of eight of them.
use Rattle.std.proofs.Common.{◌≡◌, refl, ap, ◌∙◌, sym, subst, ℕ, zero, suc, ◌+◌, ◌-◌, ◌*◌, ◌<◌, ◌≤◌, false, List, [], ◌∷◌, ◌++◌, length, take, drop, get_or, Option, None, arith, take-add}
use Rattle.std.specs.Prelude.{slice_set}
use Rattle.std.specs.List.{take-map, drop-map}
use Rattle.std.proofs.lemmas.List.{length-append, length-drop, take_all, take-append-drop, drop-drop}
use Rattle.rd_list.specs.Chunks.{AreEights, added, ChangesTo, Covers, IsAt, IsTold, Tells, counts, total}
use Rattle.rd_list.specs.Internal.Telling.{IsBoth}
use Rattle.rd_list.specs.declared.told.ChunkBounds.{ChunkBounds}
use Rattle.rd_list.specs.declared.chunks.Chunk.{Chunk}
use Rattle.rd_list.specs.declared.kept.Entry.{Entry}
use Rattle.rd_list.proofs.Admitting.{found_told}
use Rattle.rd_list.proofs.Covering.{told_both, total_append, total_next}

total_counts : (bs : List Chunk) → total bs ≡ added (counts bs)
total_counts [] = refl
total_counts (b ∷ bs) = ap (λ n. b.count + n) (total_counts bs)

counts_length : (bs : List Chunk) → length (counts bs) ≡ length bs
counts_length [] = refl
counts_length (b ∷ bs) = ap suc (counts_length bs)

added_parts : (ms ns : List ℕ) → added (ms ++ ns) ≡ added ms + added ns
added_parts [] ns = let e : added ns ≡ 0 + added ns = omega arith in e
added_parts (m ∷ ms) ns = let e = added_parts ms ns in omega (arith, e)

-- so many blocks, and their chunks
eights_at : (ms ns : List ℕ) (k : ℕ) → AreEights ms ns → k ≤ length ms → (k * 8 ≤ length ns) × (added (take (k * 8) ns) ≡ added (take k ms))
eights_at ms ns zero h l = (omega arith, refl)
eights_at [] ns (suc k) h l = absurd (omega (arith, l))
eights_at (m ∷ ms) ns (suc k) h l =
    let r = eights_at ms (drop 8 ns) k h.2 (omega (arith, l)) in
    let few = h.0 in
    let first = h.1 in
    let more = r.0 in
    let rest = r.1 in
    let d = length-drop 8 ns in
    let n : suc k * 8 ≡ 8 + k * 8 = omega arith in
    let split : added (take (suc k * 8) ns) ≡ added (take 8 ns) + added (take (k * 8) (drop 8 ns)) = ap (λ j. added (take j ns)) n ∙ ap added (take-add 8 (k * 8) ns) ∙ added_parts (take 8 ns) (take (k * 8) (drop 8 ns)) in
    (omega (arith, few, more, d, n), omega (arith, split, first, rest))

-- the first chunk of a block
pub at_first : (bs cs : List Chunk) (k start : ℕ) → AreEights (counts bs) (counts cs) → IsAt bs k start → IsAt cs (k * 8) start
at_first bs cs k start h at =
    let l = at.0 in
    let e = counts_length bs in
    let f = counts_length cs in
    let r = eights_at (counts bs) (counts cs) k h (omega (arith, l, e)) in
    let few = r.0 in
    let same : total (take (k * 8) cs) ≡ total (take k bs) =
    total_counts (take (k * 8) cs) ∙ ap added (sym (take-map (λ (b : Chunk). b.count) (k * 8) cs)) ∙ r.1 ∙ ap added (take-map (λ (b : Chunk). b.count) k bs) ∙ sym (total_counts (take k bs)) in
    (omega (arith, few, f), at.1 ∙ sym same)

-- the block that begins with a chunk
pub at_chunk : (bs cs : List Chunk) (k start : ℕ) → AreEights (counts bs) (counts cs) → k ≤ length bs → IsAt cs (k * 8) start → IsAt bs k start
at_chunk bs cs k start h l at = (l, at.1 ∙ sym (at_first bs cs k (total (take k bs)) h (l, refl)).1)

-- the next block
pub at_block : (bs : List Chunk) (k start : ℕ) (b : Chunk) → k < length bs → b ≡ get_or bs k b → IsAt bs k start → IsAt bs (k + 1) (start + b.count)
at_block bs k start b l is at = let e = total_next bs k b l is in let s = at.1 in (omega (arith, l), omega (arith, s, e))

-- its chunks have as many entries
pub eight_total : (bs cs : List Chunk) (k start : ℕ) (b : Chunk) → AreEights (counts bs) (counts cs) → IsAt bs k start → k < length bs → b ≡ get_or bs k b → total (take 8 (drop (k * 8) cs)) ≡ b.count
eight_total bs cs k start b h at l is =
    let first = at_first bs cs k start h at in
    let next = at_first bs cs (k + 1) (start + b.count) h (at_block bs k start b l is at) in
    let s = first.1 in
    let t = next.1 in
    let n : (k + 1) * 8 ≡ k * 8 + 8 = omega arith in
    let split : total (take ((k + 1) * 8) cs) ≡ total (take (k * 8) cs) + total (take 8 (drop (k * 8) cs)) = ap (λ j. total (take j cs)) n ∙ ap total (take-add (k * 8) 8 cs) ∙ total_append (take (k * 8) cs) (take 8 (drop (k * 8) cs)) in
    omega (arith, s, t, split)

any_chunk : (bs : List Chunk) (k : ℕ) → k < length bs → Chunk
any_chunk [] k l = absurd (omega (arith, l))
any_chunk (b ∷ bs) k l = b

-- a block has eight chunks
pub eight_there : (bs cs : List Chunk) (k start : ℕ) → AreEights (counts bs) (counts cs) → IsAt bs k start → k < length bs → 8 ≤ length (drop (k * 8) cs)
eight_there bs cs k start h at l =
    let d = any_chunk bs k l in
    let next = at_first bs cs (k + 1) (start + (get_or bs k d).count) h (at_block bs k start (get_or bs k d) l (get_any bs k d (get_or bs k d) l) at) in
    let few = next.0 in
    let e = length-drop (k * 8) cs in
    omega (arith, few, e)
  where
    get_any : (xs : List Chunk) (i : ℕ) (d e : Chunk) → i < length xs → get_or xs i d ≡ get_or xs i e
    get_any [] i d e m = absurd (omega (arith, m))
    get_any (x ∷ xs) zero d e m = refl
    get_any (x ∷ xs) (suc i) d e m = get_any xs i d e (omega (arith, m))

-- all of them are there
pub eight_within : (bs cs : List Chunk) (k start : ℕ) → AreEights (counts bs) (counts cs) → IsAt bs k start → k < length bs → k * 8 + 8 ≤ length cs
eight_within bs cs k start h at l =
    let few = (at_first bs cs k start h at).0 in
    let more = eight_there bs cs k start h at l in
    let e = length-drop (k * 8) cs in
    omega (arith, few, more, e)

module _ {A : Type 0} where
  -- chunks from one on
  pub covers_from : (cs : List Chunk) (es : List (Entry A)) (at start : ℕ) → Covers cs es → IsAt cs at start → Covers (drop at cs) (drop start es)
  covers_from cs es zero start c at = subst (λ (n : ℕ). Covers cs (drop n es)) (let e = at.1 in let f : 0 ≡ start = omega (arith, e) in f) c
  covers_from [] es (suc at) start c h = tt
  covers_from (b ∷ cs) es (suc at) start c h =
      let l = h.0 in
      let s = h.1 in
      let n : b.count + total (take at cs) ≡ start = omega (arith, s) in
      subst (Covers (drop at cs)) (drop-drop (total (take at cs)) b.count es ∙ ap (λ k. drop k es) n) (covers_from cs (drop b.count es) at (total (take at cs)) c.2 (omega (arith, l), refl))

  -- the first ones of some chunks
  pub covers_first : (n : ℕ) (cs : List Chunk) (es : List (Entry A)) → Covers cs es → Covers (take n cs) es
  covers_first zero cs es c = tt
  covers_first (suc n) [] es c = tt
  covers_first (suc n) (b ∷ cs) es c = (c.0, c.1, covers_first n cs (drop b.count es) c.2)

-- ---- blocks that are put

counts_append : (bs cs : List Chunk) → counts (bs ++ cs) ≡ counts bs ++ counts cs
counts_append [] cs = refl
counts_append (b ∷ bs) cs = ap (λ ns. b.count ∷ ns) (counts_append bs cs)

eights_more : (ms ns : List ℕ) (m : ℕ) → AreEights ms ns → length ms * 8 + 8 ≤ length ns → m ≡ added (take 8 (drop (length ms * 8) ns)) → AreEights (ms ++ m ∷ []) ns
eights_more [] ns m h l e = (omega (arith, l), e, tt)
eights_more (k ∷ ms) ns m h l e =
    let d = length-drop 8 ns in
    let n : suc (length ms) * 8 ≡ 8 + length ms * 8 = omega arith in
    (h.0, h.1, eights_more ms (drop 8 ns) m h.2 (omega (arith, l, d, n)) (e ∙ ap (λ xs. added (take 8 xs)) (ap (λ j. drop j ns) n ∙ sym (drop-drop (length ms * 8) 8 ns))))

-- eight more chunks come before the next one
pub at_eight : (cs : List Chunk) (at place n : ℕ) → IsAt cs at place → 8 ≤ length cs - at → n ≡ total (take ((at + 8) - at) (drop at cs)) → IsAt cs (at + 8) (place + n)
at_eight cs at place n h l e =
    let s = h.1 in
    let first = h.0 in
    let same : (at + 8) - at ≡ 8 = omega arith in
    let t : n ≡ total (take 8 (drop at cs)) = e ∙ ap (λ k. total (take k (drop at cs))) same in
    let split : total (take (at + 8) cs) ≡ total (take at cs) + total (take 8 (drop at cs)) = ap total (take-add at 8 cs) ∙ total_append (take at cs) (take 8 (drop at cs)) in
    (omega (arith, first, l), omega (arith, s, t, split))

-- one more block
pub eights_put : (bs new cs : List Chunk) (at : ℕ) (b : Chunk) → AreEights (counts bs) (counts cs) → at ≡ length bs * 8 → at ≤ length cs → 8 ≤ length cs - at → b.count ≡ total (take ((at + 8) - at) (drop at cs)) → new ≡ bs ++ b ∷ []
    → AreEights (counts new) (counts cs)
eights_put bs new cs at b h n u l e is =
    let same : (at + 8) - at ≡ 8 = omega arith in
    let k = counts_length bs in
    let f = counts_length cs in
    let place : at ≡ length (counts bs) * 8 = omega (arith, n, k) in
    let one : b.count ≡ added (take 8 (drop (length (counts bs) * 8) (counts cs))) =
    e ∙ ap (λ j. total (take j (drop at cs))) same ∙ total_counts (take 8 (drop at cs)) ∙ ap added (sym (take-map (λ (c : Chunk). c.count) 8 (drop at cs)) ∙ ap (take 8) (sym (drop-map (λ (c : Chunk). c.count) at cs)))
    ∙ ap (λ j. added (take 8 (drop j (counts cs)))) place in
    subst (λ (ns : List ℕ). AreEights ns (counts cs)) (sym (ap counts is ∙ counts_append bs (b ∷ []))) (eights_more (counts bs) (counts cs) b.count h (omega (arith, place, u, l, f)) one)

pub put_length : (bs new : List Chunk) (at : ℕ) (b : Chunk) → at ≡ length bs * 8 → new ≡ bs ++ b ∷ [] → at + 8 ≡ length new * 8
put_length bs new at b n is = let e = ap length is in let f = length-append bs (b ∷ []) in omega (arith, n, e, f)

module _ {A : Type 0} where
  -- the entries from one on
  pub from_on : (es : List (Entry A)) (p : ℕ) → p ≤ length es → take (length es - p) (drop p es) ≡ drop p es
  from_on es p l = take_all (length es - p) (drop p es) (let e = length-drop p es in omega (arith, e))

  -- eight chunks, and their entries
  pub covers_eight : (cs : List Chunk) (es : List (Entry A)) (at place n : ℕ) → place ≤ length es → Covers cs es → IsAt cs at place → Covers (take n (drop at cs)) (take (length es - place) (drop place es))
  covers_eight cs es at place n w c h = subst (Covers (take n (drop at cs))) (sym (from_on es place w)) (covers_first n (drop at cs) (drop place es) (covers_from cs es at place c h))

  -- what is told of some of them
  pub told_within : (es : List (Entry A)) (place : ℕ) (b : Chunk) → place ≤ length es → (b.is_open ≡ false → Tells b (take b.count (take (length es - place) (drop place es)))) → b.is_open ≡ false → Tells b (take b.count (drop place es))
  told_within es place b w h f = subst (λ (xs : List (Entry A)). Tells b (take b.count xs)) (from_on es place w) (h f)

  pub few_within : (es : List (Entry A)) (place n : ℕ) → place ≤ length es → n ≤ length (take (length es - place) (drop place es)) → n ≤ length es - place
  few_within es place n w l = let e = ap length (from_on es place w) in let d = length-drop place es in omega (arith, l, e, d)

  -- what is told of blocks, and of the chunks after them
  pub told_parts : (a b t : ChunkBounds) (es : List (Entry A)) (n : ℕ) → n ≤ length es → IsTold a (take n es) → IsTold b (take (length es - n) (drop n es)) → IsBoth a b t → IsTold t es
  told_parts a b t es n w h k j = subst (IsTold t) (take-append-drop n es) (told_both a b t (take n es) (drop n es) h (subst (IsTold b) (from_on es n w) k) j)

-- ---- an entry comes to a place

-- what stands at a place, whatever is read where there is none
pub get_own : (bs : List Chunk) (i : ℕ) (d : Chunk) → i < length bs → get_or bs i d ≡ get_or bs i (get_or bs i d)
get_own [] i d l = absurd (omega (arith, l))
get_own (b ∷ bs) zero d l = refl
get_own (b ∷ bs) (suc i) d l = get_own bs i d (omega (arith, l))

-- one chunk for another with as many entries
pub counts_set : (bs : List Chunk) (i : ℕ) (b new : Chunk) → i < length bs → b ≡ get_or bs i b → new.count ≡ b.count → counts (slice_set bs i new) ≡ counts bs
counts_set [] i b new l is e = refl
counts_set (x ∷ bs) zero b new l is e = ap (λ n. n ∷ counts bs) (e ∙ ap (λ (c : Chunk). c.count) is)
counts_set (x ∷ bs) (suc i) b new l is e = ap (λ ns. x.count ∷ ns) (counts_set bs i b new (omega (arith, l)) is e)

module _ {A : Type 0} where
  -- of a place of which nothing is told
  pub changes_any : (place : ℕ) (told : Option ChunkBounds) (xs ys : List (Entry A)) → ChangesTo place told xs ys → ChangesTo place None xs ys
  changes_any place told xs ys c = record { size = c.size; others = c.others; there = λ x y l e f. tt }

-- ---- a chunk that is told anew

-- so many chunks come before, whatever is told of them
pub at_alike : (bs cs : List Chunk) (at start : ℕ) → counts cs ≡ counts bs → IsAt bs at start → IsAt cs at start
at_alike bs cs at start e h =
    let l = counts_length bs in
    let m = counts_length cs in
    let n = ap length e in
    let w = h.0 in
    let one : total (take at bs) ≡ added (take at (counts bs)) = total_counts (take at bs) ∙ ap added (sym (take-map (λ (b : Chunk). b.count) at bs)) in
    let other : total (take at cs) ≡ added (take at (counts cs)) = total_counts (take at cs) ∙ ap added (sym (take-map (λ (b : Chunk). b.count) at cs)) in
    (omega (arith, l, m, n, w), h.1 ∙ one ∙ sym (ap (λ ns. added (take at ns)) e) ∙ sym other)

module _ {A : Type 0} where
  -- entries begin before they end
  pub start_within : (bs : List Chunk) (es : List (Entry A)) (k start : ℕ) → k < length bs → Covers bs es → IsAt bs k start → start ≤ length es
  start_within bs es k start l c at =
      let d = any_chunk bs k l in
      let r = (found_told bs es k start (get_or bs k d) c at l (get_own bs k d l)).0 in
      omega (arith, r)

  -- another chunk of the same entries
  pub covers_set : (cs : List Chunk) (es : List (Entry A)) (at start : ℕ) (b new : Chunk) → at < length cs → b ≡ get_or cs at b → IsAt cs at start → new.count ≡ b.count
      → (new.is_open ≡ false → Tells new (take new.count (drop start es))) → Covers cs es → Covers (slice_set cs at new) es
  covers_set [] es at start b new l is s n h c = absurd (omega (arith, l))
  covers_set (x ∷ cs) es zero start b new l is s n h c =
      let e : start ≡ 0 = s.1 in
      let k : new.count ≡ x.count = n ∙ ap (λ (y : Chunk). y.count) is in
      let m = c.0 in
      (omega (arith, k, m), (λ f. subst (λ j. Tells new (take new.count (drop j es))) e (h f)), subst (λ j. Covers cs (drop j es)) (sym k) c.2)
  covers_set (x ∷ cs) es (suc at) start b new l is s n h c =
      let e : start ≡ x.count + total (take at cs) = s.1 in
      let w = s.0 in
      let there : drop (start - x.count) (drop x.count es) ≡ drop start es = drop-drop (start - x.count) x.count es ∙ ap (λ j. drop j es) (let z : x.count + (start - x.count) ≡ start = omega (arith, e) in z) in (
        c.0,
        c.1,
        covers_set cs (drop x.count es) at (start - x.count) b new (omega (arith, l)) is (omega (arith, w), omega (arith, e)) n (λ f. subst (λ ys. Tells new (take new.count ys)) (sym there) (h f)) c.2,
      )
