-- What it says of the keys of a range that the rows of their slots share a word, and how pages change.
use Rattle.std.proofs.Common.{◌≡◌, ◌≢◌, ◌⊎◌, refl, ap, ◌∙◌, sym, ℕ, zero, suc, ◌+◌, ◌*◌, ◌/◌, ◌%◌, ◌<◌, ◌≤◌, Bool, true, false, cond, arith, List, [], ◌∷◌, ◌++◌, length, map, inl, inr}
use Rattle.std.specs.Prelude.{slice_index, slice_index_or, slice_set}
use Rattle.std.specs.Int.{bit_at}
use Rattle.std.specs.Int.Bits.{bit_and}
use Rattle.std.proofs.lemmas.Bool.{cases_eq}
use Rattle.std.proofs.lemmas.List.{get_or-map, length-map, length-set, length-append, map-set}
use Rattle.std.proofs.lemmas.Nat.Bits.{bit_at-zero}
use Rattle.std.proofs.lemmas.Bool.Decides.{nat_tests}
use Rattle.rd_keys.specs.declared.range.KeyRange.{KeyRange}
use Rattle.rd_keys.specs.Keys.{BoxKey}
use Rattle.rd_keys.specs.Ranges.{IsAmong}
use Rattle.rd_keys.proofs.Bits.{bit_apart}
use Rattle.rd_keys.proofs.Slots.{at_set}
use Rattle.rd_tree.specs.declared.glance.Glance.{Glance}
use Rattle.rd_tree.specs.declared.shared.PageWord.{PageWord}
use Rattle.rd_tree.specs.declared.shared.TheConstants.{NOT_QUIET, PAGE}
use Rattle.rd_tree.specs.Internal.Glances.{AreShared, AreWords, HasOdd, HasWord, IsCalmed, IsStirred, is_stirred, known_of, pages, quiet_word, seen_at, told_touched, unseen}

one_not_none : (n : ℕ) → n ≡ 1 → n ≡ 0 → ⊥
one_not_none n e f = omega (arith, e, f)

-- ---- pages

abbrev none_known : PageWord
none_known = record { word = 0; odd = 0; stirred = 0 }

-- ---- rows

-- The row of a slot is odd, and the others have the words that they had.
pub row_odd : (ws us : List ℕ) (sh mid new : List PageWord) (s odd : ℕ) → AreShared ws sh → IsStirred sh mid (s / PAGE) → HasOdd mid new (s / PAGE) odd
    → bit_at odd (s % 64) ≡ 1 → ((i : ℕ) → i ≢ s % 64 → bit_at odd i ≡ bit_at (known_of mid (s / PAGE)).odd i)
    → pages (length us) ≡ pages (length ws) → ((t : ℕ) → t < length us → t ≢ s → (t < length ws) × (slice_index us t ≡ slice_index ws t)) → AreShared us new
row_odd ws us sh mid new s odd r st ho set kept n same = record {
  all = ho.len ∙ (st.len ∙ (r.all ∙ sym n));
  quiet = λ b. let e : (known_of new b).word ≡ (known_of sh b).word = ho.word b ∙ st.word b in let q = r.quiet b in omega (arith, e, q);
  right = λ t l z.
      let away : t ≢ s = λ e. one_not_none (bit_at odd (s % 64)) set (here t e z) in
      let there = same t l away in
      there.1 ∙ (r.right t there.0 (was t away z) ∙ sym (ho.word (t / PAGE) ∙ st.word (t / PAGE)));
  plain = λ b z.
      let y : is_stirred mid b ≡ 0 = ap (λ n. bit_at n (b % 64)) (sym (ho.stirred (b / 64 * 64))) ∙ z in
      let away : b ≢ s / PAGE = λ e. one_not_none (is_stirred mid (s / PAGE)) st.here (ap (is_stirred mid) (sym e) ∙ y) in
      let p = r.plain b (st.others b y) in
      (ho.word b ∙ (st.word b ∙ p.0), ho.others b away ∙ (st.odd b ∙ p.1));
} where
  here : (t : ℕ) → t ≡ s → bit_at (known_of new (t / PAGE)).odd (t % PAGE) ≡ 0 → bit_at odd (s % 64) ≡ 0
  here t e z = ap (λ n. bit_at n (s % 64)) (sym ho.here) ∙ (ap (λ n. bit_at (known_of new (n / PAGE)).odd (n % PAGE)) (sym e) ∙ z)

  was : (t : ℕ) → t ≢ s → bit_at (known_of new (t / PAGE)).odd (t % PAGE) ≡ 0 → bit_at (known_of sh (t / PAGE)).odd (t % PAGE) ≡ 0
  was t n z = elim (cases_eq (t / PAGE) (s / PAGE)) [
    | inl e ↦
        let away : t % PAGE ≢ s % 64 = λ q. n (omega (arith, q, e)) in
        let y : bit_at odd (t % PAGE) ≡ 0 = ap (λ n. bit_at n (t % PAGE)) (sym ho.here) ∙ (ap (λ n. bit_at (known_of new n).odd (t % PAGE)) (sym e) ∙ z) in
        ap (λ n. bit_at (known_of sh n).odd (t % PAGE)) e ∙ (ap (λ n. bit_at n (t % PAGE)) (sym (st.odd (s / PAGE))) ∙ (sym (kept (t % PAGE) away) ∙ y))
    | inr d ↦ ap (λ n. bit_at n (t % PAGE)) (sym (st.odd (t / PAGE))) ∙ (ap (λ n. bit_at n (t % PAGE)) (sym (ho.others (t / PAGE) d)) ∙ z)
  ]

-- the rows but that of a slot, where it is written
pub same_set : (ws : List ℕ) (s w : ℕ) → s < length ws → (t : ℕ) → t < length (slice_set ws s w) → t ≢ s → (t < length ws) × (slice_index (slice_set ws s w) t ≡ slice_index ws t)
same_set ws s w l t m n = (omega (arith, m, length-set ws s w), elim (at_set ws s w 0 t l) [ inl e ↦ absurd (n e.0) | inr e ↦ e.1 ])

-- an element after others, and these
after : {A : Type 0} (xs : List A) (x d : A) (t : ℕ)
    → ((t ≡ length xs) × (slice_index_or (xs ++ x ∷ []) t d ≡ x)) ⊎ ((t ≢ length xs) × (slice_index_or (xs ++ x ∷ []) t d ≡ slice_index_or xs t d))
after [] x d zero = inl (refl, refl)
after [] x d (suc t) = inr (λ e. omega (arith, e), refl)
after (y ∷ xs) x d zero = inr (λ e. omega (arith, e), refl)
after (y ∷ xs) x d (suc t) = elim (after xs x d t) [ inl e ↦ inl (ap suc e.0, e.1) | inr e ↦ inr (λ q. e.0 (omega (arith, q)), e.1) ]

-- the rows before one that comes after them
pub same_after : (ws : List ℕ) (w : ℕ) (t : ℕ) → t < length (ws ++ w ∷ []) → t ≢ length ws → (t < length ws) × (slice_index (ws ++ w ∷ []) t ≡ slice_index ws t)
same_after ws w t l n =
    let len : length (ws ++ w ∷ []) ≡ length ws + 1 = length-append ws (w ∷ []) in
    (below (omega (arith, l, len)) n, elim (after ws w 0 t) [ inl e ↦ absurd (n e.0) | inr e ↦ e.1 ])
  where
    below : {m k : ℕ} → m < k + 1 → m ≢ k → m < k
    below l n = grind (arith, l, n)

-- A page begins, of which nothing is known.
pub page_begun : (ws : List ℕ) (w : ℕ) (sh new : List PageWord) (x : PageWord) → AreShared ws sh → length sh ≤ length ws / PAGE → x.word < NOT_QUIET
    → bit_at x.odd (length ws % 64) ≡ 1 → x.stirred ≡ 0 → IsStirred (sh ++ x ∷ []) new (length sh) → AreShared (ws ++ w ∷ []) new
page_begun ws w sh new x r l small set none st = record {
  all = st.len ∙ (length-append sh (x ∷ []) ∙ omega (arith, r.all, l, len));
  quiet = λ b. let q = r.quiet b in elim (after sh x none_known b) [
    | inl e ↦ let v : (known_of new b).word ≡ x.word = st.word b ∙ ap (λ (k : PageWord). k.word) e.1 in omega (arith, v, small)
    | inr e ↦ let v : (known_of new b).word ≡ (known_of sh b).word = st.word b ∙ ap (λ (k : PageWord). k.word) e.1 in omega (arith, v, q)
  ];
  right = λ t m z.
      let away : t ≢ length ws = λ e. one_not_none (bit_at x.odd (length ws % 64)) set (here t e z) in
      let there = same_after ws w t m away in
      let apart : t / PAGE ≢ length sh = λ e. absurd (omega (arith, e, there.0, r.all, l)) in
      let v : known_of (sh ++ x ∷ []) (t / PAGE) ≡ known_of sh (t / PAGE) = elim (after sh x none_known (t / PAGE)) [ inl e ↦ absurd (apart e.0) | inr e ↦ e.1 ] in
      there.1 ∙ (r.right t there.0 (ap (λ (k : PageWord). bit_at k.odd (t % PAGE)) (sym v) ∙ (ap (λ n. bit_at n (t % PAGE)) (sym (st.odd (t / PAGE))) ∙ z))
      ∙ (ap (λ (k : PageWord). k.word) (sym v) ∙ sym (st.word (t / PAGE))));
  plain = λ b z. elim (cases_eq b (length sh)) [
    | inl e ↦ absurd (one_not_none (is_stirred new (length sh)) st.here (ap (is_stirred new) (sym e) ∙ z))
    | inr d ↦
        let v : known_of (sh ++ x ∷ []) b ≡ known_of sh b = elim (after sh x none_known b) [ inl e ↦ absurd (d e.0) | inr e ↦ e.1 ] in
        let p = r.plain b (was b (st.others b z)) in
        (st.word b ∙ (ap (λ (k : PageWord). k.word) v ∙ p.0), st.odd b ∙ (ap (λ (k : PageWord). k.odd) v ∙ p.1))
  ];
} where
  len : length (ws ++ w ∷ []) ≡ length ws + 1
  len = length-append ws (w ∷ [])

  here : (t : ℕ) → t ≡ length ws → bit_at (known_of new (t / PAGE)).odd (t % PAGE) ≡ 0 → bit_at x.odd (length ws % 64) ≡ 0
  here t e z =
      let q : t / PAGE ≡ length sh = omega (arith, e, r.all, l) in
      let v : (known_of new (t / PAGE)).odd ≡ x.odd = st.odd (t / PAGE) ∙ elim (after sh x none_known (t / PAGE)) [ inl e ↦ ap (λ (k : PageWord). k.odd) e.1 | inr e ↦ absurd (e.0 q) ] in
      ap (λ n. bit_at x.odd (n % 64)) (sym e) ∙ (ap (λ n. bit_at n (t % 64)) (sym v) ∙ z)

  was : (b : ℕ) → is_stirred (sh ++ x ∷ []) b ≡ 0 → is_stirred sh b ≡ 0
  was b z = elim (after sh x none_known (b / 64 * 64)) [
    | inl e ↦ ap (λ (k : PageWord). bit_at k.stirred (b % 64)) (past sh (b / 64 * 64) (omega (arith, e.0))) ∙ bit_at-zero (b % 64)
    | inr e ↦ ap (λ (k : PageWord). bit_at k.stirred (b % 64)) (sym e.1) ∙ z
  ] where
    past : (ks : List PageWord) (t : ℕ) → length ks ≤ t → known_of ks t ≡ none_known
    past [] t l = refl
    past (k ∷ ks) zero l = absurd (omega (arith, l))
    past (k ∷ ks) (suc t) l = past ks t (omega (arith, l))

-- The odd rows of a page that had some are worked out anew.
pub page_renewed : (ws : List ℕ) (sh new : List PageWord) (p word odd : ℕ) → AreShared ws sh → (known_of sh p).word ≡ word → (known_of sh p).odd ≢ 0 → HasOdd sh new p odd
    → ((s : ℕ) → s < length ws → s / PAGE ≡ p → bit_at odd (s % PAGE) ≡ 0 → slice_index ws s ≡ word) → AreShared ws new
page_renewed ws sh new p word odd r w some ho right = record {
  all = ho.len ∙ r.all;
  quiet = λ b. let e = ho.word b in let q = r.quiet b in omega (arith, e, q);
  right = λ s l z. elim (cases_eq (s / PAGE) p) [
    | inl e ↦ right s l e (ap (λ n. bit_at n (s % PAGE)) (sym ho.here) ∙ (ap (λ n. bit_at (known_of new n).odd (s % PAGE)) (sym e) ∙ z))
        ∙ (sym w ∙ (ap (λ n. (known_of sh n).word) (sym e) ∙ sym (ho.word (s / PAGE))))
    | inr d ↦ r.right s l (ap (λ n. bit_at n (s % PAGE)) (sym (ho.others (s / PAGE) d)) ∙ z) ∙ sym (ho.word (s / PAGE))
  ];
  plain = λ b z.
      let was = r.plain b (ap (λ n. bit_at n (b % 64)) (sym (ho.stirred (b / 64 * 64))) ∙ z) in
      let away : b ≢ p = λ e. some (ap (λ n. (known_of sh n).odd) (sym e) ∙ was.1) in
      (ho.word b ∙ was.0, ho.others b away ∙ was.1);
}

-- A page that has the word 0 and no odd row is stirred no more.
pub page_calmed : (ws : List ℕ) (sh new : List PageWord) (p : ℕ) → AreShared ws sh → (known_of sh p).word ≡ 0 → (known_of sh p).odd ≡ 0 → IsCalmed sh new p → AreShared ws new
page_calmed ws sh new p r w o c = record {
  all = c.len ∙ r.all;
  quiet = λ b. let e = c.word b in let q = r.quiet b in omega (arith, e, q);
  right = λ s l z. r.right s l (ap (λ n. bit_at n (s % PAGE)) (sym (c.odd (s / PAGE))) ∙ z) ∙ sym (c.word (s / PAGE));
  plain = λ b z. elim (cases_eq b p) [
    | inl e ↦ (c.word b ∙ (ap (λ n. (known_of sh n).word) e ∙ w), c.odd b ∙ (ap (λ n. (known_of sh n).odd) e ∙ o))
    | inr d ↦ let q = r.plain b (c.others b d z) in (c.word b ∙ q.0, c.odd b ∙ q.1)
  ];
}

-- ---- what pages tell

-- of 64 pages none is stirred whose bit is given
pub group_calm : (sh : List PageWord) (bits g : ℕ) (k : PageWord) → k ≡ known_of sh (g * 64) → bit_and k.stirred bits ≡ 0 → (b : ℕ) → b / 64 ≡ g → bit_at bits (b % 64) ≡ 1
    → is_stirred sh b ≡ 0
group_calm sh bits g k is none b at h =
    ap (λ n. bit_at (known_of sh (n * 64)).stirred (b % 64)) at ∙ (ap (λ (k : PageWord). bit_at k.stirred (b % 64)) (sym is) ∙ bit_apart k.stirred bits (b % 64) none h)

-- a page that is not stirred
pub plain_word : (k : PageWord) (slots : ℕ) → k.word ≡ 0 → k.odd ≡ 0 → HasWord k slots 0
plain_word k slots w o = record { same = w; none = ap (λ n. bit_and n slots) o }

-- a word that is a generation: its row's, whose box is untouched
quiet_row : (y : Glance) (g : ℕ) → g < NOT_QUIET → quiet_word y ≡ g → (y.touched ≡ false) × (y.generation ≡ g)
quiet_row y g l e = at y.touched y.generation e where
  at : (t : Bool) (n : ℕ) → cond t NOT_QUIET n ≡ g → (t ≡ false) × (n ≡ g)
  at true n h = absurd (omega (arith, l, h))
  at false n h = (refl, h)

-- the key of a row whose word is its generation
quiet_key : (gs : List Glance) (k : BoxKey) → k.slot < length gs → (seen_at gs k.slot).touched ≡ false → (seen_at gs k.slot).generation ≡ k.generation
    → told_touched gs k ≡ false
quiet_key gs k l t g = grind (arith, nat_tests)

-- the word of a slot that is not odd in its page
shared_word : (gs : List Glance) (ws : List ℕ) (sh : List PageWord) (s g slots : ℕ) → AreWords gs ws sh → s < length gs → bit_at slots (s % 64) ≡ 1
    → HasWord (known_of sh (s / PAGE)) slots g → quiet_word (seen_at gs s) ≡ g
shared_word gs ws sh s g slots r l h w =
    let n : s < length ws = omega (arith, ap length r.words, length-map gs quiet_word) in
    sym (get_or-map quiet_word gs s unseen 0 l) ∙ (ap (λ us. slice_index us s) (sym r.words)
    ∙ (r.shared.right s n (bit_apart (known_of sh (s / PAGE)).odd slots (s % PAGE) w.none h) ∙ w.same))

-- Each key of the range is that of its row, and of an untouched box.
pub quiet_range : (gs : List Glance) (ws : List ℕ) (sh : List PageWord) (r : KeyRange) → AreWords gs ws sh → r.last_slot < length ws → r.oldest ≡ r.newest → r.oldest < NOT_QUIET
    → ((b : ℕ) → r.first_slot / PAGE ≤ b → b ≤ r.last_slot / PAGE → bit_at r.pages (b % 64) ≡ 1 → HasWord (known_of sh b) r.slots r.oldest) → (k : BoxKey) → IsAmong r k
    → told_touched gs k ≡ false
quiet_range gs ws sh r a l e m all k i =
    let n : length ws ≡ length gs = ap length a.words ∙ length-map gs quiet_word in
    let h : k.slot < length gs = omega (arith, i.last, l, n) in
    let word = shared_word gs ws sh k.slot r.oldest r.slots a h i.slot (all (k.slot / PAGE) (omega (arith, i.first)) (omega (arith, i.last)) i.page) in
    let q = quiet_row (seen_at gs k.slot) r.oldest m word in
    quiet_key gs k h q.0 (q.1 ∙ omega (arith, i.old, i.new, e))

-- A row that has no generation for a word gets another word.
shared_settled : (ws : List ℕ) (sh : List PageWord) (s w : ℕ) → AreShared ws sh → s < length ws → slice_index ws s ≡ NOT_QUIET → AreShared (slice_set ws s w) sh
shared_settled ws sh s w r l q = record {
  all = r.all ∙ ap pages (sym (length-set ws s w));
  quiet = r.quiet;
  right = λ t m z. elim (at_set ws s w 0 t l) [
    | inl p ↦
        let was = r.right s l (ap (λ n. bit_at (known_of sh (n / PAGE)).odd (n % PAGE)) (sym p.0) ∙ z) in
        let small = r.quiet (s / PAGE) in
        absurd (omega (arith, was, small, q))
    | inr p ↦ p.1 ∙ r.right t (omega (arith, m, length-set ws s w)) z
  ];
  plain = r.plain;
}

-- A row of a touched box is written, and its word: of the row nothing was known.
pub words_settled : (gs : List Glance) (ws : List ℕ) (sh : List PageWord) (s w : ℕ) (y : Glance) → AreWords gs ws sh → s < length gs → (seen_at gs s).touched ≡ true
    → quiet_word y ≡ w → AreWords (slice_set gs s y) (slice_set ws s w) sh
words_settled gs ws sh s w y r l t is = record {
  words = ap (λ us. slice_set us s w) r.words ∙ (ap (slice_set (map quiet_word gs) s) (sym is) ∙ sym (map-set quiet_word gs s y));
  shared = shared_settled ws sh s w r.shared (omega (arith, ap length r.words, length-map gs quiet_word))
      (ap (λ us. slice_index us s) r.words ∙ (get_or-map quiet_word gs s unseen 0 l ∙ rw t refl));
}
