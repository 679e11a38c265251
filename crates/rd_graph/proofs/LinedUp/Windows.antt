-- A line that is made where its old elements stand, window by window.
use Rattle.std.proofs.Common.{◌≡◌, refl, ap, ◌∙◌, sym, subst, ℕ, ◌+◌, ◌-◌, ◌<◌, ◌≤◌, ◌⊎◌, true, false, cond, List, [], ◌∷◌, ◌++◌, length, get_or, take, drop, arith, inl, inr, append_assoc, take-add}
use Rattle.std.proofs.lemmas.Bool.{cases_Bool}
use Rattle.std.proofs.lemmas.List.{append-nil, drop-drop, length-append, length-drop, length-take-le, take-append-drop}
use Rattle.rd_graph.specs.Runs.{places_aside, set_aside, taken, woven}
use Rattle.rd_graph.specs.Internal.InPlace.{AreWhole, IsClosed, IsWindow, StayersRise, coming, count_all, count_coming, count_staying, no_run, stays, staying}
use Rattle.rd_graph.specs.declared.runs.Run.{Run}
use Rattle.rd_graph.proofs.Patches.Marks.{take_whole}
use Rattle.rd_graph.proofs.LinedUp.InPlace.{coming-append, coming_long, counts_more, counts_within, front_at, of_stayer, one_more, staying_long}
use Rattle.rd_graph.proofs.LinedUp.RunLines.{left_runs, run_of_old}
use Rattle.rd_graph.proofs.LinedUp.RunGathering.{aside-append, none_aside, taken_plain, woven-append}

-- ---- a run that stays behind others

-- those before it end before it
pub rise_past : (n first : ℕ) (ws : List Run) (r : Run) (rest : List Run) → stays n r ≡ true → StayersRise n first (ws ++ r ∷ rest)
    → (first + count_staying n ws ≤ r.from) × (r.from + r.count ≤ n) × StayersRise n (r.from + r.count) rest
rise_past n first [] r rest t (inl h) = let l = h.1 in (omega (arith, l), h.2, h.3)
rise_past n first [] r rest t (inr h) = absurd (let e : true ≡ false = sym t ∙ h.0 in cc)
rise_past n first (w ∷ ws) r rest t (inl h) =
    let more = rise_past n (w.from + w.count) ws r rest t h.3 in
    let low = h.1 in
    let one = ap (λ b. cond b w.count 0) h.0 in
    let far = more.0 in
    (omega (arith, low, one, far), more.1, more.2)
rise_past n first (w ∷ ws) r rest t (inr h) =
    let more = rise_past n first ws r rest t h.1 in
    let one = ap (λ b. cond b w.count 0) h.0 in
    let far = more.0 in
    (omega (arith, one, far), more.1, more.2)

-- those that stay end among the old elements
pub rise_low : (n first : ℕ) (rs : List Run) → first ≤ n → StayersRise n first rs → first + count_staying n rs ≤ n
rise_low n first [] l h = omega (arith, l)
rise_low n first (r ∷ rs) l (inl h) =
    let more = rise_low n (r.from + r.count) rs h.2 h.3 in
    let low = h.1 in
    let one = ap (λ b. cond b r.count 0) h.0 in
    omega (arith, more, low, one)
rise_low n first (r ∷ rs) l (inr h) =
    let more = rise_low n first rs l h.1 in
    let one = ap (λ b. cond b r.count 0) h.0 in
    omega (arith, more, one)

module _ {T : Type 0} where
  whole_split : (ws : List Run) (r : Run) (rest : List Run) (xs ys : List T) → AreWhole (ws ++ r ∷ rest) xs ys
      → AreWhole ws xs ys × AreWhole rest xs (drop (length (set_aside r)) (drop (length (places_aside ws)) ys))
  whole_split [] r rest xs ys h = (tt, h.1)
  whole_split (w ∷ ws) r rest xs ys h =
      let more = whole_split ws r rest xs (drop (length (set_aside w)) ys) h.1 in
      let both = length-append (set_aside w) (places_aside ws) in
      let same : drop (length (places_aside ws)) (drop (length (set_aside w)) ys) ≡ drop (length (places_aside (w ∷ ws))) ys =
      drop-drop (length (places_aside ws)) (length (set_aside w)) ys ∙ ap (λ k. drop k ys) (let e : length (set_aside w) + length (places_aside ws) ≡ length (places_aside (w ∷ ws)) = omega (arith, both) in e) in
      ((h.0, more.0), subst (λ zs. AreWhole rest xs (drop (length (set_aside r)) zs)) same more.1)

  pub woven_long : (n : ℕ) (rs : List Run) (xs ys : List T) → AreWhole rs xs ys → length (woven rs xs ys) ≡ count_all n rs
  woven_long n [] xs ys h = refl
  woven_long n (r ∷ rs) xs ys h = by (woven_long n rs xs (drop (length (set_aside r)) ys) h.1) (cases_Bool (stays n r))
    where
      by : length (woven rs xs (drop (length (set_aside r)) ys)) ≡ count_all n rs → (stays n r ≡ true) ⊎ (stays n r ≡ false) → length (woven (r ∷ rs) xs ys) ≡ count_all n (r ∷ rs)
      by more (inl t) =
          let a = ap (λ b. cond b r.count 0) t in
          let b = ap (λ b. cond b 0 r.count) t in
          let one = h.0 in
          let all = length-append (taken r xs ys) (woven rs xs (drop (length (set_aside r)) ys)) in
          omega (arith, a, b, one, more, all)
      by more (inr f) =
          let a = ap (λ b. cond b r.count 0) f in
          let b = ap (λ b. cond b 0 r.count) f in
          let one = h.0 in
          let all = length-append (taken r xs ys) (woven rs xs (drop (length (set_aside r)) ys)) in
          omega (arith, a, b, one, more, all)

  -- the last runs
  pub spread_end : (n : ℕ) (rs : List Run) (part xs ys gone now one two three : List T) (stay next end come : ℕ) → AreWhole rs xs ys → length part + count_staying n rs ≡ stay → stay + length gone ≡ next
      → end ≡ next + count_coming n rs → come ≡ count_coming n rs → now ≡ part ++ (staying n rs xs ++ (gone ++ coming n rs xs ys))
      → ((ws ds bs zs : List T) → now ≡ ws ++ (ds ++ (bs ++ zs)) → length ws ≡ stay → stay + length ds ≡ next → next + length bs ≡ end → one ≡ ws ++ (bs ++ (ds ++ zs)))
      → ((ps ds bs zs : List T) → AreWhole rs ds bs → length ps + count_staying n rs ≡ stay → one ≡ ps ++ (staying n rs ds ++ (coming n rs ds bs ++ zs)) → two ≡ ps ++ (woven rs ds bs ++ zs))
      → three ≡ take (stay + come) two → three ≡ part ++ woven rs xs ys
  spread_end n rs part xs ys gone now one two three stay next end come w a b e f is turns spreads cut =
      let stayed = staying n rs xs in
      let comes = coming n rs xs ys in
      let long_stay = staying_long n rs xs ys w in
      let long_come = coming_long n rs xs ys w in
      let long_made = woven_long n rs xs ys w in
      let front_long = length-append part stayed in
      let made_long = length-append part (woven rs xs ys) in
      let one_is = turns (part ++ stayed) gone comes [] (is ∙ ap (λ zs. part ++ (stayed ++ (gone ++ zs))) (sym (append-nil comes)) ∙ sym (append_assoc part stayed (gone ++ (comes ++ []))))
      (omega (arith, front_long, long_stay, a)) b (omega (arith, long_come, e)) in
      let two_is = spreads part xs ys (gone ++ []) w a (one_is ∙ append_assoc part stayed (comes ++ (gone ++ []))) in
      cut ∙ ap (take (stay + come)) (two_is ∙ sym (append_assoc part (woven rs xs ys) (gone ++ []))) ∙ front_at (part ++ woven rs xs ys) (gone ++ []) (stay + come) (omega (arith, made_long, long_made, a, f))

-- ---- the windows

module _ {T : Type 0} (n : ℕ) (was made aside : List T) where
  -- what is set aside that the first runs leave
  abbrev pub left : List Run → List T
  left done = drop (length (places_aside done)) aside

  -- The first runs are made, which end at a place; then come the old elements from there on, those that are gone, and those that come yet.
  pub record IsMade (done rest : List Run) (first next : ℕ) (now : List T) : Type 0 where
    pub gone : List T
    pub size : n + length gone ≡ next
    pub ahead : length (woven done (was ++ made) aside) ≡ first
    pub low : first ≤ n
    pub rises : StayersRise n first rest
    pub fits : AreWhole rest (was ++ made) (left done)
    pub items : now ≡ woven done (was ++ made) aside ++ (drop first was ++ (gone ++ coming n rest (was ++ made) (left done)))

  pub made_none : (rs : List Run) (now : List T) → StayersRise n 0 rs → AreWhole rs (was ++ made) aside → now ≡ was ++ coming n rs (was ++ made) aside → IsMade [] rs 0 n now
  made_none rs now h w e = record { gone = []; size = omega arith; ahead = refl; low = omega arith; rises = h; fits = w; items = e }

  -- the same of runs that are the same
  abbrev made_as : (done rest other : List Run) (first next : ℕ) (now : List T) → rest ≡ other → IsMade done rest first next now → IsMade done other first next now
  made_as done rest other first next now e m = record {
    gone = m.gone;
    size = m.size;
    ahead = m.ahead;
    low = m.low;
    rises = subst (StayersRise n first) e m.rises;
    fits = subst (λ ss. AreWhole ss (was ++ made) (left done)) e m.fits;
    items = m.items ∙ ap (λ ss. woven done (was ++ made) aside ++ (drop first was ++ (m.gone ++ coming n ss (was ++ made) (left done)))) e;
  }

  module _ (whole : length was ≡ n) where
    pub made_long : (done rest : List Run) (first next : ℕ) (now : List T) → IsMade done rest first next now → length now ≡ next + count_coming n rest
    made_long done rest first next now m =
        let part = woven done (was ++ made) aside in
        let come = coming n rest (was ++ made) (left done) in
        let a = length-append part (drop first was ++ (m.gone ++ come)) in
        let b = length-append (drop first was) (m.gone ++ come) in
        let d = length-append m.gone come in
        let e = length-drop first was in
        let f = coming_long n rest (was ++ made) (left done) m.fits in
        let s = m.size in
        let h = m.ahead in
        let l = m.low in
        let is = ap length m.items in
        omega (arith, a, b, d, e, f, s, h, l, is, whole)

    module _ (done ws : List Run) (r : Run) (rest : List Run) (first next stay end : ℕ) (now : List T) (m : IsMade done (ws ++ r ∷ rest) first next now)
        (t : stays n r ≡ true) (at : r.from ≡ end) (is_end : end ≡ first + count_all n ws) (is_stay : stay ≡ first + count_staying n ws) where
      abbrev all : List T
      all = was ++ made

      abbrev part : List T
      part = woven done all aside

      abbrev come : List T
      come = coming n ws all (left done)

      abbrev later : List T
      later = coming n rest all (drop (length (places_aside ws)) (left done))

      rising : (first + count_staying n ws ≤ r.from) × (r.from + r.count ≤ n) × StayersRise n (r.from + r.count) rest
      rising = rise_past n first ws r rest t m.rises

      fit : AreWhole ws all (left done) × AreWhole rest all (drop (length (set_aside r)) (drop (length (places_aside ws)) (left done)))
      fit = whole_split ws r rest all (left done) m.fits

      none : set_aside r ≡ []
      none = none_aside r (of_stayer n r t).0

      come_is : coming n (ws ++ r ∷ rest) all (left done) ≡ come ++ later
      come_is =
          coming-append n ws (r ∷ rest) all (left done)
          ∙ ap (λ b. come ++ (cond b [] (taken r all (drop (length (places_aside ws)) (left done))) ++ coming n rest all (drop (length (set_aside r)) (drop (length (places_aside ws)) (left done))))) t
          ∙ ap (λ ks. come ++ coming n rest all (drop (length ks) (drop (length (places_aside ws)) (left done)))) none

      abbrev own : List T
      own = take r.count (drop end was)

      own_is : taken r all (drop (length (places_aside ws)) (left done)) ≡ own
      own_is =
          taken_plain r all (drop (length (places_aside ws)) (left done)) (of_stayer n r t).0
          ∙ sym (run_of_old n r.count r.from was made (drop r.from was) whole rising.1 refl) ∙ ap (λ k. take r.count (drop k was)) at

      left_is : left (done ++ (ws ++ r ∷ [])) ≡ drop (length (places_aside ws)) (left done)
      left_is =
          let a = length-append (places_aside done) (places_aside (ws ++ r ∷ [])) in
          let b = length-append (places_aside ws) (places_aside (r ∷ [])) in
          let d = ap length (aside-append done (ws ++ r ∷ [])) in
          let e = ap length (aside-append ws (r ∷ [])) in
          let f = length-append (set_aside r) [] in
          let g = ap length none in
          ap (λ k. drop k aside) (let h : length (places_aside (done ++ (ws ++ r ∷ []))) ≡ length (places_aside done) + length (places_aside ws) = omega (arith, a, b, d, e, f, g) in h)
          ∙ sym (drop-drop (length (places_aside ws)) (length (places_aside done)) aside)

      part_is : woven (done ++ (ws ++ r ∷ [])) all aside ≡ part ++ (woven ws all (left done) ++ own)
      part_is =
          woven-append done (ws ++ r ∷ []) all aside
          ∙ ap (λ zs. part ++ zs) (woven-append ws (r ∷ []) all (left done) ∙ ap (λ zs. woven ws all (left done) ++ zs) (append-nil (taken r all (drop (length (places_aside ws)) (left done))) ∙ own_is))

      behind : drop end was ≡ own ++ drop (end + r.count) was
      behind = sym (take-append-drop r.count (drop end was)) ∙ ap (λ zs. own ++ zs) (drop-drop r.count end was)

      pub made_on : (one two three : List T) → IsClosed part (staying n ws all) (end - stay) (drop end was ++ (m.gone ++ coming n (ws ++ r ∷ rest) all (left done))) one
          → ((us xs vs ys zs : List T) → one ≡ us ++ (xs ++ (vs ++ (ys ++ zs))) → length us ≡ stay → length xs ≡ end - stay → stay + (end - stay) + length vs ≡ next → length ys ≡ end - stay → two ≡ us ++ (ys ++ (vs ++ (xs ++ zs))))
          → ((ps xs ys zs : List T) → AreWhole ws xs ys → length ps + count_staying n ws ≡ stay → two ≡ ps ++ (staying n ws xs ++ (coming n ws xs ys ++ zs)) → three ≡ ps ++ (woven ws xs ys ++ zs))
          → IsMade (done ++ (ws ++ r ∷ [])) rest (end + r.count) (next + (end - stay)) three
      made_on one two three closed swaps spreads =
          let gap = closed.0 in
          let gap_long = closed.1 in
          let stayed = staying n ws all in
          let low = rising.0 in
          let high = rising.1 in
          let h = m.ahead in
          let s = m.size in
          let long_stay = staying_long n ws all (left done) fit.0 in
          let long_come = coming_long n ws all (left done) fit.0 in
          let long_made = woven_long n ws all (left done) fit.0 in
          let us_long = length-append part stayed in
          let old_long = length-drop end was in
          let vs_long = length-append (drop end was) m.gone in
          let one_is : one ≡ (part ++ stayed) ++ (gap ++ ((drop end was ++ m.gone) ++ (come ++ later))) =
          closed.2
          ∙ ap (λ zs. part ++ (stayed ++ (gap ++ zs))) (ap (λ zs. drop end was ++ (m.gone ++ zs)) come_is ∙ sym (append_assoc (drop end was) m.gone (come ++ later)))
          ∙ sym (append_assoc part stayed (gap ++ ((drop end was ++ m.gone) ++ (come ++ later)))) in
          let two_is : two ≡ (part ++ stayed) ++ (come ++ ((drop end was ++ m.gone) ++ (gap ++ later))) =
          swaps (part ++ stayed) gap (drop end was ++ m.gone) come later one_is (omega (arith, us_long, h, long_stay, is_stay)) gap_long
          (omega (arith, is_end, is_stay, low, at, high, vs_long, old_long, whole, s)) (omega (arith, long_come, is_end, is_stay)) in
          let three_is : three ≡ part ++ (woven ws all (left done) ++ ((drop end was ++ m.gone) ++ (gap ++ later))) =
          spreads part all (left done) ((drop end was ++ m.gone) ++ (gap ++ later)) fit.0 (omega (arith, h, is_stay)) (two_is ∙ append_assoc part stayed (come ++ ((drop end was ++ m.gone) ++ (gap ++ later)))) in
          let own_left = length-drop end was in
          let own_long : length own ≡ r.count = length-take-le r.count (drop end was) (omega (arith, own_left, whole, high, at)) in
          let both = length-append part (woven ws all (left done) ++ own) in
          let inner = length-append (woven ws all (left done)) own in
          let all_long = ap length part_is in
          let gone_long = length-append m.gone gap in
          let made_is = woven ws all (left done) in
          let old = drop (end + r.count) was in
          let tail : (drop end was ++ m.gone) ++ (gap ++ later) ≡ own ++ (old ++ ((m.gone ++ gap) ++ later)) =
          append_assoc (drop end was) m.gone (gap ++ later)
          ∙ ap (λ zs. zs ++ (m.gone ++ (gap ++ later))) behind
          ∙ append_assoc own old (m.gone ++ (gap ++ later))
          ∙ ap (λ zs. own ++ (old ++ zs)) (sym (append_assoc m.gone gap later)) in
          record {
            gone = m.gone ++ gap;
            size = omega (arith, s, gone_long, gap_long);
            ahead = omega (arith, all_long, both, inner, h, long_made, own_long, is_end);
            low = omega (arith, high, at);
            rises = subst (λ k. StayersRise n (k + r.count) rest) at rising.2;
            fits = subst (λ zs. AreWhole rest all zs) (ap (λ ks. drop (length ks) (drop (length (places_aside ws)) (left done))) none ∙ sym left_is) fit.1;
            items =
                three_is
                ∙ ap (λ zs. part ++ (made_is ++ zs)) tail
                ∙ ap (λ zs. part ++ zs) (sym (append_assoc made_is own (old ++ ((m.gone ++ gap) ++ later))))
                ∙ sym (append_assoc part (made_is ++ own) (old ++ ((m.gone ++ gap) ++ later)))
                ∙ ap (λ zs. zs ++ (old ++ ((m.gone ++ gap) ++ later))) (sym part_is)
                ∙ ap (λ zs. woven (done ++ (ws ++ r ∷ [])) all aside ++ (old ++ ((m.gone ++ gap) ++ coming n rest all zs))) (sym left_is);
          }

-- ---- one window after another

-- the runs from a place on
abbrev pub rest_of : List Run → ℕ → List Run
rest_of rs from = take (length rs - from) (drop from rs)

rest_is : (rs : List Run) (from : ℕ) → rest_of rs from ≡ drop from rs
rest_is rs from = let l = length-drop from rs in take_whole (drop from rs) (length rs - from) (omega (arith, l))

-- a window before a run that stands at its place
pub before_run : (n first : ℕ) (rs : List Run) (k end : ℕ) → IsWindow n first rs k end → (k ≡ length rs → ⊥)
    → (k < length rs) × (stays n (get_or rs k no_run) ≡ true) × ((get_or rs k no_run).from ≡ end) × (end ≡ first + count_all n (take k rs))
before_run n first rs k end (inl e) f = absurd (f e.0)
before_run n first rs k end (inr e) f = e

module _ {T : Type 0} (n : ℕ) (was made aside : List T) (whole : length was ≡ n) (rs : List Run) (from first next : ℕ) (now : List T)
    (m : IsMade n was made aside (take from rs) (drop from rs) first next now) where
  abbrev rest : List Run
  rest = rest_of rs from

  abbrev mine : IsMade n was made aside (take from rs) rest first next now
  mine = made_as n was made aside (take from rs) (drop from rs) rest first next now (sym (rest_is rs from)) m

  pub made_rises : StayersRise n first rest
  made_rises = mine.rises

  pub made_first : first ≤ n
  made_first = m.low

  pub made_old : n ≤ length now
  made_old = let all = made_long n was made aside whole (take from rs) rest first next now mine in let s = mine.size in omega (arith, all, s)

  pub made_all : length now ≡ next + count_coming n rest
  made_all = made_long n was made aside whole (take from rs) rest first next now mine

  pub made_few : first + count_all n rest ≤ length now
  made_few = let low = rise_low n first rest m.low mine.rises in let all = made_all in let s = mine.size in omega (arith, low, all, s)

  module _ (k stay end : ℕ) (is_stay : stay ≡ first + count_staying n (take k rest)) where
    -- the last window
    module _ (at_end : k ≡ length rest) where
      every : take k rest ≡ rest
      every = take_whole rest k (omega (arith, at_end))

      pub last_next : stay ≤ next
      last_next =
          let low = rise_low n first rest m.low mine.rises in
          let s = mine.size in
          let e = ap (count_staying n) every in
          omega (arith, low, s, e, is_stay)

      pub made_end : (one two : List T) → end ≡ n → IsClosed (woven (take from rs) (was ++ made) aside) (staying n (take k rest) (was ++ made)) (end - stay) (drop end was ++ (m.gone ++ coming n (drop from rs) (was ++ made) (left n was made aside (take from rs)))) one
          → ((part xs ys gone : List T) → AreWhole rest xs ys → length part + count_staying n rest ≡ stay → stay + length gone ≡ next → one ≡ part ++ (staying n rest xs ++ (gone ++ coming n rest xs ys)) → two ≡ part ++ woven rest xs ys)
          → two ≡ woven rs (was ++ made) aside
      made_end one two e closed ends =
          let all = was ++ made in
          let done = take from rs in
          let ys = left n was made aside done in
          let part = woven done all aside in
          let gap = closed.0 in
          let gap_long = closed.1 in
          let come = coming n rest all ys in
          let s = mine.size in
          let h = mine.ahead in
          let low = rise_low n first rest m.low mine.rises in
          let stays_all = ap (count_staying n) every in
          let old_long = length-drop end was in
          let a = length-append gap (drop end was ++ m.gone) in
          let b = length-append (drop end was) m.gone in
          let one_is : one ≡ part ++ (staying n rest all ++ ((gap ++ (drop end was ++ m.gone)) ++ come)) =
          closed.2
          ∙ ap (λ ss. part ++ (staying n ss all ++ (gap ++ (drop end was ++ (m.gone ++ coming n (drop from rs) all ys))))) every
          ∙ ap (λ ss. part ++ (staying n rest all ++ (gap ++ (drop end was ++ (m.gone ++ coming n ss all ys))))) (sym (rest_is rs from))
          ∙ ap (λ zs. part ++ (staying n rest all ++ zs)) (ap (λ zs. gap ++ zs) (sym (append_assoc (drop end was) m.gone come)) ∙ sym (append_assoc gap (drop end was ++ m.gone) come)) in
          ends part all ys (gap ++ (drop end was ++ m.gone)) mine.fits (omega (arith, h, is_stay, stays_all)) (omega (arith, a, b, gap_long, old_long, whole, e, s, low, is_stay, stays_all)) one_is
          ∙ sym (woven-append done rest all aside) ∙ ap (λ ss. woven ss all aside) (ap (λ ss. done ++ ss) (rest_is rs from) ∙ take-append-drop from rs)

    -- another one
    module _ (r : Run) (l : k < length rest) (is : r ≡ get_or rest k r) (t : stays n r ≡ true) (at : r.from ≡ end) (is_end : end ≡ first + count_all n (take k rest)) where
      cut : rest ≡ take k rest ++ r ∷ drop (k + 1) rest
      cut = sym (take-append-drop k rest) ∙ ap (λ ss. take k rest ++ ss) (left_runs rest k r l is)

      abbrev theirs : IsMade n was made aside (take from rs) (take k rest ++ r ∷ drop (k + 1) rest) first next now
      theirs = made_as n was made aside (take from rs) rest (take k rest ++ r ∷ drop (k + 1) rest) first next now cut mine

      risen : (first + count_staying n (take k rest) ≤ r.from) × (r.from + r.count ≤ n) × StayersRise n (r.from + r.count) (drop (k + 1) rest)
      risen = rise_past n first (take k rest) r (drop (k + 1) rest) t theirs.rises

      pub window_end : end + r.count ≤ n
      window_end = let h = risen.1 in omega (arith, h, at)

      pub window_next : next + (end - stay) ≤ length now
      window_next =
          let all = made_all in
          let some = counts_within n rest k r l is in
          let within = some.1 in
          let more = (counts_more n rest k r l is).1 in
          omega (arith, all, within, more, is_end, is_stay)

      pub window_made : (one two three : List T) → IsClosed (woven (take from rs) (was ++ made) aside) (staying n (take k rest) (was ++ made)) (end - stay) (drop end was ++ (m.gone ++ coming n (drop from rs) (was ++ made) (left n was made aside (take from rs)))) one
          → ((us xs vs ys zs : List T) → one ≡ us ++ (xs ++ (vs ++ (ys ++ zs))) → length us ≡ stay → length xs ≡ end - stay → stay + (end - stay) + length vs ≡ next → length ys ≡ end - stay → two ≡ us ++ (ys ++ (vs ++ (xs ++ zs))))
          → ((ps xs ys zs : List T) → AreWhole (take k rest) xs ys → length ps + count_staying n (take k rest) ≡ stay → two ≡ ps ++ (staying n (take k rest) xs ++ (coming n (take k rest) xs ys ++ zs)) → three ≡ ps ++ (woven (take k rest) xs ys ++ zs))
          → IsMade n was made aside (take (from + (k + 1)) rs) (drop (from + (k + 1)) rs) (end + r.count) (next + (end - stay)) three
      window_made one two three closed swaps spreads =
          let done_is : take from rs ++ (take k rest ++ r ∷ []) ≡ take (from + (k + 1)) rs =
          ap (λ ss. take from rs ++ ss) (sym (one_more rest k r l is) ∙ ap (take (k + 1)) (rest_is rs from)) ∙ sym (take-add from (k + 1) rs) in
          let left_is : drop (k + 1) rest ≡ drop (from + (k + 1)) rs = ap (drop (k + 1)) (rest_is rs from) ∙ drop-drop (k + 1) from rs in
          let known : IsClosed (woven (take from rs) (was ++ made) aside) (staying n (take k rest) (was ++ made)) (end - stay) (drop end was ++ (theirs.gone ++ coming n (take k rest ++ r ∷ drop (k + 1) rest) (was ++ made) (left n was made aside (take from rs)))) one =
          subst (λ (ss : List Run). IsClosed (woven (take from rs) (was ++ made) aside) (staying n (take k rest) (was ++ made)) (end - stay) (drop end was ++ (m.gone ++ coming n ss (was ++ made) (left n was made aside (take from rs)))) one) (sym (rest_is rs from) ∙ cut) closed in
          subst (λ (ss : List Run). IsMade n was made aside (take (from + (k + 1)) rs) ss (end + r.count) (next + (end - stay)) three) left_is
          (subst (λ (ss : List Run). IsMade n was made aside ss (drop (k + 1) rest) (end + r.count) (next + (end - stay)) three) done_is
          (made_on n was made aside whole (take from rs) (take k rest) r (drop (k + 1) rest) first next stay end now theirs t at is_end is_stay one two three known swaps spreads))
