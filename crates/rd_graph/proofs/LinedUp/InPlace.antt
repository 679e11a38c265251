-- A line that is made where its old elements stand: those that stay close up, those that come are put behind them, and then those
-- that stay go over these, from the last run on.
use Rattle.std.proofs.Common.{◌≡◌, refl, ap, ◌∙◌, sym, subst, ℕ, zero, suc, ◌+◌, ◌-◌, ◌<◌, ◌≤◌, ◌⊎◌, Bool, true, false, not, ◌&&◌, cond, nat_lt, List, [], ◌∷◌, ◌++◌, length, get_or, take, drop, slice_range, arith, inl, inr, append_assoc}
use Rattle.std.proofs.lemmas.Bool.{cases_Bool, le-ltb, ltb-true, ltb-false}
use Rattle.std.proofs.lemmas.List.{append-nil, drop-drop, length-append, length-drop, length-take-le, take-append-drop, take_more}
use Rattle.rd_graph.specs.Gathered.{gathered}
use Rattle.rd_graph.specs.Runs.{RunsRise, places_aside, set_aside, taken, up_from, woven}
use Rattle.rd_graph.specs.Internal.InPlace.{AreWhole, IsClosed, StayersRise, coming, count_coming, count_staying, stays, staying}
use Rattle.rd_graph.specs.declared.runs.Run.{Run}
use Rattle.rd_graph.proofs.LinedUp.RunLines.{gathered_up, left_runs, none_long, run_of_old}
use Rattle.rd_graph.proofs.LinedUp.RunGathering.{aside_length, aside_more, none_aside, taken_aside, taken_plain, woven-append}

-- ---- parts of a list

module _ {T : Type 0} where
  front : (ws ds : List T) → take (length ws) (ws ++ ds) ≡ ws
  front [] ds = refl
  front (w ∷ ws) ds = ap (λ zs. w ∷ zs) (front ws ds)

  behind : (ws ds : List T) (k : ℕ) → drop (length ws + k) (ws ++ ds) ≡ drop k ds
  behind [] ds k = ap (λ n. drop n ds) (let e : 0 + k ≡ k = omega arith in e)
  behind (w ∷ ws) ds k = ap (λ n. drop n (w ∷ (ws ++ ds))) (let e : suc (length ws) + k ≡ suc (length ws + k) = omega arith in e) ∙ behind ws ds k

  pub front_at : (ws ds : List T) (place : ℕ) → length ws ≡ place → take place (ws ++ ds) ≡ ws
  front_at ws ds place e = ap (λ k. take k (ws ++ ds)) (sym e) ∙ front ws ds

  pub behind_at : (ws ds : List T) (place : ℕ) → length ws ≡ place → drop place (ws ++ ds) ≡ ds
  behind_at ws ds place e = ap (λ k. drop k (ws ++ ds)) (let f : place ≡ length ws + 0 = omega (arith, e) in f) ∙ behind ws ds 0

  none_taken : (k : ℕ) → take {A = T} k [] ≡ []
  none_taken zero = refl
  none_taken (suc k) = refl

  dropped_taken : (k n : ℕ) (ys : List T) → k ≤ n → drop k (take n ys) ≡ take (n - k) (drop k ys)
  dropped_taken zero n ys l = ap (λ m. take m ys) (let e : n ≡ n - 0 = omega arith in e)
  dropped_taken (suc k) zero ys l = absurd (omega (arith, l))
  dropped_taken (suc k) (suc n) [] l = sym (none_taken (suc n - suc k))
  dropped_taken (suc k) (suc n) (y ∷ ys) l = dropped_taken k n ys (omega (arith, l)) ∙ ap (λ m. take m (drop k ys)) (let e : n - k ≡ suc n - suc k = omega arith in e)

  taken_taken : (k n : ℕ) (ys : List T) → k ≤ n → take k (take n ys) ≡ take k ys
  taken_taken zero n ys l = refl
  taken_taken (suc k) zero ys l = absurd (omega (arith, l))
  taken_taken (suc k) (suc n) [] l = refl
  taken_taken (suc k) (suc n) (y ∷ ys) l = ap (λ zs. y ∷ zs) (taken_taken k n ys (omega (arith, l)))

  -- a part is turned
  pub turned : (place middle end : ℕ) (xs part : List T) → place ≤ middle → middle ≤ end
      → part ≡ drop (middle - place) (take (end - place) (drop place xs)) ++ take (middle - place) (take (end - place) (drop place xs))
      → take place xs ++ (part ++ drop (end - place) (drop place xs)) ≡ take place xs ++ (slice_range xs middle end ++ (slice_range xs place middle ++ drop end xs))
  turned place middle end xs part l m p =
      let last : drop (middle - place) (take (end - place) (drop place xs)) ≡ slice_range xs middle end =
      dropped_taken (middle - place) (end - place) (drop place xs) (omega (arith, l, m))
      ∙ ap (take (end - place - (middle - place))) (drop-drop (middle - place) place xs ∙ ap (λ k. drop k xs) (let e : place + (middle - place) ≡ middle = omega (arith, l) in e))
      ∙ ap (λ k. take k (drop middle xs)) (let e : end - place - (middle - place) ≡ end - middle = omega (arith, l, m) in e) in
      let first : take (middle - place) (take (end - place) (drop place xs)) ≡ slice_range xs place middle = taken_taken (middle - place) (end - place) (drop place xs) (omega (arith, l, m)) in
      let rest : drop (end - place) (drop place xs) ≡ drop end xs = drop-drop (end - place) place xs ∙ ap (λ k. drop k xs) (let e : place + (end - place) ≡ end = omega (arith, l, m) in e) in
      ap (λ zs. take place xs ++ (zs ++ drop (end - place) (drop place xs))) (p ∙ ap (λ zs. zs ++ take (middle - place) (take (end - place) (drop place xs))) last ∙ ap (λ zs. slice_range xs middle end ++ zs) first)
      ∙ ap (λ zs. take place xs ++ zs) (append_assoc (slice_range xs middle end) (slice_range xs place middle) (drop (end - place) (drop place xs)) ∙ ap (λ zs. slice_range xs middle end ++ (slice_range xs place middle ++ zs)) rest)

  -- the parts of a list that is turned
  pub parts_turned : (ws xs ys zs was now : List T) (place middle end : ℕ) → now ≡ take place was ++ (slice_range was middle end ++ (slice_range was place middle ++ drop end was)) → was ≡ ws ++ (xs ++ (ys ++ zs))
      → length ws ≡ place → place + length xs ≡ middle → middle + length ys ≡ end → now ≡ ws ++ (ys ++ (xs ++ zs))
  parts_turned ws xs ys zs was now place middle end n w a b d =
      let one : drop place was ≡ xs ++ (ys ++ zs) = ap (drop place) w ∙ behind_at ws (xs ++ (ys ++ zs)) place a in
      let two : drop middle was ≡ ys ++ zs =
      ap (λ k. drop k was) (sym b) ∙ sym (drop-drop (length xs) place was) ∙ ap (drop (length xs)) one ∙ behind_at xs (ys ++ zs) (length xs) refl in
      let three : drop end was ≡ zs = ap (λ k. drop k was) (sym d) ∙ sym (drop-drop (length ys) middle was) ∙ ap (drop (length ys)) two ∙ behind_at ys zs (length ys) refl in
      let first : slice_range was place middle ≡ xs = ap (λ k. take k (drop place was)) (let e : middle - place ≡ length xs = omega (arith, b) in e) ∙ ap (take (length xs)) one ∙ front xs (ys ++ zs) in
      let last : slice_range was middle end ≡ ys = ap (λ k. take k (drop middle was)) (let e : end - middle ≡ length ys = omega (arith, d) in e) ∙ ap (take (length ys)) two ∙ front ys zs in
      n
      ∙ ap (λ ks. ks ++ (slice_range was middle end ++ (slice_range was place middle ++ drop end was))) (ap (take place) w ∙ front_at ws (xs ++ (ys ++ zs)) place a)
      ∙ ap (λ ks. ws ++ (ks ++ (slice_range was place middle ++ drop end was))) last
      ∙ ap (λ ks. ws ++ (ys ++ (ks ++ drop end was))) first
      ∙ ap (λ ks. ws ++ (ys ++ (xs ++ ks))) three

  -- two parts change places
  pub parts_swapped : (us xs vs ys zs was left right now : List T) (first other count : ℕ) → was ≡ us ++ (xs ++ (vs ++ (ys ++ zs))) → length us ≡ first → length xs ≡ count → first + count + length vs ≡ other → length ys ≡ count
      → left ≡ take other was → right ≡ drop other was
      → now ≡ (take first left ++ (take count right ++ drop (first + count - first) (drop first left))) ++ (take (first + count - first) (drop first left) ++ drop count right)
      → now ≡ us ++ (ys ++ (vs ++ (xs ++ zs)))
  parts_swapped us xs vs ys zs was left right now first other count w a b d e l r n =
      let size = length-append us (xs ++ vs) in
      let inner = length-append xs vs in
      let whole : was ≡ (us ++ (xs ++ vs)) ++ (ys ++ zs) = w ∙ ap (λ ks. us ++ ks) (sym (append_assoc xs vs (ys ++ zs))) ∙ sym (append_assoc us (xs ++ vs) (ys ++ zs)) in
      let long : length (us ++ (xs ++ vs)) ≡ other = omega (arith, size, inner, a, b, d) in
      let left_is : left ≡ us ++ (xs ++ vs) = l ∙ ap (take other) whole ∙ front_at (us ++ (xs ++ vs)) (ys ++ zs) other long in
      let right_is : right ≡ ys ++ zs = r ∙ ap (drop other) whole ∙ behind_at (us ++ (xs ++ vs)) (ys ++ zs) other long in
      let rest : drop first left ≡ xs ++ vs = ap (drop first) left_is ∙ behind_at us (xs ++ vs) first a in
      let one : first + count - first ≡ length xs = omega (arith, b) in
      let mine : take (first + count - first) (drop first left) ≡ xs = ap (λ k. take k (drop first left)) one ∙ ap (take (length xs)) rest ∙ front xs vs in
      let after : drop (first + count - first) (drop first left) ≡ vs = ap (λ k. drop k (drop first left)) one ∙ ap (drop (length xs)) rest ∙ behind_at xs vs (length xs) refl in
      let other_mine : take count right ≡ ys = ap (take count) right_is ∙ front_at ys zs count e in
      let other_rest : drop count right ≡ zs = ap (drop count) right_is ∙ behind_at ys zs count e in
      n
      ∙ append_assoc (take first left) (take count right ++ drop (first + count - first) (drop first left)) (take (first + count - first) (drop first left) ++ drop count right)
      ∙ ap (λ ks. ks ++ ((take count right ++ drop (first + count - first) (drop first left)) ++ (take (first + count - first) (drop first left) ++ drop count right))) (ap (take first) left_is ∙ front_at us (xs ++ vs) first a)
      ∙ ap (λ ks. us ++ ((ks ++ drop (first + count - first) (drop first left)) ++ (take (first + count - first) (drop first left) ++ drop count right))) other_mine
      ∙ ap (λ ks. us ++ ((ys ++ ks) ++ (take (first + count - first) (drop first left) ++ drop count right))) after
      ∙ ap (λ ks. us ++ ((ys ++ vs) ++ (ks ++ drop count right))) mine
      ∙ ap (λ ks. us ++ ((ys ++ vs) ++ (xs ++ ks))) other_rest
      ∙ ap (λ ks. us ++ ks) (append_assoc ys vs (xs ++ zs))

  -- where they are empty, nothing changes
  pub none_swapped : (us xs vs ys zs was : List T) (count : ℕ) → count ≡ 0 → was ≡ us ++ (xs ++ (vs ++ (ys ++ zs))) → length xs ≡ count → length ys ≡ count → was ≡ us ++ (ys ++ (vs ++ (xs ++ zs)))
  none_swapped us [] vs [] zs was count n w a b = w
  none_swapped us [] vs (y ∷ ys) zs was count n w a b = absurd (omega (arith, n, b))
  none_swapped us (x ∷ xs) vs ys zs was count n w a b = absurd (omega (arith, n, a))

-- ---- all elements are written back

module _ {T : Type 0} where
  pub written_back : (n : ℕ) (now was : List T) → length now ≡ length was → length was ≡ n → take n (now ++ drop (length now) was) ≡ now
  written_back n now was e l = front_at now (drop (length now) was) n (e ∙ l)

-- ---- which runs stay

and_both : (a b : Bool) → a && b ≡ true → (a ≡ true) × (b ≡ true)
and_both true true e = (refl, refl)
and_both true false e = absurd (let f : false ≡ true = e in cc)
and_both false b e = absurd (let f : false ≡ true = e in cc)

not_back : (a : Bool) → not a ≡ true → a ≡ false
not_back true e = absurd (let f : false ≡ true = e in cc)
not_back false e = refl

pub of_stayer : (n : ℕ) (r : Run) → stays n r ≡ true → (r.aside ≡ false) × (r.from < n)
of_stayer n r e = let b = and_both (not r.aside) (nat_lt r.from n) e in (not_back r.aside b.0, ltb-true r.from n b.1)

pub of_comer : (n : ℕ) (r : Run) → stays n r ≡ false → r.aside ≡ false → n ≤ r.from
of_comer n r e f = by (cases_Bool (nat_lt r.from n))
  where
    by : (nat_lt r.from n ≡ true) ⊎ (nat_lt r.from n ≡ false) → n ≤ r.from
    by (inl t) = absurd (let g : true ≡ false = sym (ap (λ a. not a && nat_lt r.from n) f ∙ t) ∙ e in cc)
    by (inr g) = let l = ltb-false r.from n g in omega (arith, l)

pub no_stayer : (n : ℕ) (r : Run) → r.aside ≡ true → stays n r ≡ false
no_stayer n r t = ap (λ a. not a && nat_lt r.from n) t

pub late_comer : (n : ℕ) (r : Run) → r.aside ≡ false → n ≤ r.from → stays n r ≡ false
late_comer n r f l = ap (λ a. not a && nat_lt r.from n) f ∙ le-ltb r.from n l

pub stayer : (n : ℕ) (r : Run) → r.aside ≡ false → r.from < n → stays n r ≡ true
stayer n r f l = by (cases_Bool (nat_lt r.from n))
  where
    by : (nat_lt r.from n ≡ true) ⊎ (nat_lt r.from n ≡ false) → stays n r ≡ true
    by (inl t) = ap (λ a. not a && nat_lt r.from n) f ∙ t
    by (inr g) = absurd (let m = ltb-false r.from n g in omega (arith, m, l))

-- what rises, stays rising
pub stayers_rise : (n m old made : ℕ) (rs : List Run) → RunsRise n m old made rs → StayersRise n old rs
stayers_rise n m old made [] h = tt
stayers_rise n m old made (r ∷ rs) (inl h) = inr (no_stayer n r h.0, stayers_rise n m old made rs h.1)
stayers_rise n m old made (r ∷ rs) (inr (inl h)) = inl (stayer n r h.0 h.1, h.2, h.3, stayers_rise n m (r.from + r.count) made rs h.4)
stayers_rise n m old made (r ∷ rs) (inr (inr h)) = inr (late_comer n r h.0 (let l = h.1 in omega (arith, l)), stayers_rise n m old (r.from - n + r.count) rs h.3)

pub one_more : (rs : List Run) (i : ℕ) (r : Run) → i < length rs → r ≡ get_or rs i r → take (i + 1) rs ≡ take i rs ++ r ∷ []
one_more rs i r l is = take_more rs i r l ∙ ap (λ y. take i rs ++ y ∷ []) (sym is)

-- ---- how many stay, and how many come

module _ (n : ℕ) where
  count_staying-append : (rs ss : List Run) → count_staying n (rs ++ ss) ≡ count_staying n rs + count_staying n ss
  count_staying-append [] ss = omega arith
  count_staying-append (r ∷ rs) ss = let e = count_staying-append rs ss in omega (arith, e)

  count_coming-append : (rs ss : List Run) → count_coming n (rs ++ ss) ≡ count_coming n rs + count_coming n ss
  count_coming-append [] ss = omega arith
  count_coming-append (r ∷ rs) ss = let e = count_coming-append rs ss in omega (arith, e)

  module _ (rs : List Run) (i : ℕ) (r : Run) (l : i < length rs) (is : r ≡ get_or rs i r) where
    pub counts_more : (count_staying n (take (i + 1) rs) ≡ count_staying n (take i rs) + cond (stays n r) r.count 0)
        × (count_coming n (take (i + 1) rs) ≡ count_coming n (take i rs) + cond (stays n r) 0 r.count)
    counts_more =
        let a = ap (count_staying n) (one_more rs i r l is) ∙ count_staying-append (take i rs) (r ∷ []) in
        let b = ap (count_coming n) (one_more rs i r l is) ∙ count_coming-append (take i rs) (r ∷ []) in
        (omega (arith, a), omega (arith, b))

    pub counts_within : (count_staying n (take (i + 1) rs) ≤ count_staying n rs) × (count_coming n (take (i + 1) rs) ≤ count_coming n rs)
    counts_within =
        let a = ap (count_staying n) (sym (take-append-drop (i + 1) rs)) ∙ count_staying-append (take (i + 1) rs) (drop (i + 1) rs) in
        let b = ap (count_coming n) (sym (take-append-drop (i + 1) rs)) ∙ count_coming-append (take (i + 1) rs) (drop (i + 1) rs) in
        (omega (arith, a), omega (arith, b))

-- ---- the elements that stay, and those that come

module _ {T : Type 0} (n : ℕ) where
  pub staying-append : (rs ss : List Run) (xs : List T) → staying n (rs ++ ss) xs ≡ staying n rs xs ++ staying n ss xs
  staying-append [] ss xs = refl
  staying-append (r ∷ rs) ss xs =
      let part = cond (stays n r) (gathered (up_from r.from r.count) xs) [] in
      ap (λ zs. part ++ zs) (staying-append rs ss xs) ∙ sym (append_assoc part (staying n rs xs) (staying n ss xs))

  pub coming-append : (rs ss : List Run) (xs ys : List T) → coming n (rs ++ ss) xs ys ≡ coming n rs xs ys ++ coming n ss xs (drop (length (places_aside rs)) ys)
  coming-append [] ss xs ys = refl
  coming-append (r ∷ rs) ss xs ys =
      let part = cond (stays n r) [] (taken r xs ys) in
      let more = drop (length (set_aside r)) ys in
      let both = length-append (set_aside r) (places_aside rs) in
      ap (λ zs. part ++ zs) (coming-append rs ss xs more ∙ ap (λ zs. coming n rs xs more ++ coming n ss xs zs) (drop-drop (length (places_aside rs)) (length (set_aside r)) ys ∙ ap (λ k. drop k ys) (let e : length (set_aside r) + length (places_aside rs) ≡ length (places_aside (r ∷ rs)) = omega (arith, both) in e)))
      ∙ sym (append_assoc part (coming n rs xs more) (coming n ss xs (drop (length (places_aside (r ∷ rs))) ys)))

  module _ (rs : List Run) (i : ℕ) (r : Run) (l : i < length rs) (is : r ≡ get_or rs i r) where
    pub staying_more : (xs : List T) → stays n r ≡ true → staying n (take (i + 1) rs) xs ≡ staying n (take i rs) xs ++ gathered (up_from r.from r.count) xs
    staying_more xs t =
        ap (λ ss. staying n ss xs) (one_more rs i r l is) ∙ staying-append (take i rs) (r ∷ []) xs
        ∙ ap (λ zs. staying n (take i rs) xs ++ zs) (append-nil (cond (stays n r) (gathered (up_from r.from r.count) xs) []) ∙ ap (λ b. cond b (gathered (up_from r.from r.count) xs) []) t)

    pub staying_same : (xs : List T) → stays n r ≡ false → staying n (take (i + 1) rs) xs ≡ staying n (take i rs) xs
    staying_same xs f =
        ap (λ ss. staying n ss xs) (one_more rs i r l is) ∙ staying-append (take i rs) (r ∷ []) xs
        ∙ ap (λ zs. staying n (take i rs) xs ++ zs) (append-nil (cond (stays n r) (gathered (up_from r.from r.count) xs) []) ∙ ap (λ b. cond b (gathered (up_from r.from r.count) xs) []) f)
        ∙ append-nil (staying n (take i rs) xs)

    pub coming_more : (xs ys : List T) → stays n r ≡ false → coming n (take (i + 1) rs) xs ys ≡ coming n (take i rs) xs ys ++ taken r xs (drop (length (places_aside (take i rs))) ys)
    coming_more xs ys f =
        let part = taken r xs (drop (length (places_aside (take i rs))) ys) in
        ap (λ ss. coming n ss xs ys) (one_more rs i r l is) ∙ coming-append (take i rs) (r ∷ []) xs ys
        ∙ ap (λ zs. coming n (take i rs) xs ys ++ zs) (append-nil (cond (stays n r) [] part) ∙ ap (λ b. cond b [] part) f)

    pub coming_same : (xs ys : List T) → stays n r ≡ true → coming n (take (i + 1) rs) xs ys ≡ coming n (take i rs) xs ys
    coming_same xs ys t =
        let part = taken r xs (drop (length (places_aside (take i rs))) ys) in
        ap (λ ss. coming n ss xs ys) (one_more rs i r l is) ∙ coming-append (take i rs) (r ∷ []) xs ys
        ∙ ap (λ zs. coming n (take i rs) xs ys ++ zs) (append-nil (cond (stays n r) [] part) ∙ ap (λ b. cond b [] part) t)
        ∙ append-nil (coming n (take i rs) xs ys)

-- ---- those that stay close up

-- Behind a part of so many elements the first runs that stay are in place; then comes what goes, then what is left of the old elements from
-- `next` on, and then the rest.
pub record IsClosedUp {T : Type 0} (n : ℕ) (rs : List Run) (i stay first : ℕ) (part was rest now : List T) : Type 0 where
  pub next : ℕ
  pub gap : List T
  pub rises : StayersRise n next (drop i rs)
  pub within : next ≤ n
  pub size : stay + length gap ≡ next
  pub count : stay ≡ first + count_staying n (take i rs)
  pub long : (made : List T) → first + length (staying n (take i rs) (was ++ made)) ≡ stay
  pub items : (made : List T) → now ≡ part ++ (staying n (take i rs) (was ++ made) ++ (gap ++ (drop next was ++ rest)))

module _ {T : Type 0} (n : ℕ) (rs : List Run) (first : ℕ) (part was rest : List T) (ahead : length part ≡ first) (whole : length was ≡ n) where
  pub closed_none : (now : List T) → StayersRise n first rs → first ≤ n → now ≡ part ++ (drop first was ++ rest) → IsClosedUp n rs 0 first first part was rest now
  closed_none now h l e = record { next = first; gap = []; rises = h; within = l; size = omega arith; count = omega arith; long = λ made. omega arith; items = λ made. e }

  -- up to an end that those that stay do not pass
  pub closed_window : (i stay end : ℕ) (now : List T) (c : IsClosedUp n rs i stay first part was rest now) → c.next ≤ end → end ≤ n
      → (made : List T) → IsClosed part (staying n (take i rs) (was ++ made)) (end - stay) (drop end was ++ rest) now
  closed_window i stay end now c l h made =
      let more = take (end - c.next) (drop c.next was) in
      let size = c.size in
      let left = length-drop c.next was in
      let all = length-append c.gap more in
      let long : length more ≡ end - c.next = length-take-le (end - c.next) (drop c.next was) (omega (arith, left, whole, h)) in
      let split : drop c.next was ≡ more ++ drop end was =
      sym (take-append-drop (end - c.next) (drop c.next was))
      ∙ ap (λ zs. more ++ zs) (drop-drop (end - c.next) c.next was ∙ ap (λ m. drop m was) (let e : c.next + (end - c.next) ≡ end = omega (arith, l) in e)) in (
        c.gap ++ more,
        omega (arith, all, long, size, l),
        c.items made
            ∙ ap (λ zs. part ++ (staying n (take i rs) (was ++ made) ++ (c.gap ++ (zs ++ rest)))) split
            ∙ ap (λ zs. part ++ (staying n (take i rs) (was ++ made) ++ zs)) (ap (λ zs. c.gap ++ zs) (append_assoc more (drop end was) rest) ∙ sym (append_assoc c.gap more (drop end was ++ rest))),
      )

  module _ (i stay : ℕ) (r : Run) (now : List T) (l : i < length rs) (is : r ≡ get_or rs i r) (c : IsClosedUp n rs i stay first part was rest now) where
    rises_at : StayersRise n c.next (r ∷ drop (i + 1) rs)
    rises_at = subst (StayersRise n c.next) (left_runs rs i r l is) c.rises

    goes_on : stays n r ≡ false → StayersRise n c.next (r ∷ drop (i + 1) rs) → StayersRise n c.next (drop (i + 1) rs)
    goes_on f (inl h) = absurd (let e : true ≡ false = sym h.0 ∙ f in cc)
    goes_on f (inr h) = h.1

    stays_on : stays n r ≡ true → StayersRise n c.next (r ∷ drop (i + 1) rs) → (c.next ≤ r.from) × (r.from + r.count ≤ n) × StayersRise n (r.from + r.count) (drop (i + 1) rs)
    stays_on t (inl h) = (h.1, h.2, h.3)
    stays_on t (inr h) = absurd (let e : true ≡ false = sym t ∙ h.0 in cc)

    -- a run that does not stay
    pub closed_past : stays n r ≡ false → IsClosedUp n rs (i + 1) stay first part was rest now
    closed_past f = let more = (counts_more n rs i r l is).0 in let count = c.count in record {
      next = c.next;
      gap = c.gap;
      rises = goes_on f rises_at;
      within = c.within;
      size = c.size;
      count = let e = ap (λ b. cond b r.count 0) f in omega (arith, more, count, e);
      long = λ made. ap (λ zs. first + length zs) (staying_same n rs i r l is (was ++ made) f) ∙ c.long made;
      items = λ made. c.items made ∙ ap (λ zs. part ++ (zs ++ (c.gap ++ (drop c.next was ++ rest)))) (sym (staying_same n rs i r l is (was ++ made) f));
    }

    -- a run that stays is next, or behind what goes
    pub closed_bounds : stays n r ≡ true → (stay ≤ r.from) × (r.from + r.count ≤ n)
    closed_bounds t = let h = stays_on t rises_at in let a = h.0 in let b = h.1 in let s = c.size in (omega (arith, a, s), b)

    pub closed_next : stays n r ≡ true → c.next ≤ r.from
    closed_next t = (stays_on t rises_at).0

    pub closed_on : stays n r ≡ true → (then : List T)
        → ((ws xs ys zs : List T) → now ≡ ws ++ (xs ++ (ys ++ zs)) → length ws ≡ stay → stay + length xs ≡ r.from → r.from + length ys ≡ r.from + r.count → then ≡ ws ++ (ys ++ (xs ++ zs)))
        → IsClosedUp n rs (i + 1) (stay + r.count) first part was rest then
    closed_on t then turns =
        let h = stays_on t rises_at in
        let low = h.0 in
        let high = h.1 in
        let size = c.size in
        let k = r.from - c.next in
        let gap = c.gap ++ take k (drop c.next was) in
        let run = take r.count (drop r.from was) in
        let behind = drop (r.from + r.count) was in
        let left = length-drop c.next was in
        let left_run = length-drop r.from was in
        let gap_long : length (take k (drop c.next was)) ≡ k = length-take-le k (drop c.next was) (omega (arith, left, whole, low, high)) in
        let run_long : length run ≡ r.count = length-take-le r.count (drop r.from was) (omega (arith, left_run, whole, high)) in
        let gap_all = length-append c.gap (take k (drop c.next was)) in
        let more = (counts_more n rs i r l is).0 in
        let count = c.count in
        let one = ap (λ b. cond b r.count 0) t in
        let split : drop c.next was ≡ take k (drop c.next was) ++ (run ++ behind) =
        sym (take-append-drop k (drop c.next was))
        ∙ ap (λ zs. take k (drop c.next was) ++ zs)
        (drop-drop k c.next was ∙ ap (λ m. drop m was) (let e : c.next + k ≡ r.from = omega (arith, low) in e)
        ∙ sym (take-append-drop r.count (drop r.from was)) ∙ ap (λ zs. run ++ zs) (drop-drop r.count r.from was)) in
        let apart : c.gap ++ (drop c.next was ++ rest) ≡ gap ++ (run ++ (behind ++ rest)) =
        ap (λ zs. c.gap ++ (zs ++ rest)) split
        ∙ ap (λ zs. c.gap ++ zs) (append_assoc (take k (drop c.next was)) (run ++ behind) rest ∙ ap (λ zs. take k (drop c.next was) ++ zs) (append_assoc run behind rest))
        ∙ sym (append_assoc c.gap (take k (drop c.next was)) (run ++ (behind ++ rest))) in
        let stayed : (made : List T) → run ≡ gathered (up_from r.from r.count) (was ++ made) = λ made. run_of_old n r.count r.from was made (drop r.from was) whole high refl in
        let next : (made : List T) → staying n (take (i + 1) rs) (was ++ made) ≡ staying n (take i rs) (was ++ made) ++ run = λ made. staying_more n rs i r l is (was ++ made) t ∙ ap (λ zs. staying n (take i rs) (was ++ made) ++ zs) (sym (stayed made)) in
        record {
          next = r.from + r.count;
          gap = gap;
          rises = h.2;
          within = high;
          size = omega (arith, gap_all, gap_long, size, low);
          count = omega (arith, more, count, one);
          long = λ made. let s = length-append (staying n (take i rs) (was ++ made)) run in let a = ap length (next made) in let b = c.long made in omega (arith, s, a, b, run_long);
          items = λ made.
              let ws = staying n (take i rs) (was ++ made) in
              let b = c.long made in
              let all = length-append part ws in
              turns (part ++ ws) gap run (behind ++ rest)
              (c.items made ∙ ap (λ zs. part ++ (ws ++ zs)) apart ∙ sym (append_assoc part ws (gap ++ (run ++ (behind ++ rest)))))
              (omega (arith, all, ahead, b)) (omega (arith, gap_all, gap_long, size, low)) (omega (arith, run_long))
              ∙ append_assoc part ws (run ++ (gap ++ (behind ++ rest)))
              ∙ ap (λ zs. part ++ zs) (sym (append_assoc ws run (gap ++ (behind ++ rest))) ∙ ap (λ zs. zs ++ (gap ++ (behind ++ rest))) (sym (next made)));
        }

-- a list, cut at two places
pub cut_twice : {T : Type 0} (k n : ℕ) (xs : List T) → k ≤ n → xs ≡ take k xs ++ (drop k (take n xs) ++ drop n xs)
cut_twice k n xs l =
    sym (take-append-drop k xs)
    ∙ ap (λ zs. take k xs ++ zs)
    (sym (take-append-drop (n - k) (drop k xs)) ∙ ap (λ zs. zs ++ drop (n - k) (drop k xs)) (sym (dropped_taken k n xs l))
    ∙ ap (λ zs. drop k (take n xs) ++ zs) (drop-drop (n - k) k xs ∙ ap (λ m. drop m xs) (let e : k + (n - k) ≡ n = omega (arith, l) in e)))

-- what has closed up of the elements of a vector
pub cut_closed : {T : Type 0} (n : ℕ) (rs : List Run) (i stay first : ℕ) (items now : List T) → first ≤ n → n ≤ length items
    → ((part was rest : List T) → items ≡ part ++ (drop first was ++ rest) → length part ≡ first → length was ≡ n → IsClosedUp n rs i stay first part was rest now)
    → IsClosedUp n rs i stay first (take first items) (take n items) (drop n items) now
cut_closed n rs i stay first items now l h c =
    c (take first items) (take n items) (drop n items) (cut_twice first n items l) (length-take-le first items (omega (arith, l, h))) (length-take-le n items h)

-- ---- those that stay go over those that come

module _ {T : Type 0} where
  whole_at : (rs : List Run) (xs ys : List T) (i : ℕ) (r : Run) → AreWhole rs xs ys → i < length rs → r ≡ get_or rs i r → length (taken r xs (drop (length (places_aside (take i rs))) ys)) ≡ r.count
  whole_at [] xs ys i r h l is = absurd (omega (arith, l))
  whole_at (q ∷ rs) xs ys zero r h l is = subst (λ (z : Run). length (taken z xs ys) ≡ z.count) (sym is) h.0
  whole_at (q ∷ rs) xs ys (suc i) r h l is =
      let both = length-append (set_aside q) (places_aside (take i rs)) in
      let same : drop (length (places_aside (q ∷ take i rs))) ys ≡ drop (length (places_aside (take i rs))) (drop (length (set_aside q)) ys) =
      ap (λ k. drop k ys) (let e : length (places_aside (q ∷ take i rs)) ≡ length (set_aside q) + length (places_aside (take i rs)) = omega (arith, both) in e) ∙ sym (drop-drop (length (places_aside (take i rs))) (length (set_aside q)) ys) in
      ap (λ zs. length (taken r xs zs)) same ∙ whole_at rs xs (drop (length (set_aside q)) ys) i r h.1 (omega (arith, l)) is

  whole_take : (rs : List Run) (xs ys : List T) (i : ℕ) → AreWhole rs xs ys → AreWhole (take i rs) xs ys
  whole_take rs xs ys zero h = tt
  whole_take [] xs ys (suc i) h = tt
  whole_take (r ∷ rs) xs ys (suc i) h = (h.0, whole_take rs xs (drop (length (set_aside r)) ys) i h.1)

  module _ (n : ℕ) where
    part_stays : (r : Run) (xs ys : List T) → stays n r ≡ true → taken r xs ys ≡ gathered (up_from r.from r.count) xs
    part_stays r xs ys t = taken_plain r xs ys (of_stayer n r t).0

    pub staying_long : (rs : List Run) (xs ys : List T) → AreWhole rs xs ys → length (staying n rs xs) ≡ count_staying n rs
    staying_long [] xs ys h = refl
    staying_long (r ∷ rs) xs ys h = by (staying_long rs xs (drop (length (set_aside r)) ys) h.1) (cases_Bool (stays n r))
      where
        all : length (staying n (r ∷ rs) xs) ≡ length (cond (stays n r) (gathered (up_from r.from r.count) xs) []) + length (staying n rs xs)
        all = length-append (cond (stays n r) (gathered (up_from r.from r.count) xs) []) (staying n rs xs)

        by : length (staying n rs xs) ≡ count_staying n rs → (stays n r ≡ true) ⊎ (stays n r ≡ false) → length (staying n (r ∷ rs) xs) ≡ count_staying n (r ∷ rs)
        by rest (inl t) =
            let a = ap (λ b. length (cond b (gathered (up_from r.from r.count) xs) [])) t in
            let b = ap (λ b. cond b r.count 0) t in
            let d : length (gathered (up_from r.from r.count) xs) ≡ r.count = ap length (sym (part_stays r xs ys t)) ∙ h.0 in
            omega (arith, a, b, d, rest, all)
        by rest (inr f) =
            let a = ap (λ b. length (cond b (gathered (up_from r.from r.count) xs) [])) f in
            let b = ap (λ b. cond b r.count 0) f in
            omega (arith, a, b, rest, all)

    pub coming_long : (rs : List Run) (xs ys : List T) → AreWhole rs xs ys → length (coming n rs xs ys) ≡ count_coming n rs
    coming_long [] xs ys h = refl
    coming_long (r ∷ rs) xs ys h = by (coming_long rs xs (drop (length (set_aside r)) ys) h.1) (cases_Bool (stays n r))
      where
        all : length (coming n (r ∷ rs) xs ys) ≡ length (cond (stays n r) [] (taken r xs ys)) + length (coming n rs xs (drop (length (set_aside r)) ys))
        all = length-append (cond (stays n r) [] (taken r xs ys)) (coming n rs xs (drop (length (set_aside r)) ys))

        by : length (coming n rs xs (drop (length (set_aside r)) ys)) ≡ count_coming n rs → (stays n r ≡ true) ⊎ (stays n r ≡ false) → length (coming n (r ∷ rs) xs ys) ≡ count_coming n (r ∷ rs)
        by rest (inl t) =
            let a = ap (λ b. length (cond b [] (taken r xs ys))) t in
            let b = ap (λ b. cond b 0 r.count) t in
            omega (arith, a, b, rest, all)
        by rest (inr f) =
            let a = ap (λ b. length (cond b [] (taken r xs ys))) f in
            let b = ap (λ b. cond b 0 r.count) f in
            let d = h.0 in
            omega (arith, a, b, d, rest, all)

    -- where none comes, all are in place
    none_come : (rs : List Run) (xs ys : List T) → AreWhole rs xs ys → count_coming n rs ≡ 0 → (coming n rs xs ys ≡ []) × (staying n rs xs ≡ woven rs xs ys)
    none_come [] xs ys h e = (refl, refl)
    none_come (r ∷ rs) xs ys h e = by (none_come rs xs (drop (length (set_aside r)) ys) h.1 (omega (arith, e))) (cases_Bool (stays n r))
      where
        by : (coming n rs xs (drop (length (set_aside r)) ys) ≡ []) × (staying n rs xs ≡ woven rs xs (drop (length (set_aside r)) ys))
            → (stays n r ≡ true) ⊎ (stays n r ≡ false) → (coming n (r ∷ rs) xs ys ≡ []) × (staying n (r ∷ rs) xs ≡ woven (r ∷ rs) xs ys)
        by rest (inl t) =
            let part = gathered (up_from r.from r.count) xs in
            let more = drop (length (set_aside r)) ys in (
              ap (λ b. cond b [] (taken r xs ys) ++ coming n rs xs more) t ∙ rest.0,
              ap (λ b. cond b part [] ++ staying n rs xs) t ∙ ap (λ zs. zs ++ staying n rs xs) (sym (part_stays r xs ys t)) ∙ ap (λ zs. taken r xs ys ++ zs) rest.1,
            )
        by rest (inr f) =
            let part = gathered (up_from r.from r.count) xs in
            let more = drop (length (set_aside r)) ys in
            let b = ap (λ b. cond b 0 r.count) f in
            let d = h.0 in
            let empty : taken r xs ys ≡ [] = none_long (taken r xs ys) (omega (arith, b, d, e)) in (
              ap (λ b. cond b [] (taken r xs ys) ++ coming n rs xs more) f ∙ ap (λ zs. zs ++ coming n rs xs more) empty ∙ rest.0,
              ap (λ b. cond b part [] ++ staying n rs xs) f ∙ rest.1 ∙ ap (λ zs. zs ++ woven rs xs more) (sym empty),
            )

    module _ (rs : List Run) (part xs ys rest : List T) (whole : AreWhole rs xs ys) where
      -- what is in place behind the first runs
      abbrev pub placed : ℕ → List T
      placed i = woven (drop i rs) xs (drop (length (places_aside (take i rs))) ys) ++ rest

      -- what stands where those of the first runs are left that stay, and those that come
      abbrev pub spreads : ℕ → List T
      spreads i = part ++ (staying n (take i rs) xs ++ (coming n (take i rs) xs ys ++ placed i))

      pub spread_last : (i : ℕ) (now : List T) → count_coming n (take i rs) ≡ 0 → now ≡ spreads i → now ≡ part ++ (woven rs xs ys ++ rest)
      spread_last i now e h =
          let none = none_come (take i rs) xs ys (whole_take rs xs ys i whole) e in
          let behind = woven (drop i rs) xs (drop (length (places_aside (take i rs))) ys) in
          h
          ∙ ap (λ zs. part ++ (zs ++ (coming n (take i rs) xs ys ++ placed i))) none.1
          ∙ ap (λ zs. part ++ (woven (take i rs) xs ys ++ (zs ++ placed i))) none.0
          ∙ ap (λ zs. part ++ zs) (sym (append_assoc (woven (take i rs) xs ys) behind rest) ∙ ap (λ zs. zs ++ rest) (sym (woven-append (take i rs) (drop i rs) xs ys) ∙ ap (λ ss. woven ss xs ys) (take-append-drop i rs)))

      module _ (i : ℕ) (r : Run) (l : i < length rs) (is : r ≡ get_or rs i r) where
        abbrev mine : List T
        mine = taken r xs (drop (length (places_aside (take i rs))) ys)

        placed_more : placed i ≡ mine ++ placed (i + 1)
        placed_more =
            let more = ap length (aside_more rs i r l is) in
            let both = length-append (places_aside (take i rs)) (places_aside (r ∷ [])) in
            let one = length-append (set_aside r) [] in
            ap (λ ss. woven ss xs (drop (length (places_aside (take i rs))) ys) ++ rest) (left_runs rs i r l is)
            ∙ ap (λ zs. (mine ++ woven (drop (i + 1) rs) xs zs) ++ rest)
            (drop-drop (length (set_aside r)) (length (places_aside (take i rs))) ys
            ∙ ap (λ k. drop k ys) (let e : length (places_aside (take i rs)) + length (set_aside r) ≡ length (places_aside (take (i + 1) rs)) = omega (arith, more, both, one) in e))
            ∙ append_assoc mine (woven (drop (i + 1) rs) xs (drop (length (places_aside (take (i + 1) rs))) ys)) rest

        -- a run that stays goes over those that come
        pub spread_over : (now then : List T) (stay come : ℕ) → stays n r ≡ true → now ≡ spreads (i + 1)
            → length part + count_staying n (take i rs) ≡ stay → come ≡ count_coming n (take (i + 1) rs)
            → ((ws vs us zs : List T) → now ≡ ws ++ (vs ++ (us ++ zs)) → length ws ≡ stay → stay + length vs ≡ stay + r.count → stay + r.count + length us ≡ stay + r.count + come → then ≡ ws ++ (us ++ (vs ++ zs)))
            → then ≡ spreads i
        spread_over now then stay come t h s o turns =
            let ws = staying n (take i rs) xs in
            let us = coming n (take (i + 1) rs) xs ys in
            let same : gathered (up_from r.from r.count) xs ≡ mine = sym (part_stays r xs (drop (length (places_aside (take i rs))) ys) t) in
            let long = whole_at rs xs ys i r whole l is in
            let a = staying_long (take i rs) xs ys (whole_take rs xs ys i whole) in
            let b = coming_long (take (i + 1) rs) xs ys (whole_take rs xs ys (i + 1) whole) in
            let all = length-append part ws in
            turns (part ++ ws) mine us (placed (i + 1))
            (h
            ∙ ap (λ zs. part ++ zs) (ap (λ zs. zs ++ (us ++ placed (i + 1))) (staying_more n rs i r l is xs t ∙ ap (λ zs. ws ++ zs) same) ∙ append_assoc ws mine (us ++ placed (i + 1)))
            ∙ sym (append_assoc part ws (mine ++ (us ++ placed (i + 1)))))
            (omega (arith, all, a, s)) (omega (arith, long)) (omega (arith, b, o))
            ∙ append_assoc part ws (us ++ (mine ++ placed (i + 1)))
            ∙ ap (λ zs. part ++ (ws ++ (zs ++ (mine ++ placed (i + 1))))) (coming_same n rs i r l is xs ys t)
            ∙ ap (λ zs. part ++ (ws ++ (coming n (take i rs) xs ys ++ zs))) (sym placed_more)

        -- one that comes is in place
        pub spread_past : (now : List T) → stays n r ≡ false → now ≡ spreads (i + 1) → now ≡ spreads i
        spread_past now f h =
            h
            ∙ ap (λ zs. part ++ (zs ++ (coming n (take (i + 1) rs) xs ys ++ placed (i + 1)))) (staying_same n rs i r l is xs f)
            ∙ ap (λ zs. part ++ (staying n (take i rs) xs ++ zs))
            (ap (λ zs. zs ++ placed (i + 1)) (coming_more n rs i r l is xs ys f) ∙ append_assoc (coming n (take i rs) xs ys) mine (placed (i + 1)) ∙ ap (λ zs. coming n (take i rs) xs ys ++ zs) (sym placed_more))

  plain_long : (r : Run) (old made aside : List T) (n m : ℕ) → r.aside ≡ false → length old ≡ n → length made ≡ m → r.from + r.count ≤ n + m → length (taken r (old ++ made) aside) ≡ r.count
  plain_long r old made aside n m f a b high =
      let all = length-append old made in
      let left = length-drop r.from (old ++ made) in
      ap length (taken_plain r (old ++ made) aside f ∙ gathered_up r.count r.from (old ++ made) (omega (arith, all, a, b, high)))
      ∙ length-take-le r.count (drop r.from (old ++ made)) (omega (arith, left, all, a, b, high))

  -- the elements of a line whose runs rise
  pub whole_all : (n m o d : ℕ) (rs : List Run) (old made aside : List T) → length old ≡ n → length made ≡ m → RunsRise n m o d rs → length aside ≡ length (places_aside rs) → AreWhole rs (old ++ made) aside
  whole_all n m o d [] old made aside a b h e = tt
  whole_all n m o d (r ∷ rs) old made aside a b (inl h) e =
      let one = aside_length r h.0 in
      let both = length-append (set_aside r) (places_aside rs) in
      let left = length-drop (length (set_aside r)) aside in (
        ap length (taken_aside r (old ++ made) aside h.0) ∙ length-take-le r.count aside (omega (arith, one, both, e)),
        whole_all n m o d rs old made (drop (length (set_aside r)) aside) a b h.1 (omega (arith, left, both, e)),
      )
  whole_all n m o d (r ∷ rs) old made aside a b (inr (inl h)) e =
      let none = ap length (none_aside r h.0) in
      let both = length-append (set_aside r) (places_aside rs) in
      let left = length-drop (length (set_aside r)) aside in
      let high = h.3 in (
        plain_long r old made aside n m h.0 a b (omega (arith, high)),
        whole_all n m (r.from + r.count) d rs old made (drop (length (set_aside r)) aside) a b h.4 (omega (arith, left, both, none, e)),
      )
  whole_all n m o d (r ∷ rs) old made aside a b (inr (inr h)) e =
      let none = ap length (none_aside r h.0) in
      let both = length-append (set_aside r) (places_aside rs) in
      let left = length-drop (length (set_aside r)) aside in (
        plain_long r old made aside n m h.0 a b h.2,
        whole_all n m o (r.from - n + r.count) rs old made (drop (length (set_aside r)) aside) a b h.3 (omega (arith, left, both, none, e)),
      )
