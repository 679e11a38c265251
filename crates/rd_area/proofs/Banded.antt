use Rattle.std.proofs.Common.{◌≡◌, ℕ, zero, suc, ◌+◌, ◌-◌, ◌<◌, ◌≤◌, ◌≢◌, ◌⊎◌, inl, inr, true, false, if◌then◌else◌, leb, List, [], ◌∷◌, get_or, length, take, sum_by, ◌*◌, arith, refl, sym, ◌∙◌, ap, subst, ⊎_elim}
use Rattle.std.specs.List.{insert}
use Rattle.std.proofs.lemmas.List.Edits.{length-insert, get_or-insert_below, get_or-insert_at, get_or-insert_above}
use Rattle.std.proofs.lemmas.List.Sums.{sum_by_more}
use Rattle.std.proofs.Math.Nat.{mul-suc}
use Rattle.rd_geom.specs.declared.span.Span.{Span}
use Rattle.rd_area.specs.Internal.Bands.{band_of, row_at, table, rows_of, AreBetween, AreRising, CoverRows, HasRow, BeginsBand, IsBanded}

pub order : (m n : ℕ) → (m < n) ⊎ (n ≤ m)
order zero zero = inr (omega arith)
order zero (suc n) = inl (omega arith)
order (suc m) zero = inr (omega arith)
order (suc m) (suc n) = ⊎_elim (λ l. inl (omega arith)) (λ l. inr (omega arith)) (order m n)

-- the rows of a table
pub table_length : (n : ℕ) (f : ℕ → List Span) → length (table n f) ≡ n
table_length zero f = refl
table_length (suc n) f = let k = table_length n (λ y. f (suc y)) in omega (arith, k)

pub table_at : (n : ℕ) (f : ℕ → List Span) (y : ℕ) → y < n → get_or (table n f) y [] ≡ f y
table_at zero f y h = absurd (omega arith)
table_at (suc n) f zero h = refl
table_at (suc n) f (suc y) h = table_at n (λ z. f (suc z)) y (omega arith)

pub table_past : (n : ℕ) (f : ℕ → List Span) (y : ℕ) → n ≤ y → get_or (table n f) y [] ≡ []
table_past zero f y h = refl
table_past (suc n) f zero h = absurd (omega arith)
table_past (suc n) f (suc y) h = table_past n (λ z. f (suc z)) y (omega arith)

pub table_same : (n : ℕ) (f g : ℕ → List Span) → ((y : ℕ) → f y ≡ g y) → table n f ≡ table n g
table_same zero f g e = refl
table_same (suc n) f g e = rw (e 0) (ap (λ t. g 0 ∷ t) (table_same n (λ y. f (suc y)) (λ y. g (suc y)) (λ y. e (suc y))))

-- the ends of the bands before that of a row are not after it
pub ends_to : (es : List ℕ) (y i : ℕ) → i < band_of es y → get_or es i 0 ≤ y
ends_to [] y i h = absurd (omega arith)
ends_to (e ∷ es) y i h =
    elim (leb e y) as (λ b. leb e y ≡ b → i < (if b then suc (band_of es y) else 0) → get_or (e ∷ es) i 0 ≤ y) [
      | true ↦ λ t l. deeper e es y i (λ k. ends_to es y k) t l
      | false ↦ λ t l. absurd (omega arith)
    ] refl h
  where
    deeper : (e : ℕ) (es : List ℕ) (y i : ℕ) → ((k : ℕ) → k < band_of es y → get_or es k 0 ≤ y) → leb e y ≡ true → i < suc (band_of es y) → get_or (e ∷ es) i 0 ≤ y
    deeper e es y zero f t l = grind arith
    deeper e es y (suc i) f t l = f i (omega arith)

-- and its own ends after it
pub ends_after : (es : List ℕ) (y : ℕ) → band_of es y < length es → y < get_or es (band_of es y) 0
ends_after [] y h = absurd (omega arith)
ends_after (e ∷ es) y h =
    elim (leb e y) as (λ b. leb e y ≡ b → (if b then suc (band_of es y) else 0) < length (e ∷ es) → y < get_or (e ∷ es) (if b then suc (band_of es y) else 0) 0) [
      | true ↦ λ t l. ends_after es y (omega arith)
      | false ↦ λ t l. grind arith
    ] refl h

pub band_most : (es : List ℕ) (y : ℕ) → band_of es y ≤ length es
band_most [] y = omega arith
band_most (e ∷ es) y =
    let k = band_most es y in
    elim (leb e y) as (λ b. (if b then suc (band_of es y) else 0) ≤ length (e ∷ es)) [ true ↦ omega (arith, k) | false ↦ omega arith ]

-- which tells the band
pub band_is : (es : List ℕ) (y k : ℕ) → k ≤ length es → ((i : ℕ) → i < k → get_or es i 0 ≤ y) → (k < length es → y < get_or es k 0) → band_of es y ≡ k
band_is es y k most below above =
    let m = band_most es y in
    ⊎_elim
    (λ l. let a = ends_after es y (omega (arith, l, most)) in let b = below (band_of es y) l in absurd (omega (arith, a, b)))
    (λ g. ⊎_elim
    (λ l. let a = ends_to es y k l in let b = above (omega (arith, l, m)) in absurd (omega (arith, a, b)))
    (λ l. omega (arith, g, l))
    (order k (band_of es y)))
    (order (band_of es y) k)

-- the ends that are before a row
pub record EndsBefore (es : List ℕ) (y i : ℕ) : Type 0 where
  pub before : (k : ℕ) → k < i → get_or es k 0 < y
  pub rest : (k : ℕ) → i ≤ k → k < length es → y ≤ get_or es k 0

pub end_in : (es : List ℕ) (y i : ℕ) → 0 < y → CoverRows y es → EndsBefore es y i → i < length es
end_in es y i some all e =
    let h : band_of es (y - 1) < length es = all (y - 1) (omega arith) in
    let a = ends_after es (y - 1) h in
    ⊎_elim
    (λ l. let b = e.before (band_of es (y - 1)) l in absurd (omega (arith, a, b)))
    (λ l. omega (arith, l, h))
    (order (band_of es (y - 1)) i)

-- the row that ends a band begins the next
pub next_begins : (es : List ℕ) (y i : ℕ) → i < length es → EndsBefore es y i → get_or es i 0 ≡ y → BeginsBand es y (i + 1)
next_begins es y i within e at = record {
  within = omega arith;
  before = λ z l. ⊎_elim (λ a. a) (λ a. let t = ends_to es z i (omega (arith, a)) in absurd (omega (arith, t, at))) (order (band_of es z) (i + 1));
  after = λ z l. ⊎_elim
      (λ a. let t = ends_after es z (omega (arith, a)) in
      ⊎_elim
      (λ b. let u = e.before (band_of es z) b in absurd (omega (arith, t, u)))
      (λ b. let s : band_of es z ≡ i = omega (arith, a, b) in let v = rw s at t in absurd (omega (arith, v, at)))
      (order (band_of es z) i))
      (λ a. a)
      (order (band_of es z) (i + 1));
}

-- an end more
pub earlier_band : (es : List ℕ) (y i z : ℕ) → i < length es → EndsBefore es y i → y < get_or es i 0 → z < y → band_of (insert es i y) z ≡ band_of es z
earlier_band es y i z within e at l =
    let n = length-insert es i y (omega arith) in
    let k = band_of es z in
    let most : k ≤ i = ⊎_elim (λ a. let t = ends_to es z i a in absurd (omega (arith, t))) (λ a. a) (order i k) in
    band_is (insert es i y) z k (omega (arith, n, most))
    (λ j b. let t = ends_to es z j b in let u = get_or-insert_below es i y 0 j (omega (arith, most)) (omega arith) in omega (arith, t, u))
    (λ b. ⊎_elim
    (λ c. let t = ends_after es z (omega arith) in let u = get_or-insert_below es i y 0 k c (omega arith) in omega (arith, t, u))
    (λ (c : i ≤ k). let s : k ≡ i = omega (arith, most, c) in let u = get_or-insert_at es i y 0 (omega arith) in rw s (omega (arith, u)))
    (order k i))

pub later_band : (es : List ℕ) (y i z : ℕ) → i < length es → EndsBefore es y i → y < get_or es i 0 → y ≤ z → band_of (insert es i y) z ≡ band_of es z + 1
later_band es y i z within e at l =
    let n = length-insert es i y (omega arith) in
    let k = band_of es z in
    let m = band_most es z in
    let least : i ≤ k = ⊎_elim (λ a. let t = ends_after es z (omega arith) in let u = e.before k a in absurd (omega (arith, t, u))) (λ a. a) (order k i) in
    band_is (insert es i y) z (k + 1) (omega (arith, n, m))
    (λ j b. ⊎_elim
    (λ c. let u = get_or-insert_below es i y 0 j c (omega arith) in let t = e.before j c in omega (arith, t, u))
    (λ (c : i ≤ j). ⊎_elim
    (λ (d : j < i + 1). let s : j ≡ i = omega (arith, c, d) in let u = get_or-insert_at es i y 0 (omega arith) in rw s (omega (arith, u)))
    (λ d. let u = get_or-insert_above es i y 0 (j - 1) (omega arith) (omega arith) in
    let s : (j - 1) + 1 ≡ j = omega arith in
    let v = rw s at u in
    let t = ends_to es z (j - 1) (omega arith) in omega (arith, t, v))
    (order j (i + 1)))
    (order j i))
    (λ b. let u = get_or-insert_above es i y 0 k least (omega arith) in let t = ends_after es z (omega (arith, n)) in omega (arith, t, u))

pub never_falling : (es : List ℕ) → AreRising es → (i j : ℕ) → i ≤ j → j < length es → get_or es i 0 ≤ get_or es j 0
never_falling es r i j l h =
    ⊎_elim
    (λ a. let k = r i j a h in omega (arith, k))
    (λ (a : j ≤ i). let e : i ≡ j = omega (arith, l, a) in rw e (omega arith))
    (order i j)

-- the bands of rows
pub band_here : (es : List ℕ) (y i : ℕ) → AreRising es → i < length es → EndsBefore es y i → get_or es i 0 ≡ y → i + 1 ≡ band_of es y
band_here es y i r h e at =
    sym (band_is es y (i + 1) (omega (arith, h))
    (λ k l. let n = never_falling es r k i (omega (arith, l)) h in omega (arith, n, at))
    (λ l. let n = r i (i + 1) (omega arith) l in omega (arith, n, at)))

pub band_there : (es : List ℕ) (y i : ℕ) → i ≤ length es → EndsBefore es y i → (i < length es → get_or es i 0 ≢ y) → i ≡ band_of es y
band_there es y i h e not =
    sym (band_is es y i h
    (λ k l. let n = e.before k l in omega (arith, n))
    (λ l. let n = e.rest i (omega arith) l in ⊎_elim (λ a. a) (λ a. absurd (not l (omega (arith, n, a)))) (order y (get_or es i 0))))

pub bands_within : (es : List ℕ) (from to i y : ℕ) → i < length es → EndsBefore es to i → from ≤ y → y < to → (band_of es from ≤ band_of es y) × (band_of es y < i + 1)
bands_within es from to i y h e f l = (
  ⊎_elim
      (λ a. let m = band_most es from in let t = ends_to es from (band_of es y) a in let u = ends_after es y (omega (arith, a, m)) in absurd (omega (arith, t, u, f)))
      (λ a. a)
      (order (band_of es y) (band_of es from)),
  ⊎_elim
      (λ a. a)
      (λ a. let t = ends_to es y i (omega (arith, a)) in let u = e.rest i (omega arith) h in absurd (omega (arith, t, u, l)))
      (order (band_of es y) (i + 1)),
)

pub band_has_row : (es : List ℕ) (from to i k : ℕ) → AreRising es → from < to → i < length es → EndsBefore es to i → band_of es from ≤ k → k < i + 1 → HasRow es from to k
band_has_row es from to i k r o h e f l =
    ⊎_elim
    (λ a. record {
      y = get_or es (k - 1) 0;
      first = let t = ends_after es from (omega (arith, a, l, h)) in let n = never_falling es r (band_of es from) (k - 1) (omega (arith, a)) (omega (arith, l, h)) in omega (arith, t, n);
      last = e.before (k - 1) (omega (arith, a, l));
      band = band_is es (get_or es (k - 1) 0) k (omega (arith, l, h))
          (λ j b. never_falling es r j (k - 1) (omega (arith, b)) (omega (arith, l, h)))
          (λ b. r (k - 1) k (omega (arith, a)) b);
    })
    (λ a. record { y = from; first = omega arith; last = o; band = omega (arith, f, a) })
    (order (band_of es from) k)

-- the bands of the rows before an end and after it
pub band_up_to : (es : List ℕ) (y i z : ℕ) → EndsBefore es y i → i < length es → z < y → band_of es z ≤ i
band_up_to es y i z e h l =
    ⊎_elim (λ a. let t = ends_to es z i a in let u = e.rest i (omega arith) h in absurd (omega (arith, t, u, l))) (λ a. a) (order i (band_of es z))

pub band_from : (es : List ℕ) (y i z : ℕ) → EndsBefore es y i → i < length es → y ≤ z → i ≤ band_of es z
band_from es y i z e h l =
    ⊎_elim (λ a. let t = ends_after es z (omega (arith, a, h)) in let u = e.before (band_of es z) a in absurd (omega (arith, t, u, l))) (λ a. a) (order (band_of es z) i)

-- a band that was parted has the same rows
pub parted_same : (es : List ℕ) (bs : List (List Span)) (y i z : ℕ) → i < length es → length es ≡ length bs → EndsBefore es y i → y < get_or es i 0
    → row_at (insert es i y) (insert bs i (get_or bs i [])) z ≡ row_at es bs z
parted_same es bs y i z h n e at =
    let within : i ≤ length bs = omega (arith, h, n) in
    ⊎_elim
    (λ l. rw (earlier_band es y i z h e at l)
    (⊎_elim
    (λ a. get_or-insert_below bs i (get_or bs i []) [] (band_of es z) a within)
    (λ (a : i ≤ band_of es z). let m = band_up_to es y i z e h l in let s : band_of es z ≡ i = omega (arith, a, m) in
    rw s (get_or-insert_at bs i (get_or bs i []) [] within))
    (order (band_of es z) i)))
    (λ l. rw (later_band es y i z h e at l) (get_or-insert_above bs i (get_or bs i []) [] (band_of es z) (band_from es y i z e h l) within))
    (order z y)

pub parted_begins : (es : List ℕ) (y i : ℕ) → i < length es → EndsBefore es y i → y < get_or es i 0 → BeginsBand (insert es i y) y (i + 1)
parted_begins es y i h e at = record {
  within = let n = length-insert es i y (omega (arith, h)) in omega (arith, n, h);
  before = λ z l. let b = earlier_band es y i z h e at l in let m = band_up_to es y i z e h l in omega (arith, b, m);
  after = λ z l. let b = later_band es y i z h e at l in let m = band_from es y i z e h l in omega (arith, b, m);
}

inserted : (es : List ℕ) (i y k : ℕ) (P : ℕ → Type 0) → i ≤ length es → (k < i → P (get_or es k 0)) → (k ≡ i → P y) → (i < k → P (get_or es (k - 1) 0))
    → P (get_or (insert es i y) k 0)
inserted es i y k P h below at above =
    ⊎_elim
    (λ a. subst P (sym (get_or-insert_below es i y 0 k a h)) (below a))
    (λ (a : i ≤ k). ⊎_elim
    (λ (b : i < k). let s : (k - 1) + 1 ≡ k = omega (arith, b) in
    let u : get_or (insert es i y) k 0 ≡ get_or es (k - 1) 0 = rw s at (get_or-insert_above es i y 0 (k - 1) (omega (arith, b)) h) in
    subst P (sym u) (above b))
    (λ (b : k ≤ i). let s : k ≡ i = omega (arith, a, b) in
    let u : get_or (insert es i y) k 0 ≡ y = rw s (get_or-insert_at es i y 0 h) in
    subst P (sym u) (at s))
    (order i k))
    (order k i)

pub parted_banded : (height : ℕ) (es : List ℕ) (n m y i : ℕ) → 0 < y → y ≤ height → i < length es → EndsBefore es y i → y < get_or es i 0 → length (insert es i y) ≡ m
    → IsBanded height es n → IsBanded height (insert es i y) m
parted_banded height es n m y i some top h e at count b =
    let within : i ≤ length es = omega (arith, h) in
    let more = length-insert es i y within in
    record {
      count = count;
      some = λ k l. inserted es i y k (λ v. 0 < v) within (λ a. b.some k (omega (arith, a, h))) (λ a. some) (λ a. b.some (k - 1) (omega (arith, a, l, more)));
      within = λ k l. inserted es i y k (λ v. v ≤ height) within (λ a. b.within k (omega (arith, a, h))) (λ a. top) (λ a. b.within (k - 1) (omega (arith, a, l, more)));
      rising = λ j k l o. inserted es i y j (λ v. v < get_or (insert es i y) k 0) within
          (λ a. inserted es i y k (λ v. get_or es j 0 < v) within
          (λ c. b.rising j k l (omega (arith, c, h)))
          (λ c. e.before j a)
          (λ c. let r = e.before j a in let s = never_falling es b.rising i (k - 1) (omega (arith, c)) (omega (arith, o, c, more)) in omega (arith, r, s, at)))
          (λ a. inserted es i y k (λ v. y < v) within
          (λ c. absurd (omega (arith, a, c, l)))
          (λ c. absurd (omega (arith, a, c, l)))
          (λ c. let s = never_falling es b.rising i (k - 1) (omega (arith, c)) (omega (arith, o, c, more)) in omega (arith, s, at)))
          (λ a. inserted es i y k (λ v. get_or es (j - 1) 0 < v) within
          (λ c. absurd (omega (arith, a, c, l)))
          (λ c. absurd (omega (arith, a, c, l)))
          (λ c. b.rising (j - 1) (k - 1) (omega (arith, a, l)) (omega (arith, o, c, more))));
      all = λ z l. let k = b.all z l in
          ⊎_elim
          (λ a. let s = earlier_band es y i z h e at a in omega (arith, s, k, more))
          (λ a. let s = later_band es y i z h e at a in omega (arith, s, k, more))
          (order z y);
    }

-- the first row begins the first band
pub zero_begins : (es : List ℕ) → BeginsBand es 0 0
zero_begins es = record { within = omega arith; before = λ z l. absurd (omega arith); after = λ z l. omega arith }

pub after_end : (es : List ℕ) (y i : ℕ) → i < length es → EndsBefore es y i → get_or es i 0 ≢ y → y < get_or es i 0
after_end es y i h e n =
    let r = e.rest i (omega arith) h in
    ⊎_elim (λ a. a) (λ (a : get_or es i 0 ≤ y). absurd (n (omega (arith, a, r)))) (order y (get_or es i 0))

-- an end is before those that come after it
pub band_ends : (es : List ℕ) (i : ℕ) → AreRising es → i < length es → EndsBefore es (get_or es i 0) i
band_ends es i r h = record { before = λ k l. r k i l h; rest = λ k l m. never_falling es r i k l m }

pub start_to_end : (es : List ℕ) (s e i : ℕ) → BeginsBand es s i → BeginsBand es e (i + 1) → s ≤ e
start_to_end es s e i b n = ⊎_elim (λ a. let t = b.before e a in let u = n.after e (omega arith) in absurd (omega (arith, t, u))) (λ a. a) (order e s)

pub all_begun : (height : ℕ) (es : List ℕ) (n s : ℕ) → IsBanded height es n → BeginsBand es s n → height ≤ s
all_begun height es n s b g = ⊎_elim (λ a. let t = b.all s a in let u = g.after s (omega arith) in absurd (omega (arith, t, u, b.count))) (λ a. a) (order s height)

-- a sum over rows that are alike
alike_sum : (f : List Span → ℕ) (rows : List (List Span)) (s m : ℕ) (b : List Span) → s + m ≤ length rows → ((y : ℕ) → s ≤ y → y < s + m → get_or rows y [] ≡ b)
    → sum_by f (take (s + m) rows) ≡ sum_by f (take s rows) + f b * m
alike_sum f rows s zero b h e = let z : s + 0 ≡ s = omega arith in rw z (omega arith)
alike_sum f rows s (suc m) b h e =
    let k = alike_sum f rows s m b (omega arith) (λ y a l. e y a (omega arith)) in
    let t = sum_by_more f rows (s + m) [] (omega arith) in
    let p : f (get_or rows (s + m) []) ≡ f b = ap f (e (s + m) (omega arith) (omega arith)) in
    let q = mul-suc (f b) m in
    let z : s + suc m ≡ (s + m) + 1 = omega arith in
    rw z (omega (arith, k, t, p, q))

-- the sum over the rows of a band
pub band_sum : (f : List Span → ℕ) (height : ℕ) (es : List ℕ) (bs : List (List Span)) (n s i : ℕ) → IsBanded height es n → i < length es → BeginsBand es s i
    → sum_by f (take (get_or es i 0) (rows_of height es bs)) ≡ sum_by f (take s (rows_of height es bs)) + f (get_or bs i []) * (get_or es i 0 - s)
band_sum f height es bs n s i b h g =
    let e = get_or es i 0 in
    let next : BeginsBand es e (i + 1) = next_begins es e i h (band_ends es i b.rising h) refl in
    let le : s ≤ e = start_to_end es s e i g next in
    let top : e ≤ height = b.within i h in
    let size = table_length height (row_at es bs) in
    let z : s + (e - s) ≡ e = omega (arith, le) in
    let k = alike_sum f (rows_of height es bs) s (e - s) (get_or bs i []) (omega (arith, size, top, z))
    (λ y a l. let u = g.after y a in let v = next.before y (omega (arith, l, z)) in
    let w : band_of es y ≡ i = omega (arith, u, v) in
    table_at height (row_at es bs) y (omega (arith, l, z, top)) ∙ ap (λ m. get_or bs m []) w) in
    rw z at k

-- what lies between two rows that begin bands
pub between_starts : (es es' : List ℕ) (from to first last : ℕ) → from < to → ((z : ℕ) → z < to → band_of es' z ≡ band_of es z) → BeginsBand es from first
    → BeginsBand es' to last → AreBetween es' from to first last
between_starts es es' from to first last o same f l = record {
  inside = λ z a b. let s = same z b in let u = f.after z a in (omega (arith, s, u), l.before z b);
  outside = λ z. ⊎_elim
      (λ a. let s = same z (omega (arith, a, o)) in let u = f.before z a in inl (omega (arith, s, u)))
      (λ a. inr (l.after z a));
}

pub starts_order : (es : List ℕ) (from to first last : ℕ) → from < to → AreBetween es from to first last → first ≤ last
starts_order es from to first last o b = let i = b.inside from (omega arith) o in omega (arith, i.0, i.1)

-- one band without a span
one_none : (k : ℕ) → get_or {A = List Span} ([] ∷ []) k [] ≡ []
one_none zero = refl
one_none (suc k) = refl

pub none_rows : (height : ℕ) (es : List ℕ) (bs : List (List Span)) (y : ℕ) → bs ≡ [] ∷ [] → get_or (rows_of height es bs) y [] ≡ []
none_rows height es bs y e =
    rw e (⊎_elim
    (λ l. table_at height (row_at es ([] ∷ [])) y l ∙ one_none (band_of es y))
    (λ l. table_past height (row_at es ([] ∷ [])) y l)
    (order y height))

first_end : (height i : ℕ) (P : ℕ → Type 0) → i < 1 → P height → P (get_or (height ∷ []) i 0)
first_end height zero P h p = p
first_end height (suc i) P h p = absurd (omega arith)

pub one_banded : (height : ℕ) (es : List ℕ) → 0 < height → es ≡ height ∷ [] → IsBanded height es 1
one_banded height es some e = rw e (record {
  count = refl;
  some = λ i l. first_end height i (λ v. 0 < v) l some;
  rising = λ i j l m. absurd (omega (arith, l, m));
  within = λ i l. first_end height i (λ v. v ≤ height) l (omega arith);
  all = λ z l. elim (leb height z) as (λ b. leb height z ≡ b → (if b then suc 0 else 0) < 1) [
    | true ↦ λ t. absurd (grind arith)
    | false ↦ λ t. omega arith
  ] refl;
})

-- a row that has a band
pub row_in : (height : ℕ) (es : List ℕ) (n y : ℕ) → IsBanded height es n → band_of es y < length es → y < height
row_in height es n y b h = let t = ends_after es y h in let u = b.within (band_of es y) h in omega (arith, t, u)

-- a band that has a row
pub band_row : (height : ℕ) (es : List ℕ) (n k : ℕ) → IsBanded height es n → k < length es → HasRow es 0 height k
band_row height es n zero b h = record {
  y = 0;
  first = omega arith;
  last = let t = b.some 0 h in let u = b.within 0 h in omega (arith, t, u);
  band = band_is es 0 0 (omega arith) (λ i l. absurd (omega arith)) (λ l. b.some 0 l);
}
band_row height es n (suc k) b h = record {
  y = get_or es k 0;
  first = omega arith;
  last = let t = b.rising k (suc k) (omega arith) h in let u = b.within (suc k) h in omega (arith, t, u);
  band = band_is es (get_or es k 0) (suc k) (omega (arith, h)) (λ i l. never_falling es b.rising i k (omega (arith, l)) (omega (arith, h))) (λ l. b.rising k (suc k) (omega arith) l);
}

-- the ends up to a row tell its band
pub band_before_next : (es : List ℕ) (y i : ℕ) → i ≤ length es → EndsBefore es (y + 1) i → i ≡ band_of es y
band_before_next es y i h e =
    sym (band_is es y i h
    (λ k l. let n = e.before k l in omega (arith, n))
    (λ l. let n = e.rest i (omega arith) l in omega (arith, n)))

-- ---- the bands of rows, looked at one after another

-- so many ends are before a row that comes after another one
ends_up_to : (es : List ℕ) (to : ℕ) → AreRising es → 0 < to → EndsBefore es to (band_of es (to - 1))
ends_up_to es to r some = record {
  before = λ k l. (let t = ends_to es (to - 1) k l in omega (arith, t, some));
  rest = λ k l h. (let t = ends_after es (to - 1) (omega (arith, l, h)) in let n = never_falling es r (band_of es (to - 1)) k l h in omega (arith, t, n));
}

module _ (es : List ℕ) (from to k : ℕ) (r : AreRising es) (o : from < to) (all : CoverRows to es) (ahead : (j : ℕ) → j < k → get_or es j 0 < to) where
  -- a band that none ends before, of those up to an end
  pub row_here : band_of es from ≤ k → k < length es → HasRow es from to k
  row_here f h =
      let e = ends_up_to es to r (omega (arith, o)) in
      let i = band_of es (to - 1) in
      let l = end_in es to i (omega (arith, o)) all e in
      band_has_row es from to i k r o l e f
      (⊎_elim (λ a. (let t = ahead i a in let u = e.rest i (omega arith) l in absurd (omega (arith, t, u)))) (λ a. omega (arith, a)) (order i k))

  -- the band of a row is none after the one that reaches the end
  pub no_later : (y : ℕ) → from ≤ y → y < to → (length es ≤ k) ⊎ (to ≤ get_or es k 0) → band_of es y ≤ k
  no_later y f l last =
      let e = ends_up_to es to r (omega (arith, o)) in
      let i = band_of es (to - 1) in
      let h = end_in es to i (omega (arith, o)) all e in
      let w = (bands_within es from to i y h e f l).1 in
      ⊎_elim (λ a. omega (arith, a, w, h))
      (λ a. ⊎_elim (λ b. (let t = e.before k b in absurd (omega (arith, a, t)))) (λ b. omega (arith, w, b)) (order k i)) last

  -- and none before that of the first row
  pub no_earlier : (y : ℕ) → from ≤ y → y < to → band_of es from ≤ band_of es y
  no_earlier y f l =
      let e = ends_up_to es to r (omega (arith, o)) in
      let i = band_of es (to - 1) in
      (bands_within es from to i y (end_in es to i (omega (arith, o)) all e) e f l).0
