-- Entries of a list, and the rows that are enough for them.
use Rattle.std.proofs.Common.{◌≡◌, List, [], ◌∷◌, length, ℕ, ◌<◌, ◌≤◌, ◌+◌, ◌*◌, ◌-◌, suc, zero, arith, get_or, drop, refl, ap, ◌∙◌, inl, inr, ℤ}
use Rattle.std.proofs.Math.Nat.{mul-le-mul_left, mul-le-mul_right}
use Rattle.std.proofs.lemmas.Bool.{cases_lt, lt-ltb, le-ltb}
use Rattle.rd_geom.specs.Blends.{blended}
use Rattle.rd_geom.specs.Colors.{Premultiplied, laid_over, scaled, clear, times}
use Rattle.rd_geom.proofs.Mixing.{nothing_blended}
use Rattle.rd_geom.proofs.Products.{times_none}
use Rattle.rd_item.specs.declared.leaf.Leaf as item
use Rattle.rd_item.specs.Items.{Made}
use Rattle.rd_keys.specs.declared.entry.EntryKey.{EntryKey}
use Rattle.rd_list.specs.declared.kept.Entry.{Entry}
use Rattle.rd_list.specs.declared.kept.Entry.TheVariants.{Leaf, Group}
use Rattle.rd_list.specs.Displayed.{shown}
use Rattle.rd_list.specs.Entries.{Entries, nil, leaf, group, ◌▷◌}
use Rattle.rd_list.specs.EntryNames.{kept_leaves}
use Rattle.rd_list.specs.Kept.{Ordered}
use Rattle.rd_list.specs.KeptView.{kept_entries}
use Rattle.rd_list.specs.Lists.{composed}
use Rattle.rd_list.specs.Views.{levels, larger, deeper}
use Rattle.rd_list.specs.Wrappers.{Wrapper}
use Rattle.rd_list.proofs.Viewing.{levels_within, larger-none}
use Rattle.rd_paint.specs.Parts.{entry_count, entries_from}

not_less : (a b : ℕ) → (b ≤ larger a b) × (a ≤ larger a b)
not_less a b = elim (cases_lt a b) [
  | inl l ↦ rw (lt-ltb a b l) (omega arith, omega (arith, l))
  | inr l ↦ rw (le-ltb a b l) (l, omega arith)
]

none_below : (a b : ℕ) → larger a b ≡ 0 → (a ≡ 0) × (b ≡ 0)
none_below a b h = let n = not_less a b in let p = n.0 in let q = n.1 in (omega (arith, p, q, h), omega (arith, p, q, h))

no_deeper : (n : ℕ) → deeper n ≡ 0 → n ≡ 0
no_deeper zero h = refl
no_deeper (suc n) h = absurd (omega (arith, h))

-- the larger of two is no more than what both are not above
least : (a b m : ℕ) → a ≤ m → b ≤ m → larger a b ≤ m
least a b m p q = elim (cases_lt a b) [ inl l ↦ rw (lt-ltb a b l) q | inr l ↦ rw (le-ltb a b l) p ]

pub deeper_up : (a b : ℕ) → a ≤ b → deeper a ≤ deeper b
deeper_up zero b h = omega arith
deeper_up (suc a) zero h = absurd (omega (arith, h))
deeper_up (suc a) (suc b) h = omega (arith, h)

pub deeper_most : (n : ℕ) → deeper n ≤ n + 1
deeper_most zero = omega arith
deeper_most (suc n) = omega arith

-- one list on another has the levels of both, and no more
pub join_has : (xs ys : Entries Wrapper item.Leaf) → (levels xs ≤ levels (xs ▷ ys)) × (levels ys ≤ levels (xs ▷ ys))
join_has nil ys = (omega arith, omega arith)
join_has (leaf l xs) ys =
    let r = join_has xs ys in
    let a = r.0 in
    let b = r.1 in
    let n = not_less 1 (levels (xs ▷ ys)) in
    let c = n.0 in
    (least 1 (levels xs) (larger 1 (levels (xs ▷ ys))) n.1 (omega (arith, a, c)), omega (arith, b, c))
join_has (group g inner xs) ys =
    let r = join_has xs ys in
    let a = r.0 in
    let b = r.1 in
    let n = not_less (deeper (levels inner)) (levels (xs ▷ ys)) in
    let c = n.0 in
    (least (deeper (levels inner)) (levels xs) (larger (deeper (levels inner)) (levels (xs ▷ ys))) n.1 (omega (arith, a, c)), omega (arith, b, c))

pub join_least : (xs ys : Entries Wrapper item.Leaf) (m : ℕ) → levels xs ≤ m → levels ys ≤ m → levels (xs ▷ ys) ≤ m
join_least nil ys m p q = q
join_least (leaf l xs) ys m p q =
    let n = not_less 1 (levels xs) in
    let a = n.0 in
    let b = n.1 in
    least 1 (levels (xs ▷ ys)) m (omega (arith, b, p)) (join_least xs ys m (omega (arith, a, p)) q)
join_least (group g inner xs) ys m p q =
    let n = not_less (deeper (levels inner)) (levels xs) in
    let a = n.0 in
    let b = n.1 in
    least (deeper (levels inner)) (levels (xs ▷ ys)) m (omega (arith, b, p)) (join_least xs ys m (omega (arith, a, p)) q)

pub join_up : (es bs cs ds : Entries Wrapper item.Leaf) → levels es ≤ levels bs → levels cs ≤ levels ds → levels (es ▷ cs) ≤ levels (bs ▷ ds)
join_up es bs cs ds p q =
    let h = join_has bs ds in
    let a = h.0 in
    let b = h.1 in
    join_least es cs (levels (bs ▷ ds)) (omega (arith, p, a)) (omega (arith, q, b))

pub group_levels : (w : Wrapper) (xs : Entries Wrapper item.Leaf) → levels (group w xs nil) ≡ deeper (levels xs)
group_levels w xs = larger-none (deeper (levels xs))

pub group_up : (w : Wrapper) (xs ys : Entries Wrapper item.Leaf) → levels xs ≤ levels ys → levels (group w xs nil) ≤ levels (group w ys nil)
group_up w xs ys h = rw (group_levels w xs, group_levels w ys) (deeper_up (levels xs) (levels ys) h)

pub levels_by : (xs ys : Entries Wrapper item.Leaf) → xs ≡ ys → levels xs ≤ levels ys
levels_by xs ys e = rw e (omega arith)

abbrev px : ℕ → ℕ → ℕ → ℕ → Premultiplied
px r g b a = record { r = r; g = g; b = b; a = a }

clear_under : (n k : ℕ) → n + times 0 k ≡ n
clear_under n k = rw (times_none k) (omega arith)

-- a pixel over a clear one
pub over_clear : (q : Premultiplied) → laid_over q clear ≡ q
over_clear q =
    let k = 255 - q.a in
    ap (λ n. px n (q.g + times 0 k) (q.b + times 0 k) (q.a + times 0 k)) (clear_under q.r k) ∙ ap (λ n. px q.r n (q.b + times 0 k) (q.a + times 0 k)) (clear_under q.g k)
    ∙ ap (λ n. px q.r q.g n (q.a + times 0 k)) (clear_under q.b k) ∙ ap (λ n. px q.r q.g q.b n) (clear_under q.a k)

-- a list without a leaf shows nothing
pub nothing_shown : (x y : ℤ) (d : Premultiplied) (xs : Entries Wrapper item.Leaf) → levels xs ≡ 0 → composed x y d xs ≡ d
nothing_shown x y d nil h = refl
nothing_shown x y d (leaf m xs) h = let n = (none_below 1 (levels xs) h).0 in absurd (omega (arith, n))
nothing_shown x y d (group g inner xs) h =
    let n = none_below (deeper (levels inner)) (levels xs) h in
    let own = nothing_shown x y clear inner (no_deeper (levels inner) n.0) in
    ap (λ p. composed x y p xs) (ap (λ q. blended g.blend (scaled q g.opacity) d) own ∙ nothing_blended g.blend g.opacity d) ∙ nothing_shown x y d xs n.1

pub levels-leaves : (xs : Entries (Ordered EntryKey Wrapper) Made) → levels (kept_leaves xs) ≡ levels xs
levels-leaves nil = refl
levels-leaves (leaf m xs) = ap (larger 1) (levels-leaves xs)
levels-leaves (group g inner xs) = ap (λ n. larger (deeper n) (levels (kept_leaves xs))) (levels-leaves inner) ∙ ap (larger (deeper (levels inner))) (levels-leaves xs)

pub leafless : (x y : ℤ) (d : Premultiplied) (xs : Entries (Ordered EntryKey Wrapper) Made) → levels xs ≡ 0 → composed x y d (kept_leaves xs) ≡ d
leafless x y d xs h = nothing_shown x y d (kept_leaves xs) (levels-leaves xs ∙ h)

module _ {A : Type 0} where
  -- rows for a list are enough for each of its entries
  pub rows_at : (n m : ℕ) (es : List (Entry A)) (i : ℕ) (x : Entry A) → i < length es → x ≡ get_or es i x → n * (levels (kept_entries es) - 1) ≤ m → n * (levels (kept_entries (x ∷ [])) - 1) ≤ m
  rows_at n m es i x h e r =
      let w = levels_within es i x h e in
      let l : levels (kept_entries (x ∷ [])) - 1 ≤ levels (kept_entries es) - 1 = omega (arith, w) in
      let p = mul-le-mul_left n l in
      omega (arith, p, r)

  pub entry_count-shown : (es : List (Entry A)) → entry_count (kept_entries es) ≡ length es
  entry_count-shown [] = refl
  entry_count-shown (Leaf i ∷ es) = ap suc (entry_count-shown es)
  entry_count-shown (Group g ∷ es) = ap suc (entry_count-shown es)

  pub entries_from-shown : (n : ℕ) (es : List (Entry A)) → shown (drop n es) ≡ entries_from n (shown es)
  entries_from-shown zero es = refl
  entries_from-shown (suc n) [] = refl
  entries_from-shown (suc n) (Leaf i ∷ es) = entries_from-shown n es
  entries_from-shown (suc n) (Group g ∷ es) = entries_from-shown n es

  pub levels-from : (n : ℕ) (es : List (Entry A)) → levels (kept_entries (drop n es)) ≤ levels (kept_entries es)
  levels-from zero es = omega arith
  levels-from (suc n) [] = omega arith
  levels-from (suc n) (Leaf i ∷ es) = let d = levels-from n es in let l = (not_less 1 (levels (kept_entries es))).0 in omega (arith, d, l)
  levels-from (suc n) (Group g ∷ es) = let d = levels-from n es in let l = (not_less (deeper (levels g.inner.entries)) (levels (kept_entries es))).0 in omega (arith, d, l)

-- rows for a list are enough for one with no more levels
pub rows_by : (n r : ℕ) (xs ys : Entries Wrapper item.Leaf) → levels xs ≤ levels ys → n * (levels ys - 1) ≤ r → n * (levels xs - 1) ≤ r
rows_by n r xs ys h b =
    let l : levels xs - 1 ≤ levels ys - 1 = omega (arith, h) in
    let p = mul-le-mul_left n l in
    omega (arith, p, b)

pub rows_same : (n r : ℕ) (ys xs : Entries Wrapper item.Leaf) → ys ≡ xs → n * (levels ys - 1) ≤ r → n * (levels xs - 1) ≤ r
rows_same n r ys xs e b = rw (← e) b

pub rows_levels : (n r l m : ℕ) → l ≡ m → n * (l - 1) ≤ r → n * (m - 1) ≤ r
rows_levels n r l m e b = rw (← e) b

-- what memory there is for has been made
pub rows_opened : (v w n l c : ℕ) → v ≡ w → (v * n ≤ c → v * n ≤ l) → w * n ≤ c → w * n ≤ l
rows_opened v w n l c e h b = rw e at h b

-- as many rows as a canvas is wide are enough for a run of its pixels
pub rows_for : (n w d r m : ℕ) → n ≤ w → d ≤ r → r * w ≤ m → n * d ≤ m
rows_for n w d r m a b e = let p = mul-le-mul_right d a in let q = mul-le-mul_left w b in omega (arith, p, q, e)

-- rows for a run are enough for a part of it
pub rows_within : (n w d r : ℕ) → n ≤ w → w * d ≤ r → n * d ≤ r
rows_within n w d r a b = let p = mul-le-mul_right d a in omega (arith, p, b)

one_more : (l : ℕ) → deeper (suc l) - 1 ≡ suc l
one_more l = omega arith

-- where a group's row is split off, the others are enough for what stands in it
pub rows_left : (n r l a b m : ℕ) → n ≤ r → n * (deeper l - 1) ≤ r → a ≡ n → b ≡ r - n → m ≡ l → a * (m - 1) ≤ b
rows_left n r l a b m h p ea eb em = rw (ea, eb, em) (go l p)
  where
    go : (l : ℕ) → n * (deeper l - 1) ≤ r → n * (l - 1) ≤ r - n
    go zero p = omega arith
    go (suc l) p =
        let q : n * suc l ≤ r = rw one_more at p in
        let e : suc l - 1 ≡ l = omega arith in
        rw e (omega (arith, q))

-- where no row is left for a group there is no leaf in it
pub no_rows : (n r l : ℕ) → r < n → n * (deeper l - 1) ≤ r → l ≡ 0
no_rows n r zero h m = refl
no_rows n r (suc l) h m =
    let p : n * suc l ≤ r = rw one_more at m in
    let q : n * 1 ≤ n * suc l = mul-le-mul_left n (omega arith) in
    absurd (omega (arith, p, q, h))
