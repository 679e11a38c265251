-- Lines are those of a nested list where they nest, and only there.
use Rattle.std.proofs.Common.{◌≡◌, ℕ, zero, suc, ◌+◌, ◌-◌, ◌<◌, ◌≤◌, Bool, true, eqb, List, [], ◌∷◌, ◌++◌, length, refl, sym, ap, subst, ◌∙◌, arith, append_assoc, append-nil, length-append, inl, inr}
use Rattle.std.specs.Prelude.{◌&&◌, not, IsTrue, nat_lt}
use Rattle.std.proofs.lemmas.Bool.{eqb-true, eq-eqb, ltb-true, lt-ltb, le-ltb, and_parts, and_from, cases_lt}
use Rattle.rd_list.specs.Entries.{Entries, nil, leaf, group, flat, list_size, no_group_is_empty, is_empty}
use Rattle.rd_list.specs.GroupDepth.{group_depth}
use Rattle.rd_list.specs.Views.{larger}
use Rattle.rd_report.specs.Dumps.{width}
use Rattle.rd_check.specs.Rows.{Row, item, head, rows}
use Rattle.rd_check.specs.Internal.Nesting.{without_done, one_less, opened, may_come, nests, leaves_in}

larger_is : (a b n : ℕ) → larger a b ≤ n → (a ≤ n) × (b ≤ n)
larger_is a b n h = elim (cases_lt a b) [
  | inl l ↦ let k : b ≤ n = subst (λ z. z ≤ n) (rw (lt-ltb a b l) refl) h in (omega (arith, k, l), k)
  | inr l ↦ let k : a ≤ n = subst (λ z. z ≤ n) (rw (le-ltb a b l) refl) h in (k, omega (arith, k, l))
]

larger_at : (a b n : ℕ) → a ≤ n → b ≤ n → larger a b ≤ n
larger_at a b n h k = elim (cases_lt a b) [
  | inl l ↦ rw (lt-ltb a b l) k
  | inr l ↦ rw (le-ltb a b l) h
]

larger_low : (a b : ℕ) → a ≤ larger a b
larger_low a b = (larger_is a b (larger a b) (omega arith)).0

true_of : (b : Bool) → IsTrue b → b ≡ true
true_of b h = h

true_is : (b : Bool) → b ≡ true → IsTrue b
true_is b h = h

-- the open groups, the innermost of which wants so many more
abbrev pub wants : ℕ → List ℕ → List ℕ
wants k [] = []
wants k (n ∷ stack) = (k + n) ∷ stack

wants_none : (stack : List ℕ) → wants 0 stack ≡ stack
wants_none [] = refl
wants_none (n ∷ stack) = ap (λ m. m ∷ stack) (omega arith)

length-wants : (k : ℕ) (stack : List ℕ) → length (wants k stack) ≡ length stack
length-wants k [] = refl
length-wants k (n ∷ stack) = refl

wants_more : (k : ℕ) (stack : List ℕ) → without_done (wants (k + 1) stack) ≡ wants (k + 1) stack
wants_more k [] = refl
wants_more k (n ∷ stack) = let e : k + 1 + n ≡ suc (k + n) = omega arith in ap (λ m. without_done (m ∷ stack)) e ∙ ap (λ m. m ∷ stack) (sym e)

wants_less : (k : ℕ) (stack : List ℕ) → one_less (wants (k + 1) stack) ≡ wants k stack
wants_less k [] = refl
wants_less k (n ∷ stack) = ap (λ m. m ∷ stack) (omega arith)

module _ {G L : Type 0} where
  -- a list that may be written below so many groups
  pub record IsWhole (depth : ℕ) (list : Entries G L) : Type 0 where
    pub filled : IsTrue (no_group_is_empty list)
    pub deep : depth + group_depth list ≤ 256

  -- ---- from a list to its lines

  some_width : (list : Entries G L) → not (is_empty list) ≡ true → 0 < width list
  some_width nil h = absurd cc
  some_width (leaf l rest) h = omega arith
  some_width (group g inner rest) h = omega arith

  not_empty : (list : Entries G L) → 0 < width list → not (is_empty list) ≡ true
  not_empty nil h = absurd (omega (arith, h))
  not_empty (leaf l rest) h = refl
  not_empty (group g inner rest) h = refl

  -- a group that is whole, and what is after it
  pub record IsWholeGroup (depth : ℕ) (inner rest : Entries G L) : Type 0 where
    pub some : 0 < width inner
    pub within : IsWhole (depth + 1) inner
    pub after : IsWhole depth rest
    pub room : depth < 256

  pub group_parts : (depth : ℕ) (g : G) (inner rest : Entries G L) → IsWhole depth (group g inner rest) → IsWholeGroup depth inner rest
  group_parts depth g inner rest w =
      let f = and_parts (not (is_empty inner) && no_group_is_empty inner) (no_group_is_empty rest) (true_of _ w.filled) in
      let k = and_parts (not (is_empty inner)) (no_group_is_empty inner) f.0 in
      let d = larger_is (group_depth inner + 1) (group_depth rest) (256 - depth) (omega (arith, w.deep)) in
      let d0 = d.0 in
      let d1 = d.1 in
      let deep = w.deep in
      let n = larger_low (group_depth inner + 1) (group_depth rest) in
      record {
        some = some_width inner k.0;
        within = record { filled = true_is _ k.1; deep = omega (arith, d0, deep, n) };
        after = record { filled = true_is _ f.1; deep = omega (arith, d1, deep) };
        room = omega (arith, deep, n);
      }

  group_whole : (depth : ℕ) (g : G) (inner rest : Entries G L) → 0 < width inner → IsWhole (depth + 1) inner → IsWhole depth rest → IsWhole depth (group g inner rest)
  group_whole depth g inner rest some within after =
      let a = within.deep in
      let b = after.deep in
      let d = larger_at (group_depth inner + 1) (group_depth rest) (256 - depth) (omega (arith, a)) (omega (arith, b)) in
      record {
        filled = true_is _ (and_from (not (is_empty inner) && no_group_is_empty inner) (no_group_is_empty rest)
            (and_from (not (is_empty inner)) (no_group_is_empty inner) (not_empty inner some) (true_of _ within.filled)) (true_of _ after.filled));
        deep = omega (arith, d, b);
      }

  closed : (stack : List ℕ) (rs : List (Row G L)) → nests (0 ∷ stack) rs ≡ nests stack rs
  closed stack [] = refl
  closed stack (r ∷ rs) = refl

  -- one line that may come
  comes : (k : ℕ) (stack : List ℕ) (r : Row G L) (rs : List (Row G L)) → may_come (wants (k + 1) stack) r ≡ true
      → nests (wants (k + 1) stack) (r ∷ rs) ≡ nests (opened r (wants k stack)) rs
  comes k stack r rs may =
      ap (λ o. may_come o r && nests (opened r (one_less o)) rs) (wants_more k stack)
      ∙ ap (λ b. b && nests (opened r (one_less (wants (k + 1) stack))) rs) may
      ∙ ap (λ o. nests (opened r o) rs) (wants_less k stack)

  pub nests_rows : (depth : ℕ) (stack : List ℕ) (list : Entries G L) (rs : List (Row G L)) → depth ≡ length stack → IsWhole depth list
      → nests (wants (width list) stack) (rows depth list ++ rs) ≡ nests stack rs
  nests_rows depth stack nil rs d w = ap (λ o. nests o rs) (wants_none stack)
  nests_rows depth stack (leaf l rest) rs d w =
      comes (width rest) stack (item depth l) (rows depth rest ++ rs) (eq-eqb depth _ (d ∙ sym (length-wants (width rest + 1) stack)))
      ∙ nests_rows depth stack rest rs d (record { filled = w.filled; deep = w.deep })
  nests_rows depth stack (group g inner rest) rs d w =
      let p = group_parts depth g inner rest w in
      let room = p.room in
      let len : length (wants (width rest + 1) stack) ≡ depth = length-wants (width rest + 1) stack ∙ sym d in
      let may : may_come {L = L} (wants (width rest + 1) stack) (head depth g (width inner)) ≡ true =
      and_from _ _ (eq-eqb depth _ (sym len)) (and_from _ _ (lt-ltb 0 (width inner) p.some) (lt-ltb _ 256 (omega (arith, len, room)))) in
      let deeper : depth + 1 ≡ length (0 ∷ wants (width rest) stack) = let e = length-wants (width rest) stack in omega (arith, d, e) in
      let nothing : width inner ≡ width inner + 0 = omega arith in
      comes (width rest) stack (head depth g (width inner)) ((rows (depth + 1) inner ++ rows depth rest) ++ rs) may
      ∙ ap (λ n. nests (n ∷ wants (width rest) stack) ((rows (depth + 1) inner ++ rows depth rest) ++ rs)) nothing
      ∙ ap (nests ((width inner + 0) ∷ wants (width rest) stack)) (append_assoc (rows (depth + 1) inner) (rows depth rest) rs)
      ∙ nests_rows (depth + 1) (0 ∷ wants (width rest) stack) inner (rows depth rest ++ rs) deeper p.within
      ∙ closed (wants (width rest) stack) (rows depth rest ++ rs)
      ∙ nests_rows depth stack rest rs d p.after

  -- the lines of a list nest
  pub list_nests : (list : Entries G L) → IsWhole 0 list → nests [] (rows 0 list) ≡ true
  list_nests list w = ap (nests []) (sym (append-nil (rows 0 list))) ∙ nests_rows 0 [] list [] refl w

  -- ---- from lines to a list

  -- Lines are those of what each open group wants, and then of a list.
  abbrev pub Fills : List ℕ → List (Row G L) → Type 0
  Fills [] rs = (list : Entries G L) × (rs ≡ rows 0 list) × IsWhole 0 list
  Fills (n ∷ stack) rs = (list : Entries G L) × (more : List (Row G L)) × (rs ≡ rows (length (n ∷ stack)) list ++ more) × IsWhole (length (n ∷ stack)) list × (width list ≡ n) × Fills stack more

  nothing_whole : (depth : ℕ) → depth ≤ 256 → IsWhole depth nil
  nothing_whole depth h = record { filled = refl; deep = omega (arith, h) }

  abbrev Filling : List (Row G L) → Type 0
  Filling rs = (stack : List ℕ) → length stack ≤ 256 → nests stack rs ≡ true → Fills stack rs

  leaf_whole : (depth : ℕ) (l : L) (list : Entries G L) → IsWhole depth list → IsWhole depth (leaf l list)
  leaf_whole depth l list w = record { filled = w.filled; deep = w.deep }

  top_item : (rs : List (Row G L)) → Filling rs → (d : ℕ) (l : L) → nests [] (item d l ∷ rs) ≡ true → Fills [] (item d l ∷ rs)
  top_item rs ih d l e =
      let p = and_parts (eqb d 0) (nests [] rs) e in
      let f = ih [] (omega arith) p.1 in
      let at : d ≡ 0 = eqb-true d 0 p.0 in
      (leaf l f.0, ap (λ z. z ∷ rs) (ap (λ z. item z l) at) ∙ ap (λ z. item 0 l ∷ z) f.1, leaf_whole 0 l f.0 f.2)

  top_head : (rs : List (Row G L)) → Filling rs → (d : ℕ) (g : G) (n : ℕ) → nests [] (head d g n ∷ rs) ≡ true → Fills [] (head d g n ∷ rs)
  top_head rs ih d g n e =
      let p = and_parts (may_come {L = L} [] (head d g n)) (nests (n ∷ []) rs) e in
      let q = and_parts (eqb d 0) (nat_lt 0 n && nat_lt 0 256) p.0 in
      let some = ltb-true 0 n (and_parts (nat_lt 0 n) (nat_lt 0 256) q.1).0 in
      let f = ih (n ∷ []) (omega arith) p.1 in
      let at : d ≡ 0 = eqb-true d 0 q.0 in
      let wide : width f.0 ≡ n = f.4 in
      let k = f.5 in (
        group g f.0 k.0,
        ap (λ z. head z g n ∷ rs) at ∙ ap (λ z. head 0 g z ∷ rs) (sym wide) ∙ ap (λ z. head 0 g (width f.0) ∷ z) (f.2 ∙ ap (λ z. rows 1 f.0 ++ z) k.1),
        group_whole 0 g f.0 k.0 (omega (arith, some, wide)) f.3 k.2,
      )

  more_item : (rs : List (Row G L)) → Filling rs → (d : ℕ) (l : L) (n : ℕ) (stack : List ℕ) → length (suc n ∷ stack) ≤ 256
      → nests (suc n ∷ stack) (item d l ∷ rs) ≡ true → Fills (suc n ∷ stack) (item d l ∷ rs)
  more_item rs ih d l n stack h e =
      let p = and_parts (eqb d (length (suc n ∷ stack))) (nests ((suc n - 1) ∷ stack) rs) e in
      let less : suc n - 1 ≡ n = omega arith in
      let f = ih (n ∷ stack) h (subst (λ m. nests (m ∷ stack) rs ≡ true) less p.1) in
      let at : d ≡ length (suc n ∷ stack) = eqb-true d _ p.0 in
      let wide : width f.0 ≡ n = f.4 in (
        leaf l f.0,
        f.1,
        ap (λ z. item z l ∷ rs) at ∙ ap (λ z. item (length (suc n ∷ stack)) l ∷ z) f.2,
        leaf_whole _ l f.0 f.3,
        omega (arith, wide),
        f.5,
      )

  more_head : (rs : List (Row G L)) → Filling rs → (d : ℕ) (g : G) (k n : ℕ) (stack : List ℕ) → length (suc n ∷ stack) ≤ 256
      → nests (suc n ∷ stack) (head d g k ∷ rs) ≡ true → Fills (suc n ∷ stack) (head d g k ∷ rs)
  more_head rs ih d g k n stack h e =
      let p = and_parts (may_come {L = L} (suc n ∷ stack) (head d g k)) (nests (k ∷ (suc n - 1) ∷ stack) rs) e in
      let q = and_parts (eqb d (length (suc n ∷ stack))) (nat_lt 0 k && nat_lt (length (suc n ∷ stack)) 256) p.0 in
      let t = and_parts (nat_lt 0 k) (nat_lt (length (suc n ∷ stack)) 256) q.1 in
      let some = ltb-true 0 k t.0 in
      let room = ltb-true (length (suc n ∷ stack)) 256 t.1 in
      let less : suc n - 1 ≡ n = omega arith in
      let f = ih (k ∷ n ∷ stack) (omega (arith, room)) (subst (λ m. nests (k ∷ m ∷ stack) rs ≡ true) less p.1) in
      let at : d ≡ length (suc n ∷ stack) = eqb-true d _ q.0 in
      let wide : width f.0 ≡ k = f.4 in
      let m = f.5 in
      let deep : length (k ∷ n ∷ stack) ≡ length (suc n ∷ stack) + 1 = omega arith in
      let wide2 : width m.0 ≡ n = m.4 in (
        group g f.0 m.0,
        m.1,
        ap (λ z. head z g k ∷ rs) at ∙ ap (λ z. head (length (suc n ∷ stack)) g z ∷ rs) (sym wide)
            ∙ ap (λ z. head (length (suc n ∷ stack)) g (width f.0) ∷ z)
            (f.2 ∙ ap (λ z. rows (length (k ∷ n ∷ stack)) f.0 ++ z) m.2 ∙ ap (λ z. rows z f.0 ++ (rows (length (suc n ∷ stack)) m.0 ++ m.1)) deep
            ∙ sym (append_assoc (rows (length (suc n ∷ stack) + 1) f.0) (rows (length (suc n ∷ stack)) m.0) m.1)),
        group_whole _ g f.0 m.0 (omega (arith, some, wide)) (subst (λ z. IsWhole z f.0) deep f.3) m.3,
        omega (arith, wide2),
        m.5,
      )

-- where no line is left, no group wants one
ends_of : (G L : Type 0) (stack : List ℕ) → length stack ≤ 256 → nests {G = G} {L = L} stack [] ≡ true → Fills {G = G} {L = L} stack []
ends_of G L [] h e = (nil, refl, nothing_whole 0 h)
ends_of G L (zero ∷ stack) h e = (nil, [], refl, nothing_whole _ h, refl, ends_of G L stack (omega (arith, h)) e)
ends_of G L (suc n ∷ stack) h e = absurd (let k = eqb-true _ 0 e in omega (arith, k))

module _ {G L : Type 0} where
  step : (r : Row G L) (rs : List (Row G L)) → Filling rs → Filling (r ∷ rs)
  step (item d l) rs ih [] h e = top_item rs ih d l e
  step (head d g n) rs ih [] h e = top_head rs ih d g n e
  step r rs ih (zero ∷ stack) h e = (nil, r ∷ rs, refl, nothing_whole _ h, refl, step r rs ih stack (omega (arith, h)) e)
  step (item d l) rs ih (suc n ∷ stack) h e = more_item rs ih d l n stack h e
  step (head d g k) rs ih (suc n ∷ stack) h e = more_head rs ih d g k n stack h e

  fills : (rs : List (Row G L)) → Filling rs
  fills [] = ends_of G L
  fills (r ∷ rs) = step r rs (fills rs)

  -- lines that nest are those of a list
  pub nested_list : (rs : List (Row G L)) → nests [] rs ≡ true → (list : Entries G L) × (rs ≡ rows 0 list) × IsWhole 0 list
  nested_list rs e = fills rs [] (omega arith) e

  -- ---- counting

  pub leaves-append : (xs ys : List (Row G L)) → leaves_in (xs ++ ys) ≡ leaves_in xs + leaves_in ys
  leaves-append [] ys = omega arith
  leaves-append (r ∷ xs) ys = let k = leaves-append xs ys in omega (arith, k)

  pub leaves-rows : (depth : ℕ) (list : Entries G L) → leaves_in (rows depth list) ≡ length (flat list)
  leaves-rows depth nil = refl
  leaves-rows depth (leaf l rest) = let k = leaves-rows depth rest in omega (arith, k)
  leaves-rows depth (group g inner rest) =
      let a = leaves-append (rows (depth + 1) inner) (rows depth rest) in
      let b = leaves-rows (depth + 1) inner in
      let c = leaves-rows depth rest in
      let d = length-append (flat inner) (flat rest) in
      omega (arith, a, b, c, d)

  pub length-rows : (depth : ℕ) (list : Entries G L) → length (rows depth list) ≡ list_size list
  length-rows depth nil = refl
  length-rows depth (leaf l rest) = let k = length-rows depth rest in omega (arith, k)
  length-rows depth (group g inner rest) =
      let a = length-append (rows (depth + 1) inner) (rows depth rest) in
      let b = length-rows (depth + 1) inner in
      let c = length-rows depth rest in
      omega (arith, a, b, c)
