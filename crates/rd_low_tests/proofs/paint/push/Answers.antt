use Rattle.std.proofs.Common.{◌≤◌, ℕ, ◌++◌, List, [], ◌∷◌, arith, inl, inr}
use Rattle.std.proofs.lemmas.Bool.{cases_lt, lt-ltb, le-ltb}
use Rattle.rd_list.specs.KeptView.{kept_entries}
use Rattle.rd_list.specs.Views.{levels, larger, deeper}
use Rattle.rd_list.specs.declared.kept.Entry.{Entry}
use Rattle.rd_list.specs.declared.kept.Entry.TheVariants.{Leaf, Group}
use Rattle.rd_low_tests.proofs.paint.push.Goals as goal

not_more : (a b n : ℕ) → a ≤ n → b ≤ n → larger a b ≤ n
not_more a b n p q = elim (cases_lt a b) [ inl l ↦ rw (lt-ltb a b l) q | inr l ↦ rw (le-ltb a b l) p ]

parts : (a b n : ℕ) → larger a b ≤ n → (a ≤ n) × (b ≤ n)
parts a b n p = elim (cases_lt a b) [
  | inl l ↦ let q = rw (lt-ltb a b l) at p in (omega (arith, l, q), q)
  | inr l ↦ let q = rw (le-ltb a b l) at p in (q, omega (arith, l, q))
]

levels_add : {A : Type 0} (n : ℕ) (xs : List (Entry A)) (e : Entry A) → levels (kept_entries xs) ≤ n → levels (kept_entries (e ∷ [])) ≤ n → levels (kept_entries (xs ++ e ∷ [])) ≤ n
levels_add n [] e p q = q
levels_add n (Leaf m ∷ xs) e p q = let h = parts 1 (levels (kept_entries xs)) n p in not_more 1 (levels (kept_entries (xs ++ e ∷ []))) n h.0 (levels_add n xs e h.1 q)
levels_add n (Group g ∷ xs) e p q = let h = parts (deeper (levels g.inner.entries)) (levels (kept_entries xs)) n p in not_more (deeper (levels g.inner.entries)) (levels (kept_entries (xs ++ e ∷ []))) n h.0 (levels_add n xs e h.1 q)

pub returns : goal.returns
returns g c = let pushed = c.in_ok-push.ensures in rw pushed.items (levels_add 3 c.args.list.now.items c.args.entry c.requires.list c.requires.entry)
