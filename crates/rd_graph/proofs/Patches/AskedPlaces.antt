-- The places of those names of a chain that have their marks.
use Rattle.std.proofs.Common.{◌≡◌, refl, ap, ◌∙◌, sym, subst, ℕ, zero, suc, ◌+◌, ◌<◌, ◌≤◌, Bool, true, false, cond, List, [], ◌∷◌, length, take, get_or, arith, inl, inr, Option, Some}
use Rattle.std.specs.Prelude.{slice_set, Contains}
use Rattle.smallvec.specs.SmallVec.{SmallVec}
use Rattle.std.proofs.lemmas.Bool.{cases_lt}
use Rattle.std.proofs.lemmas.List.{take_more, length-set, length-take-le, get_or-set_same, get_or-set_other}
use Rattle.rd_keys.specs.declared.entry.EntryKey.{EntryKey}
use Rattle.rd_graph.specs.Orders as order
use Rattle.rd_graph.specs.Names.{place_of, same_entry}
use Rattle.rd_graph.specs.Internal.Patching.{lists_seen}
use Rattle.rd_graph.specs.Internal.Relisting.{mark_of}
use Rattle.rd_graph.specs.Internal.Trimming.{HasMark, KeepsMarks}
use Rattle.rd_graph.proofs.Reaching.Calls.{once_of}
use Rattle.rd_graph.proofs.Lists.Entries.{same_entry-sound, same_entry-refl, not_yet, place-more}
use Rattle.rd_graph.proofs.Lists.Listing.{Has, cases, never, has_either}
use Rattle.rd_graph.proofs.Patches.Marks.{mark_small}

pub mark_fits : (k : EntryKey) (mark size : ℕ) → mark ≡ mark_of k → size ≡ 2048 → mark < size
mark_fits k mark size e w = let s = mark_small k in omega (arith, s, e, w)

set_keeps : (marks : List Bool) (mark : ℕ) → mark < length marks → KeepsMarks marks (slice_set marks mark true)
set_keeps marks mark l i h = elim (cases_lt i mark) [
  | inl u ↦ get_or-set_other marks mark i true false (λ e. omega (arith, u, e)) ∙ h
  | inr u ↦ elim (cases_lt mark i) [
    | inl v ↦ get_or-set_other marks mark i true false (λ e. omega (arith, v, e)) ∙ h
    | inr v ↦ let e : mark ≡ i = omega (arith, u, v) in subst (λ (j : ℕ). get_or (slice_set marks mark true) j false ≡ true) e (get_or-set_same marks mark true false l)
  ]
]

-- the loop over names
pub mark_next : (names : List EntryKey) (i : ℕ) (d : EntryKey) (mark : ℕ) (start marks : List Bool) → i < length names → mark ≡ mark_of (get_or names i d) → length marks ≡ 2048
    → KeepsMarks start marks → ((k : EntryKey) → Has (take i names) k → HasMark marks k)
    → (length (slice_set marks mark true) ≡ 2048) × KeepsMarks start (slice_set marks mark true) × ((k : EntryKey) → Has (take (i + 1) names) k → HasMark (slice_set marks mark true) k)
mark_next names i d mark start marks l e w kept was =
    let m : mark < length marks = mark_fits (get_or names i d) mark (length marks) e w in (
      length-set marks mark true ∙ w,
      (λ j h. set_keeps marks mark m j (kept j h)),
      λ k h. elim (has_either (take i names) (get_or names i d ∷ []) k (subst (λ (z : List EntryKey). Has z k) (take_more names i d l) h)) [
        | inl v ↦ set_keeps marks mark m (mark_of k) (was k v)
        | inr v ↦ elim v [
          | inl q ↦ subst (λ (z : ℕ). get_or (slice_set marks mark true) z false ≡ true) (e ∙ ap mark_of q) (get_or-set_same marks mark true false m)
          | inr q ↦ absurd q
        ]
      ],
    )

-- the loop over lists
lists_more : (ls : List (ℕ × SmallVec EntryKey)) (i : ℕ) (d : ℕ × SmallVec EntryKey) (marks next : List Bool) → i < length ls
    → ((l : ℕ × List EntryKey) → Has (take i (lists_seen ls)) l → 1 < length l.1 → (k : EntryKey) → Contains l.1 k → HasMark marks k) → KeepsMarks marks next
    → (1 < length (get_or ls i d).1.items → (k : EntryKey) → Contains (get_or ls i d).1.items k → HasMark next k)
    → (l : ℕ × List EntryKey) → Has (take (suc i) (lists_seen ls)) l → 1 < length l.1 → (k : EntryKey) → Contains l.1 k → HasMark next k
lists_more [] i d marks next l was kept new m h = absurd (omega arith)
lists_more (x ∷ ls) zero d marks next l was kept new m (inl e) = subst (λ (z : ℕ × List EntryKey). 1 < length z.1 → (k : EntryKey) → Contains z.1 k → HasMark next k) e new
lists_more (x ∷ ls) zero d marks next l was kept new m (inr h) = absurd h
lists_more (x ∷ ls) (suc i) d marks next l was kept new m (inl e) = λ u k c. kept (mark_of k) (was m (inl e) u k c)
lists_more (x ∷ ls) (suc i) d marks next l was kept new m (inr h) = lists_more ls i d marks next (omega arith) (λ z n. was z (inr n)) kept new m h

one_more : (i : ℕ) → i + 1 ≡ suc i
one_more i = omega arith

pub lists_next : (ls : List (ℕ × SmallVec EntryKey)) (i : ℕ) (d : ℕ × SmallVec EntryKey) (marks next : List Bool) → i < length ls
    → ((l : ℕ × List EntryKey) → Has (take i (lists_seen ls)) l → 1 < length l.1 → (k : EntryKey) → Contains l.1 k → HasMark marks k) → KeepsMarks marks next
    → (1 < length (get_or ls i d).1.items → (k : EntryKey) → Contains (get_or ls i d).1.items k → HasMark next k)
    → (l : ℕ × List EntryKey) → Has (take (i + 1) (lists_seen ls)) l → 1 < length l.1 → (k : EntryKey) → Contains l.1 k → HasMark next k
lists_next ls i d marks next l was kept new m h = lists_more ls i d marks next l was kept new m (subst (λ (n : ℕ). Has (take n (lists_seen ls)) m) (one_more i) h)

-- the loop over lists that looks for a long one
short_more : (ls : List (ℕ × SmallVec EntryKey)) (i : ℕ) (d : ℕ × SmallVec EntryKey) → i < length ls → ((l : ℕ × List EntryKey) → Has (take i (lists_seen ls)) l → length l.1 < 2)
    → length (get_or ls i d).1.items < 2 → (l : ℕ × List EntryKey) → Has (take (suc i) (lists_seen ls)) l → length l.1 < 2
short_more [] i d l was new m h = absurd (omega arith)
short_more (x ∷ ls) zero d l was new m (inl e) = subst (λ (z : ℕ × List EntryKey). length z.1 < 2) e new
short_more (x ∷ ls) zero d l was new m (inr h) = absurd h
short_more (x ∷ ls) (suc i) d l was new m (inl e) = was m (inl e)
short_more (x ∷ ls) (suc i) d l was new m (inr h) = short_more ls i d (omega arith) (λ z n. was z (inr n)) new m h

pub short_next : (ls : List (ℕ × SmallVec EntryKey)) (i : ℕ) (d : ℕ × SmallVec EntryKey) → i < length ls → ((l : ℕ × List EntryKey) → Has (take i (lists_seen ls)) l → length l.1 < 2)
    → length (get_or ls i d).1.items < 2 → (l : ℕ × List EntryKey) → Has (take (i + 1) (lists_seen ls)) l → length l.1 < 2
short_next ls i d l was new m h = short_more ls i d l was new m (subst (λ (n : ℕ). Has (take n (lists_seen ls)) m) (one_more i) h)

pub take_lists : (ls : List (ℕ × SmallVec EntryKey)) (i : ℕ) → length ls ≤ i → take i (lists_seen ls) ≡ lists_seen ls
take_lists [] zero l = refl
take_lists [] (suc i) l = refl
take_lists (x ∷ ls) zero l = absurd (omega arith)
take_lists (x ∷ ls) (suc i) l = ap (λ ms. (x.0, x.1.items) ∷ ms) (take_lists ls i (omega arith))

-- the loop over a chain
pub asked_next : (keys : List EntryKey) (i : ℕ) (d : EntryKey) (marks : List Bool) (old new : EntryKey → Option ℕ) → order.Once keys → i < length keys
    → ((k : EntryKey) → HasMark marks k → old k ≡ place_of same_entry (take i keys) k)
    → (HasMark marks (get_or keys i d) → (k : EntryKey) → new k ≡ cond (same_entry (get_or keys i d) k) (Some i) (old k))
    → (get_or marks (mark_of (get_or keys i d)) false ≡ false → (k : EntryKey) → new k ≡ old k)
    → (k : EntryKey) → HasMark marks k → new k ≡ place_of same_entry (take (i + 1) keys) k
asked_next keys i d marks old new once l was put kept k m =
    let more : place_of same_entry (take (i + 1) keys) k ≡ cond (same_entry (get_or keys i d) k) (Some (length (take i keys))) (place_of same_entry (take i keys) k) =
    ap (λ ks. place_of same_entry ks k) (take_more keys i d l) ∙ place-more same_entry same_entry-sound same_entry-refl (take i keys) (get_or keys i d) k (not_yet keys i d (once_of keys once) l)
    in
    let size : length (take i keys) ≡ i = length-take-le i keys (omega (arith, l)) in
    elim (cases (get_or marks (mark_of (get_or keys i d)) false)) [
      | inl t ↦ put t k ∙ ap (λ o. cond (same_entry (get_or keys i d) k) (Some i) o) (was k m)
          ∙ ap (λ n. cond (same_entry (get_or keys i d) k) (Some n) (place_of same_entry (take i keys) k)) (sym size) ∙ sym more
      | inr f ↦
          let other : same_entry (get_or keys i d) k ≡ false = elim (cases (same_entry (get_or keys i d) k)) [
            | inl u ↦ absurd (never (get_or marks (mark_of k) false) m (subst (λ (z : EntryKey). get_or marks (mark_of z) false ≡ false) (same_entry-sound (get_or keys i d) k u) f))
            | inr u ↦ u
          ] in
          kept f k ∙ was k m ∙ sym (more ∙ ap (λ b. cond b (Some (length (take i keys))) (place_of same_entry (take i keys) k)) other)
    ]
