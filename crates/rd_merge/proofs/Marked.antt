-- Marks of boxes: where the mark of a name's box is not set, the name is none of those that are sought.
use Rattle.std.proofs.Common.{◌≡◌, refl, ap, ◌∙◌, sym, subst, ℕ, ◌+◌, ◌<◌, ◌==◌, Bool, true, false, List, length, get_or, set, arith, inl, inr, Some, None}
use Rattle.std.proofs.lemmas.Bool.{cases_lt}
use Rattle.std.proofs.lemmas.List.{get_or_default, get_or-set_same, get_or-set_other, get_or-map}
use Rattle.rd_keys.specs.Keys.{BoxKey}
use Rattle.rd_keys.specs.declared.entry.EntryKey.{EntryKey}
use Rattle.rd_graph.specs.Names.{place_of, same_entry}
use Rattle.rd_graph.proofs.Lists.Entries.{place_some, same_entry-sound, same_entry-refl}
use Rattle.rd_graph.proofs.Lists.Listing.{cases, never}
use Rattle.rd_graph.proofs.Patches.ListsAt.{same_place, other_place}
use Rattle.rd_merge.specs.Internal.Marks.{AreMarkedBy, box_mark, box_marks, box_of, name_marks, slot_mark}

pub mark_small : (wide : Bool) (k : BoxKey) → box_mark wide k < box_marks wide
mark_small true k = omega arith
mark_small false k = omega arith

module _ (at : BoxKey → ℕ) (count : ℕ) (small : (k : BoxKey) → at k < count) (names : List EntryKey) where
  mark_at : (i : ℕ) (d : EntryKey) → i < length names → get_or (name_marks at names) i 0 ≡ at (box_of (get_or names i d))
  mark_at i d l = get_or-map (λ k. at (box_of k)) names i d 0 l

  -- the mark of one more name is set
  module _ (i : ℕ) (d : EntryKey) (mark : ℕ) (marks : List Bool) (l : i < length names) (is : mark ≡ at (box_of (get_or names i d))) (size : length marks ≡ count) where
    pub mark_within : mark < length marks
    mark_within = let s = small (box_of (get_or names i d)) in omega (arith, s, is, size)

    pub mark_next : ((j : ℕ) → j < i → get_or marks (get_or (name_marks at names) j 0) false ≡ true) → (j : ℕ) → j < i + 1
        → get_or (set marks mark true) (get_or (name_marks at names) j 0) false ≡ true
    mark_next was j b = elim (cases (mark == get_or (name_marks at names) j 0)) [
      | inl t ↦ subst (λ (m : ℕ). get_or (set marks mark true) m false ≡ true) (same_place mark (get_or (name_marks at names) j 0) t) (get_or-set_same marks mark true false mark_within)
      | inr f ↦
          let other = other_place mark (get_or (name_marks at names) j 0) f in
          let away : j ≡ i → ⊥ = λ q. other (is ∙ sym (mark_at i d l) ∙ ap (λ n. get_or (name_marks at names) n 0) (sym q)) in
          get_or-set_other marks mark (get_or (name_marks at names) j 0) true false (λ q. other (sym q)) ∙ was j (less away)
    ]
      where
        less : (j ≡ i → ⊥) → j < i
        less away = grind (arith, away, b)

  pub unmarked : (marks : List Bool) → AreMarkedBy at count names marks → (k : EntryKey) → get_or marks (at (box_of k)) false ≡ false → place_of same_entry names k ≡ None
  unmarked marks are k f = elim (place_of same_entry names k) as (λ o. place_of same_entry names k ≡ o → o ≡ None) [
    | None ↦ λ e. refl
    | Some p ↦ λ e.
        let r = place_some same_entry same_entry-sound same_entry-refl names k p e in
        let m : get_or (name_marks at names) p 0 ≡ at (box_of k) = mark_at p k r.0 ∙ ap (λ z. at (box_of z)) (r.1 k) in
        let t : get_or marks (at (box_of k)) false ≡ true = ap (λ z. get_or marks z false) (sym m) ∙ are.marked p r.0 in
        absurd (never (get_or marks (at (box_of k)) false) t f)
  ] refl

-- ---- marks by pages

-- the mark of one more name is set
pub page_next : (names : List EntryKey) (i : ℕ) (d : EntryKey) (owner : BoxKey) (old new : List ℕ) → i < length names → owner ≡ box_of (get_or names i d)
    → ((j : ℕ) (e : EntryKey) → j < i → slot_mark old (box_of (get_or names j e)) ≡ 1) → ((k : BoxKey) → slot_mark old k ≡ 1 → slot_mark new k ≡ 1)
    → slot_mark new owner ≡ 1 → (j : ℕ) (e : EntryKey) → j < i + 1 → slot_mark new (box_of (get_or names j e)) ≡ 1
page_next names i d owner old new l is was kept set j e b = elim (cases_lt j i) [
  | inl m ↦ kept (box_of (get_or names j e)) (was j e m)
  | inr m ↦
      let q : j ≡ i = omega (arith, b, m) in
      let same : get_or names i d ≡ get_or names j e = get_or_default names i d e l ∙ ap (λ n. get_or names n e) (sym q) in
      ap (λ k. slot_mark new (box_of k)) (sym same) ∙ (ap (slot_mark new) (sym is) ∙ set)
]

pub page_unmarked : (names : List EntryKey) (pages : List ℕ) → ((i : ℕ) (d : EntryKey) → i < length names → slot_mark pages (box_of (get_or names i d)) ≡ 1) → (k : EntryKey)
    → slot_mark pages (box_of k) ≡ 0 → place_of same_entry names k ≡ None
page_unmarked names pages are k f = elim (place_of same_entry names k) as (λ o. place_of same_entry names k ≡ o → o ≡ None) [
  | None ↦ λ e. refl
  | Some p ↦ λ e.
      let r = place_some same_entry same_entry-sound same_entry-refl names k p e in
      let m : slot_mark pages (box_of k) ≡ 1 = ap (λ z. slot_mark pages (box_of z)) (sym (r.1 k)) ∙ are p k r.0 in
      absurd (omega (arith, m, f))
] refl
