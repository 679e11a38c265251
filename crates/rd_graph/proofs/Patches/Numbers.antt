-- The numbers of the names that go, and what is noted at them.
use Rattle.std.proofs.Common.{◌≡◌, refl, ap, ◌∙◌, sym, subst, ℕ, zero, suc, ◌+◌, ◌<◌, ◌≤◌, Bool, true, false, cond, List, [], ◌∷◌, ◌++◌, length, get_or, arith, Option, Some, None, is_some, inl, inr, ◌⊎◌}
use Rattle.std.specs.Prelude.{slice_set}
use Rattle.indexmap.specs.IndexMap.{IndexMap}
use Rattle.smallvec.specs.SmallVec.{SmallVec}
use Rattle.rd_keys.specs.declared.entry.EntryKey.{EntryKey}
use Rattle.rd_graph.specs.Graphs.{nodes}
use Rattle.rd_graph.specs.Names.{same_entry}
use Rattle.rd_graph.specs.Internal.Relisting.{AreMarked, AreNumbered, mark_of}
use Rattle.rd_graph.specs.Internal.Seen.{seen}
use Rattle.rd_graph.specs.Internal.Tables.{at}
use Rattle.rd_graph.specs.Internal.Words.{NotesBy, in_place_by, note_at, noted_by}
use Rattle.rd_graph.specs.declared.graph.Node.{Node}
use Rattle.rd_graph.proofs.Lists.Entries.{same_entry-sound, same_entry-refl}
use Rattle.rd_graph.proofs.Lists.Listing.{cases, never}
use Rattle.rd_graph.proofs.Patches.ListsAt.{get_same}
use Rattle.rd_graph.proofs.Patches.Marks.{key_at, nodes_length}

pub option_cases : {A : Type 0} (o : Option A) → (o ≡ None) ⊎ ((x : A) × (o ≡ Some x))
option_cases None = inl refl
option_cases (Some x) = inr (x, refl)

some_same : (i j : ℕ) → Some i ≡ Some j → i ≡ j
some_same i j e = cc

-- each number is that of a place whose node has the name, and below a count
abbrev pub HaveNumbers : (EntryKey → Option ℕ) → List EntryKey → List ℕ → ℕ → Type 0
HaveNumbers at_name names ps count = (k : EntryKey) (j : ℕ) → at_name k ≡ Some j → (j < count) × (get_or names (get_or ps j 0) k ≡ k)

-- the loop over places
pub numbered_next : (ns : List Node) (ps : List ℕ) (i : ℕ) (n : Node) (q : EntryKey) (old new : EntryKey → Option ℕ) → get_or ps i 0 < length ns → n ≡ get_or ns (get_or ps i 0) n → q ≡ n.key
    → HaveNumbers old (nodes (seen ns)) ps i → ((k : EntryKey) → new k ≡ cond (same_entry q k) (Some i) (old k)) → HaveNumbers new (nodes (seen ns)) ps (i + 1)
numbered_next ns ps i n q old new m e u was is k j h = elim (cases (same_entry q k)) [
  | inl t ↦
      let s : Some i ≡ Some j = sym (let v = is k in rw t at v) ∙ h in
      let x : i ≡ j = some_same i j s in
      let key : n.key ≡ k = sym u ∙ same_entry-sound q k t in (
        omega (arith, x),
        subst (λ (z : ℕ). get_or (nodes (seen ns)) (get_or ps z 0) k ≡ k) x
            (subst (λ (z : EntryKey). get_or (nodes (seen ns)) (get_or ps i 0) z ≡ z) key (key_at ns (get_or ps i 0) n m e)),
      )
  | inr f ↦
      let s : old k ≡ Some j = sym (let v = is k in rw f at v) ∙ h in
      let r = was k j s in
      let l = r.0 in
      (omega (arith, l), r.1)
]

-- each name of its own
pub numbers_apart : {S : Type 0} (table : IndexMap EntryKey ℕ S) (ns : List Node) (ps : List ℕ) (count : ℕ) → ((k : ℕ) → k < length ps → get_or ps k 0 < length ns) → count ≡ length ps
    → HaveNumbers (at table) (nodes (seen ns)) ps count → AreNumbered table (length ps)
numbers_apart table ns ps count within e have k i h =
    let r = have k i h in
    let l : i < length ps = subst (λ n. i < n) e r.0 in
    let p : get_or ps i 0 < length (nodes (seen ns)) = subst (λ n. get_or ps i 0 < n) (sym (nodes_length ns)) (within i l) in (
      l,
      λ j g. sym r.1 ∙ get_same (nodes (seen ns)) (get_or ps i 0) k j p ∙ (have j i g).1,
    )

-- a list at its number
set_here : (notes : List (SmallVec EntryKey)) (n : ℕ) (b : SmallVec EntryKey) → n < length notes → note_at (slice_set notes n b) (Some n) ≡ b.items
set_here [] n b l = absurd (omega arith)
set_here (v ∷ vs) zero b l = refl
set_here (v ∷ vs) (suc n) b l = set_here vs n b (omega arith)

set_there : (notes : List (SmallVec EntryKey)) (n i : ℕ) (b : SmallVec EntryKey) → (n ≡ i → ⊥) → note_at (slice_set notes n b) (Some i) ≡ note_at notes (Some i)
set_there [] n i b d = refl
set_there (v ∷ vs) zero zero b d = absurd (d refl)
set_there (v ∷ vs) zero (suc i) b d = refl
set_there (v ∷ vs) (suc n) zero b d = refl
set_there (v ∷ vs) (suc n) (suc i) b d = set_there vs n i b (λ e. d (ap suc e))

-- what is noted at a number
pub note_here : (notes : List (SmallVec EntryKey)) (n : ℕ) (v : SmallVec EntryKey) → n < length notes → v ≡ get_or notes n v → note_at notes (Some n) ≡ v.items
note_here [] n v l e = absurd (omega arith)
note_here (w ∷ ws) zero v l e = sym (ap (λ (z : SmallVec EntryKey). z.items) e)
note_here (w ∷ ws) (suc n) v l e = note_here ws n v (omega arith) e

pub note_none : (notes : List (SmallVec EntryKey)) (n : ℕ) → length notes ≤ n → note_at notes (Some n) ≡ []
note_none [] n l = refl
note_none (w ∷ ws) zero l = absurd (omega arith)
note_none (w ∷ ws) (suc n) l = note_none ws n (omega arith)

-- what comes in the place of a name
pub in_place_some : {S : Type 0} (names : IndexMap EntryKey ℕ S) (notes : List (SmallVec EntryKey)) (k : EntryKey) (n : ℕ) → Some n ≡ at names k → in_place_by names notes k ≡ note_at notes (Some n)
in_place_some names notes k n e = subst (λ (o : Option ℕ). cond (is_some o) (note_at notes o) (k ∷ []) ≡ note_at notes (Some n)) e refl

pub in_place_none : {S : Type 0} (names : IndexMap EntryKey ℕ S) (notes : List (SmallVec EntryKey)) (k : EntryKey) → None ≡ at names k → in_place_by names notes k ≡ k ∷ []
in_place_none names notes k e = subst (λ (o : Option ℕ). cond (is_some o) (note_at notes o) (k ∷ []) ≡ k ∷ []) e refl

-- one more empty list
pub note_more : (notes : List (SmallVec EntryKey)) (v : SmallVec EntryKey) → ((i : ℕ) → note_at notes (Some i) ≡ []) → v.items ≡ [] → (i : ℕ) → note_at (notes ++ v ∷ []) (Some i) ≡ []
note_more [] v none e zero = e
note_more [] v none e (suc i) = refl
note_more (w ∷ ws) v none e zero = none zero
note_more (w ∷ ws) v none e (suc i) = note_more ws v (λ j. none (suc j)) e i

pub none_noted : {S : Type 0} (names : IndexMap EntryKey ℕ S) (notes : List (SmallVec EntryKey)) → ((i : ℕ) → note_at notes (Some i) ≡ []) → (k : EntryKey) → noted_by names notes k ≡ []
none_noted names notes none k = elim (option_cases (at names k)) [
  | inl e ↦ ap (note_at notes) e
  | inr r ↦ ap (note_at notes) r.1 ∙ none r.0
]

-- a name without its mark has no number
pub unmarked : {S : Type 0} (marks : List Bool) (names : IndexMap EntryKey ℕ S) (k : EntryKey) → AreMarked marks names → get_or marks (mark_of k) false ≡ false → None ≡ at names k
unmarked marks names k marked f = elim (option_cases (at names k)) [
  | inl e ↦ sym e
  | inr r ↦ let no : true ≡ false = sym (marked k (ap is_some r.1)) ∙ f in absurd (cc)
]

pub no_mark : (marks : List Bool) (i : ℕ) → length marks ≤ i → get_or marks i false ≡ false
no_mark [] i l = refl
no_mark (m ∷ ms) zero l = absurd (omega arith)
no_mark (m ∷ ms) (suc i) l = no_mark ms i (omega arith)

-- a node that goes is noted
pub noted_at : {S : Type 0} (names : IndexMap EntryKey ℕ S) (notes : List (SmallVec EntryKey)) (n : ℕ) (b : SmallVec EntryKey) (x : EntryKey) (found : List EntryKey) → AreNumbered names (length notes) → at names x ≡ Some n → b.items ≡ found
    → NotesBy names true x found notes (slice_set notes n b)
noted_at names notes n b x found numbered is e k = elim (cases (same_entry x k)) [
  | inl t ↦
      let s : at names k ≡ Some n = subst (λ (z : EntryKey). at names z ≡ Some n) (same_entry-sound x k t) is in
      rw t (ap (note_at (slice_set notes n b)) s ∙ set_here notes n b (numbered x n is).0 ∙ e)
  | inr f ↦ elim (option_cases (at names k)) [
    | inl o ↦ rw f (ap (note_at (slice_set notes n b)) o ∙ sym (ap (note_at notes) o))
    | inr o ↦
        let d : n ≡ o.0 → ⊥ = λ u. (
        let s : at names k ≡ Some n = o.1 ∙ ap Some (sym u) in
        never (same_entry x k) (subst (λ (z : EntryKey). same_entry x z ≡ true) ((numbered x n is).1 k s) (same_entry-refl x)) f
        ) in
        rw f (ap (note_at (slice_set notes n b)) o.1 ∙ set_there notes n o.0 b d ∙ sym (ap (note_at notes) o.1))
  ]
]
