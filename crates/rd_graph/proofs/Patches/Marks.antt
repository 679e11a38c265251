-- The names of the nodes at some places, and their marks.
use Rattle.std.proofs.Common.{◌≡◌, refl, ap, ◌∙◌, sym, subst, ℕ, zero, suc, ◌+◌, ◌<◌, ◌≤◌, Bool, true, false, cond, List, [], ◌∷◌, ◌++◌, length, take, drop, get_or, arith, inl, inr, append_assoc}
use Rattle.std.specs.Prelude.{slice_set, Option, Some, is_some}
use Rattle.std.proofs.lemmas.List.{take_more, append-nil}
use Rattle.rd_keys.specs.declared.entry.EntryKey.{EntryKey}
use Rattle.rd_keys.specs.declared.entry.EntryKey.TheVariants as key
use Rattle.rd_graph.specs.Graphs.{nodes}
use Rattle.rd_graph.specs.Gathered.{gathered}
use Rattle.rd_graph.specs.Names.{is_in, same_entry}
use Rattle.rd_graph.specs.Internal.Relisting.{some_gone, mark_of}
use Rattle.rd_graph.specs.Internal.Seen.{seen}
use Rattle.rd_graph.specs.declared.graph.Node.{Node}
use Rattle.rd_graph.proofs.Lists.Listing.{Has, cases, has_either}
use Rattle.rd_graph.proofs.Lists.Entries.{is_in-more}

module _ {E : Type 0} (gone : E → Bool) where
  pub some_at : (ks : List E) (i : ℕ) (d : E) → i < length ks → gone (get_or ks i d) ≡ true → some_gone gone ks ≡ true
  some_at [] i d l h = absurd (omega arith)
  some_at (k ∷ ks) zero d l h = rw h refl
  some_at (k ∷ ks) (suc i) d l h = elim (gone k) as (λ b. cond b true (some_gone gone ks) ≡ true) [ true ↦ refl | false ↦ some_at ks i d (omega arith) h ]

  some-more : (ks : List E) (p : E) → some_gone gone ks ≡ false → gone p ≡ false → some_gone gone (ks ++ p ∷ []) ≡ false
  some-more [] p h f = rw f refl
  some-more (k ∷ ks) p h f = elim (cases (gone k)) [
    | inl t ↦ let u : true ≡ false = rw t at h in absurd (cc)
    | inr g ↦ let u : some_gone gone ks ≡ false = rw g at h in rw g (some-more ks p u f)
  ]

  pub some_next : (ks : List E) (i : ℕ) (d : E) → i < length ks → some_gone gone (take i ks) ≡ false → gone (get_or ks i d) ≡ false → some_gone gone (take (i + 1) ks) ≡ false
  some_next ks i d l h f = rw (take_more ks i d l) (some-more (take i ks) (get_or ks i d) h f)

  pub none_goes : (ks : List E) → some_gone gone ks ≡ false → (p : E) → Has ks p → gone p ≡ false
  none_goes [] h p m = absurd m
  none_goes (k ∷ ks) h p m = elim (cases (gone k)) [
    | inl t ↦ let u : true ≡ false = rw t at h in absurd (cc)
    | inr g ↦ let u : some_gone gone ks ≡ false = rw g at h in elim m [ inl e ↦ ap gone (sym e) ∙ g | inr n ↦ none_goes ks u p n ]
  ]

  pub one_goes : (ks : List E) → some_gone gone ks ≡ true → (p : E) × Has ks p × (gone p ≡ true)
  one_goes [] h = absurd (let u : false ≡ true = h in cc)
  one_goes (k ∷ ks) h = elim (cases (gone k)) [
    | inl t ↦ (k, inl refl, t)
    | inr g ↦ let u : some_gone gone ks ≡ true = rw g at h in let r = one_goes ks u in (r.0, inr r.1, r.2)
  ]

module _ {A : Type 0} where
  gathered-append : (ps qs : List ℕ) (xs : List A) → gathered (ps ++ qs) xs ≡ gathered ps xs ++ gathered qs xs
  gathered-append [] qs xs = refl
  gathered-append (p ∷ ps) qs xs = ap (λ zs. take 1 (drop p xs) ++ zs) (gathered-append ps qs xs) ∙ sym (append_assoc (take 1 (drop p xs)) (gathered ps xs) (gathered qs xs))

  pub one_at : (xs : List A) (p : ℕ) (d : A) → p < length xs → take 1 (drop p xs) ≡ get_or xs p d ∷ []
  one_at [] p d l = absurd (omega arith)
  one_at (x ∷ xs) zero d l = refl
  one_at (x ∷ xs) (suc p) d l = one_at xs p d (omega arith)

  pub gathered-next : (ps : List ℕ) (xs : List A) (i : ℕ) (d : A) → i < length ps → get_or ps i 0 < length xs
      → gathered (take (i + 1) ps) xs ≡ gathered (take i ps) xs ++ get_or xs (get_or ps i 0) d ∷ []
  gathered-next ps xs i d l m =
      ap (λ qs. gathered qs xs) (take_more ps i 0 l) ∙ gathered-append (take i ps) (get_or ps i 0 ∷ []) xs
      ∙ ap (λ zs. gathered (take i ps) xs ++ zs) (append-nil (take 1 (drop (get_or ps i 0) xs)) ∙ one_at xs (get_or ps i 0) d m)

  -- each element has its place
  pub gathered_place : (ps : List ℕ) (xs : List A) (a : A) → ((k : ℕ) → k < length ps → get_or ps k 0 < length xs) → Has (gathered ps xs) a
      → (k : ℕ) × (k < length ps) × (get_or xs (get_or ps k 0) a ≡ a)
  gathered_place [] xs a w h = absurd h
  gathered_place (p ∷ ps) xs a w h = elim (has_either (take 1 (drop p xs)) (gathered ps xs) a h) [
    | inl m ↦
        let u : Has (get_or xs p a ∷ []) a = subst (λ (z : List A). Has z a) (one_at xs p a (w 0 (omega arith))) m in
        (0, omega arith, elim u [ inl e ↦ e | inr n ↦ absurd n ])
    | inr m ↦
        let r = gathered_place ps xs a (λ k l. w (suc k) (omega (arith, l))) m in
        (suc r.0, (let l = r.1 in omega (arith, l)), r.2)
  ]

pub key_at : (ns : List Node) (p : ℕ) (n : Node) → p < length ns → n ≡ get_or ns p n → get_or (nodes (seen ns)) p n.key ≡ n.key
key_at [] p n l e = refl
key_at (m ∷ ns) zero n l e = sym (ap (λ (x : Node). x.key) e)
key_at (m ∷ ns) (suc p) n l e = key_at ns p n (omega arith) e

pub nodes_length : (ns : List Node) → length (nodes (seen ns)) ≡ length ns
nodes_length [] = refl
nodes_length (n ∷ ns) = ap suc (nodes_length ns)

-- the loops over places
pub gone_next : (ns : List Node) (ps : List ℕ) (i : ℕ) (n : Node) → i < length ps → get_or ps i 0 < length ns → n ≡ get_or ns (get_or ps i 0) n
    → gathered (take (i + 1) ps) (nodes (seen ns)) ≡ gathered (take i ps) (nodes (seen ns)) ++ n.key ∷ []
gone_next ns ps i n l m e =
    gathered-next ps (nodes (seen ns)) i n.key l (subst (λ k. get_or ps i 0 < k) (sym (nodes_length ns)) m)
    ∙ ap (λ z. gathered (take i ps) (nodes (seen ns)) ++ z ∷ []) (key_at ns (get_or ps i 0) n m e)

pub named_next : {V : Type 0} (ns : List Node) (ps : List ℕ) (i : ℕ) (n : Node) (q : EntryKey) (v : V) (old new : EntryKey → Option V) → i < length ps → get_or ps i 0 < length ns → n ≡ get_or ns (get_or ps i 0) n
    → q ≡ n.key → ((k : EntryKey) → is_some (old k) ≡ is_in same_entry (gathered (take i ps) (nodes (seen ns))) k)
    → ((k : EntryKey) → new k ≡ cond (same_entry q k) (Some v) (old k)) → (k : EntryKey) → is_some (new k) ≡ is_in same_entry (gathered (take (i + 1) ps) (nodes (seen ns))) k
named_next ns ps i n q v old new l m e u was is k =
    rw (is k, u, gone_next ns ps i n l m e, is_in-more same_entry (gathered (take i ps) (nodes (seen ns))) n.key k)
    (elim (same_entry n.key k) as (λ b. is_some (cond b (Some v) (old k)) ≡ cond b true (is_in same_entry (gathered (take i ps) (nodes (seen ns))) k)) [ true ↦ refl | false ↦ was k ])

get_set-here : (xs : List Bool) (i : ℕ) → i < length xs → get_or (slice_set xs i true) i false ≡ true
get_set-here [] i l = absurd (omega arith)
get_set-here (x ∷ xs) zero l = refl
get_set-here (x ∷ xs) (suc i) l = get_set-here xs i (omega arith)

get_set-true : (xs : List Bool) (i k : ℕ) → get_or xs k false ≡ true → get_or (slice_set xs i true) k false ≡ true
get_set-true [] i k h = h
get_set-true (x ∷ xs) zero zero h = refl
get_set-true (x ∷ xs) zero (suc k) h = h
get_set-true (x ∷ xs) (suc i) zero h = h
get_set-true (x ∷ xs) (suc i) (suc k) h = get_set-true xs i k h

pub mark_small : (k : EntryKey) → mark_of k < 2048
mark_small (key.Leaf k p) = omega arith
mark_small (key.Group k) = omega arith

pub take_whole : {A : Type 0} (xs : List A) (i : ℕ) → length xs ≤ i → take i xs ≡ xs
take_whole [] zero l = refl
take_whole [] (suc i) l = refl
take_whole (x ∷ xs) zero l = absurd (omega arith)
take_whole (x ∷ xs) (suc i) l = ap (λ zs. x ∷ zs) (take_whole xs i (omega arith))

set_length : (xs : List Bool) (i : ℕ) → length (slice_set xs i true) ≡ length xs
set_length [] i = refl
set_length (x ∷ xs) zero = refl
set_length (x ∷ xs) (suc i) = ap suc (set_length xs i)

pub marked_next : (ns : List Node) (ps : List ℕ) (i : ℕ) (n : Node) (mark : ℕ) (marks : List Bool) → i < length ps → get_or ps i 0 < length ns → n ≡ get_or ns (get_or ps i 0) n → mark ≡ mark_of n.key → length marks ≡ 2048
    → ((k : EntryKey) → Has (gathered (take i ps) (nodes (seen ns))) k → get_or marks (mark_of k) false ≡ true)
    → (length (slice_set marks mark true) ≡ 2048) × ((k : EntryKey) → Has (gathered (take (i + 1) ps) (nodes (seen ns))) k → get_or (slice_set marks mark true) (mark_of k) false ≡ true)
marked_next ns ps i n mark marks l m e u w was = (
  set_length marks mark ∙ w,
  λ k h. elim (has_either (gathered (take i ps) (nodes (seen ns))) (n.key ∷ []) k (subst (λ (z : List EntryKey). Has z k) (gone_next ns ps i n l m e) h)) [
    | inl v ↦ get_set-true marks mark (mark_of k) (was k v)
    | inr v ↦ elim v [
      | inl q ↦
          let s = mark_small n.key in
          subst (λ z. get_or (slice_set marks mark true) z false ≡ true) (u ∙ ap mark_of q) (get_set-here marks mark (omega (arith, s, u, w)))
      | inr q ↦ absurd q
    ]
  ],
)
