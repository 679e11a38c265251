-- Kinds of names, and chunks of nodes that tell them.
use Rattle.std.proofs.Common.{◌≡◌, ◌⊎◌, refl, ap, ◌∙◌, sym, subst, ℕ, zero, suc, ◌+◌, ◌-◌, ◌*◌, ◌/◌, ◌%◌, ◌^◌, ◌<◌, ◌≤◌, max, min, Bool, true, false, List, [], ◌∷◌, ◌++◌, length, take, get_or, arith, inl, inr, w64}
use Rattle.std.specs.Prelude.{slice_set}
use Rattle.std.specs.Int.{bit_at}
use Rattle.std.specs.Int.Bits.{bit_and, bit_or}
use Rattle.std.proofs.lemmas.Bool.{cases_lt}
use Rattle.std.proofs.lemmas.List.{take_more}
use Rattle.std.proofs.lemmas.Nat.Bits.{bit_at-lt, bit_at-zero, bit_at_and, bit_at_ones, bit_at_or, bit_at_set_same}
use Rattle.rd_keys.specs.declared.entry.EntryKey.{EntryKey}
use Rattle.rd_keys.specs.declared.entry.EntryKey.TheVariants as key
use Rattle.rd_graph.specs.Graphs.{Graph}
use Rattle.rd_graph.specs.Patches.{with_list}
use Rattle.rd_graph.specs.Internal.Chunks.{HasAlong, HasKind, HasKinds, IsApart, IsInOne, IsMoved, KeepsKinds, Tells, TellsTo, kind_of, kinds_at}
use Rattle.rd_graph.specs.Internal.Relisting.{AreQuiet, IsAt, some_gone}
use Rattle.rd_graph.specs.Gathered.{gathered}
use Rattle.rd_graph.specs.Graphs.{nodes}
use Rattle.rd_graph.specs.Internal.Seen.{seen}
use Rattle.rd_graph.specs.declared.graph.Node.{Node}
use Rattle.rd_graph.proofs.Lists.Listing.{Has, cases, has_either}
use Rattle.rd_graph.proofs.Patches.Late.{one_node}
use Rattle.rd_graph.proofs.Patches.Marks.{gone_next}

-- ---- kinds

kind_small : (k : EntryKey) → kind_of k < 64
kind_small (key.Leaf k p) = omega arith
kind_small (key.Group k) = omega arith

max_left : (m n : ℕ) → m ≡ 1 → n < 2 → max m n ≡ 1
max_left m n e l = omega (arith, e, l)

max_right : (m n : ℕ) → n ≡ 1 → m < 2 → max m n ≡ 1
max_right m n e l = omega (arith, e, l)

pub kept_left : (a b : ℕ) → KeepsKinds a (bit_or a b)
kept_left a b k h = bit_at_or a b (kind_of k) ∙ max_left (bit_at a (kind_of k)) (bit_at b (kind_of k)) h (bit_at-lt b (kind_of k))

pub kept_right : (a b : ℕ) → KeepsKinds b (bit_or a b)
kept_right a b k h = bit_at_or a b (kind_of k) ∙ max_right (bit_at a (kind_of k)) (bit_at b (kind_of k)) h (bit_at-lt a (kind_of k))

pub kind_set : (n j : ℕ) (k : EntryKey) → j ≡ kind_of k → HasKind (bit_or n (1 * 2 ^ j % 18446744073709551616)) k
kind_set n j k e =
    let s = kind_small k in
    subst (λ i. bit_at (bit_or n (1 * 2 ^ j % 18446744073709551616)) i ≡ 1) e (bit_at_set_same w64 n j (omega (arith, e, s)))

-- ---- kinds of names

pub kinds_wider : (a b : ℕ) → KeepsKinds a b → (ks : List EntryKey) → HasKinds a ks → HasKinds b ks
kinds_wider a b w [] h = tt
kinds_wider a b w (k ∷ ks) h = (w k h.0, kinds_wider a b w ks h.1)

pub all_kinds : (ks : List EntryKey) → HasKinds 18446744073709551615 ks
all_kinds [] = tt
all_kinds (k ∷ ks) = (bit_at_ones 64 (kind_of k) (kind_small k), all_kinds ks)

kinds_more : (a : ℕ) (ks : List EntryKey) (k : EntryKey) → HasKinds a ks → HasKind a k → HasKinds a (ks ++ k ∷ [])
kinds_more a [] k h i = (i, tt)
kinds_more a (j ∷ ks) k h i = (h.0, kinds_more a ks k h.1 i)

pub kinds_next : (old new : ℕ) (ks : List EntryKey) (i : ℕ) (d k : EntryKey) → i < length ks → k ≡ get_or ks i d → HasKinds old (take i ks) → KeepsKinds old new → HasKind new k → HasKinds new (take (i + 1) ks)
kinds_next old new ks i d k l is was keeps has =
    subst (HasKinds new) (sym (take_more ks i d l)) (kinds_more new (take i ks) (get_or ks i d) (kinds_wider old new keeps (take i ks) was) (subst (HasKind new) is has))

-- ---- kinds along nodes

module _ (g : Graph EntryKey) where
  pub along_none : (kinds from to : ℕ) → to ≤ from → HasAlong kinds g from to
  along_none kinds from to e k x h l m = absurd (omega (arith, e, l, m))

  pub along_less : (kinds from to end : ℕ) → end ≤ to → HasAlong kinds g from to → HasAlong kinds g from end
  along_less kinds from to end e has k x h l m = has k x h l (omega (arith, e, m))

  pub along_next : (old new from i : ℕ) (x : EntryKey × List EntryKey) → IsAt g i x → HasAlong old g from i → KeepsKinds old new → HasKinds new x.1 → HasAlong new g from (i + 1)
  along_next old new from i x at_x was keeps has k y h l m = elim (cases_lt k i) [
    | inl u ↦ kinds_wider old new keeps y.1 (was k y h l u)
    | inr u ↦
        let e : i ≡ k = omega (arith, m, u) in
        subst (λ (z : EntryKey × List EntryKey). HasKinds new z.1) (one_node g k x y (subst (λ j. IsAt g j x) e at_x) h) has
  ]

at_left : {E : Type 0} (xs ys : Graph E) (k : ℕ) (x : E × List E) → IsAt (xs ++ ys) k x → k < length xs → IsAt xs k x
at_left [] ys k x h l = absurd (omega (arith, l))
at_left (y ∷ xs) ys zero x h l = (l, h.1)
at_left (y ∷ xs) ys (suc k) x h l = let r = at_left xs ys k x ((let m = h.0 in omega (arith, m)), h.1) (omega (arith, l)) in (l, r.1)

at_right : {E : Type 0} (xs ys : Graph E) (k j : ℕ) (x : E × List E) → k ≡ length xs + j → IsAt (xs ++ ys) k x → IsAt ys j x
at_right [] ys k j x e h = subst (λ n. IsAt ys n x) (let f : k ≡ j = omega (arith, e) in f) h
at_right (y ∷ xs) ys zero j x e h = absurd (omega (arith, e))
at_right (y ∷ xs) ys (suc k) j x e h = at_right xs ys k j x (omega (arith, e)) ((let m = h.0 in omega (arith, m)), h.1)

pub along_left : (xs ys : Graph EntryKey) (kinds from to : ℕ) → to ≤ length xs → HasAlong kinds xs from to → HasAlong kinds (xs ++ ys) from to
along_left xs ys kinds from to e has k x h l m = has k x (at_left xs ys k x h (omega (arith, e, m))) l m

pub along_one : (xs ys : Graph EntryKey) (kinds p j : ℕ) (x : EntryKey × List EntryKey) → p ≡ length xs + j → IsAt ys j x → HasKinds kinds x.1 → HasAlong kinds (xs ++ ys) p (p + 1)
along_one xs ys kinds p j x e at_x has k y h l m =
    let f : k ≡ length xs + j = omega (arith, e, l, m) in
    subst (λ (z : EntryKey × List EntryKey). HasKinds kinds z.1) (one_node ys j x y at_x (at_right xs ys k j y f h)) has

-- ---- lists of numbers

set_here : (cs : List ℕ) (i v : ℕ) → i < length cs → get_or (slice_set cs i v) i 0 ≡ v
set_here [] i v l = absurd (omega (arith, l))
set_here (c ∷ cs) zero v l = refl
set_here (c ∷ cs) (suc i) v l = set_here cs i v (omega (arith, l))

set_length : (cs : List ℕ) (i v : ℕ) → length (slice_set cs i v) ≡ length cs
set_length [] i v = refl
set_length (c ∷ cs) zero v = refl
set_length (c ∷ cs) (suc i) v = ap suc (set_length cs i v)

set_keeps : (cs : List ℕ) (i j v : ℕ) → KeepsKinds (get_or cs i 0) v → KeepsKinds (get_or cs j 0) (get_or (slice_set cs i v) j 0)
set_keeps [] i j v w k h = h
set_keeps (c ∷ cs) zero zero v w k h = w k h
set_keeps (c ∷ cs) zero (suc j) v w k h = h
set_keeps (c ∷ cs) (suc i) zero v w k h = h
set_keeps (c ∷ cs) (suc i) (suc j) v w k h = set_keeps cs i j v w k h

get_before : (cs : List ℕ) (v j : ℕ) → j < length cs → get_or (cs ++ v ∷ []) j 0 ≡ get_or cs j 0
get_before [] v j l = absurd (omega (arith, l))
get_before (c ∷ cs) v zero l = refl
get_before (c ∷ cs) v (suc j) l = get_before cs v j (omega (arith, l))

get_last : (cs : List ℕ) (v j : ℕ) → j ≡ length cs → get_or (cs ++ v ∷ []) j 0 ≡ v
get_last [] v zero e = refl
get_last [] v (suc j) e = absurd (omega (arith, e))
get_last (c ∷ cs) v zero e = absurd (omega (arith, e))
get_last (c ∷ cs) v (suc j) e = get_last cs v j (omega (arith, e))

-- ---- chunks

pub told_first : (cs : List ℕ) (g : Graph EntryKey) → TellsTo cs g 0
told_first cs g k x h l m = absurd (omega (arith, l))

pub told_none : (cs : List ℕ) (g : Graph EntryKey) → cs ≡ [] → Tells cs g
told_none cs g e k x h m = absurd (let n = ap length e in omega (arith, m, n))

pub told_whole : (cs : List ℕ) (g : Graph EntryKey) (end : ℕ) → length g ≤ end → TellsTo cs g end → Tells cs g
told_whole cs g end l told k x h m = let a = h.0 in told k x h (omega (arith, a, l)) m

-- the kinds of a chunk are those of its nodes
pub told_along : (cs : List ℕ) (g : Graph EntryKey) (from to kinds : ℕ) → Tells cs g → from / 64 < length cs → kinds ≡ kinds_at cs from → IsInOne from to → HasAlong kinds g from to
told_along cs g from to kinds told l is one k x h a b =
    let e = one k a b in
    subst (λ n. HasKinds n x.1) (sym (is ∙ ap (λ n. get_or cs n 0) (sym e))) (told k x h (subst (λ n. n < length cs) (sym e) l))

module _ (cs : List ℕ) (g : Graph EntryKey) (place end kinds : ℕ) (one : IsInOne place end) (has : HasAlong kinds g place end) (told : TellsTo cs g place) where
  -- kinds come into a chunk that is there
  pub put_there : (v : ℕ) → place / 64 < length cs → v ≡ bit_or (kinds_at cs place) kinds → TellsTo (slice_set cs (place / 64) v) g end
  put_there v l e k x h m n = elim (cases_lt k place) [
    | inl u ↦ kinds_wider (kinds_at cs k) (kinds_at (slice_set cs (place / 64) v) k)
        (set_keeps cs (place / 64) (k / 64) v (subst (KeepsKinds (kinds_at cs place)) (sym e) (kept_left (kinds_at cs place) kinds)))
        x.1 (told k x h u (subst (λ s. k / 64 < s) (set_length cs (place / 64) v) n))
    | inr u ↦
        let s = one k u m in
        subst (λ w. HasKinds w x.1) (sym (ap (λ j. get_or (slice_set cs (place / 64) v) j 0) s ∙ set_here cs (place / 64) v l ∙ e))
        (kinds_wider kinds (bit_or (kinds_at cs place) kinds) (kept_right (kinds_at cs place) kinds) x.1 (has k x h u m))
  ]

  -- a new chunk
  pub put_new : place % 64 ≡ 0 → place / 64 ≡ length cs → TellsTo (cs ++ kinds ∷ []) g end
  put_new z e k x h m n = elim (cases_lt k place) [
    | inl u ↦
        let below : k / 64 < length cs = omega (arith, z, e, u) in
        subst (λ w. HasKinds w x.1) (sym (get_before cs kinds (k / 64) below)) (told k x h u below)
    | inr u ↦ subst (λ w. HasKinds w x.1) (sym (get_last cs kinds (k / 64) (one k u m ∙ e))) (has k x h u m)
  ]

  -- no room
  pub put_none : length cs ≤ place / 64 → TellsTo cs g end
  put_none l k x h m n = elim (cases_lt k place) [
    | inl u ↦ told k x h u n
    | inr u ↦ absurd (let s = one k u m in omega (arith, s, l, n))
  ]

-- ---- another list at a place

put_here : {E : Type 0} (i : ℕ) (ps : List E) (g : Graph E) (x : E × List E) → IsAt (with_list i ps g) i x → ps ≡ x.1
put_here i ps [] x h = absurd (let l = h.0 in omega (arith, l))
put_here zero ps (y ∷ g) x h = ap (λ z. z.1) h.1
put_here (suc i) ps (y ∷ g) x h = put_here i ps g x ((let l = h.0 in omega (arith, l)), h.1)

put_other : {E : Type 0} (i k : ℕ) (ps : List E) (g : Graph E) (x : E × List E) → (i ≡ k → ⊥) → IsAt (with_list i ps g) k x → IsAt g k x
put_other i k ps [] x d h = h
put_other zero zero ps (y ∷ g) x d h = absurd (d refl)
put_other zero (suc k) ps (y ∷ g) x d h = h
put_other (suc i) zero ps (y ∷ g) x d h = (omega arith, h.1)
put_other (suc i) (suc k) ps (y ∷ g) x d h = let r = put_other i k ps g x (λ e. d (ap suc e)) ((let l = h.0 in omega (arith, l)), h.1) in ((let l = r.0 in omega (arith, l)), r.1)

same_or_not : (i k : ℕ) → (i ≡ k) ⊎ (i ≡ k → ⊥)
same_or_not i k = elim (cases_lt i k) [
  | inl l ↦ inr (λ e. omega (arith, l, e))
  | inr l ↦ elim (cases_lt k i) [ inl m ↦ inr (λ e. omega (arith, m, e)) | inr m ↦ inl (omega (arith, l, m)) ]
]

module _ (cs : List ℕ) (g : Graph EntryKey) (place : ℕ) (names : List EntryKey) (told : Tells cs g) where
  pub names_put : (v : ℕ) → place / 64 < length cs → KeepsKinds (kinds_at cs place) v → HasKinds v names → Tells (slice_set cs (place / 64) v) (with_list place names g)
  names_put v l keeps has k x h n = elim (same_or_not place k) [
    | inl e ↦
        let is : names ≡ x.1 = put_here place names g x (subst (λ j. IsAt (with_list place names g) j x) (sym e) h) in
        subst (λ w. HasKinds w x.1) (sym (ap (λ j. get_or (slice_set cs (place / 64) v) (j / 64) 0) (sym e) ∙ set_here cs (place / 64) v l)) (subst (HasKinds v) is has)
    | inr d ↦ kinds_wider (kinds_at cs k) (kinds_at (slice_set cs (place / 64) v) k) (set_keeps cs (place / 64) (k / 64) v keeps) x.1
        (told k x (put_other place k names g x d h) (subst (λ s. k / 64 < s) (set_length cs (place / 64) v) n))
  ]

  pub names_left : length cs ≤ place / 64 → Tells cs (with_list place names g)
  names_left l k x h n = elim (same_or_not place k) [
    | inl e ↦ absurd (let s = ap (λ j. j / 64) e in omega (arith, s, l, n))
    | inr d ↦ told k x (put_other place k names g x d h) n
  ]

-- ---- nodes that move

pub moved_along : (xs g : Graph EntryKey) (from start count done n kinds : ℕ) → IsMoved xs g from start count → done + n ≤ count → HasAlong kinds xs (from + done) (from + done + n)
    → HasAlong kinds g (start + done) (start + done + n)
moved_along xs g from start count done n kinds moved l has k x h a b =
    let e : k ≡ start + (k - start) = omega (arith, a) in
    has (from + (k - start)) x (moved (k - start) x (omega (arith, a, b, l)) (subst (λ j. IsAt g j x) e h)) (omega (arith, a)) (omega (arith, a, b))

-- ---- chunks apart from what goes

min_both : (m n : ℕ) → m ≡ 1 → n ≡ 1 → min m n ≡ 0 → ⊥
min_both m n e f z = omega (arith, e, f, z)

apart_kinds : (a b : ℕ) (k : EntryKey) → bit_and a b ≡ 0 → HasKind a k → HasKind b k → ⊥
apart_kinds a b k z h i = min_both (bit_at a (kind_of k)) (bit_at b (kind_of k)) h i (sym (bit_at_and a b (kind_of k)) ∙ ap (λ n. bit_at n (kind_of k)) z ∙ bit_at-zero (kind_of k))

module _ (gone : EntryKey → Bool) (kinds : ℕ) (are : (k : EntryKey) → gone k ≡ true → HasKind kinds k) where
  none_apart : (a : ℕ) → bit_and a kinds ≡ 0 → (ks : List EntryKey) → HasKinds a ks → some_gone gone ks ≡ false
  none_apart a z [] h = refl
  none_apart a z (k ∷ ks) h = elim (cases (gone k)) [
    | inl t ↦ absurd (apart_kinds a kinds k z h.0 (are k t))
    | inr f ↦ rw f (none_apart a z ks h.1)
  ]

  pub apart_quiet : (cs : List ℕ) (g : Graph EntryKey) (from to : ℕ) → Tells cs g → IsInOne from to → IsApart cs from kinds → AreQuiet gone g from to
  apart_quiet cs g from to told one apart k x h a b =
      none_apart (kinds_at cs from) apart.1 x.1 (told_along cs g from to (kinds_at cs from) told apart.0 refl one k x h a b)

-- ---- the kinds of what goes

pub kinds_gone : (ns : List Node) (ps : List ℕ) (i : ℕ) (n : Node) (old new : ℕ) → i < length ps → get_or ps i 0 < length ns → n ≡ get_or ns (get_or ps i 0) n
    → ((k : EntryKey) → Has (gathered (take i ps) (nodes (seen ns))) k → HasKind old k) → KeepsKinds old new → HasKind new n.key
    → (k : EntryKey) → Has (gathered (take (i + 1) ps) (nodes (seen ns))) k → HasKind new k
kinds_gone ns ps i n old new l m e was keeps has k h =
    elim (has_either (gathered (take i ps) (nodes (seen ns))) (n.key ∷ []) k (subst (λ (z : List EntryKey). Has z k) (gone_next ns ps i n l m e) h)) [
      | inl v ↦ keeps k (was k v)
      | inr v ↦ elim v [ inl q ↦ subst (λ (z : EntryKey). HasKind new z) q has | inr q ↦ absurd q ]
    ]
