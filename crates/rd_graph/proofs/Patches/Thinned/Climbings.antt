-- A climb along direct predecessors.
use Rattle.std.proofs.Common.{◌≡◌, refl, ap, ◌∙◌, sym, subst, ℕ, ◌+◌, ◌<◌, List, [], ◌∷◌, ◌++◌, length, take, get_or, inl, inr, ◌⊎◌, arith, zero, suc, Some}
use Rattle.std.proofs.lemmas.List.{take_more}
use Rattle.std.specs.Prelude.{Contains}
use Rattle.rd_keys.specs.declared.entry.EntryKey.{EntryKey}
use Rattle.rd_graph.specs.Orders.{last, more}
use Rattle.rd_graph.specs.Graphs.{Graph, nodes, Precedes}
use Rattle.rd_graph.specs.Names.{place_of, same_entry}
use Rattle.rd_graph.specs.Internal.Seen.{seen}
use Rattle.rd_graph.specs.Internal.Thinning.{MayAdd, AddsOf, AddsBefore, MayLeave, Leaves, ReachesOne, AreImplied}
use Rattle.rd_graph.specs.declared.graph.Node.{Node}
use Rattle.rd_graph.proofs.Lists.Listing.{Has, has_from, contains_from, has_left, has_right, has_either}
use Rattle.rd_graph.proofs.Lists.Entries.{has_get, place_some, same_entry-sound, same_entry-refl}

module _ {E : Type 0} where
  in_left : (xs ys : List E) (a : E) → Contains xs a → Contains (xs ++ ys) a
  in_left xs ys a c = contains_from (xs ++ ys) a (has_left xs ys a (has_from xs a c))

  in_either : (xs ys : List E) (a : E) → Contains (xs ++ ys) a → Contains xs a ⊎ Contains ys a
  in_either xs ys a c = elim (has_either xs ys a (has_from (xs ++ ys) a c)) [ inl h ↦ inl (contains_from xs a h) | inr h ↦ inr (contains_from ys a h) ]

  in_one : (x a : E) → Contains (x ∷ []) a → x ≡ a
  in_one x a c = elim (has_from (x ∷ []) a c) [ inl e ↦ e | inr h ↦ absurd h ]

  pub in_get : (xs : List E) (i : ℕ) (d : E) → i < length xs → Contains xs (get_or xs i d)
  in_get xs i d l = contains_from xs (get_or xs i d) (has_get xs i d l)

  in_last : (xs : List E) (x a : E) → x ≡ a → Contains (xs ++ x ∷ []) a
  in_last xs x a e = contains_from (xs ++ x ∷ []) a (has_right xs (x ∷ []) a (inl e))

  in_none : (xs : List E) (a : E) → xs ≡ [] → Contains xs a → ⊥
  in_none xs a e c = has_from [] a (subst (λ (ys : List E). Contains ys a) e c)

  -- ---- what is added

  pub adds_none : (ks xs : List E) → AddsOf ks xs xs
  adds_none ks xs k c = inl c

  pub adds_next : (ks start now next : List E) (i : ℕ) (d : E) → i < length ks → AddsOf ks start now → MayAdd (get_or ks i d) now next → AddsOf ks start next
  adds_next ks start now next i d l was (inl e) k c = was k (subst (λ (xs : List E). Contains xs k) e c)
  adds_next ks start now next i d l was (inr e) k c = elim (in_either now (get_or ks i d ∷ []) k (subst (λ (xs : List E). Contains xs k) e c)) [
    | inl h ↦ was k h
    | inr h ↦ inr (subst (λ (z : E). Contains ks z) (in_one (get_or ks i d) k h) (in_get ks i d l))
  ]

  -- ---- what is left

  pub leaves_none : (names list : List E) → Leaves names (take 0 list) []
  leaves_none names list = record { fewer = λ a c. absurd (in_none [] a refl c); others = λ a c. absurd (in_none [] a refl c) }

  pub leaves_next : (names list now next : List E) (i : ℕ) (d : E) → i < length list → Leaves names (take i list) now → MayLeave names (get_or list i d) now next → Leaves names (take (i + 1) list) next
  leaves_next names list now next i d l was step =
      subst (λ (xs : List E). Leaves names xs next) (sym (take_more list i d l)) (by step)
    where
      by : MayLeave names (get_or list i d) now next → Leaves names (take i list ++ get_or list i d ∷ []) next
      by (inl s) = record {
        fewer = λ a c. in_left (take i list) (get_or list i d ∷ []) a (was.fewer a (subst (λ (xs : List E). Contains xs a) s.0 c));
        others = λ a c. elim (in_either (take i list) (get_or list i d ∷ []) a c) [
          | inl h ↦ elim (was.others a h) [ inl k ↦ inl (subst (λ (xs : List E). Contains xs a) (sym s.0) k) | inr k ↦ inr k ]
          | inr h ↦ inr (subst (λ (z : E). Contains names z) (in_one (get_or list i d) a h) s.1)
        ];
      }
      by (inr e) = record {
        fewer = λ a c. elim (in_either now (get_or list i d ∷ []) a (subst (λ (xs : List E). Contains xs a) e c)) [
          | inl h ↦ in_left (take i list) (get_or list i d ∷ []) a (was.fewer a h)
          | inr h ↦ in_last (take i list) (get_or list i d) a (in_one (get_or list i d) a h)
        ];
        others = λ a c. elim (in_either (take i list) (get_or list i d ∷ []) a c) [
          | inl h ↦ elim (was.others a h) [ inl k ↦ inl (subst (λ (xs : List E). Contains xs a) (sym e) (in_left now (get_or list i d ∷ []) a k)) | inr k ↦ inr k ]
          | inr h ↦ inl (subst (λ (xs : List E). Contains xs a) (sym e) (in_last now (get_or list i d) a (in_one (get_or list i d) a h)))
        ];
      }

  -- ---- the climb

  -- one of a list, or something that reaches one
  abbrev pub Leads : Graph E → List E → E → Type 0
  Leads g list a = Contains list a ⊎ ReachesOne g list a

  abbrev pub AllLead : Graph E → List E → List E → Type 0
  AllLead g list xs = (a : E) → Contains xs a → Leads g list a

  up_one : (g : Graph E) (list : List E) (a b : E) → Precedes g a b → Leads g list b → ReachesOne g list a
  up_one g list a b s (inl c) = (b, c, last s)
  up_one g list a b s (inr r) = (r.0, r.1, more s r.2)

  pub lead_first : (g : Graph E) (list now : List E) → now ≡ list → AllLead g list now
  lead_first g list now e a c = inl (subst (λ (xs : List E). Contains xs a) e c)

  one_of : (xs : List E) (i : ℕ) (x : E) → i < length xs → x ≡ get_or xs i x → Contains xs x
  one_of xs i x l e = (i, l, sym e)

  pub lead_next : (g : Graph E) (list now next : List E) (i : ℕ) (x : E) → i < length now → x ≡ get_or now i x → AllLead g list now → AddsBefore g x now next → AllLead g list next
  lead_next g list now next i x l e was adds a c = elim (adds a c) [
    | inl h ↦ was a h
    | inr s ↦ inr (up_one g list a x s (was x (one_of now i x l e)))
  ]

  pub implied_first : (g : Graph E) (list now : List E) → now ≡ [] → AreImplied g list now
  implied_first g list now e a c = absurd (in_none now a e c)

  pub implied_next : (g : Graph E) (list now found then : List E) (i : ℕ) (x : E) → i < length now → x ≡ get_or now i x → AllLead g list now → AreImplied g list found → AddsBefore g x found then → AreImplied g list then
  implied_next g list now found then i x l e leads was adds a c = elim (adds a c) [
    | inl h ↦ was a h
    | inr s ↦ up_one g list a x s (leads x (one_of now i x l e))
  ]

-- ---- the node of a name

pub named_at : (ns : List Node) (k : EntryKey) (p : ℕ) (n : Node) → Some p ≡ place_of same_entry (nodes (seen ns)) k → n ≡ get_or ns p n → Contains (seen ns) (k, n.before.items)
named_at ns k p n e is =
    let r = place_some same_entry same_entry-sound same_entry-refl (nodes (seen ns)) k p (sym e) in
    contains_from (seen ns) (k, n.before.items) (there ns p n is r.0 (r.1 k))
  where
    there : (ms : List Node) (q : ℕ) (m : Node) → m ≡ get_or ms q m → q < length (nodes (seen ms)) → get_or (nodes (seen ms)) q k ≡ k → Has (seen ms) (k, m.before.items)
    there [] q m f l t = absurd (omega arith)
    there (x ∷ xs) zero m f l t = inl (ap (λ (z : EntryKey). (z, x.before.items)) t ∙ ap (λ (z : Node). (k, z.before.items)) (sym f))
    there (x ∷ xs) (suc q) m f l t = inr (there xs q m f (omega arith) t)

pub adds_before : (ns : List Node) (k : EntryKey) (p : ℕ) (n : Node) (before old new : List EntryKey) → Some p ≡ place_of same_entry (nodes (seen ns)) k → n ≡ get_or ns p n → before ≡ n.before.items
    → AddsOf before old new → AddsBefore (seen ns) k old new
adds_before ns k p n before old new e is same adds a c = elim (adds a c) [
  | inl h ↦ inl h
  | inr h ↦ inr (n.before.items, named_at ns k p n e is, subst (λ (xs : List EntryKey). Contains xs a) same h)
]
