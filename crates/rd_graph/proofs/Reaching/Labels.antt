-- Labels of the nodes of a graph.
use Rattle.std.proofs.Common.{◌≡◌, refl, ap, ◌∙◌, sym, subst, ℕ, zero, suc, ◌+◌, ◌<◌, ◌≤◌, ◌-◌, Bool, true, cond, List, [], ◌∷◌, ◌++◌, length, take, drop, get_or, drop-cons, Option, Some, None, unwrap_or, inl, inr, ◌⊎◌, arith}
use Rattle.std.proofs.lemmas.List.{take_more, map-append}
use Rattle.rd_keys.specs.declared.entry.EntryKey.{EntryKey}
use Rattle.rd_graph.specs.Orders as order
use Rattle.rd_graph.specs.Orders.{Before}
use Rattle.rd_graph.specs.Graphs.{Graph, nodes, Precedes, Reaches}
use Rattle.rd_graph.specs.Internal.Chains.{Lowers, AreLabels, NoneGoesBack}
use Rattle.rd_graph.specs.Names.{place_of}
use Rattle.rd_graph.proofs.Reaching.Calls.{once_of}
use Rattle.rd_graph.specs.Internal.Seen.{seen}
use Rattle.rd_graph.specs.declared.graph.Node.{Node}
use Rattle.rd_graph.specs.Names.{same_entry}
use Rattle.rd_graph.proofs.Lists.Entries.{same_entry-sound, same_entry-refl, place_has, place_some}
use Rattle.rd_graph.proofs.Lists.Listing.{Has, Once, cases, has_map, has_from, contains_from, has_left, has_right, has_either}

pub stays_low : (key : EntryKey) (least : ℕ) (old : EntryKey → ℕ) → old key ≤ least → Lowers (key ∷ []) least old old
stays_low key least old h = record {
  falls = λ k. omega arith;
  low = λ k c. elim (has_from (key ∷ []) k c) [ inl e ↦ subst (λ (z : EntryKey). old z ≤ least) e h | inr n ↦ absurd n ];
  only = λ k. inl refl;
}

pub falls_one : (key : EntryKey) (top least : ℕ) (old new : EntryKey → Option ℕ) → least < unwrap_or (old key) top → ((k : EntryKey) → new k ≡ cond (same_entry key k) (Some least) (old k))
    → Lowers (key ∷ []) least (λ k. unwrap_or (old k) top) (λ k. unwrap_or (new k) top)
falls_one key top least old new h is = record {
  falls = λ k. elim (cases (same_entry key k)) [
    | inl t ↦
        let e : new k ≡ Some least = is k ∙ rw t refl in
        let u : least < unwrap_or (old k) top = subst (λ (z : EntryKey). least < unwrap_or (old z) top) (same_entry-sound key k t) h in
        rw e (omega (arith, u))
    | inr f ↦ let e : new k ≡ old k = is k ∙ rw f refl in rw e (omega arith)
  ];
  low = λ k c. elim (has_from (key ∷ []) k c) [
    | inl e ↦ let t : same_entry key k ≡ true = subst (λ (z : EntryKey). same_entry key z ≡ true) e (same_entry-refl key) in let n : new k ≡ Some least = is k ∙ rw t refl in rw n (omega arith)
    | inr n ↦ absurd n
  ];
  only = λ k. elim (cases (same_entry key k)) [
    | inl t ↦ let e : new k ≡ Some least = is k ∙ rw t refl in inr (contains_from (key ∷ []) k (inl (same_entry-sound key k t)), rw e refl)
    | inr f ↦ let e : new k ≡ old k = is k ∙ rw f refl in inl (rw e refl)
  ];
}

-- where none is above a label, all stay as they are
pub lowers_low : (before : List EntryKey) (least : ℕ) (old : EntryKey → ℕ) → ((k : EntryKey) → old k ≤ least) → Lowers before least old old
lowers_low before least old h = record { falls = λ k. omega arith; low = λ k c. h k; only = λ k. inl refl }

pub lowers_none : (least : ℕ) (old : EntryKey → ℕ) → Lowers [] least old old
lowers_none least old = record { falls = λ k. omega arith; low = λ k c. absurd (has_from [] k c); only = λ k. inl refl }

pub lowers_more : (xs ys : List EntryKey) (least : ℕ) (old mid new : EntryKey → ℕ) → Lowers xs least old mid → Lowers ys least mid new → Lowers (xs ++ ys) least old new
lowers_more xs ys least old mid new a b = record {
  falls = λ k. (let u = a.falls k in let v = b.falls k in omega (arith, u, v));
  low = λ k c. elim (has_either xs ys k (has_from (xs ++ ys) k c)) [
    | inl h ↦ let u = a.low k (contains_from xs k h) in let v = b.falls k in omega (arith, u, v)
    | inr h ↦ b.low k (contains_from ys k h)
  ];
  only = λ k. elim (b.only k) [
    | inl e ↦ elim (a.only k) [ inl f ↦ inl (e ∙ f) | inr f ↦ inr (contains_from (xs ++ ys) k (has_left xs ys k (has_from xs k f.0)), e ∙ f.1) ]
    | inr e ↦ inr (contains_from (xs ++ ys) k (has_right xs ys k (has_from ys k e.0)), e.1)
  ];
}

pub lowers_next : (before : List EntryKey) (i : ℕ) (d : EntryKey) (least : ℕ) (old mid new : EntryKey → ℕ) → i < length before → Lowers (take i before) least old mid → Lowers (get_or before i d ∷ []) least mid new
    → Lowers (take (i + 1) before) least old new
lowers_next before i d least old mid new h a b = rw (take_more before i d h) (lowers_more (take i before) (get_or before i d ∷ []) least old mid new a b)

-- ---- the pass that labels

module _ {E : Type 0} where
  -- labels after some of the nodes, from the last on
  pub record SoFar (g late : Graph E) (chain : List E) (label : E → ℕ) : Type 0 where
    pub rises : (x : E × List E) → Has late x → (a : E) → Has x.1 a → label a ≤ label x.0
    pub from : (k : E) → (label k ≡ length chain) ⊎ ((j : ℕ) × (j < length chain) × (label k ≡ j) × ((d : E) → (get_or chain j d ≡ k) ⊎ Reaches g k (get_or chain j d)))
    pub own : (i : ℕ) (d : E) → i < length chain → label (get_or chain i d) ≤ i

  has_node : (g : Graph E) (x : E × List E) → Has g x → Has (nodes g) x.0
  has_node g x h = has_map (λ (p : E × List E). p.0) g x h

  -- a node before a later part
  ahead : (us late : Graph E) (x y : E × List E) → Has late y → Before (nodes (us ++ x ∷ late)) x.0 y.0
  ahead [] late x y h = inl (refl, contains_from (nodes late) y.0 (has_node late y h))
  ahead (u ∷ us) late x y h = inr (ahead us late x y h)

  pub so_far_next : (g us late : Graph E) (x : E × List E) (chain : List E) (old new : E → ℕ) → NoneGoesBack g → g ≡ us ++ x ∷ late → SoFar g late chain old → Lowers x.1 (old x.0) old new → SoFar g (x ∷ late) chain new
  so_far_next g us late x chain old new forward is so low = record {
    rises = λ y h a m. elim h [
      | inl e ↦
          let n : Has x.1 a = subst (λ (z : E × List E). Has z.1 a) (sym e) m in
          let u = low.low a (contains_from x.1 a n) in
          let v : new x.0 ≡ old x.0 = elim (low.only x.0) [ inl f ↦ f | inr f ↦ f.1 ] in
          subst (λ (z : E × List E). new a ≤ new z.0) e (rw v u)
      | inr k ↦ elim (low.only y.0) [
        | inl f ↦ let u = low.falls a in let v = so.rises y k a m in rw f (omega (arith, u, v))
        | inr f ↦
            let step : Precedes g y.0 x.0 = (x.1, contains_from g x (rw is (has_right us (x ∷ late) x (inl refl))), f.0) in
            let there : Before (nodes g) x.0 y.0 = rw is (ahead us late x y k) in
            absurd (forward y.0 x.0 step there)
      ]
    ];
    from = λ k. elim (low.only k) [
      | inl e ↦ rw e (so.from k)
      | inr e ↦
          let step : Precedes g k x.0 = (x.1, contains_from g x (rw is (has_right us (x ∷ late) x (inl refl))), e.0) in
          elim (so.from x.0) [
            | inl f ↦ inl (e.1 ∙ f)
            | inr f ↦ inr (f.0, f.1, e.1 ∙ f.2, λ d. elim (f.3 d) [ inl q ↦ inr (order.last (subst (λ (z : E). Precedes g k z) (sym q) step)) | inr q ↦ inr (order.more step q) ])
          ]
    ];
    own = λ i d h. (let u = low.falls (get_or chain i d) in let v = so.own i d h in omega (arith, u, v));
  }

  pub so_far_first : (same : E → E → Bool) (sound : (a b : E) → same a b ≡ true → a ≡ b) (reflexive : (a : E) → same a a ≡ true) (g : Graph E) (chain : List E) → Once chain
      → SoFar g [] chain (λ k. unwrap_or (place_of same chain k) (length chain))
  so_far_first same sound reflexive g chain once = record {
    rises = λ x h a m. absurd h;
    from = λ k. by k (place_of same chain k) refl;
    own = λ i d h. rw (place_has same sound reflexive chain i d once h) (omega arith);
  }
    where
      by : (k : E) (o : Option ℕ) → place_of same chain k ≡ o → (unwrap_or o (length chain) ≡ length chain) ⊎ ((j : ℕ) × (j < length chain) × (unwrap_or o (length chain) ≡ j) × ((d : E) → (get_or chain j d ≡ k) ⊎ Reaches g k (get_or chain j d)))
      by k None e = inl refl
      by k (Some j) e = let r = place_some same sound reflexive chain k j e in inr (j, r.0, refl, λ d. inl (r.1 d))

  -- no label is above the last one
  pub none_above : (g late : Graph E) (chain : List E) (label : E → ℕ) → SoFar g late chain label → (k : E) → label k ≤ length chain
  none_above g late chain label so k = elim (so.from k) [ inl e ↦ omega (arith, e) | inr f ↦ let l = f.1 in let e = f.2 in omega (arith, l, e) ]

  pub so_far_all : (g : Graph E) (chain : List E) (label : E → ℕ) → SoFar g g chain label → AreLabels g chain label
  so_far_all g chain label so = record { rises = λ a b s. so.rises (b, s.0) (has_from g (b, s.0) s.1) a (has_from s.0 a s.2); from = so.from; own = so.own }

take_drop : {A : Type 0} (xs : List A) (m : ℕ) → xs ≡ take m xs ++ drop m xs
take_drop xs zero = refl
take_drop [] (suc m) = refl
take_drop (x ∷ xs) (suc m) = ap (λ ys. x ∷ ys) (take_drop xs m)

-- the loop over the nodes, from the last on
pub labels_next : (nodes : List Node) (i : ℕ) (x : Node) (before : List EntryKey) (least : ℕ) (chain : List EntryKey) (old new : EntryKey → ℕ) → i < length nodes → x ≡ get_or nodes (length nodes - 1 - i) x
    → NoneGoesBack (seen nodes) → SoFar (seen nodes) (seen (drop (length nodes - i) nodes)) chain old → before ≡ x.before.items → least ≡ old x.key → Lowers before least old new
    → SoFar (seen nodes) (seen (drop (length nodes - (i + 1)) nodes)) chain new
labels_next nodes i x before least chain old new h is forward so b l low =
    let m : ℕ = length nodes - (i + 1) in
    let this : get_or nodes m x ≡ x = ap (λ n. get_or nodes n x) (omega arith) ∙ sym is in
    let next : length nodes - i ≡ suc m = omega (arith, h) in
    let parts : drop m nodes ≡ x ∷ drop (length nodes - i) nodes = rw next (drop-cons nodes m x (omega (arith, h)) ∙ ap (λ y. y ∷ drop (suc m) nodes) this) in
    let whole : seen nodes ≡ seen (take m nodes) ++ (x.key, x.before.items) ∷ seen (drop (length nodes - i) nodes) = ap seen (take_drop nodes m) ∙ map-append {B = EntryKey × List EntryKey} (λ (n : Node). (n.key, n.before.items)) (take m nodes) (drop m nodes) ∙ ap (λ (ns : List Node). seen (take m nodes) ++ seen ns) parts in
    let lower : Lowers x.before.items (old x.key) old new = subst (λ (ks : List EntryKey). Lowers ks (old x.key) old new) b (subst (λ (n : ℕ). Lowers before n old new) l low) in
    subst (λ (ns : List Node). SoFar (seen nodes) (seen ns) chain new) (sym parts)
    (so_far_next (seen nodes) (seen (take m nodes)) (seen (drop (length nodes - i) nodes)) (x.key, x.before.items) chain old new forward whole so lower)

-- a node whose label is the last one lowers none
pub labels_same : (nodes : List Node) (i : ℕ) (x : Node) (least : ℕ) (chain : List EntryKey) (old : EntryKey → ℕ) → i < length nodes → x ≡ get_or nodes (length nodes - 1 - i) x
    → NoneGoesBack (seen nodes) → SoFar (seen nodes) (seen (drop (length nodes - i) nodes)) chain old → least ≡ old x.key → least ≡ length chain
    → SoFar (seen nodes) (seen (drop (length nodes - (i + 1)) nodes)) chain old
labels_same nodes i x least chain old h is forward so l e =
    labels_next nodes i x x.before.items least chain old old h is forward so refl l
    (lowers_low x.before.items least old (λ k. let b = none_above (seen nodes) (seen (drop (length nodes - i) nodes)) chain old so k in omega (arith, b, e)))

pub labels_first : (nodes : List Node) (chain : List EntryKey) (labels : EntryKey → Option ℕ) → order.Once chain → ((k : EntryKey) → labels k ≡ place_of same_entry chain k)
    → SoFar (seen nodes) (seen (drop (length nodes - 0) nodes)) chain (λ k. unwrap_or (labels k) (length chain))
labels_first nodes chain labels once is =
    let none : drop (length nodes - 0) nodes ≡ [] = ap (λ n. drop n nodes) (let e : length nodes - 0 ≡ length nodes = omega arith in e) ∙ drop_all nodes in
    subst (λ (ns : List Node). SoFar (seen nodes) (seen ns) chain (λ k. unwrap_or (labels k) (length chain))) (sym none)
    (subst (λ (f : EntryKey → Option ℕ). SoFar (seen nodes) [] chain (λ k. unwrap_or (f k) (length chain))) (λ i k. sym (is k) i) (so_far_first same_entry same_entry-sound same_entry-refl (seen nodes) chain (once_of chain once)))
  where
    drop_all : (ns : List Node) → drop (length ns) ns ≡ []
    drop_all [] = refl
    drop_all (n ∷ ns) = drop_all ns

pub labels_all : (nodes : List Node) (i : ℕ) (chain : List EntryKey) (label : EntryKey → ℕ) → length nodes ≤ i → SoFar (seen nodes) (seen (drop (length nodes - i) nodes)) chain label → AreLabels (seen nodes) chain label
labels_all nodes i chain label h so = so_far_all (seen nodes) chain label (subst (λ (n : ℕ). SoFar (seen nodes) (seen (drop n nodes)) chain label) (let e : length nodes - i ≡ 0 = omega (arith, h) in e) so)
