-- Leaves in clusters.
use Rattle.std.proofs.Common.{◌≡◌, ℕ, zero, suc, ◌+◌, ◌<◌, ◌≤◌, Bool, true, false, List, [], ◌∷◌, ◌++◌, length, take, get_or, set, Option, Some, None, refl, sym, ap, subst, ◌∙◌, arith, ◌⊎◌, inl, inr, Contains}
use Rattle.std.specs.Prelude.{not, ◌&&◌, ◌||◌, nat_le, nat_lt, slice_get}
use Rattle.std.specs.List.{AllByRecursion, list_any}
use Rattle.std.proofs.lemmas.Bool.{le-ltb, leb-true, ltb-true, ltb-false, or_cases, not-true}
use Rattle.std.proofs.lemmas.List.{take_all}
use Rattle.std.proofs.lemmas.Option.{slice_get_read, slice_get_within, none-some, same_Some}
use Rattle.rd_geom.specs.Plane.{Rectangle, IsWithin, meets}
use Rattle.rd_geom.proofs.Pixels.{meets_shares, shares_meets}
use Rattle.rd_graph.proofs.Lists.Listing.{Has, cases, has_from, contains_from, has_left, has_right}
use Rattle.rd_item.specs.declared.leaf.Leaf.{Leaf}
use Rattle.rd_check.specs.declared.near.Spot.{Spot}
use Rattle.rd_check.specs.declared.near.Cluster.{Cluster}
use Rattle.rd_check.specs.Internal.Finding.{Sight, row_leaf, is_later, do_meet, is_crossed, IsCrossedIn, IsFirstPair}
use Rattle.rd_check.specs.Internal.Near.{IsIn, IsCluster, IsNoted, crosses, is_far}
use Rattle.rd_check.specs.Internal.Crossing.{spot_by, spot_in, IsEntered, AreEntered}
use Rattle.rd_check.specs.Verdicts.{IsFirst, Never}
use Rattle.rd_check.proofs.Searching.{front_more}

-- ---- tests of lists

module _ {A : Type 0} where
  pub all_at : (P : A → Type 0) (xs : List A) (i : ℕ) (x : A) → AllByRecursion P xs → i < length xs → x ≡ get_or xs i x → P x
  all_at P [] i x a h e = absurd (omega (arith, h))
  all_at P (y ∷ ys) zero x a h e = subst P (sym e) a.0
  all_at P (y ∷ ys) (suc i) x a h e = all_at P ys i x a.1 (omega (arith, h)) e

  pub all_set : (P : A → Type 0) (xs : List A) (i : ℕ) (y : A) → AllByRecursion P xs → P y → AllByRecursion P (set xs i y)
  all_set P [] i y a p = tt
  all_set P (x ∷ xs) zero y a p = (p, a.1)
  all_set P (x ∷ xs) (suc i) y a p = (a.0, all_set P xs i y a.1 p)

  pub all_put : (P : A → Type 0) (xs : List A) (y : A) → AllByRecursion P xs → P y → AllByRecursion P (xs ++ y ∷ [])
  all_put P [] y a p = (p, tt)
  all_put P (x ∷ xs) y a p = (a.0, all_put P xs y a.1 p)

  module _ (f : A → Bool) where
    or_right : (a b : Bool) → b ≡ true → (a || b) ≡ true
    or_right true b h = refl
    or_right false b h = h

    or_left : (a b : Bool) → a ≡ true → (a || b) ≡ true
    or_left true b h = refl
    or_left false b h = absurd cc

    any_one : (xs : List A) (i : ℕ) (x : A) → slice_get xs i ≡ Some x → f x ≡ true → list_any f xs ≡ true
    any_one [] i x e t = absurd (none-some x e)
    any_one (y ∷ ys) zero x e t = or_left (f y) (list_any f ys) (ap f (same_Some y x e) ∙ t)
    any_one (y ∷ ys) (suc i) x e t = or_right (f y) (list_any f ys) (any_one ys i x e t)

    pub any_here : (xs : List A) (i : ℕ) (x : A) → i < length xs → x ≡ get_or xs i x → f x ≡ true → true ≡ list_any f xs
    any_here xs i x h e t = sym (any_one xs i x (slice_get_read xs (length xs) i x refl h e) t)

    none_put : (xs : List A) (x : A) → list_any f xs ≡ false → f x ≡ false → list_any f (xs ++ x ∷ []) ≡ false
    none_put [] x h t = ap (λ (b : Bool). b || false) t
    none_put (y ∷ ys) x h t = by_test (f y) refl (λ r. none_put ys x r t)
      where
        by_test : (b : Bool) → f y ≡ b → (list_any f ys ≡ false → list_any f (ys ++ x ∷ []) ≡ false) → (f y || list_any f (ys ++ x ∷ [])) ≡ false
        by_test true e k = let no : true ≡ false = sym (or_left (f y) (list_any f ys) e) ∙ h in absurd cc
        by_test false e k =
            let rest : list_any f ys ≡ false = ap (λ (b : Bool). b || list_any f ys) (sym e) ∙ h in
            ap (λ (b : Bool). b || list_any f (ys ++ x ∷ [])) e ∙ k rest

    pub none_on : (xs : List A) (i : ℕ) (x : A) → i < length xs → x ≡ get_or xs i x → list_any f (take i xs) ≡ false → f x ≡ false → list_any f (take (i + 1) xs) ≡ false
    none_on xs i x h e was t = ap (list_any f) (front_more xs i x h e) ∙ none_put (take i xs) x was t

    pub none_whole : (xs : List A) (i : ℕ) → list_any f (take i xs) ≡ false → length xs ≤ i → false ≡ list_any f xs
    none_whole xs i was past = sym (ap (list_any f) (sym (take_all i xs past)) ∙ was)

    all_none : (xs : List A) → AllByRecursion (λ x. f x ≡ false) xs → list_any f xs ≡ false
    all_none [] a = refl
    all_none (x ∷ xs) a = ap (λ (b : Bool). b || list_any f xs) a.0 ∙ all_none xs a.1

    none_has : (xs : List A) (x : A) → list_any f xs ≡ false → Has xs x → f x ≡ false
    none_has [] x h m = absurd m
    none_has (y ∷ ys) x h m = by_test (f y) refl m (λ r k. none_has ys x r k)
      where
        by_test : (b : Bool) → f y ≡ b → (y ≡ x) ⊎ Has ys x → (list_any f ys ≡ false → Has ys x → f x ≡ false) → f x ≡ false
        by_test true e m n = let no : true ≡ false = sym (or_left (f y) (list_any f ys) e) ∙ h in absurd cc
        by_test false e (inl k) n = ap f (sym k) ∙ e
        by_test false e (inr k) n = n (ap (λ (b : Bool). b || list_any f ys) (sym e) ∙ h) k

-- ---- clusters

in_wider : (h k : Rectangle) (n m : ℕ) (ss : List Spot) → IsWithin h k → n ≤ m → AllByRecursion (IsIn h n) ss → AllByRecursion (IsIn k m) ss
in_wider h k n m [] w l a = tt
in_wider h k n m (s ∷ ss) w l a =
    let most = a.0.most in
    (record { within = λ x y p. w x y (a.0.within x y p); most = omega (arith, most, l) }, in_wider h k n m ss w l a.1)

-- a cluster with one leaf more
pub cluster_more : (b c : Cluster) (s : Spot) → IsCluster b → IsWithin b.hull c.hull → IsWithin s.seen c.hull → b.greatest ≤ c.greatest → s.place ≤ c.greatest
    → c.spots.items ≡ b.spots.items ++ s ∷ [] → IsCluster c
cluster_more b c s a w v l m e =
    subst (λ (z : List Spot). AllByRecursion (IsIn c.hull c.greatest) z) (sym e)
    (all_put (IsIn c.hull c.greatest) b.spots.items s (in_wider b.hull c.hull b.greatest c.greatest b.spots.items w l a) (record { within = v; most = m }))

pub cluster_none : (b : Cluster) → b.spots.items ≡ [] → IsCluster b
cluster_none b e = subst (λ (z : List Spot). AllByRecursion (IsIn b.hull b.greatest) z) (sym e) tt

-- the cluster of one leaf
pub cluster_one : (e b : Cluster) (s : Spot) → e.spots.items ≡ [] → b.spots.items ≡ e.spots.items ++ s ∷ [] → b.spots.items ≡ s ∷ []
cluster_one e b s n p = p ∙ ap (λ (z : List Spot). z ++ s ∷ []) n

pub clusters_put : (bs next : List Cluster) (b : Cluster) → AllByRecursion IsCluster bs → IsCluster b → next ≡ bs ++ b ∷ [] → AllByRecursion IsCluster next
clusters_put bs next b a s e = subst (λ (z : List Cluster). AllByRecursion IsCluster z) (sym e) (all_put IsCluster bs b a s)

module _ (seen : Rectangle) (place : ℕ) where
  lower_all : (h : Rectangle) (n : ℕ) (ss : List Spot) → AllByRecursion (IsIn h n) ss → n ≤ place → AllByRecursion (λ s. crosses seen place s ≡ false) ss
  lower_all h n [] a l = tt
  lower_all h n (s ∷ ss) a l =
      let most = a.0.most in
      let f : nat_lt place s.place ≡ false = le-ltb place s.place (omega (arith, most, l)) in
      (ap (λ (b : Bool). b && meets s.seen seen) f, lower_all h n ss a.1 l)

  pub none_greater : (b : Cluster) → IsCluster b → b.greatest ≤ place → false ≡ list_any (crosses seen place) b.spots.items
  none_greater b a l = sym (all_none (crosses seen place) b.spots.items (lower_all b.hull b.greatest b.spots.items a l))

  off_one : (h : Rectangle) (s : Spot) → IsWithin s.seen h → meets h seen ≡ false → meets s.seen seen ≡ false
  off_one h s w f = by_test (meets s.seen seen) refl
    where
      by_test : (t : Bool) → meets s.seen seen ≡ t → t ≡ false
      by_test false e = refl
      by_test true e =
          let p = meets_shares s.seen seen e in
          let q : meets h seen ≡ true = shares_meets h seen (record { x = p.x; y = p.y; first = w p.x p.y p.first; second = p.second }) in
          let no : true ≡ false = sym q ∙ f in
          absurd cc

  and_false : (a b : Bool) → b ≡ false → (a && b) ≡ false
  and_false true b h = h
  and_false false b h = refl

  off_all : (h : Rectangle) (n : ℕ) (ss : List Spot) → AllByRecursion (IsIn h n) ss → meets h seen ≡ false → AllByRecursion (λ s. crosses seen place s ≡ false) ss
  off_all h n [] a f = tt
  off_all h n (s ∷ ss) a f = (and_false (nat_lt place s.place) (meets s.seen seen) (off_one h s a.0.within f), off_all h n ss a.1 f)

  pub none_near : (b : Cluster) → IsCluster b → meets b.hull seen ≡ false → false ≡ list_any (crosses seen place) b.spots.items
  none_near b a f = sym (all_none (crosses seen place) b.spots.items (off_all b.hull b.greatest b.spots.items a f))

  pub far_none : (b : Cluster) → IsCluster b → is_far seen place b ≡ true → false ≡ list_any (crosses seen place) b.spots.items
  far_none b a t = elim (or_cases (nat_le b.greatest place) (not (meets b.hull seen)) t) [
    | inl l ↦ none_greater b a (leb-true b.greatest place l)
    | inr n ↦ none_near b a (not-true (meets b.hull seen) n)
  ]

  -- none of the leaves in the clusters so far
  abbrev pub CrossesNone : List Cluster → Type 0
  CrossesNone bs = (s : Spot) → IsNoted s bs → crosses seen place s ≡ false

  noted_either : (bs : List Cluster) (b : Cluster) (s : Spot) → IsNoted s (bs ++ b ∷ []) → IsNoted s bs ⊎ Contains b.spots.items s
  noted_either [] b s (inl c) = inr c
  noted_either [] b s (inr n) = absurd n
  noted_either (x ∷ bs) b s (inl c) = inl (inl c)
  noted_either (x ∷ bs) b s (inr n) = elim (noted_either bs b s n) [ inl m ↦ inl (inr m) | inr m ↦ inr m ]

  pub crosses_none_on : (bs : List Cluster) (i : ℕ) (b : Cluster) → i < length bs → b ≡ get_or bs i b → CrossesNone (take i bs) → list_any (crosses seen place) b.spots.items ≡ false → CrossesNone (take (i + 1) bs)
  crosses_none_on bs i b h e was f = λ s n.
      let k : IsNoted s (take i bs ++ b ∷ []) = subst (λ (z : List Cluster). IsNoted s z) (front_more bs i b h e) n in
      elim (noted_either (take i bs) b s k) [
        | inl m ↦ was s m
        | inr c ↦ none_has (crosses seen place) b.spots.items s f (has_from b.spots.items s c)
      ]

  pub crosses_none_all : (bs : List Cluster) (i : ℕ) → CrossesNone (take i bs) → length bs ≤ i → CrossesNone bs
  crosses_none_all bs i was past = λ s n. was s (subst (λ (z : List Cluster). IsNoted s z) (sym (take_all i bs past)) n)

-- ---- a leaf more in the clusters

pub spot_kept : (b c : List Spot) (s t : Spot) → c ≡ b ++ s ∷ [] → Contains b t → Contains c t
spot_kept b c s t e h = subst (λ (z : List Spot). Contains z t) (sym e) (contains_from (b ++ s ∷ []) t (has_left b (s ∷ []) t (has_from b t h)))

pub spot_new : (b c : List Spot) (s : Spot) → c ≡ b ++ s ∷ [] → Contains c s
spot_new b c s e = subst (λ (z : List Spot). Contains z s) (sym e) (contains_from (b ++ s ∷ []) s (has_right b (s ∷ []) s (inl refl)))

pub noted_set : (bs : List Cluster) (i : ℕ) (x y : Cluster) (s : Spot) → i < length bs → x ≡ get_or bs i x → y.spots.items ≡ x.spots.items ++ s ∷ []
    → IsNoted s (set bs i y) × ((t : Spot) → IsNoted t bs → IsNoted t (set bs i y))
noted_set [] i x y s h e p = absurd (omega (arith, h))
noted_set (b ∷ bs) zero x y s h e p = (
  inl (spot_new x.spots.items y.spots.items s p),
  λ t n. elim n [
    | inl c ↦ inl (spot_kept x.spots.items y.spots.items s t p (subst (λ (z : Cluster). Contains z.spots.items t) (sym e) c))
    | inr m ↦ inr m
  ],
)
noted_set (b ∷ bs) (suc i) x y s h e p =
    let r = noted_set bs i x y s (omega (arith, h)) e p in
    (inr r.0, λ t n. elim n [ inl c ↦ inl c | inr m ↦ inr (r.1 t m) ])

pub noted_put : (bs : List Cluster) (y : Cluster) (s : Spot) → Contains y.spots.items s → IsNoted s (bs ++ y ∷ []) × ((t : Spot) → IsNoted t bs → IsNoted t (bs ++ y ∷ []))
noted_put [] y s c = (inl c, λ t n. absurd n)
noted_put (b ∷ bs) y s c =
    let r = noted_put bs y s c in
    (inr r.0, λ t n. elim n [ inl k ↦ inl k | inr m ↦ inr (r.1 t m) ])

-- ---- crossed entries

later_none : (o : Option ℕ) → is_later o None ≡ false
later_none None = refl
later_none (Some p) = refl

meet_none : (o : Option Leaf) → do_meet o None ≡ false
meet_none None = refl
meet_none (Some a) = refl

and_none : (a b : Bool) → b ≡ false → (a && b) ≡ false
and_none true b h = h
and_none false b h = refl

-- what has no spot is not crossed
pub upper_none : (s t : Sight) → spot_in t ≡ None → is_crossed s t ≡ false
upper_none s t e = by_parts (row_leaf t.0) t.1 refl refl e
  where
    by_parts : (l : Option Leaf) (o : Option ℕ) → row_leaf t.0 ≡ l → t.1 ≡ o → spot_by l o ≡ None → is_crossed s t ≡ false
    by_parts None o p q f = and_none (is_later s.1 t.1) (do_meet (row_leaf s.0) (row_leaf t.0)) (ap (do_meet (row_leaf s.0)) p ∙ meet_none (row_leaf s.0))
    by_parts (Some l) None p q f =
        ap (λ (z : Option ℕ). is_later s.1 z && do_meet (row_leaf s.0) (row_leaf t.0)) q
        ∙ ap (λ (b : Bool). b && do_meet (row_leaf s.0) (row_leaf t.0)) (later_none s.1)
    by_parts (Some l) (Some n) p q f = absurd (none-some _ (sym f))

-- one that is no spot in the clusters crosses none
pub not_crossed : (bs : List Cluster) (s t : Sight) (spot : Spot) → spot_in t ≡ Some spot → CrossesNone spot.seen spot.place bs → IsEntered bs s → is_crossed s t ≡ false
not_crossed bs s t spot e none n = by_parts (row_leaf s.0) s.1 (row_leaf t.0) t.1 refl refl refl refl e
  where
    by_parts : (k : Option Leaf) (m : Option ℕ) (l : Option Leaf) (o : Option ℕ) → row_leaf s.0 ≡ k → s.1 ≡ m → row_leaf t.0 ≡ l → t.1 ≡ o → spot_by l o ≡ Some spot → is_crossed s t ≡ false
    by_parts k m None o a b c d f = absurd (none-some spot f)
    by_parts k m (Some l) None a b c d f = absurd (none-some spot f)
    by_parts None m (Some l) (Some q) a b c d f =
        and_none (is_later s.1 t.1) (do_meet (row_leaf s.0) (row_leaf t.0)) (ap (λ (z : Option Leaf). do_meet z (row_leaf t.0)) a)
    by_parts (Some k) None (Some l) (Some q) a b c d f =
        ap (λ (z : Option ℕ). is_later z t.1 && do_meet (row_leaf s.0) (row_leaf t.0)) b
    by_parts (Some k) (Some p) (Some l) (Some q) a b c d f =
        let other : Spot = record { seen = k.visible; place = p } in
        let here : spot_in s ≡ Some other = ap (λ (z : Option Leaf). spot_by z s.1) a ∙ ap (λ (z : Option ℕ). spot_by (Some k) z) b in
        let is : record { seen = l.visible; place = q } ≡ spot = same_Some (record { seen = l.visible; place = q }) spot f in
        let no : crosses spot.seen spot.place other ≡ false = none other (n other here) in
        ap (λ (z : Option ℕ). is_later z t.1 && do_meet (row_leaf s.0) (row_leaf t.0)) b
        ∙ ap (λ (z : Option ℕ). is_later (Some p) z && do_meet (row_leaf s.0) (row_leaf t.0)) d
        ∙ ap (λ (z : Option Leaf). is_later (Some p) (Some q) && do_meet z (row_leaf t.0)) a
        ∙ ap (λ (z : Option Leaf). is_later (Some p) (Some q) && do_meet (Some k) z) c
        ∙ ap (λ (z : Spot). crosses z.seen z.place other) is
        ∙ no

-- ---- the first two

-- what is in the clusters stays there
pub entered_more : (bs next : List Cluster) → ((t : Spot) → IsNoted t bs → IsNoted t next) → (s : Sight) → IsEntered bs s → IsEntered next s
entered_more bs next kept s n spot e = kept spot (n spot e)

pub entered_on : (bs next : List Cluster) (sights : List Sight) (j : ℕ) (s : Sight) → AreEntered bs sights j → slice_get sights j ≡ Some s → AllByRecursion IsCluster next
    → IsEntered next s → ((t : Sight) → IsEntered bs t → IsEntered next t) → AreEntered next sights (j + 1)
entered_on bs next sights j s a here sound new kept = record {
  clusters = sound;
  entered = λ i t below at. by_place i t (cases (nat_lt i j)) below at;
}
  where
    by_place : (i : ℕ) (t : Sight) → (nat_lt i j ≡ true) ⊎ (nat_lt i j ≡ false) → i < j + 1 → slice_get sights i ≡ Some t → IsEntered next t
    by_place i t (inl l) below at = kept t (a.entered i t (ltb-true i j l) at)
    by_place i t (inr l) below at =
        let past = ltb-false i j l in
        let is : j ≡ i = omega (arith, past, below) in
        let same : s ≡ t = same_Some s t (sym here ∙ ap (slice_get sights) is ∙ at) in
        subst (λ (z : Sight). IsEntered next z) same new

-- no pair so far has its second before place j
abbrev pub NoPair : List Sight → ℕ → Type 0
NoPair sights j = (a b : ℕ) → b < j → IsCrossedIn sights a b → ⊥

pub pair_none : (sights : List Sight) → NoPair sights 0
pair_none sights a b h c = omega (arith, h)

pub pair_on : (sights : List Sight) (j : ℕ) → NoPair sights j → Never (λ i. IsCrossedIn sights i j) → NoPair sights (j + 1)
pair_on sights j n none a b below c = by_place (cases (nat_lt b j))
  where
    by_place : (nat_lt b j ≡ true) ⊎ (nat_lt b j ≡ false) → ⊥
    by_place (inl l) = n a b (ltb-true b j l) c
    by_place (inr l) =
        let past = ltb-false b j l in
        let is : b ≡ j = omega (arith, past, below) in
        none a (subst (λ (z : ℕ). IsCrossedIn sights a z) is c)

pub pair_here : (sights : List Sight) (i j : ℕ) → NoPair sights j → IsFirst (λ i. IsCrossedIn sights i j) i → IsFirstPair (IsCrossedIn sights) i j
pair_here sights i j n f = record { crossed = f.holds; second = n; first = f.least }

pub pair_all : (sights : List Sight) (j n : ℕ) → NoPair sights j → n ≤ j → length sights ≡ n → (a b : ℕ) → IsCrossedIn sights a b → ⊥
pair_all sights j n none past size a b c =
    let w = slice_get_within sights b c.upper c.upper_at in
    none a b (omega (arith, w, past, size)) c

-- where none of those before is crossed with one
pub none_crossed : (bs : List Cluster) (sights : List Sight) (j : ℕ) (s : Sight) → AreEntered bs sights j → slice_get sights j ≡ Some s
    → ((t : Sight) → IsEntered bs t → is_crossed t s ≡ false) → Never (λ i. IsCrossedIn sights i j)
none_crossed bs sights j s a at none i c =
    let is : c.upper ≡ s = same_Some c.upper s (sym c.upper_at ∙ at) in
    let no : true ≡ false = sym c.crossed ∙ ap (is_crossed c.lower) is ∙ none c.lower (a.entered i c.lower c.below c.lower_at) in
    absurd cc

-- a new cluster on top of the others
pub noted_on : (bs next : List Cluster) (b : Cluster) (s : Spot) → b.spots.items ≡ s ∷ [] → next ≡ bs ++ b ∷ [] → IsNoted s next × ((t : Spot) → IsNoted t bs → IsNoted t next)
noted_on bs next b s one e =
    let r = noted_put bs b s (subst (λ (z : List Spot). Contains z s) (sym one) (contains_from (s ∷ []) s (inl refl))) in
    (subst (λ (z : List Cluster). IsNoted s z) (sym e) r.0, λ t n. subst (λ (z : List Cluster). IsNoted t z) (sym e) (r.1 t n))
