-- The places of a level's entries that go, and of the groups to go into.
use Rattle.std.proofs.Common.{◌≡◌, refl, ap, ◌∙◌, sym, subst, ℕ, zero, suc, ◌<◌, ◌≤◌, Bool, true, false, not, ◌&&◌, List, [], ◌∷◌, ◌++◌, length, take, drop, get_or, arith, inl, inr, ◌⊎◌}
use Rattle.std.specs.Prelude.{map, if◌then◌else◌}
use Rattle.rd_graph.specs.Gathered.{gathered}
use Rattle.rd_graph.specs.Names.{is_in}
use Rattle.rd_graph.specs.Patches.{AreRising}
use Rattle.rd_graph.proofs.Lists.Listing.{Has, Once, cases}
use Rattle.rd_list.specs.Entries.{Entries, nil, leaf, group}
use Rattle.rd_list.specs.Levels.{Names, keys}
use Rattle.rd_merge.specs.Going.{any_stays, gone_keys}
use Rattle.rd_merge.specs.Looking.{any_goes, gone_places, inner_places}

-- ---- places that rise

-- each is at least this much, and greater than the one before
abbrev pub RisesFrom : ℕ → List ℕ → Type 0
RisesFrom b [] = Unit {0}
RisesFrom b (p ∷ ps) = (b ≤ p) × RisesFrom (suc p) ps

-- each is less than this
abbrev pub AreBelow : ℕ → List ℕ → Type 0
AreBelow n [] = Unit {0}
AreBelow n (p ∷ ps) = (p < n) × AreBelow n ps

pub rises_lower : (b c : ℕ) (ps : List ℕ) → c ≤ b → RisesFrom b ps → RisesFrom c ps
rises_lower b c [] l h = tt
rises_lower b c (p ∷ ps) l h = let k = h.0 in (omega (arith, l, k), h.1)

rises_least : (b : ℕ) (ps : List ℕ) (k : ℕ) → RisesFrom b ps → k < length ps → b ≤ get_or ps k 0
rises_least b [] k h l = absurd (omega (arith, l))
rises_least b (p ∷ ps) zero h l = h.0
rises_least b (p ∷ ps) (suc k) h l = let r = rises_least (suc p) ps k h.1 (omega (arith, l)) in let q = h.0 in omega (arith, r, q)

pub rising : (b : ℕ) (ps : List ℕ) → RisesFrom b ps → AreRising ps
rising b [] h j k l m = absurd (omega (arith, m))
rising b (p ∷ ps) h j zero l m = absurd (omega (arith, l))
rising b (p ∷ ps) h zero (suc k) l m = let r = rises_least (suc p) ps k h.1 (omega (arith, m)) in omega (arith, r)
rising b (p ∷ ps) h (suc j) (suc k) l m = rising (suc p) ps h.1 j k (omega (arith, l)) (omega (arith, m))

rises_has : (b : ℕ) (ps : List ℕ) (i : ℕ) → RisesFrom b ps → Has ps i → b ≤ i
rises_has b [] i h k = absurd k
rises_has b (p ∷ ps) i h (inl e) = let q = h.0 in omega (arith, q, e)
rises_has b (p ∷ ps) i h (inr k) = let r = rises_has (suc p) ps i h.1 k in let q = h.0 in omega (arith, r, q)

pub rising_once : (b : ℕ) (ps : List ℕ) → RisesFrom b ps → Once ps
rising_once b [] h = tt
rising_once b (p ∷ ps) h = ((λ k. let r = rises_has (suc p) ps p h.1 k in absurd (omega (arith, r))), rising_once (suc p) ps h.1)

pub below_at : (n : ℕ) (ps : List ℕ) (k : ℕ) → AreBelow n ps → k < length ps → get_or ps k 0 < n
below_at n [] k h l = absurd (omega (arith, l))
below_at n (p ∷ ps) zero h l = h.0
below_at n (p ∷ ps) (suc k) h l = below_at n ps k h.1 (omega (arith, l))

pub below_has : (n : ℕ) (ps : List ℕ) (i : ℕ) → AreBelow n ps → Has ps i → i < n
below_has n [] i h k = absurd k
below_has n (p ∷ ps) i h (inl e) = subst (λ (z : ℕ). z < n) e h.0
below_has n (p ∷ ps) i h (inr k) = below_has n ps i h.1 k

-- ---- places one further on

shifted : {T : Type 0} (ps : List ℕ) (x : T) (xs : List T) → gathered (map suc ps) (x ∷ xs) ≡ gathered ps xs
shifted [] x xs = refl
shifted (p ∷ ps) x xs = ap (λ zs. take 1 (drop p xs) ++ zs) (shifted ps x xs)

rises_next : (b : ℕ) (ps : List ℕ) → RisesFrom b ps → RisesFrom (suc b) (map suc ps)
rises_next b [] h = tt
rises_next b (p ∷ ps) h = let q = h.0 in (omega (arith, q), rises_next (suc p) ps h.1)

below_next : (n : ℕ) (ps : List ℕ) → AreBelow n ps → AreBelow (suc n) (map suc ps)
below_next n [] h = tt
below_next n (p ∷ ps) h = let q = h.0 in (omega (arith, q), below_next n ps h.1)

-- a group with its list, at a level
module _ {G L : Type 0} where
  abbrev pub HasGroup : Entries G L → G → Entries G L → Type 0
  HasGroup nil g i = ⊥
  HasGroup (leaf l rest) g i = HasGroup rest g i
  HasGroup (group h j rest) g i = ((h ≡ g) × (j ≡ i)) ⊎ HasGroup rest g i

module _ {E G L : Type 0} (n : Names E G L) (stays : L → Bool) where
  -- ---- places of what goes

  gone_next : (i : ℕ) (xs : Entries G L) → gone_places n stays (suc i) xs ≡ map suc (gone_places n stays i xs)
  gone_next i nil = refl
  gone_next i (leaf l xs) = elim (cases (stays l)) [ inl t ↦ rw t (gone_next (suc i) xs) | inr f ↦ rw f (ap (λ ps. suc i ∷ ps) (gone_next (suc i) xs)) ]
  gone_next i (group g inner xs) = elim (cases (any_stays n stays inner)) [ inl t ↦ rw t (gone_next (suc i) xs) | inr f ↦ rw f (ap (λ ps. suc i ∷ ps) (gone_next (suc i) xs)) ]

  rest_gathered : {T : Type 0} (x : T) (zs : List T) (xs : Entries G L) → gathered (gone_places n stays 1 xs) (x ∷ zs) ≡ gathered (gone_places n stays 0 xs) zs
  rest_gathered x zs xs = ap (λ ps. gathered ps (x ∷ zs)) (gone_next 0 xs) ∙ shifted (gone_places n stays 0 xs) x zs

  -- the names at these places are those that go
  pub gone_gathered : (xs : Entries G L) → gathered (gone_places n stays 0 xs) (keys n xs) ≡ gone_keys n stays xs
  gone_gathered nil = refl
  gone_gathered (leaf l xs) = elim (cases (stays l)) [
    | inl t ↦ rw t (rest_gathered (n.leaf l) (keys n xs) xs ∙ gone_gathered xs)
    | inr f ↦ rw f (ap (λ ks. n.leaf l ∷ ks) (rest_gathered (n.leaf l) (keys n xs) xs ∙ gone_gathered xs))
  ]
  gone_gathered (group g inner xs) = elim (cases (any_stays n stays inner)) [
    | inl t ↦ rw t (rest_gathered (n.group g) (keys n xs) xs ∙ gone_gathered xs)
    | inr f ↦ rw f (ap (λ ks. n.group g ∷ ks) (rest_gathered (n.group g) (keys n xs) xs ∙ gone_gathered xs))
  ]

  pub gone_rises : (i : ℕ) (xs : Entries G L) → RisesFrom i (gone_places n stays i xs)
  gone_rises i nil = tt
  gone_rises i (leaf l xs) = elim (cases (stays l)) [
    | inl t ↦ rw t (rises_lower (suc i) i (gone_places n stays (suc i) xs) (omega arith) (gone_rises (suc i) xs))
    | inr f ↦ rw f (omega arith, gone_rises (suc i) xs)
  ]
  gone_rises i (group g inner xs) = elim (cases (any_stays n stays inner)) [
    | inl t ↦ rw t (rises_lower (suc i) i (gone_places n stays (suc i) xs) (omega arith) (gone_rises (suc i) xs))
    | inr f ↦ rw f (omega arith, gone_rises (suc i) xs)
  ]

  pub gone_below : (xs : Entries G L) → AreBelow (length (keys n xs)) (gone_places n stays 0 xs)
  gone_below nil = tt
  gone_below (leaf l xs) =
      let next = subst (λ (ps : List ℕ). AreBelow (suc (length (keys n xs))) ps) (sym (gone_next 0 xs)) (below_next (length (keys n xs)) (gone_places n stays 0 xs) (gone_below xs)) in
      elim (cases (stays l)) [ inl t ↦ rw t next | inr f ↦ rw f (omega arith, next) ]
  gone_below (group g inner xs) =
      let next = subst (λ (ps : List ℕ). AreBelow (suc (length (keys n xs))) ps) (sym (gone_next 0 xs)) (below_next (length (keys n xs)) (gone_places n stays 0 xs) (gone_below xs)) in
      elim (cases (any_stays n stays inner)) [ inl t ↦ rw t next | inr f ↦ rw f (omega arith, next) ]

  -- ---- places of the groups to go into

  module _ (names : List E) where
    abbrev pub is_inner : G → Entries G L → Bool
    is_inner g inner = any_stays n stays inner && not (is_in n.same names (n.group g)) && any_goes n stays inner

    -- their names
    abbrev pub inner_keys : Entries G L → List E
    inner_keys nil = []
    inner_keys (leaf l rest) = inner_keys rest
    inner_keys (group g inner rest) = if is_inner g inner then n.group g ∷ inner_keys rest else inner_keys rest

    pub inner_next : (i : ℕ) (xs : Entries G L) → inner_places n stays names (suc i) xs ≡ map suc (inner_places n stays names i xs)
    inner_next i nil = refl
    inner_next i (leaf l xs) = inner_next (suc i) xs
    inner_next i (group g inner xs) = elim (cases (is_inner g inner)) [ inl t ↦ rw t (ap (λ ps. suc i ∷ ps) (inner_next (suc i) xs)) | inr f ↦ rw f (inner_next (suc i) xs) ]

    inner_rest : {T : Type 0} (x : T) (zs : List T) (xs : Entries G L) → gathered (inner_places n stays names 1 xs) (x ∷ zs) ≡ gathered (inner_places n stays names 0 xs) zs
    inner_rest x zs xs = ap (λ ps. gathered ps (x ∷ zs)) (inner_next 0 xs) ∙ shifted (inner_places n stays names 0 xs) x zs

    pub inner_gathered : (xs : Entries G L) → gathered (inner_places n stays names 0 xs) (keys n xs) ≡ inner_keys xs
    inner_gathered nil = refl
    inner_gathered (leaf l xs) = inner_rest (n.leaf l) (keys n xs) xs ∙ inner_gathered xs
    inner_gathered (group g inner xs) = elim (cases (is_inner g inner)) [
      | inl t ↦ rw t (ap (λ ks. n.group g ∷ ks) (inner_rest (n.group g) (keys n xs) xs ∙ inner_gathered xs))
      | inr f ↦ rw f (inner_rest (n.group g) (keys n xs) xs ∙ inner_gathered xs)
    ]

    pub inner_rises : (i : ℕ) (xs : Entries G L) → RisesFrom i (inner_places n stays names i xs)
    inner_rises i nil = tt
    inner_rises i (leaf l xs) = rises_lower (suc i) i (inner_places n stays names (suc i) xs) (omega arith) (inner_rises (suc i) xs)
    inner_rises i (group g inner xs) = elim (cases (is_inner g inner)) [
      | inl t ↦ rw t (omega arith, inner_rises (suc i) xs)
      | inr f ↦ rw f (rises_lower (suc i) i (inner_places n stays names (suc i) xs) (omega arith) (inner_rises (suc i) xs))
    ]

    pub inner_below : (xs : Entries G L) → AreBelow (length (keys n xs)) (inner_places n stays names 0 xs)
    inner_below nil = tt
    inner_below (leaf l xs) = subst (λ (ps : List ℕ). AreBelow (suc (length (keys n xs))) ps) (sym (inner_next 0 xs)) (below_next (length (keys n xs)) (inner_places n stays names 0 xs) (inner_below xs))
    inner_below (group g inner xs) =
        let next = subst (λ (ps : List ℕ). AreBelow (suc (length (keys n xs))) ps) (sym (inner_next 0 xs)) (below_next (length (keys n xs)) (inner_places n stays names 0 xs) (inner_below xs)) in
        elim (cases (is_inner g inner)) [ inl t ↦ rw t (omega arith, next) | inr f ↦ rw f next ]

    -- a group of the level that is one to go into has its name among theirs
    pub inner_named : (xs : Entries G L) (g : G) (i : Entries G L) → HasGroup xs g i → is_inner g i ≡ true → Has (inner_keys xs) (n.group g)
    inner_named nil g i h t = absurd h
    inner_named (leaf l xs) g i h t = inner_named xs g i h t
    inner_named (group h j xs) g i (inl e) t = let s : is_inner h j ≡ true = ap (λ (z : G). is_inner z j) e.0 ∙ ap (λ (z : Entries G L). is_inner g z) e.1 ∙ t in rw s (inl (ap n.group e.0))
    inner_named (group h j xs) g i (inr k) t = elim (cases (is_inner h j)) [ inl s ↦ rw s (inr (inner_named xs g i k t)) | inr s ↦ rw s (inner_named xs g i k t) ]

    -- and a name of theirs is none of the new ones
    pub inner_not_new : (xs : Entries G L) (e : E) → Has (inner_keys xs) e → is_in n.same names e ≡ false
    inner_not_new nil e h = absurd h
    inner_not_new (leaf l xs) e h = inner_not_new xs e h
    inner_not_new (group g j xs) e h = elim (cases (is_inner g j)) [
      | inl s ↦
          let k : Has (n.group g ∷ inner_keys xs) e = rw s at h in
          elim k [ inl q ↦ ap (is_in n.same names) (sym q) ∙ middle (any_stays n stays j) (is_in n.same names (n.group g)) (any_goes n stays j) s | inr m ↦ inner_not_new xs e m ]
      | inr s ↦ let k : Has (inner_keys xs) e = rw s at h in inner_not_new xs e k
    ]
      where
        middle : (a b c : Bool) → (a && not b && c) ≡ true → b ≡ false
        middle a false c h = refl
        middle true true c h = absurd (let bad : false ≡ true = h in cc)
        middle false true c h = absurd (let bad : false ≡ true = h in cc)

module _ {E G L : Type 0} (n : Names E G L) (stays : L → Bool) (names : List E) where
  -- a name of a group to go into is one of the level
  pub inner_key : (xs : Entries G L) (e : E) → Has (inner_keys n stays names xs) e → Has (keys n xs) e
  inner_key nil e h = h
  inner_key (leaf l xs) e h = inr (inner_key xs e h)
  inner_key (group g j xs) e h = elim (cases (is_inner n stays names g j)) [
    | inl s ↦ let k : Has (n.group g ∷ inner_keys n stays names xs) e = rw s at h in elim k [ inl q ↦ inl q | inr m ↦ inr (inner_key xs e m) ]
    | inr s ↦ let k : Has (inner_keys n stays names xs) e = rw s at h in inr (inner_key xs e k)
  ]

  pub inner_once : (xs : Entries G L) → Once (keys n xs) → Once (inner_keys n stays names xs)
  inner_once nil o = tt
  inner_once (leaf l xs) o = inner_once xs o.1
  inner_once (group g j xs) o = elim (cases (is_inner n stays names g j)) [
    | inl s ↦ rw s ((λ h. o.0 (inner_key xs (n.group g) h)), inner_once xs o.1)
    | inr s ↦ rw s (inner_once xs o.1)
  ]

  -- a group of which nothing stays has its name among those that go
  pub gone_named : (xs : Entries G L) (g : G) (i : Entries G L) → HasGroup xs g i → any_stays n stays i ≡ false → Has (gone_keys n stays xs) (n.group g)
  gone_named nil g i h f = absurd h
  gone_named (leaf l xs) g i h f = elim (cases (stays l)) [ inl t ↦ rw t (gone_named xs g i h f) | inr u ↦ rw u (inr (gone_named xs g i h f)) ]
  gone_named (group k j xs) g i (inl e) f = let s : any_stays n stays j ≡ false = ap (any_stays n stays) e.1 ∙ f in rw s (inl (ap n.group e.0))
  gone_named (group k j xs) g i (inr h) f = elim (cases (any_stays n stays j)) [ inl t ↦ rw t (gone_named xs g i h f) | inr u ↦ rw u (inr (gone_named xs g i h f)) ]

-- of three, the last is false
pub last_false : (a b c : Bool) → a ≡ true → b ≡ false → (a && not b && c) ≡ false → c ≡ false
last_false true false c h k f = f
last_false true true c h k f = absurd (let bad : true ≡ false = k in cc)
last_false false b c h k f = absurd (let bad : false ≡ true = h in cc)
