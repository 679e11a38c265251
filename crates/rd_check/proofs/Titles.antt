-- The names of a list's entries: those of its leaves and those of its groups.
use Rattle.std.proofs.Common.{◌≡◌, List, [], ◌∷◌, ◌++◌, map, refl, sym, ap, subst, ◌∙◌, ◌⊎◌, inl, inr}
use Rattle.std.proofs.lemmas.List.{map-append}
use Rattle.rd_graph.specs.Orders.{Before}
use Rattle.rd_graph.proofs.Lists.Listing.{Has, Once, has_from, contains_from, has_left, has_right, has_either, has_map, map_has, once_left, once_right, once_apart, once_join, before_left, before_right, before_across, before_join}
use Rattle.rd_item.specs.declared.leaf.Leaf.{Leaf}
use Rattle.rd_keys.specs.declared.entry.EntryKey.{EntryKey}
use Rattle.rd_keys.specs.declared.entry.EntryKey.TheVariants as key
use Rattle.rd_list.specs.Wrappers.{Wrapper}
use Rattle.rd_list.specs.Entries.{Entries, nil, leaf, group, flat, routes, wrappers}
use Rattle.rd_check.specs.Listed.{item, head, listed}
use Rattle.rd_check.specs.Verdicts.{name_of}
use Rattle.rd_check.specs.Internal.Lines.{Way}
use Rattle.rd_check.specs.Internal.Finding.{leaf_name, way_name}

abbrev pub wrapper_name : Wrapper → EntryKey
wrapper_name g = key.Group g.key

-- ---- leaves and ways

pub flat_routes : (r : List Wrapper) (xs : Entries Wrapper Leaf) → map (λ (w : Way). w.1) (routes r xs) ≡ flat xs
flat_routes r nil = refl
flat_routes r (leaf l rest) = ap (λ z. l ∷ z) (flat_routes r rest)
flat_routes r (group g inner rest) =
    map-append (λ (w : Way). w.1) (routes (r ++ g ∷ []) inner) (routes r rest)
    ∙ ap (λ z. z ++ map (λ (w : Way). w.1) (routes r rest)) (flat_routes (r ++ g ∷ []) inner)
    ∙ ap (λ z. flat inner ++ z) (flat_routes r rest)

pub keys_flat : (r : List Wrapper) (xs : Entries Wrapper Leaf) → map way_name (routes r xs) ≡ map leaf_name (flat xs)
keys_flat r nil = refl
keys_flat r (leaf l rest) = ap (λ z. leaf_name l ∷ z) (keys_flat r rest)
keys_flat r (group g inner rest) =
    map-append way_name (routes (r ++ g ∷ []) inner) (routes r rest)
    ∙ ap (λ z. z ++ map way_name (routes r rest)) (keys_flat (r ++ g ∷ []) inner)
    ∙ ap (λ z. map leaf_name (flat inner) ++ z) (keys_flat r rest)
    ∙ sym (map-append leaf_name (flat inner) (flat rest))

-- ---- entries and ways

same_way : (r q : List Wrapper) (l m : Leaf) → r ≡ q → l ≡ m → ◌≡◌ {A = Way} (r, l) (q, m)
same_way r q l m e f = λ i. (e i, f i)

pub listed_route : (r : List Wrapper) (xs : Entries Wrapper Leaf) (q : List Wrapper) (l : Leaf) → Has (listed r xs) (item q l) → Has (routes r xs) (q, l)
listed_route r nil q l h = absurd h
listed_route r (leaf m rest) q l (inl e) = let a : r ≡ q = cc in let b : m ≡ l = cc in inl (same_way r q m l a b)
listed_route r (leaf m rest) q l (inr h) = inr (listed_route r rest q l h)
listed_route r (group g inner rest) q l (inl e) = absurd cc
listed_route r (group g inner rest) q l (inr h) = elim (has_either (listed (r ++ g ∷ []) inner) (listed r rest) (item q l) h) [
  | inl k ↦ has_left (routes (r ++ g ∷ []) inner) (routes r rest) (q, l) (listed_route (r ++ g ∷ []) inner q l k)
  | inr k ↦ has_right (routes (r ++ g ∷ []) inner) (routes r rest) (q, l) (listed_route r rest q l k)
]

pub route_listed : (r : List Wrapper) (xs : Entries Wrapper Leaf) (w : Way) → Has (routes r xs) w → Has (listed r xs) (item w.0 w.1)
route_listed r nil w h = absurd h
route_listed r (leaf m rest) w (inl e) = inl (ap (λ (v : Way). item v.0 v.1) e)
route_listed r (leaf m rest) w (inr h) = inr (route_listed r rest w h)
route_listed r (group g inner rest) w h = inr (elim (has_either (routes (r ++ g ∷ []) inner) (routes r rest) w h) [
  | inl k ↦ has_left (listed (r ++ g ∷ []) inner) (listed r rest) (item w.0 w.1) (route_listed (r ++ g ∷ []) inner w k)
  | inr k ↦ has_right (listed (r ++ g ∷ []) inner) (listed r rest) (item w.0 w.1) (route_listed r rest w k)
])

-- ---- the order of leaves

pub route_leaf : (r : List Wrapper) (xs : Entries Wrapper Leaf) (w : Way) → Has (routes r xs) w → Has (flat xs) w.1
route_leaf r xs w h = subst (λ (z : List Leaf). Has z w.1) (flat_routes r xs) (has_map (λ (v : Way). v.1) (routes r xs) w h)

pub leaf_route : (r : List Wrapper) (xs : Entries Wrapper Leaf) (l : Leaf) → Has (flat xs) l → (q : List Wrapper) × Has (routes r xs) (q, l)
leaf_route r xs l h =
    let m = map_has (λ (v : Way). v.1) (routes r xs) l (subst (λ (z : List Leaf). Has z l) (sym (flat_routes r xs)) h) in
    (m.0.0, with_leaf m.0 m.1 m.2)
  where
    with_leaf : (w : Way) → Has (routes r xs) w → w.1 ≡ l → Has (routes r xs) (w.0, l)
    with_leaf w k e = subst (λ (z : Leaf). Has (routes r xs) (w.0, z)) e k

listed_flat : (r : List Wrapper) (xs : Entries Wrapper Leaf) (q : List Wrapper) (l : Leaf) → Has (listed r xs) (item q l) → Has (flat xs) l
listed_flat r xs q l h = route_leaf r xs (q, l) (listed_route r xs q l h)

flat_listed : (r : List Wrapper) (xs : Entries Wrapper Leaf) (l : Leaf) → Has (flat xs) l → (q : List Wrapper) × Has (listed r xs) (item q l)
flat_listed r xs l h = let w = leaf_route r xs l h in (w.0, route_listed r xs (w.0, l) w.1)

pub listed_before : (r : List Wrapper) (xs : Entries Wrapper Leaf) (q p : List Wrapper) (a b : Leaf) → Before (listed r xs) (item q a) (item p b) → Before (flat xs) a b
listed_before r nil q p a b h = absurd h
listed_before r (leaf m rest) q p a b (inl h) =
    let e : item r m ≡ item q a = h.0 in
    let is : m ≡ a = cc in
    inl (is, contains_from (flat rest) b (listed_flat r rest p b (has_from (listed r rest) (item p b) h.1)))
listed_before r (leaf m rest) q p a b (inr h) = inr (listed_before r rest q p a b h)
listed_before r (group g inner rest) q p a b (inl h) = let e : head r g ≡ item q a = h.0 in absurd cc
listed_before r (group g inner rest) q p a b (inr h) = elim (before_join (listed (r ++ g ∷ []) inner) (listed r rest) (item q a) (item p b) h) [
  | inl k ↦ before_left (flat inner) (flat rest) a b (listed_before (r ++ g ∷ []) inner q p a b k)
  | inr k ↦ elim k [
    | inl m ↦ before_across (flat inner) (flat rest) a b (listed_flat (r ++ g ∷ []) inner q a m.0) (listed_flat r rest p b m.1)
    | inr m ↦ before_right (flat inner) (flat rest) a b (listed_before r rest q p a b m)
  ]
]

-- two leaves of a list as entries
pub record AreListed (r : List Wrapper) (xs : Entries Wrapper Leaf) (a b : Leaf) : Type 0 where
  pub first : List Wrapper
  pub second : List Wrapper
  pub order : Before (listed r xs) (item first a) (item second b)

pub before_listed : (r : List Wrapper) (xs : Entries Wrapper Leaf) (a b : Leaf) → Before (flat xs) a b → AreListed r xs a b
before_listed r nil a b h = absurd h
before_listed r (leaf m rest) a b (inl h) =
    let k = flat_listed r rest b (has_from (flat rest) b h.1) in
    record { first = r; second = k.0; order = inl (ap (item r) h.0, contains_from (listed r rest) (item k.0 b) k.1) }
before_listed r (leaf m rest) a b (inr h) = let k = before_listed r rest a b h in record { first = k.first; second = k.second; order = inr k.order }
before_listed r (group g inner rest) a b h = elim (before_join (flat inner) (flat rest) a b h) [
  | inl k ↦
      let n = before_listed (r ++ g ∷ []) inner a b k in
      record { first = n.first; second = n.second; order = inr (before_left (listed (r ++ g ∷ []) inner) (listed r rest) (item n.first a) (item n.second b) n.order) }
  | inr k ↦ elim k [
    | inl m ↦
        let x = flat_listed (r ++ g ∷ []) inner a m.0 in
        let y = flat_listed r rest b m.1 in
        record { first = x.0; second = y.0; order = inr (before_across (listed (r ++ g ∷ []) inner) (listed r rest) (item x.0 a) (item y.0 b) x.1 y.1) }
    | inr m ↦
        let n = before_listed r rest a b m in
        record { first = n.first; second = n.second; order = inr (before_right (listed (r ++ g ∷ []) inner) (listed r rest) (item n.first a) (item n.second b) n.order) }
  ]
]

-- ---- names

abbrev names : List Wrapper → Entries Wrapper Leaf → List EntryKey
names r xs = map name_of (listed r xs)

abbrev keys : List Wrapper → Entries Wrapper Leaf → List EntryKey
keys r xs = map way_name (routes r xs)

abbrev heads : Entries Wrapper Leaf → List EntryKey
heads xs = map wrapper_name (wrappers xs)

names_join : (r : List Wrapper) (g : Wrapper) (inner rest : Entries Wrapper Leaf) → map name_of (listed (r ++ g ∷ []) inner ++ listed r rest) ≡ names (r ++ g ∷ []) inner ++ names r rest
names_join r g inner rest = map-append name_of (listed (r ++ g ∷ []) inner) (listed r rest)

keys_join : (r : List Wrapper) (g : Wrapper) (inner rest : Entries Wrapper Leaf) → keys r (group g inner rest) ≡ keys (r ++ g ∷ []) inner ++ keys r rest
keys_join r g inner rest = map-append way_name (routes (r ++ g ∷ []) inner) (routes r rest)

heads_join : (inner rest : Entries Wrapper Leaf) → map wrapper_name (wrappers inner ++ wrappers rest) ≡ heads inner ++ heads rest
heads_join inner rest = map-append wrapper_name (wrappers inner) (wrappers rest)

-- the names of leaves are names of entries, and so are those of groups
pub key_named : (r : List Wrapper) (xs : Entries Wrapper Leaf) (k : EntryKey) → Has (keys r xs) k → Has (names r xs) k
key_named r nil k h = h
key_named r (leaf l rest) k (inl e) = inl e
key_named r (leaf l rest) k (inr h) = inr (key_named r rest k h)
key_named r (group g inner rest) k h =
    let apart : Has (keys (r ++ g ∷ []) inner ++ keys r rest) k = subst (λ (z : List EntryKey). Has z k) (keys_join r g inner rest) h in
    let both : Has (names (r ++ g ∷ []) inner ++ names r rest) k = elim (has_either (keys (r ++ g ∷ []) inner) (keys r rest) k apart) [
      | inl m ↦ has_left (names (r ++ g ∷ []) inner) (names r rest) k (key_named (r ++ g ∷ []) inner k m)
      | inr m ↦ has_right (names (r ++ g ∷ []) inner) (names r rest) k (key_named r rest k m)
    ] in
    inr (subst (λ (z : List EntryKey). Has z k) (sym (names_join r g inner rest)) both)

head_named : (r : List Wrapper) (xs : Entries Wrapper Leaf) (k : EntryKey) → Has (heads xs) k → Has (names r xs) k
head_named r nil k h = h
head_named r (leaf l rest) k h = inr (head_named r rest k h)
head_named r (group g inner rest) k (inl e) = inl e
head_named r (group g inner rest) k (inr h) =
    let apart : Has (heads inner ++ heads rest) k = subst (λ (z : List EntryKey). Has z k) (heads_join inner rest) h in
    let both : Has (names (r ++ g ∷ []) inner ++ names r rest) k = elim (has_either (heads inner) (heads rest) k apart) [
      | inl m ↦ has_left (names (r ++ g ∷ []) inner) (names r rest) k (head_named (r ++ g ∷ []) inner k m)
      | inr m ↦ has_right (names (r ++ g ∷ []) inner) (names r rest) k (head_named r rest k m)
    ] in
    inr (subst (λ (z : List EntryKey). Has z k) (sym (names_join r g inner rest)) both)

-- a name of an entry is one of a leaf or of a group
named_either : (r : List Wrapper) (xs : Entries Wrapper Leaf) (k : EntryKey) → Has (names r xs) k → Has (keys r xs) k ⊎ Has (heads xs) k
named_either r nil k h = absurd h
named_either r (leaf l rest) k (inl e) = inl (inl e)
named_either r (leaf l rest) k (inr h) = elim (named_either r rest k h) [ inl m ↦ inl (inr m) | inr m ↦ inr m ]
named_either r (group g inner rest) k (inl e) = inr (inl e)
named_either r (group g inner rest) k (inr h) =
    elim (has_either (names (r ++ g ∷ []) inner) (names r rest) k (subst (λ (z : List EntryKey). Has z k) (names_join r g inner rest) h)) [
      | inl m ↦ elim (named_either (r ++ g ∷ []) inner k m) [
        | inl n ↦ inl (subst (λ (z : List EntryKey). Has z k) (sym (keys_join r g inner rest)) (has_left (keys (r ++ g ∷ []) inner) (keys r rest) k n))
        | inr n ↦ inr (inr (subst (λ (z : List EntryKey). Has z k) (sym (heads_join inner rest)) (has_left (heads inner) (heads rest) k n)))
      ]
      | inr m ↦ elim (named_either r rest k m) [
        | inl n ↦ inl (subst (λ (z : List EntryKey). Has z k) (sym (keys_join r g inner rest)) (has_right (keys (r ++ g ∷ []) inner) (keys r rest) k n))
        | inr n ↦ inr (inr (subst (λ (z : List EntryKey). Has z k) (sym (heads_join inner rest)) (has_right (heads inner) (heads rest) k n)))
      ]
    ]

-- no leaf has the name of a group
kinds_apart : (ws : List Way) (gs : List Wrapper) (k : EntryKey) → Has (map way_name ws) k → Has (map wrapper_name gs) k → ⊥
kinds_apart ws gs k h m =
    let w = map_has way_name ws k h in
    let g = map_has wrapper_name gs k m in
    two_kinds w.0.1 g.0 (w.2 ∙ sym g.2)
  where
    two_kinds : (l : Leaf) (g : Wrapper) → leaf_name l ≡ wrapper_name g → ⊥
    two_kinds l g e = let f : key.Leaf l.owner l.part ≡ key.Group g.key = e in absurd cc

-- ---- where names differ

pub keys_once : (r : List Wrapper) (xs : Entries Wrapper Leaf) → Once (names r xs) → Once (keys r xs)
keys_once r nil o = tt
keys_once r (leaf l rest) o = ((λ h. o.0 (key_named r rest (leaf_name l) h)), keys_once r rest o.1)
keys_once r (group g inner rest) o =
    let p : Once (names (r ++ g ∷ []) inner ++ names r rest) = subst (λ (z : List EntryKey). Once z) (names_join r g inner rest) o.1 in
    subst (λ (z : List EntryKey). Once z) (sym (keys_join r g inner rest))
    (once_join (keys (r ++ g ∷ []) inner) (keys r rest)
    (keys_once (r ++ g ∷ []) inner (once_left (names (r ++ g ∷ []) inner) (names r rest) p))
    (keys_once r rest (once_right (names (r ++ g ∷ []) inner) (names r rest) p))
    (λ k h m. once_apart (names (r ++ g ∷ []) inner) (names r rest) p k (key_named (r ++ g ∷ []) inner k h) (key_named r rest k m)))

pub heads_once : (r : List Wrapper) (xs : Entries Wrapper Leaf) → Once (names r xs) → Once (heads xs)
heads_once r nil o = tt
heads_once r (leaf l rest) o = heads_once r rest o.1
heads_once r (group g inner rest) o =
    let p : Once (names (r ++ g ∷ []) inner ++ names r rest) = subst (λ (z : List EntryKey). Once z) (names_join r g inner rest) o.1 in
    let both : Once (heads inner ++ heads rest) =
    once_join (heads inner) (heads rest)
    (heads_once (r ++ g ∷ []) inner (once_left (names (r ++ g ∷ []) inner) (names r rest) p))
    (heads_once r rest (once_right (names (r ++ g ∷ []) inner) (names r rest) p))
    (λ k h m. once_apart (names (r ++ g ∷ []) inner) (names r rest) p k (head_named (r ++ g ∷ []) inner k h) (head_named r rest k m)) in (
      (λ h. elim (has_either (heads inner) (heads rest) (wrapper_name g) (subst (λ (z : List EntryKey). Has z (wrapper_name g)) (heads_join inner rest) h)) [
        | inl m ↦ o.0 (subst (λ (z : List EntryKey). Has z (wrapper_name g)) (sym (names_join r g inner rest)) (has_left (names (r ++ g ∷ []) inner) (names r rest) (wrapper_name g) (head_named (r ++ g ∷ []) inner (wrapper_name g) m)))
        | inr m ↦ o.0 (subst (λ (z : List EntryKey). Has z (wrapper_name g)) (sym (names_join r g inner rest)) (has_right (names (r ++ g ∷ []) inner) (names r rest) (wrapper_name g) (head_named r rest (wrapper_name g) m)))
      ]),
      subst (λ (z : List EntryKey). Once z) (sym (heads_join inner rest)) both,
    )

pub names_once : (r : List Wrapper) (xs : Entries Wrapper Leaf) → Once (keys r xs) → Once (heads xs) → Once (names r xs)
names_once r nil o p = tt
names_once r (leaf l rest) o p = (
  (λ h. elim (named_either r rest (leaf_name l) h) [
    | inl m ↦ o.0 m
    | inr m ↦ kinds_apart ((r, l) ∷ []) (wrappers rest) (leaf_name l) (inl refl) m
  ]),
  names_once r rest o.1 p,
)
names_once r (group g inner rest) o p =
    let ks : Once (keys (r ++ g ∷ []) inner ++ keys r rest) = subst (λ (z : List EntryKey). Once z) (keys_join r g inner rest) o in
    let hs : Once (heads inner ++ heads rest) = subst (λ (z : List EntryKey). Once z) (heads_join inner rest) p.1 in
    let k1 = once_left (keys (r ++ g ∷ []) inner) (keys r rest) ks in
    let k2 = once_right (keys (r ++ g ∷ []) inner) (keys r rest) ks in
    let h1 = once_left (heads inner) (heads rest) hs in
    let h2 = once_right (heads inner) (heads rest) hs in
    let both : Once (names (r ++ g ∷ []) inner ++ names r rest) =
    once_join (names (r ++ g ∷ []) inner) (names r rest) (names_once (r ++ g ∷ []) inner k1 h1) (names_once r rest k2 h2)
    (λ k a b. elim (named_either (r ++ g ∷ []) inner k a) [
      | inl m ↦ elim (named_either r rest k b) [
        | inl n ↦ once_apart (keys (r ++ g ∷ []) inner) (keys r rest) ks k m n
        | inr n ↦ kinds_apart (routes (r ++ g ∷ []) inner) (wrappers rest) k m n
      ]
      | inr m ↦ elim (named_either r rest k b) [
        | inl n ↦ kinds_apart (routes r rest) (wrappers inner) k n m
        | inr n ↦ once_apart (heads inner) (heads rest) hs k m n
      ]
    ]) in (
      (λ h. elim (has_either (names (r ++ g ∷ []) inner) (names r rest) (wrapper_name g) (subst (λ (z : List EntryKey). Has z (wrapper_name g)) (names_join r g inner rest) h)) [
        | inl m ↦ elim (named_either (r ++ g ∷ []) inner (wrapper_name g) m) [
          | inl n ↦ kinds_apart (routes (r ++ g ∷ []) inner) (g ∷ []) (wrapper_name g) n (inl refl)
          | inr n ↦ p.0 (subst (λ (z : List EntryKey). Has z (wrapper_name g)) (sym (heads_join inner rest)) (has_left (heads inner) (heads rest) (wrapper_name g) n))
        ]
        | inr m ↦ elim (named_either r rest (wrapper_name g) m) [
          | inl n ↦ kinds_apart (routes r rest) (g ∷ []) (wrapper_name g) n (inl refl)
          | inr n ↦ p.0 (subst (λ (z : List EntryKey). Has z (wrapper_name g)) (sym (heads_join inner rest)) (has_right (heads inner) (heads rest) (wrapper_name g) n))
        ]
      ]),
      subst (λ (z : List EntryKey). Once z) (sym (names_join r g inner rest)) both,
    )
