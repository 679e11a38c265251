-- The law of the merge at the names of display lists.
use Rattle.std.proofs.Common.{◌≡◌, refl, ap, sym, subst, ℕ, zero, suc, ℤ, Bool, true, false, List, [], ◌∷◌, length, get_or, ◌<◌, arith}
use Rattle.std.specs.Prelude.{AllPairs, map, not, ◌&&◌, ◌||◌, IsTrue}
use Rattle.rd_geom.proofs.Pixels.{at_holds, first_at, some_of, meets_shares, shares_meets}
use Rattle.rd_keys.specs.Keys.{same_key}
use Rattle.rd_item.specs.declared.leaf.Leaf.{Leaf}
use Rattle.rd_list.specs.Wrappers.{Wrapper}
use Rattle.rd_list.specs.Entries.{Entries, nil, leaf, group, wrappers, only}
use Rattle.rd_list.specs.Lists.{leaves_meet, groups}
use Rattle.rd_list.specs.Laws.{IsReady}
use Rattle.rd_list.proofs.Merges.Named.{AreNames}
use Rattle.rd_geom.specs.Plane.{Rectangle, has_none, holds_pixel}
use Rattle.rd_list.specs.Kept.{bare, bare_new, reach_of}
use Rattle.rd_list.specs.EntryNames.{entry_names}
use Rattle.rd_list.specs.Display.{DisplayMerging, DisplayEditing, DisplayBeginning, Covering}
use Rattle.rd_graph.proofs.Lists.Entries.{same_entry-sound, same_entry-refl}
use Rattle.rd_list.proofs.Merges.Narrowing.{edited, stands_once}
use Rattle.rd_list.proofs.Merges.Linear.{linear_merged}
use Rattle.rd_list.proofs.Merges.Nesting.{kept_merging}
use Rattle.std.proofs.lemmas.List.{map-append}

pub entry_names_are : AreNames entry_names
entry_names_are = record { sound = same_entry-sound; reflexive = same_entry-refl; apart = λ l g. refl }

same_test : (p q : Bool) → (p ≡ true → q ≡ true) → (q ≡ true → p ≡ true) → p ≡ q
same_test true q f g = sym (f refl)
same_test false true f g = g refl
same_test false false f g = refl

turned : (a b : Leaf) → leaves_meet a b ≡ true → leaves_meet b a ≡ true
turned a b h = let s = meets_shares a.visible b.visible h in shares_meets b.visible a.visible (record { x = s.x; y = s.y; first = s.second; second = s.first })

-- a rectangle that is not empty has a pixel
some_pixel : (r : Rectangle) → has_none r ≡ false → (x : ℤ) × (y : ℤ) × IsTrue (holds_pixel r x y)
some_pixel r h = (r.x, r.y, at_holds r r.x r.y (first_at r (some_of r h)))

pub leaves_meet-flip : (a b : Leaf) → leaves_meet a b ≡ leaves_meet b a
leaves_meet-flip a b = same_test (leaves_meet a b) (leaves_meet b a) (turned a b) (turned b a)

-- pairs of a list's images are pairs of the list
module _ {A B : Type 0} (f : A → B) (R : B → B → Type 0) where
  get-map : (xs : List A) (k : ℕ) (d : A) (e : B) → k < length xs → get_or (map f xs) k e ≡ f (get_or xs k d)
  get-map [] k d e l = absurd (omega arith)
  get-map (x ∷ xs) zero d e l = refl
  get-map (x ∷ xs) (suc k) d e l = get-map xs k d e (omega arith)

  length-image : (xs : List A) → length (map f xs) ≡ length xs
  length-image [] = refl
  length-image (x ∷ xs) = ap suc (length-image xs)

  pub pairs_of_images : (xs : List A) → AllPairs R (map f xs) → AllPairs (λ a b. R (f a) (f b)) xs
  pairs_of_images xs h i j d l m =
      let e = length-image xs in
      subst (λ (x : B). R x (f (get_or xs j d))) (get-map xs i d (f d) (omega arith))
      (subst (λ (y : B). R (get_or (map f xs) i (f d)) y) (get-map xs j d (f d) m) (h i j (f d) l (omega (arith, e))))

  one_of : (xs : List A) (j : ℕ) → j < length xs → A
  one_of [] j l = absurd (omega arith)
  one_of (x ∷ xs) j l = x

  pub images_of_pairs : (xs : List A) → AllPairs (λ a b. R (f a) (f b)) xs → AllPairs R (map f xs)
  images_of_pairs xs h i j d l m =
      let e = length-image xs in
      let n : j < length xs = omega (arith, e) in
      let o : A = one_of xs j n in
      subst (λ (x : B). R x (get_or (map f xs) j d)) (sym (get-map xs i o d (omega arith)))
      (subst (λ (y : B). R (f (get_or xs i o)) y) (sym (get-map xs j o d n)) (h i j o l n))

-- the boxes of the groups are the keys of their wrappers
groups-wrappers : (xs : Entries Wrapper Leaf) → groups xs ≡ map (λ w. w.key) (wrappers xs)
groups-wrappers nil = refl
groups-wrappers (leaf l xs) = groups-wrappers xs
groups-wrappers (group g inner xs) = ap (λ zs. g.key ∷ zs) (rw (groups-wrappers inner, groups-wrappers xs) (sym (map-append (λ w. w.key) (wrappers inner) (wrappers xs))))

-- the wrappers of a list's groups differ by their keys where the boxes of its groups differ
pub groups_apart : (xs : Entries Wrapper Leaf) → AllPairs (λ a b. same_key a.key b.key ≡ false) (wrappers xs) → AllPairs (λ a b. same_key a b ≡ false) (groups xs)
groups_apart xs h = rw (groups-wrappers xs) (images_of_pairs (λ w. w.key) (λ a b. same_key a b ≡ false) (wrappers xs) h)

pub wrappers_apart : (xs : Entries Wrapper Leaf) → AllPairs (λ a b. same_key a b ≡ false) (groups xs) → AllPairs (λ a b. same_key a.key b.key ≡ false) (wrappers xs)
wrappers_apart xs h = pairs_of_images (λ w. w.key) (λ a b. same_key a b ≡ false) (wrappers xs) (rw (groups-wrappers xs) at h)

pub display_merging : DisplayMerging
display_merging = λ fresh kept joined new stays in_area once covered ready same merged.
    kept_merging entry_names (λ m. m.leaf) entry_names_are leaves_meet leaves_meet-flip fresh kept joined new stays in_area once covered ready same merged

same_by_each : {A B : Type 0} (f g : A → B) → ((x : A) → f x ≡ g x) → f ≡ g
same_by_each f g h = λ i x. h x i

neither : (a b : Bool) → (not a && not b) ≡ not (a || b)
neither true b = refl
neither false b = refl

pub display_editing : DisplayEditing
display_editing = λ fresh next kept touched more once same ready.
    let both : Leaf → Bool = λ l. not (touched l.owner) && not (more l.owner) in
    let none : Leaf → Bool = λ l. not (touched l.owner || more l.owner) in
    let e : both ≡ none = same_by_each both none (λ l. neither (touched l.owner) (more l.owner)) in
    let reach = reach_of entry_names (λ m. m.leaf) kept in
    let r : IsReady entry_names leaves_meet both reach (bare entry_names (λ m. m.leaf) kept.entries) next =
    edited entry_names entry_names_are leaves_meet reach fresh next (bare entry_names (λ m. m.leaf) kept.entries) (λ l. not (touched l.owner)) (λ l. not (more l.owner)) once
    (subst (λ (p : Leaf → Bool). only p fresh ≡ only p next) (sym e) same) ready.ready in
    record { nodes_are = ready.nodes_are; names_once = ready.names_once; in_order = ready.in_order; ready = subst (λ (p : Leaf → Bool). IsReady entry_names leaves_meet p reach (bare entry_names (λ m. m.leaf) kept.entries) next) e r }

pub covering : Covering
covering = λ fresh stays in_area holds marks some within. record {
  itself = λ a c f.
      let p = some_pixel a.visible (some a c) in
      marks a p.0 p.1 (within a c f p.0 p.1 p.2) p.2;
  others = λ a b c d f m.
      let p = meets_shares a.visible b.visible m in
      marks b p.x p.y (within a c f p.x p.y p.first) p.second;
}

pub display_beginning : DisplayBeginning
display_beginning = λ new stays once.
    let fresh : Entries Wrapper Leaf = bare_new entry_names (λ m. m.leaf) new in
    linear_merged entry_names (λ m. m.leaf) entry_names_are stays new (stands_once entry_names entry_names_are leaves_meet fresh fresh once)
