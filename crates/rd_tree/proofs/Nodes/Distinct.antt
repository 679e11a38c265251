-- Ids that differ where keys do come once each.
use Rattle.std.proofs.Common.{◌≡◌, refl, ap, ◌∙◌, sym, subst, ℕ, true, false, ◌||◌, List, inl, inr}
use Rattle.std.specs.Prelude.{Some}
use Rattle.std.specs.Str.{bytes_eq}
use Rattle.rd_keys.specs.Keys.{same_key}
use Rattle.rd_keys.proofs.Keys.{same_key-sound, same_key-refl}
use Rattle.rd_tree.specs.Forest.{empty, tree, has, IsApart}
use Rattle.rd_tree.specs.Document.{BoxKey, Item, BoxForest, HasIds, id_of}
use Rattle.rd_tree.specs.ByIds.{by_ids, HasDistinctIds}
use Rattle.rd_tree.proofs.Linking.Standing.{cases, never, refute, from_left, from_right, differs, apart_back}
use Rattle.rd_tree.proofs.Forests.Under.{which}
use Rattle.rd_tree.proofs.Nodes.Naming.{bytes_same}

id_here : (k : BoxKey) (d : Item) (low rest : BoxForest) → id_of k (tree k d low rest) ≡ Some d.id
id_here k d low rest = rw (same_key-refl k) refl

id_low : (k j : BoxKey) (d : Item) (low rest : BoxForest) → same_key k j ≡ false → has same_key k low ≡ true → id_of k (tree j d low rest) ≡ id_of k low
id_low k j d low rest n u = rw (n, u) refl

id_later : (k j : BoxKey) (d : Item) (low rest : BoxForest) → same_key k j ≡ false → has same_key k low ≡ false → id_of k (tree j d low rest) ≡ id_of k rest
id_later k j d low rest n u = rw (n, u) refl

-- A box below the first, or one of its later siblings or below them, has the id that it has among them.
below_id : (k j : BoxKey) (i : List ℕ) (d : Item) (low rest : BoxForest) → IsApart same_key (tree j d low rest) → has same_key k low ≡ true → id_of k low ≡ Some i → id_of k (tree j d low rest) ≡ Some i
below_id k j i d low rest a m h = id_low k j d low rest (differs same_key same_key-sound same_key-refl low k j m a.0) m ∙ h

beside_id : (k j : BoxKey) (i : List ℕ) (d : Item) (low rest : BoxForest) → IsApart same_key (tree j d low rest) → has same_key k rest ≡ true → id_of k rest ≡ Some i → id_of k (tree j d low rest) ≡ Some i
beside_id k j i d low rest a m h = id_later k j d low rest (differs same_key same_key-sound same_key-refl rest k j m a.1) (apart_back same_key same_key-sound same_key-refl low rest a.2 k m) ∙ h

-- a box with an id
record Bears (i : List ℕ) (f : BoxForest) : Type 0 where
  key : BoxKey
  there : has same_key key f ≡ true
  is : id_of key f ≡ Some i

bears : (i : List ℕ) (f : BoxForest) → IsApart same_key f → has bytes_eq i (by_ids f) ≡ true → Bears i f
bears i empty a h = absurd (never false h refl)
bears i (tree j d low rest) a h =
    elim (which (bytes_eq i d.id) (has bytes_eq i (by_ids low) || has bytes_eq i (by_ids rest)) h) [
      | inl e ↦ record {
        key = j;
        there = from_left (same_key j j) (has same_key j low || has same_key j rest) (same_key-refl j);
        is = id_here j d low rest ∙ ap Some (sym (bytes_same i d.id e));
      }
      | inr e ↦ elim (which (has bytes_eq i (by_ids low)) (has bytes_eq i (by_ids rest)) e) [
        | inl u ↦
            let b : Bears i low = bears i low a.3 u in
            record {
              key = b.key;
              there = from_right (same_key b.key j) (has same_key b.key low || has same_key b.key rest) (from_left (has same_key b.key low) (has same_key b.key rest) b.there);
              is = below_id b.key j i d low rest a b.there b.is;
            }
        | inr u ↦
            let b : Bears i rest = bears i rest a.4 u in
            record {
              key = b.key;
              there = from_right (same_key b.key j) (has same_key b.key low || has same_key b.key rest) (from_right (has same_key b.key low) (has same_key b.key rest) b.there);
              is = beside_id b.key j i d low rest a b.there b.is;
            }
      ]
    ]

-- the ids of two boxes are one only where the boxes are
abbrev Differ : BoxForest → Type 0
Differ f = (j k : BoxKey) (i : List ℕ) → id_of j f ≡ Some i → id_of k f ≡ Some i → j ≡ k

-- One box is not both there and not there.
apart_keys : (j k : BoxKey) (f : BoxForest) → has same_key j f ≡ true → has same_key k f ≡ false → j ≡ k → ⊥
apart_keys j k f m n e = never (has same_key k f) (subst (λ z. has same_key z f ≡ true) e m) n

live_id : (k : BoxKey) (i : List ℕ) (f : BoxForest) → id_of k f ≡ Some i → has same_key k f ≡ true
live_id k i empty h = cc
live_id k i (tree j d low rest) h =
    elim (cases (same_key k j)) [
      | inl e ↦ from_left (same_key k j) (has same_key k low || has same_key k rest) e
      | inr e ↦ elim (cases (has same_key k low)) [
        | inl u ↦ from_right (same_key k j) (has same_key k low || has same_key k rest) (from_left (has same_key k low) (has same_key k rest) u)
        | inr u ↦ from_right (same_key k j) (has same_key k low || has same_key k rest) (from_right (has same_key k low) (has same_key k rest) (live_id k i rest (sym (id_later k j d low rest e u) ∙ h)))
      ]
    ]

distinct : (f : BoxForest) → IsApart same_key f → Differ f → HasDistinctIds f
distinct empty a q = tt
distinct (tree j d low rest) a q =
    let here : id_of j (tree j d low rest) ≡ Some d.id = id_here j d low rest in (
      refute (has bytes_eq d.id (by_ids low)) (λ u.
          let b : Bears d.id low = bears d.id low a.3 u in
          apart_keys b.key j low b.there a.0 (q b.key j d.id (below_id b.key j d.id d low rest a b.there b.is) here)),
      refute (has bytes_eq d.id (by_ids rest)) (λ u.
          let b : Bears d.id rest = bears d.id rest a.4 u in
          apart_keys b.key j rest b.there a.1 (q b.key j d.id (beside_id b.key j d.id d low rest a b.there b.is) here)),
      (λ i u. refute (has bytes_eq i (by_ids rest)) (λ v.
          let b : Bears i low = bears i low a.3 u in
          let c : Bears i rest = bears i rest a.4 v in
          apart_keys c.key b.key rest c.there (a.2 b.key b.there) (q c.key b.key i (beside_id c.key j i d low rest a c.there c.is) (below_id b.key j i d low rest a b.there b.is)))),
      distinct low a.3 (λ x y i h g. q x y i (below_id x j i d low rest a (live_id x i low h) h) (below_id y j i d low rest a (live_id y i low g) g)),
      distinct rest a.4 (λ x y i h g. q x y i (beside_id x j i d low rest a (live_id x i rest h) h) (beside_id y j i d low rest a (live_id y i rest g) g)),
    )

pub distinct_ids : (f : BoxForest) → IsApart same_key f → HasIds f → HasDistinctIds f
distinct_ids f a s = distinct f a s.differ
