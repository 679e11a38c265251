-- What is done by keys in a tree is done by ids in the tree by ids.
use Rattle.std.proofs.Common.{◌≡◌, refl, ap, ◌∙◌, sym, ℕ, Bool, true, false, ◌||◌, arith, List, ◌⊎◌, inl, inr, bytes_eq}
use Rattle.std.specs.Prelude.{Option, Some, None}
use Rattle.rd_keys.specs.Keys.{same_key}
use Rattle.rd_tree.specs.Forest.{empty, tree, ◌▷◌, size, height, depth, has, starting_at, children, with_children, without_siblings, insert_before, is_among, without_branch, branch, map_where}
use Rattle.rd_tree.specs.Document.{BoxKey, BoxForest, named, or_else}
use Rattle.rd_tree.specs.ByIds.{looks_of, by_ids}
use Rattle.rd_tree.specs.Touching.{touch}
use Rattle.rd_tree.proofs.Linking.Standing.{cases, either, from_left, from_right, flip}
use Rattle.rd_tree.proofs.Nodes.Naming.{bytes_same, bytes_refl}

abbrev pub id_same : List ℕ → List ℕ → Bool
id_same = bytes_eq

pub id_flip : (a b : List ℕ) → bytes_eq a b ≡ bytes_eq b a
id_flip a b = flip bytes_eq bytes_same bytes_refl a b

-- Each box has the id i exactly where it has the key k.
abbrev pub Matches : List ℕ → BoxKey → BoxForest → Type 0
Matches i k empty = Unit {0}
Matches i k (tree j d below rest) = (bytes_eq i d.id ≡ same_key k j) × Matches i k below × Matches i k rest

pub join-ids : (f g : BoxForest) → by_ids (f ▷ g) ≡ by_ids f ▷ by_ids g
join-ids empty g = refl
join-ids (tree j d below rest) g = ap (tree d.id (looks_of d) (by_ids below)) (join-ids rest g)

pub size-ids : (f : BoxForest) → size (by_ids f) ≡ size f
size-ids empty = refl
size-ids (tree j d below rest) = omega (arith, size-ids below, size-ids rest)

pub height-ids : (f : BoxForest) → height (by_ids f) ≡ height f
height-ids empty = refl
height-ids (tree j d below rest) = rw (height-ids below, height-ids rest) refl

first-ids : (f : BoxForest) → by_ids (without_siblings f) ≡ without_siblings (by_ids f)
first-ids empty = refl
first-ids (tree j d below rest) = refl

-- Marks are not seen.
pub touched-ids : (p : BoxKey → Bool) (f : BoxForest) → by_ids (map_where p touch f) ≡ by_ids f
touched-ids p empty = refl
touched-ids p (tree j d below rest) =
    elim (cases (p j)) [
      | inl e ↦ rw (e, touched-ids p below, touched-ids p rest) refl
      | inr e ↦ rw (e, touched-ids p below, touched-ids p rest) refl
    ]

module _ (i : List ℕ) (k : BoxKey) where
  pub has-ids : (f : BoxForest) → Matches i k f → has bytes_eq i (by_ids f) ≡ has same_key k f
  has-ids empty m = refl
  has-ids (tree j d below rest) m = rw (m.0, has-ids below m.1, has-ids rest m.2) refl

  pub from-ids : (f : BoxForest) → Matches i k f → starting_at bytes_eq i (by_ids f) ≡ by_ids (starting_at same_key k f)
  from-ids empty m = refl
  from-ids (tree j d below rest) m =
      elim (cases (same_key k j)) [
        | inl e ↦ let h : bytes_eq i d.id ≡ true = m.0 ∙ e in rw (h, e) refl
        | inr e ↦
            let h : bytes_eq i d.id ≡ false = m.0 ∙ e in
            let b : has bytes_eq i (by_ids below) ≡ has same_key k below = has-ids below m.1 in
            elim (cases (has same_key k below)) [
              | inl u ↦ let v : has bytes_eq i (by_ids below) ≡ true = b ∙ u in rw (h, e, v, u) (from-ids below m.1)
              | inr u ↦ let v : has bytes_eq i (by_ids below) ≡ false = b ∙ u in rw (h, e, v, u) (from-ids rest m.2)
            ]
      ]

  pub branch-ids : (f : BoxForest) → Matches i k f → branch bytes_eq i (by_ids f) ≡ by_ids (branch same_key k f)
  branch-ids f m = ap without_siblings (from-ids f m) ∙ sym (first-ids (starting_at same_key k f))

  pub children-ids : (f : BoxForest) → Matches i k f → children bytes_eq i (by_ids f) ≡ by_ids (children same_key k f)
  children-ids empty m = refl
  children-ids (tree j d below rest) m =
      elim (cases (same_key k j)) [
        | inl e ↦ let h : bytes_eq i d.id ≡ true = m.0 ∙ e in rw (h, e) refl
        | inr e ↦ let h : bytes_eq i d.id ≡ false = m.0 ∙ e in rw (h, e, children-ids below m.1, children-ids rest m.2) (sym (join-ids (children same_key k below) (children same_key k rest)))
      ]

  pub with_children-ids : (g f : BoxForest) → Matches i k f → with_children bytes_eq i (by_ids g) (by_ids f) ≡ by_ids (with_children same_key k g f)
  with_children-ids g empty m = refl
  with_children-ids g (tree j d below rest) m =
      elim (cases (same_key k j)) [
        | inl e ↦ let h : bytes_eq i d.id ≡ true = m.0 ∙ e in rw (h, e) refl
        | inr e ↦ let h : bytes_eq i d.id ≡ false = m.0 ∙ e in rw (h, e, with_children-ids g below m.1, with_children-ids g rest m.2) refl
      ]

  pub among-ids : (f : BoxForest) → Matches i k f → is_among bytes_eq i (by_ids f) ≡ is_among same_key k f
  among-ids empty m = refl
  among-ids (tree j d below rest) m = rw (m.0, among-ids rest m.2) refl

  pub before-ids : (g f : BoxForest) → Matches i k f → insert_before bytes_eq i (by_ids g) (by_ids f) ≡ by_ids (insert_before same_key k g f)
  before-ids g empty m = refl
  before-ids g (tree j d below rest) m =
      elim (cases (same_key k j)) [
        | inl e ↦ let h : bytes_eq i d.id ≡ true = m.0 ∙ e in rw (h, e) (sym (join-ids g (tree j d below rest)))
        | inr e ↦ let h : bytes_eq i d.id ≡ false = m.0 ∙ e in rw (h, e, before-ids g rest m.2) refl
      ]

  pub without-ids : (f : BoxForest) → Matches i k f → without_branch bytes_eq i (by_ids f) ≡ by_ids (without_branch same_key k f)
  without-ids empty m = refl
  without-ids (tree j d below rest) m =
      elim (cases (same_key k j)) [
        | inl e ↦ let h : bytes_eq i d.id ≡ true = m.0 ∙ e in rw (h, e) refl
        | inr e ↦ let h : bytes_eq i d.id ≡ false = m.0 ∙ e in rw (h, e, without-ids below m.1, without-ids rest m.2) refl
      ]

  pub depth-ids : (f : BoxForest) → Matches i k f → depth bytes_eq i (by_ids f) ≡ depth same_key k f
  depth-ids empty m = refl
  depth-ids (tree j d below rest) m = rw (m.0, has-ids below m.1, depth-ids below m.1, depth-ids rest m.2) refl

  -- ---- the boxes of a part

  matches-join : (f g : BoxForest) → Matches i k f → Matches i k g → Matches i k (f ▷ g)
  matches-join empty g m n = n
  matches-join (tree j d below rest) g m n = (m.0, m.1, matches-join rest g m.2 n)

  pub matches-children : (q : BoxKey) (f : BoxForest) → Matches i k f → Matches i k (children same_key q f)
  matches-children q empty m = tt
  matches-children q (tree j d below rest) m =
      elim (cases (same_key q j)) [
        | inl e ↦ rw e m.1
        | inr e ↦ rw e (matches-join (children same_key q below) (children same_key q rest) (matches-children q below m.1) (matches-children q rest m.2))
      ]

  pub matches-without : (q : BoxKey) (f : BoxForest) → Matches i k f → Matches i k (without_branch same_key q f)
  matches-without q empty m = tt
  matches-without q (tree j d below rest) m =
      elim (cases (same_key q j)) [
        | inl e ↦ rw e m.2
        | inr e ↦ rw e (m.0, matches-without q below m.1, matches-without q rest m.2)
      ]

  pub matches-none : (f : BoxForest) → has bytes_eq i (by_ids f) ≡ false → has same_key k f ≡ false → Matches i k f
  matches-none empty h n = tt
  matches-none (tree j d below rest) h n =
      let s : (bytes_eq i d.id ≡ false) × ((has bytes_eq i (by_ids below) || has bytes_eq i (by_ids rest)) ≡ false) = either (bytes_eq i d.id) (has bytes_eq i (by_ids below) || has bytes_eq i (by_ids rest)) h in
      let t : (has bytes_eq i (by_ids below) ≡ false) × (has bytes_eq i (by_ids rest) ≡ false) = either (has bytes_eq i (by_ids below)) (has bytes_eq i (by_ids rest)) s.1 in
      let u : (same_key k j ≡ false) × ((has same_key k below || has same_key k rest) ≡ false) = either (same_key k j) (has same_key k below || has same_key k rest) n in
      let v : (has same_key k below ≡ false) × (has same_key k rest ≡ false) = either (has same_key k below) (has same_key k rest) u.1 in
      (s.0 ∙ sym u.0, matches-none below t.0 v.0, matches-none rest t.1 v.1)

-- ---- names

-- the box with the id is there
pub named_in : (i : List ℕ) (k : BoxKey) (f : BoxForest) → named i f ≡ Some k → has bytes_eq i (by_ids f) ≡ true
named_in i k empty h = cc
named_in i k (tree j d below rest) h =
    elim (cases (bytes_eq d.id i)) [
      | inl e ↦ from_left (bytes_eq i d.id) (has bytes_eq i (by_ids below) || has bytes_eq i (by_ids rest)) (id_flip i d.id ∙ e)
      | inr e ↦ from_right (bytes_eq i d.id) (has bytes_eq i (by_ids below) || has bytes_eq i (by_ids rest)) (elim (some_or (named i below) (named i rest) (rw e at h)) [
        | inl u ↦ from_left (has bytes_eq i (by_ids below)) (has bytes_eq i (by_ids rest)) (named_in i k below u)
        | inr u ↦ from_right (has bytes_eq i (by_ids below)) (has bytes_eq i (by_ids rest)) (named_in i k rest u)
      ])
    ] where
      some_or : (a b : Option BoxKey) → or_else a b ≡ Some k → (a ≡ Some k) ⊎ (b ≡ Some k)
      some_or None b h = inr h
      some_or (Some x) b h = inl h
