-- A forest with one child more: its keys, depths and names.
use Rattle.std.proofs.Common.{◌≡◌, refl, ap, ◌∙◌, sym, ℕ, ◌+◌, Bool, true, false, ◌||◌, cond, arith, inl, inr, List, Option, Some, None, bytes_eq}
use Rattle.rd_keys.specs.Keys.{BoxKey, same_key}
use Rattle.rd_keys.proofs.Keys.{same_key-sound, same_key-refl}
use Rattle.rd_tree.specs.declared.node.Item.{Item}
use Rattle.rd_tree.specs.Document.{BoxForest, named, or_else, with_child}
use Rattle.rd_tree.specs.Forest.{empty, tree, ◌▷◌, has, depth, children, with_children, IsApart}
use Rattle.rd_tree.proofs.Linking.Standing.{cases, either, join-empty, no_children, has-join}
use Rattle.rd_tree.proofs.Forests.Under.{no_under}

abbrev new : BoxKey → Item → BoxForest
new k d = tree k d empty empty

-- with k as the last child of p, step by step
abbrev pub grow : BoxKey → BoxKey → Item → BoxForest → BoxForest
grow p k d empty = empty
grow p k d (tree i e below rest) =
    cond (same_key p i) (tree i e (below ▷ tree k d empty empty) rest)
    (cond (has same_key p below) (tree i e (grow p k d below) rest) (tree i e below (grow p k d rest)))

module _ (p i : BoxKey) (e : Item) (below rest : BoxForest) (s : same_key p i ≡ false) where
  under_miss : (g : BoxForest) → with_children same_key p g (tree i e below rest) ≡ tree i e (with_children same_key p g below) (with_children same_key p g rest)
  under_miss g = rw s refl

  children_miss : children same_key p (tree i e below rest) ≡ children same_key p below ▷ children same_key p rest
  children_miss = rw s refl

  grow_below : (k : BoxKey) (d : Item) → has same_key p below ≡ true → grow p k d (tree i e below rest) ≡ tree i e (grow p k d below) rest
  grow_below k d h = rw (s, h) refl

  grow_beside : (k : BoxKey) (d : Item) → has same_key p below ≡ false → grow p k d (tree i e below rest) ≡ tree i e below (grow p k d rest)
  grow_beside k d h = rw (s, h) refl

pub grow_is : (p k : BoxKey) (d : Item) (f : BoxForest) → IsApart same_key f → has same_key p f ≡ true → with_child p None k d f ≡ grow p k d f
grow_is p k d empty a m = refl
grow_is p k d (tree i e below rest) a m =
    let one : BoxForest = tree k d empty empty in
    let f : BoxForest = tree i e below rest in
    elim (cases (same_key p i)) [
      | inl s ↦ rw s refl
      | inr s ↦ elim (cases (has same_key p below)) [
        | inl h ↦
            let o : has same_key p rest ≡ false = a.2 p h in
            let b : BoxForest = children same_key p below in
            let c : children same_key p f ≡ b = children_miss p i e below rest s ∙ ap (λ z. b ▷ z) (no_children same_key same_key-sound same_key-refl p rest o) ∙ join-empty b in
            ap (λ z. with_children same_key p (z ▷ one) f) c ∙ under_miss p i e below rest s (b ▷ one)
            ∙ ap (λ z. tree i e (with_children same_key p (b ▷ one) below) z) (no_under same_key same_key-sound same_key-refl p (b ▷ one) rest o)
            ∙ ap (λ z. tree i e z rest) (grow_is p k d below a.3 h) ∙ sym (grow_below p i e below rest s k d h)
        | inr h ↦
            let r : BoxForest = children same_key p rest in
            let c : children same_key p f ≡ r = children_miss p i e below rest s ∙ ap (λ z. z ▷ r) (no_children same_key same_key-sound same_key-refl p below h) in
            ap (λ z. with_children same_key p (z ▷ one) f) c ∙ under_miss p i e below rest s (r ▷ one)
            ∙ ap (λ z. tree i e z (with_children same_key p (r ▷ one) rest)) (no_under same_key same_key-sound same_key-refl p (r ▷ one) below h)
            ∙ ap (λ z. tree i e below z) (grow_is p k d rest a.4 (rw (s, h) at m)) ∙ sym (grow_beside p i e below rest s k d h)
      ]
    ]

-- ---- keys

last_here : (a b r n : Bool) → (a || ((b || (n || (false || false))) || r)) ≡ ((a || (b || r)) || n)
last_here true b r n = refl
last_here false true r n = refl
last_here false false r true = elim r as (λ v. true ≡ (v || true)) [ true ↦ refl | false ↦ refl ]
last_here false false r false = elim r as (λ v. v ≡ (v || false)) [ true ↦ refl | false ↦ refl ]

last_below : (a b r n : Bool) → (a || ((b || n) || r)) ≡ ((a || (b || r)) || n)
last_below true b r n = refl
last_below false true r n = refl
last_below false false r true = elim r as (λ v. true ≡ (v || true)) [ true ↦ refl | false ↦ refl ]
last_below false false r false = elim r as (λ v. v ≡ (v || false)) [ true ↦ refl | false ↦ refl ]

last_beside : (a b r n : Bool) → (a || (b || (r || n))) ≡ ((a || (b || r)) || n)
last_beside true b r n = refl
last_beside false true r n = refl
last_beside false false r n = refl

pub has-grow : (j p k : BoxKey) (d : Item) (f : BoxForest) → has same_key p f ≡ true → has same_key j (grow p k d f) ≡ (has same_key j f || same_key j k)
has-grow j p k d empty m = absurd (let no : false ≡ true = m in cc)
has-grow j p k d (tree i e below rest) m =
    elim (cases (same_key p i)) [
      | inl s ↦ rw (s, has-join same_key same_key-sound same_key-refl j below (new k d)) (last_here (same_key j i) (has same_key j below) (has same_key j rest) (same_key j k))
      | inr s ↦ elim (cases (has same_key p below)) [
        | inl h ↦ rw (s, h, has-grow j p k d below h) (last_below (same_key j i) (has same_key j below) (has same_key j rest) (same_key j k))
        | inr h ↦ rw (s, h, has-grow j p k d rest (rw (s, h) at m)) (last_beside (same_key j i) (has same_key j below) (has same_key j rest) (same_key j k))
      ]
    ]

-- ---- depths

depth-join : (j : BoxKey) (f g : BoxForest) → has same_key j f ≡ true → depth same_key j (f ▷ g) ≡ depth same_key j f
depth-join j empty g m = absurd (let no : false ≡ true = m in cc)
depth-join j (tree i e below rest) g m =
    elim (cases (same_key j i)) [
      | inl s ↦ rw s refl
      | inr s ↦ elim (cases (has same_key j below)) [
        | inl h ↦ rw (s, h) refl
        | inr h ↦ rw (s, h) (depth-join j rest g (rw (s, h) at m))
      ]
    ]

depth-beyond : (j : BoxKey) (f g : BoxForest) → has same_key j f ≡ false → depth same_key j (f ▷ g) ≡ depth same_key j g
depth-beyond j empty g m = refl
depth-beyond j (tree i e below rest) g m =
    let s : (same_key j i ≡ false) × ((has same_key j below || has same_key j rest) ≡ false) = either (same_key j i) (has same_key j below || has same_key j rest) m in
    let t : (has same_key j below ≡ false) × (has same_key j rest ≡ false) = either (has same_key j below) (has same_key j rest) s.1 in
    rw (s.0, t.0) (depth-beyond j rest g t.1)

or_none : (b : Bool) → (b || (false || (false || false))) ≡ b
or_none true = refl
or_none false = refl

or_not : (b : Bool) → (b || false) ≡ b
or_not true = refl
or_not false = refl

-- the depths of the boxes that were there
pub depth-kept : (j p k : BoxKey) (d : Item) (f : BoxForest) → has same_key p f ≡ true → same_key j k ≡ false → depth same_key j (grow p k d f) ≡ depth same_key j f
depth-kept j p k d empty m n = refl
depth-kept j p k d (tree i e below rest) m n =
    elim (cases (same_key p i)) [
      | inl s ↦
          let here : has same_key j (below ▷ new k d) ≡ has same_key j below =
          has-join same_key same_key-sound same_key-refl j below (new k d) ∙ rw n (or_none (has same_key j below)) in
          elim (cases (has same_key j below)) [
            | inl h ↦ rw (s, here, h, depth-join j below (new k d) h) refl
            | inr h ↦ rw (s, here, h) refl
          ]
      | inr s ↦ elim (cases (has same_key p below)) [
        | inl h ↦
            let here : has same_key j (grow p k d below) ≡ has same_key j below = has-grow j p k d below h ∙ rw n (or_not (has same_key j below)) in
            rw (s, h, here, depth-kept j p k d below h n) refl
        | inr h ↦ rw (s, h, depth-kept j p k d rest (rw (s, h) at m) n) refl
      ]
    ]

or_true : (b : Bool) → (b || true) ≡ true
or_true true = refl
or_true false = refl

-- the new box is one deeper than its parent
pub depth-new : (p k : BoxKey) (d : Item) (f : BoxForest) → has same_key p f ≡ true → has same_key k f ≡ false → depth same_key k (grow p k d f) ≡ depth same_key p f + 1
depth-new p k d empty m n = absurd (let no : false ≡ true = m in cc)
depth-new p k d (tree i e below rest) m n =
    let u : (same_key k i ≡ false) × ((has same_key k below || has same_key k rest) ≡ false) = either (same_key k i) (has same_key k below || has same_key k rest) n in
    let v : (has same_key k below ≡ false) × (has same_key k rest ≡ false) = either (has same_key k below) (has same_key k rest) u.1 in
    elim (cases (same_key p i)) [
      | inl s ↦
          let here : has same_key k (below ▷ new k d) ≡ true = has-join same_key same_key-sound same_key-refl k below (new k d) ∙ rw (v.0, same_key-refl k) refl in
          let deep : depth same_key k (below ▷ new k d) ≡ 1 = depth-beyond k below (new k d) v.0 ∙ rw (same_key-refl k) refl in
          rw (s, u.0, here, deep) refl
      | inr s ↦ elim (cases (has same_key p below)) [
        | inl h ↦
            let here : has same_key k (grow p k d below) ≡ true = has-grow k p k d below h ∙ rw (same_key-refl k) (or_true (has same_key k below)) in
            let deep : depth same_key k (grow p k d below) ≡ depth same_key p below + 1 = depth-new p k d below h v.0 in
            rw (s, h, u.0, here, deep) (omega arith)
        | inr h ↦
            let deep : depth same_key k (grow p k d rest) ≡ depth same_key p rest + 1 = depth-new p k d rest (rw (s, h) at m) v.1 in
            rw (s, h, u.0, v.0, deep) refl
      ]
    ]

-- ---- names

or_else-assoc : (a b c : Option BoxKey) → or_else a (or_else b c) ≡ or_else (or_else a b) c
or_else-assoc None b c = refl
or_else-assoc (Some k) b c = refl

or_else-none : (a : Option BoxKey) → or_else a None ≡ a
or_else-none None = refl
or_else-none (Some k) = refl

named-join : (q : List ℕ) (f g : BoxForest) → named q (f ▷ g) ≡ or_else (named q f) (named q g)
named-join q empty g = refl
named-join q (tree i e below rest) g =
    elim (cases (bytes_eq e.id q)) [
      | inl s ↦ rw s refl
      | inr s ↦ rw (s, named-join q rest g) (or_else-assoc (named q below) (named q rest) (named q g))
    ]

named-one : (q : List ℕ) (k : BoxKey) (d : Item) → bytes_eq d.id q ≡ false → named q (new k d) ≡ None
named-one q k d n = rw n refl

-- what has another id is found as before
pub named-kept : (q : List ℕ) (p k : BoxKey) (d : Item) (f : BoxForest) → has same_key p f ≡ true → bytes_eq d.id q ≡ false → named q (grow p k d f) ≡ named q f
named-kept q p k d empty m n = refl
named-kept q p k d (tree i e below rest) m n =
    elim (cases (same_key p i)) [
      | inl s ↦ rw (s, named-join q below (new k d), named-one q k d n, or_else-none (named q below)) refl
      | inr s ↦ elim (cases (has same_key p below)) [
        | inl h ↦ rw (s, h, named-kept q p k d below h n) refl
        | inr h ↦ rw (s, h, named-kept q p k d rest (rw (s, h) at m) n) refl
      ]
    ]

parts_none : (b : Bool) (i : BoxKey) (x y : Option BoxKey) → cond b (Some i) (or_else x y) ≡ None → (b ≡ false) × (x ≡ None) × (y ≡ None)
parts_none true i x y h = absurd (let no : Some i ≡ None = h in cc)
parts_none false i (Some j) y h = absurd (let no : Some j ≡ None = h in cc)
parts_none false i None y h = (refl, refl, h)

-- the new box is found by an id that no box had
pub named-new : (q : List ℕ) (p k : BoxKey) (d : Item) (f : BoxForest) → has same_key p f ≡ true → bytes_eq d.id q ≡ true → named q f ≡ None → named q (grow p k d f) ≡ Some k
named-new q p k d empty m y n = absurd (let no : false ≡ true = m in cc)
named-new q p k d (tree i e below rest) m y n =
    let u : (bytes_eq e.id q ≡ false) × (named q below ≡ None) × (named q rest ≡ None) = parts_none (bytes_eq e.id q) i (named q below) (named q rest) n in
    elim (cases (same_key p i)) [
      | inl s ↦ rw (s, u.0, named-join q below (new k d), u.1, y) refl
      | inr s ↦ elim (cases (has same_key p below)) [
        | inl h ↦ rw (s, h, u.0, named-new q p k d below h y u.1) refl
        | inr h ↦ rw (s, h, u.0, u.1, named-new q p k d rest (rw (s, h) at m) y u.2) refl
      ]
    ]
