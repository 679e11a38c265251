-- What counts of blended layers tell.
use Rattle.std.proofs.Common.{◌≡◌, refl, ap, ◌∙◌, sym, ℕ, ◌+◌, ◌≤◌, Bool, true, false, ◌||◌, ◌&&◌, not, cond, arith, inl, inr}
use Rattle.std.specs.Prelude.{Option, Some, None, nat_lt}
use Rattle.rd_style.specs.declared.styles.Style.{Style}
use Rattle.rd_style.specs.Classes.{real, blended}
use Rattle.rd_keys.specs.Keys.{same_key}
use Rattle.rd_keys.proofs.Keys.{same_key-sound, same_key-refl}
use Rattle.rd_tree.specs.Forest.{empty, tree, size, ◌▷◌, has, starting_at, map_where}
use Rattle.rd_tree.specs.Document.{BoxKey, Item, BoxForest}
use Rattle.rd_tree.specs.Contexts.{blends, blends_in}
use Rattle.rd_tree.specs.Internal.Blending.{given, given_in, AreCounts, owed, Owes, blends_first}
use Rattle.rd_tree.proofs.Linking.Standing.{cases, either, never, from_left, from_right}

module _ (j k : BoxKey) (d : Item) (below rest : BoxForest) where
  pub in_low : has same_key j below ≡ true → has same_key j (tree k d below rest) ≡ true
  in_low u = from_right (same_key j k) (has same_key j below || has same_key j rest) (from_left (has same_key j below) (has same_key j rest) u)

  pub in_rest : has same_key j rest ≡ true → has same_key j (tree k d below rest) ≡ true
  in_rest u = from_right (same_key j k) (has same_key j below || has same_key j rest) (from_right (has same_key j below) (has same_key j rest) u)

  pub off_parts : has same_key j (tree k d below rest) ≡ false → (same_key j k ≡ false) × (has same_key j below ≡ false) × (has same_key j rest ≡ false)
  off_parts h =
      let s = either (same_key j k) (has same_key j below || has same_key j rest) h in
      let t = either (has same_key j below) (has same_key j rest) s.1 in
      (s.0, t.0, t.1)

pub in_top : (k : BoxKey) (d : Item) (below rest : BoxForest) → has same_key k (tree k d below rest) ≡ true
in_top k d below rest = from_left (same_key k k) (has same_key k below || has same_key k rest) (same_key-refl k)

-- ---- counts that agree

module _ (n m : BoxKey → ℕ) where
  pub given_as : (f : BoxForest) → ((j : BoxKey) → has same_key j f ≡ true → m j ≡ n j) → given_in m f ≡ given_in n f
  given_as empty h = refl
  given_as (tree k d below rest) h =
      ap (λ x. given d.style x + given_in m rest) (h k (in_top k d below rest)) ∙ ap (λ x. given d.style (n k) + x) (given_as rest (λ j u. h j (in_rest j k
      d below rest u)))

  pub counts_as : (f : BoxForest) → ((j : BoxKey) → has same_key j f ≡ true → m j ≡ n j) → AreCounts n f → AreCounts m f
  counts_as empty h a = tt
  counts_as (tree k d below rest) h a = (
    h k (in_top k d below rest) ∙ (a.0 ∙ sym (given_as below (λ j u. h j (in_low j k d below rest u)))),
    counts_as below (λ j u. h j (in_low j k d below rest u)) a.1,
    counts_as rest (λ j u. h j (in_rest j k d below rest u)) a.2,
  )

-- ---- siblings after siblings

pub given-join : (n : BoxKey → ℕ) (f g : BoxForest) → given_in n (f ▷ g) ≡ given_in n f + given_in n g
given-join n empty g = omega arith
given-join n (tree k d below rest) g = omega (arith, given-join n rest g)

pub counts_join : (n : BoxKey → ℕ) (f g : BoxForest) → AreCounts n f → AreCounts n g → AreCounts n (f ▷ g)
counts_join n empty g a b = b
counts_join n (tree k d below rest) g a b = (a.0, a.1, counts_join n rest g a.2 b)

-- ---- items that keep their styles

module _ (n : BoxKey → ℕ) (p : BoxKey → Bool) (e : Item → Item) (keeps : (d : Item) → (e d).style ≡ d.style) where
  style_kept : (b : Bool) (d : Item) → (cond b (e d) d).style ≡ d.style
  style_kept true d = keeps d
  style_kept false d = refl

  pub given-each : (f : BoxForest) → given_in n (map_where p e f) ≡ given_in n f
  given-each empty = refl
  given-each (tree k d below rest) = ap (λ s. given s (n k) + given_in n (map_where p e rest)) (style_kept (p k) d) ∙ ap (λ x. given d.style (n k) + x)
      (given-each rest)

  pub counts_each : (f : BoxForest) → AreCounts n f → AreCounts n (map_where p e f)
  counts_each empty a = tt
  counts_each (tree k d below rest) a = (a.0 ∙ sym (given-each below), counts_each below a.1, counts_each rest a.2)

  pub owes_each : (from : Option BoxKey) (less more : ℕ) (f : BoxForest) → Owes from less more n f → Owes from less more n (map_where p e f)
  owes_each from less more empty a = tt
  owes_each from less more (tree k d below rest) a = (
    a.0 ∙ ap (λ x. x + owed from k less) (sym (given-each below)),
    owes_each from less more below a.1,
    owes_each from less more rest a.2,
  )

-- ---- how many there may be

pub given_few : (s : Style) (x y : ℕ) → x ≤ y → given s x ≤ 1 + y
given_few s x y h = at (blended s) (real s false) where
  at : (b c : Bool) → cond b 1 (cond c 0 x) ≤ 1 + y
  at true c = omega arith
  at false true = omega arith
  at false false = omega arith

pub few_given : (n : BoxKey → ℕ) (f : BoxForest) → AreCounts n f → given_in n f ≤ size f
few_given n empty a = omega arith
few_given n (tree k d below rest) a =
    let l : n k ≤ size below = omega (arith, a.0, few_given n below a.1) in
    let r : given_in n rest ≤ size rest = few_given n rest a.2 in
    let g : given d.style (n k) ≤ 1 + size below = given_few d.style (n k) (size below) l in
    omega (arith, g, r)

-- ---- what a look tells

some_given : (s : Style) (x : ℕ) → nat_lt 0 (given s x) ≡ (blended s || (not (real s false) && nat_lt 0 x))
some_given s x = at (blended s) (real s false) where
  at : (b c : Bool) → nat_lt 0 (cond b 1 (cond c 0 x)) ≡ (b || (not c && nat_lt 0 x))
  at true c = refl
  at false true = refl
  at false false = refl

some_sum : (x y : ℕ) → nat_lt 0 (x + y) ≡ (nat_lt 0 x || nat_lt 0 y)
some_sum x y = grind arith

-- A blended layer stands among some boxes where they put one into the stacking context round them.
pub some_blended : (n : BoxKey → ℕ) (f : BoxForest) → AreCounts n f → nat_lt 0 (given_in n f) ≡ blends_in f
some_blended n empty a = refl
some_blended n (tree k d below rest) a =
    let low : nat_lt 0 (n k) ≡ blends_in below = ap (nat_lt 0) a.0 ∙ some_blended n below a.1 in
    some_sum (given d.style (n k)) (given_in n rest)
    ∙ (ap (λ b. b || nat_lt 0 (given_in n rest)) (some_given d.style (n k) ∙ ap (blends d) low) ∙ ap (λ b. blends d (blends_in below) || b)
    (some_blended n rest a.2))

pub blends_here : (n : BoxKey → ℕ) (k : BoxKey) (f : BoxForest) → AreCounts n f → has same_key k f ≡ true → nat_lt 0 (n k) ≡ blends_first (starting_at
    same_key k f)
blends_here n k empty a m = absurd (never false m refl)
blends_here n k (tree j d below rest) a m =
    elim (cases (same_key k j)) [
      | inl e ↦ rw e (ap (λ i. nat_lt 0 (n i)) (same_key-sound k j e) ∙ (ap (nat_lt 0) a.0 ∙ some_blended n below a.1))
      | inr e ↦ elim (cases (has same_key k below)) [
        | inl u ↦ rw (e, u) (blends_here n k below a.1 u)
        | inr u ↦ rw (e, u) (blends_here n k rest a.2 (rw (e, u) at m))
      ]
    ]

-- ---- no box owes

pub owes_none : (n : BoxKey → ℕ) (from : Option BoxKey) (same : ℕ) (f : BoxForest) → Owes from same same n f → AreCounts n f
owes_none n from same empty a = tt
owes_none n from same (tree k d below rest) a = (omega (arith, a.0), owes_none n from same below a.1, owes_none n from same rest a.2)

pub owes_ended : (n : BoxKey → ℕ) (less more : ℕ) (f : BoxForest) → Owes None less more n f → AreCounts n f
owes_ended n less more empty a = tt
owes_ended n less more (tree k d below rest) a = (omega (arith, a.0), owes_ended n less more below a.1, owes_ended n less more rest a.2)

-- The box that owes is none of these.
abbrev pub Off : Option BoxKey → BoxForest → Type 0
Off o f = (j : BoxKey) → o ≡ Some j → has same_key j f ≡ false

pub owed_off : (o : Option BoxKey) (k : BoxKey) (x : ℕ) → ((j : BoxKey) → o ≡ Some j → same_key j k ≡ false) → owed o k x ≡ 0
owed_off None k x h = refl
owed_off (Some p) k x h = ap (λ b. cond b x 0) (h p refl)

module _ (n : BoxKey → ℕ) (o : Option BoxKey) (less more : ℕ) where
  pub owes_off : (f : BoxForest) → Off o f → AreCounts n f → Owes o less more n f
  owes_off empty h a = tt
  owes_off (tree k d below rest) h a =
      let l : owed o k less ≡ 0 = owed_off o k less (λ j e. (off_parts j k d below rest (h j e)).0) in
      let m : owed o k more ≡ 0 = owed_off o k more (λ j e. (off_parts j k d below rest (h j e)).0) in (
        omega (arith, l, m, a.0),
        owes_off below (λ j e. (off_parts j k d below rest (h j e)).1) a.1,
        owes_off rest (λ j e. (off_parts j k d below rest (h j e)).2) a.2,
      )

  pub off_owes : (f : BoxForest) → Off o f → Owes o less more n f → AreCounts n f
  off_owes empty h a = tt
  off_owes (tree k d below rest) h a =
      let l : owed o k less ≡ 0 = owed_off o k less (λ j e. (off_parts j k d below rest (h j e)).0) in
      let m : owed o k more ≡ 0 = owed_off o k more (λ j e. (off_parts j k d below rest (h j e)).0) in (
        omega (arith, l, m, a.0),
        off_owes below (λ j e. (off_parts j k d below rest (h j e)).1) a.1,
        off_owes rest (λ j e. (off_parts j k d below rest (h j e)).2) a.2,
      )
