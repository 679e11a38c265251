-- Lists that are read are those that are spelled.
use Rattle.std.proofs.Common.{◌≡◌, ℕ, zero, suc, ◌+◌, ◌^◌, ◌<◌, ◌≤◌, Bool, true, false, List, [], ◌∷◌, ◌++◌, Some, None, inl, inr, refl, sym, ap, subst, ◌∙◌, append_assoc, arith}
use Rattle.std.specs.Int.{w32}
use Rattle.std.specs.Bool.{◌==◌}
use Rattle.std.proofs.lemmas.Bool.{cases_lt, lt-ltb, le-ltb}
use Rattle.rd_geom.specs.Plane.{Rectangle}
use Rattle.rd_item.specs.Items.{Made}
use Rattle.rd_list.specs.Wrappers.{Wrapper}
use Rattle.rd_list.specs.Entries.{Entries, nil, leaf, group, is_empty}
use Rattle.rd_list.specs.GroupDepth.{group_depth}
use Rattle.rd_list.specs.Views.{larger}
use Rattle.rd_wire.specs.Fields.{number}
use Rattle.rd_wire.specs.Leaves.{leaf_form}
use Rattle.rd_wire.specs.Wires.{width, group_form, entries_form, level, EachEntry, FitsGroup, IsFilled}
use Rattle.rd_wire.specs.Internal.Reading.{Reader, ◌>>=◌, pair_at, made_at, number_at}
use Rattle.rd_wire.specs.Internal.Ones.{One, below}
use Rattle.rd_wire.specs.Internal.LeafReading.{leaf_at}
use Rattle.rd_wire.specs.Internal.LevelReading.{head_of, head_at, filled, leaf_one_at, group_one_at, one_at, entry_at, entries_at, level_at, inside_at}
use Rattle.rd_wire.proofs.Parts.{IsBytes, IsBytes-rest, Takes, Takes-then, Reads, reads_pair, reads_made, reads_byte, then_some, some_is}
use Rattle.rd_wire.proofs.Spelled.{reads_32, reads_key, reads_mode}
use Rattle.rd_wire.proofs.Seen.{GoodLeaf, reads_leaf}

-- ---- groups

reads_head : Reads FitsGroup group_form head_at
unfolding head_at
reads_head = reads_made (reads_pair reads_key (reads_pair reads_byte reads_mode)) (λ p. Some (head_of p)) (λ g. (g.key, (g.opacity, g.blend))) FitsGroup
    (λ p g f e. let i = some_is (head_of p) g e in
    (ap (λ (h : Wrapper). (h.key, (h.opacity, h.blend))) (sym i), subst FitsGroup i (record { key = f.0; opacity = f.1.0 })))
    (λ g f. ((f.key, (f.opacity, tt)), refl))

-- ---- numbers of groups round an entry

pub both_below : (a b d : ℕ) → a ≤ d → b ≤ d → larger a b ≤ d
both_below a b d p q = elim (cases_lt a b) [
  | inl l ↦ let t = lt-ltb a b l in rw t q
  | inr l ↦ let f = le-ltb a b l in rw f p
]

pub below_both : (a b d : ℕ) → larger a b ≤ d → (a ≤ d) × (b ≤ d)
below_both a b d p = elim (cases_lt a b) [
  | inl l ↦ let t = lt-ltb a b l in let q : b ≤ d = rw t at p in (omega (arith, l, q), q)
  | inr l ↦ let f = le-ltb a b l in let q : a ≤ d = rw f at p in (q, omega (arith, l, q))
]

-- ---- entries

module _ (canvas : Rectangle) where
  abbrev pub GoodGroup : Wrapper → Entries Wrapper Made → Type 0
  GoodGroup g inner = FitsGroup g × IsFilled inner

  abbrev pub GoodEntries : Entries Wrapper Made → Type 0
  GoodEntries x = EachEntry (GoodLeaf canvas) GoodGroup x

  -- the list of a group round which so many groups, with its own, may stand
  pub record GoodInside (d : ℕ) (x : Entries Wrapper Made) : Type 0 where
    pub good : GoodEntries x
    pub filled : IsFilled x
    pub depth : group_depth x + 1 ≤ d

  -- so many entries round which so many groups may stand
  pub record GoodMany (d n : ℕ) (x : Entries Wrapper Made) : Type 0 where
    pub good : GoodEntries x
    pub count : width x ≡ n
    pub depth : group_depth x ≤ d

  pub record GoodLevel (d : ℕ) (x : Entries Wrapper Made) : Type 0 where
    pub good : GoodEntries x
    pub count : width x < 2 ^ 32
    pub depth : group_depth x ≤ d

  abbrev GoodOne : ℕ → One → Type 0
  GoodOne d (inl m) = GoodLeaf canvas m
  GoodOne d (inr g) = FitsGroup g.0 × GoodInside d g.1

abbrev one_form : One → List ℕ
one_form (inl m) = 1 ∷ leaf_form m
one_form (inr g) = 2 ∷ (group_form g.0 ++ level g.1)

abbrev one_leaf : Made → One
one_leaf m = inl m

abbrev one_group : Wrapper × Entries Wrapper Made → One
one_group g = inr g

abbrev pair_of : {A B : Type 0} → A → B → A × B
pair_of a b = (a, b)

put_below : (e : One) (es : Entries Wrapper Made) (r : List ℕ) (p : (One × Entries Wrapper Made) × List ℕ) (y : Entries Wrapper Made × List ℕ)
    → ((e, es), r) ≡ p → (below p.0.0 p.0.1, p.1) ≡ y → pair_of (below e es) r ≡ y
put_below e es r p y a b = ap (λ (z : (One × Entries Wrapper Made) × List ℕ). (below z.0.0 z.0.1, z.1)) a ∙ b

-- one byte more in front
cons_takes : (b : ℕ) (bytes text rest : List ℕ) → Takes bytes text rest → Takes (b ∷ bytes) (b ∷ text) rest
cons_takes b bytes text rest t = record { parts = ap (λ (w : List ℕ). b ∷ w) t.parts; rest_fits = t.rest_fits }

module _ (canvas : Rectangle) (d : ℕ) (inside : Reader (Entries Wrapper Made)) (reads : Reads (GoodInside canvas d) level inside) where
  takes_leaf : (bytes : List ℕ) (x : One) (rest : List ℕ) → IsBytes bytes → made_at (leaf_at canvas) (λ m. Some (one_leaf m)) bytes ≡ Some (x, rest) → Takes (1 ∷ bytes) (one_form x) rest × GoodOne canvas d x
  takes_leaf bytes x rest fits e =
      let p = then_some (leaf_at canvas bytes) (λ m. Some (one_leaf m.0, m.1)) (x, rest) e in
      let u = (reads_leaf canvas).takes bytes p.0.0 p.0.1 fits p.1 in
      subst (λ (y : One × List ℕ). Takes (1 ∷ bytes) (one_form y.0) y.1 × GoodOne canvas d y.0) (some_is (one_leaf p.0.0, p.0.1) (x, rest) p.2)
      (cons_takes 1 bytes (leaf_form p.0.0) p.0.1 u.0, u.1)

  takes_group : (bytes : List ℕ) (x : One) (rest : List ℕ) → IsBytes bytes → made_at (pair_at head_at inside) (λ g. Some (one_group g)) bytes ≡ Some (x, rest) → Takes (2 ∷ bytes) (one_form x) rest × GoodOne canvas d x
  takes_group bytes x rest fits e =
      let p = then_some (pair_at head_at inside bytes) (λ g. Some (one_group g.0, g.1)) (x, rest) e in
      let u = (reads_pair reads_head reads).takes bytes p.0.0 p.0.1 fits p.1 in
      subst (λ (y : One × List ℕ). Takes (2 ∷ bytes) (one_form y.0) y.1 × GoodOne canvas d y.0) (some_is (one_group p.0.0, p.0.1) (x, rest) p.2)
      (cons_takes 2 bytes (group_form p.0.0.0 ++ level p.0.0.1) p.0.1 u.0, u.1)

  entry_takes : (bytes : List ℕ) (x : One) (rest : List ℕ) → IsBytes bytes → entry_at canvas inside bytes ≡ Some (x, rest) → Takes bytes (one_form x) rest × GoodOne canvas d x
  unfolding entry_at one_at leaf_one_at group_one_at
  entry_takes [] x rest fits e = absurd cc
  entry_takes (zero ∷ bytes) x rest fits e = absurd cc
  entry_takes (suc zero ∷ bytes) x rest fits e = takes_leaf bytes x rest (IsBytes-rest 1 bytes fits) e
  entry_takes (suc (suc zero) ∷ bytes) x rest fits e = takes_group bytes x rest (IsBytes-rest 2 bytes fits) e
  entry_takes (suc (suc (suc n)) ∷ bytes) x rest fits e = absurd cc

  entry_again : (x : One) (rest : List ℕ) → GoodOne canvas d x → entry_at canvas inside (one_form x ++ rest) ≡ Some (x, rest)
  unfolding entry_at one_at leaf_one_at group_one_at
  entry_again (inl m) rest f = rw ((reads_leaf canvas).again m rest f) refl
  entry_again (inr g) rest f = ap (λ r. r >>= λ y. Some (one_group y.0, y.1)) ((reads_pair reads_head reads).again g rest f)

  reads_entry : Reads (GoodOne canvas d) one_form (entry_at canvas inside)
  reads_entry = record { takes = entry_takes; again = entry_again }

  below_form : (e : One) (es : Entries Wrapper Made) → one_form e ++ entries_form es ≡ entries_form (below e es)
  below_form (inl m) es = refl
  below_form (inr g) es = refl

  below_good : (n : ℕ) (e : One) (es : Entries Wrapper Made) → GoodOne canvas d e → GoodMany canvas d n es → GoodMany canvas d (suc n) (below e es)
  below_good n (inl m) es f g = record { good = (f, g.good); count = omega (arith, g.count); depth = g.depth }
  below_good n (inr h) es f g = record {
    good = ((f.0, f.1.filled), f.1.good, g.good);
    count = omega (arith, g.count);
    depth = both_below (group_depth h.1 + 1) (group_depth es) d f.1.depth g.depth;
  }

  many_takes : (n : ℕ) (bytes : List ℕ) (x : Entries Wrapper Made) (rest : List ℕ) → IsBytes bytes → entries_at canvas inside n bytes ≡ Some (x, rest) → Takes bytes (entries_form x) rest × GoodMany canvas d n x
  unfolding entries_at
  many_takes zero bytes x rest fits e =
      subst (λ (y : Entries Wrapper Made × List ℕ). Takes bytes (entries_form y.0) y.1 × GoodMany canvas d zero y.0) (some_is (nil, bytes) (x, rest) e)
      (record { parts = refl; rest_fits = fits }, record { good = tt; count = refl; depth = omega arith })
  many_takes (suc n) bytes x rest fits e =
      let p = then_some (pair_at (entry_at canvas inside) (entries_at canvas inside n) bytes) (λ y. Some (below y.0.0 y.0.1, y.1)) (x, rest) e in
      let q = then_some (entry_at canvas inside bytes) (λ y. entries_at canvas inside n y.1 >>= λ z. Some ((y.0, z.0), z.1)) p.0 p.1 in
      let r = then_some (entries_at canvas inside n q.0.1) (λ z. Some ((q.0.0, z.0), z.1)) p.0 q.2 in
      let u = entry_takes bytes q.0.0 q.0.1 fits q.1 in
      let v = many_takes n q.0.1 r.0.0 r.0.1 u.0.rest_fits r.1 in
      let t = Takes-then bytes (one_form q.0.0) q.0.1 (entries_form r.0.0) r.0.1 u.0 v.0 in
      let w : Takes bytes (entries_form (below q.0.0 r.0.0)) r.0.1 = subst (λ (s : List ℕ). Takes bytes s r.0.1) (below_form q.0.0 r.0.0) t in
      let both : ((q.0.0, r.0.0), r.0.1) ≡ p.0 = some_is ((q.0.0, r.0.0), r.0.1) p.0 r.2 in
      let end : (below p.0.0.0 p.0.0.1, p.0.1) ≡ (x, rest) = some_is (below p.0.0.0 p.0.0.1, p.0.1) (x, rest) p.2 in
      let all : (below q.0.0 r.0.0, r.0.1) ≡ (x, rest) = put_below q.0.0 r.0.0 r.0.1 p.0 (x, rest) both end in
      subst (λ (y : Entries Wrapper Made × List ℕ). Takes bytes (entries_form y.0) y.1 × GoodMany canvas d (suc n) y.0) all (w, below_good n q.0.0 r.0.0 u.1 v.1)

  many_again : (n : ℕ) (x : Entries Wrapper Made) (rest : List ℕ) → GoodMany canvas d n x → entries_at canvas inside n (entries_form x ++ rest) ≡ Some (x, rest)
  unfolding entries_at
  many_again zero nil rest g = refl
  many_again zero (leaf m x) rest g = absurd (omega (arith, g.count))
  many_again zero (group h inner x) rest g = absurd (omega (arith, g.count))
  many_again (suc n) nil rest g = absurd (omega (arith, g.count))
  many_again (suc n) (leaf m x) rest g =
      let tail : GoodMany canvas d n x = record { good = g.good.1; count = omega (arith, g.count); depth = g.depth } in
      let first = entry_again (one_leaf m) (entries_form x ++ rest) g.good.0 in
      let others = many_again n x rest tail in
      ap (λ (s : List ℕ). made_at (pair_at (entry_at canvas inside) (entries_at canvas inside n)) (λ p. Some (below p.0 p.1)) s) (append_assoc (one_form (one_leaf m)) (entries_form x) rest)
      ∙ rw (first, others) refl
  many_again (suc n) (group h inner x) rest g =
      let b = below_both (group_depth inner + 1) (group_depth x) d g.depth in
      let tail : GoodMany canvas d n x = record { good = g.good.2; count = omega (arith, g.count); depth = b.1 } in
      let first = entry_again (one_group (h, inner)) (entries_form x ++ rest) (g.good.0.0, record { good = g.good.1; filled = g.good.0.1; depth = b.0 }) in
      let others = many_again n x rest tail in
      ap (λ (s : List ℕ). made_at (pair_at (entry_at canvas inside) (entries_at canvas inside n)) (λ p. Some (below p.0 p.1)) s) (append_assoc (one_form (one_group (h, inner))) (entries_form x) rest)
      ∙ rw (first, others) refl

  level_takes : (bytes : List ℕ) (x : Entries Wrapper Made) (rest : List ℕ) → IsBytes bytes → level_at canvas inside bytes ≡ Some (x, rest) → Takes bytes (level x) rest × GoodLevel canvas d x
  unfolding level_at
  level_takes bytes x rest fits e =
      let p = then_some (number_at w32 bytes) (λ n. entries_at canvas inside n.0 n.1) (x, rest) e in
      let u = reads_32.takes bytes p.0.0 p.0.1 fits p.1 in
      let v = many_takes p.0.0 p.0.1 x rest u.0.rest_fits p.2 in
      let t = Takes-then bytes (number p.0.0) p.0.1 (entries_form x) rest u.0 v.0 in (
        subst (λ (k : ℕ). Takes bytes (number k ++ entries_form x) rest) (sym v.1.count) t,
        record { good = v.1.good; count = omega (arith, u.1, v.1.count); depth = v.1.depth },
      )

  level_again : (x : Entries Wrapper Made) (rest : List ℕ) → GoodLevel canvas d x → level_at canvas inside (level x ++ rest) ≡ Some (x, rest)
  unfolding level_at
  level_again x rest g =
      let first = reads_32.again (width x) (entries_form x ++ rest) g.count in
      let others = many_again (width x) x rest (record { good = g.good; count = refl; depth = g.depth }) in
      ap (λ (s : List ℕ). number_at w32 s >>= λ n. entries_at canvas inside n.0 n.1) (append_assoc (number (width x)) (entries_form x) rest)
      ∙ rw first others

  pub reads_level : Reads (GoodLevel canvas d) level (level_at canvas inside)
  reads_level = record { takes = level_takes; again = level_again }

filled_some : (x y : Entries Wrapper Made) → filled x ≡ Some y → (is_empty x ≡ false) × (x ≡ y)
filled_some x y e = by (is_empty x) refl
  where
    by : (b : Bool) → is_empty x ≡ b → (is_empty x ≡ false) × (x ≡ y)
    by true h = let no : None ≡ Some y = rw h at e in absurd cc
    by false h = let yes : Some x ≡ Some y = rw h at e in (h, cc)

module _ (canvas : Rectangle) where
  pub reads_inside : (d : ℕ) → Reads (GoodInside canvas d) level (inside_at canvas d)
  unfolding inside_at
  reads_inside zero = record { takes = λ bytes x rest fits e. absurd cc; again = λ x rest g. absurd (omega (arith, g.depth)) }
  reads_inside (suc d) = reads_made (reads_level canvas d (inside_at canvas d) (reads_inside d)) filled (λ x. x) (GoodInside canvas (suc d))
      (λ x y f e. let k = filled_some x y e in
      (sym k.1, subst (GoodInside canvas (suc d)) k.1 (record { good = f.good; filled = record { some = k.0; count = f.count }; depth = omega (arith, f.depth) })))
      (λ x g. (record { good = g.good; count = g.filled.count; depth = omega (arith, g.depth) }, let e = g.filled.some in rw e refl))
