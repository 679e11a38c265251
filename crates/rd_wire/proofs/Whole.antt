-- Wires that are read are those that are spelled, and one spelling begins no other.
use Rattle.std.proofs.Common.{◌≡◌, ℕ, ℤ, pos, ◌^◌, ◌<◌, ◌≤◌, ◌≤ℤ◌, ◌&&◌, true, cond, List, [], ◌∷◌, ◌++◌, Some, None, refl, sym, ap, subst, ◌∙◌, append_assoc, arith}
use Rattle.std.specs.Prelude.{unsigned_abs, nat_le}
use Rattle.std.specs.Bool.{◌==◌}
use Rattle.std.proofs.lemmas.Bool.{eqb-true}
use Rattle.std.proofs.lemmas.List.{append-nil}
use Rattle.std.proofs.lemmas.Int.{ints}
use Rattle.rd_geom.specs.Canvas.{IsCanvas, canvas_of}
use Rattle.rd_geom.specs.declared.rect.Size.{Size}
use Rattle.rd_geom.specs.Figures.{max_canvas_side}
use Rattle.rd_item.specs.Items.{Made}
use Rattle.rd_graph.specs.Orders.{Once}
use Rattle.rd_list.specs.Wrappers.{Wrapper}
use Rattle.rd_list.specs.Entries.{Entries, nil, leaf, group}
use Rattle.rd_wire.specs.Leaves.{FitsLeaf, IsSeen}
use Rattle.rd_wire.specs.Wires.{level, side, spelled, names, EachEntry, FitsGroup, IsFilled, IsWire}
use Rattle.rd_wire.specs.Figures.{max_groups}
use Rattle.rd_wire.specs.declared.fault.WireFault.{WireFault}
use Rattle.rd_wire.specs.declared.fault.WireFault.TheVariants.{Form}
use Rattle.rd_wire.specs.declared.wire.Wire.{Wire}
use Rattle.rd_wire.specs.Internal.Gives.{Fails}
use Rattle.rd_wire.specs.Internal.Reading.{◌>>=◌}
use Rattle.rd_wire.specs.Internal.LevelReading.{inside_at, is_side, size_of, size_at, letters_at, list_at, wire_at, is_nil, whole_wire}
use Rattle.rd_wire.proofs.Parts.{IsBytes, Takes, Takes-then, Reads, reads_pair, reads_made, reads_byte, reads_16, then_some, some_is}
use Rattle.rd_wire.proofs.Spelled.{both, let_through, Every}
use Rattle.rd_wire.proofs.Seen.{GoodLeaf}
use Rattle.rd_wire.proofs.Levels.{GoodGroup, GoodLevel, reads_level, reads_inside}

-- ---- the canvas

side_true : (n : ℕ) → is_side n ≡ true → (1 ≤ n) × (n ≤ 4096)
side_true n h = let p = both (nat_le 1 n) (nat_le n 4096) h in (grind arith, grind arith)

true_side : (n : ℕ) → 1 ≤ n → n ≤ 4096 → is_side n ≡ true
true_side n l m = grind arith

canvas_at : (n m : ℕ) → is_side n ≡ true → is_side m ≡ true → IsCanvas (record { w = pos n; h = pos m })
canvas_at n m p q =
    let a = side_true n p in
    let b = side_true m q in
    record { some_wide = omega (arith, ints, a.0); wide = omega (arith, ints, a.1); some_high = omega (arith, ints, b.0); high = omega (arith, ints, b.1) }

abbrev size_from : ℕ × ℕ → Size
size_from p = record { w = pos p.0; h = pos p.1 }

abbrev sides_of : Size → ℕ × ℕ
sides_of s = (unsigned_abs s.w, unsigned_abs s.h)

sides_back : (s : Size) → IsCanvas s → ((unsigned_abs s.w < 2 ^ 16) × (unsigned_abs s.h < 2 ^ 16)) × (size_of (sides_of s) ≡ Some s)
sides_back s c =
    let w = natural s.w c.some_wide in
    let h = natural s.h c.some_high in
    let v : pos w.0 ≤ℤ max_canvas_side = subst (λ (z : ℤ). z ≤ℤ max_canvas_side) w.1 c.wide in
    let u : pos h.0 ≤ℤ max_canvas_side = subst (λ (z : ℤ). z ≤ℤ max_canvas_side) h.1 c.high in
    let a : pos 1 ≤ℤ pos w.0 = subst (λ (z : ℤ). pos 1 ≤ℤ z) w.1 c.some_wide in
    let b : pos 1 ≤ℤ pos h.0 = subst (λ (z : ℤ). pos 1 ≤ℤ z) h.1 c.some_high in
    let back : (size_from (w.0, h.0)) ≡ s = two w.0 h.0 s w.1 h.1 in
    subst (λ (t : Size). ((unsigned_abs t.w < 2 ^ 16) × (unsigned_abs t.h < 2 ^ 16)) × (size_of (sides_of t) ≡ Some t)) back (known w.0 h.0 (omega (arith, ints, a)) (omega (arith, ints, v)) (omega (arith, ints, b)) (omega (arith, ints, u)))
  where
    natural : (z : ℤ) → pos 1 ≤ℤ z → (n : ℕ) × (z ≡ pos n)
    natural (pos n) h = (n, refl)
    natural (lib.IntN.negsuc n) h = absurd (omega (arith, ints, h))

    two : (n m : ℕ) (s : Size) → s.w ≡ pos n → s.h ≡ pos m → size_from (n, m) ≡ s
    two n m s p q = ap (λ (z : ℤ). record { w = z; h = pos m }) (sym p) ∙ ap (λ (z : ℤ). record { w = s.w; h = z }) (sym q)

    known : (n m : ℕ) → 1 ≤ n → n ≤ 4096 → 1 ≤ m → m ≤ 4096 → ((n < 2 ^ 16) × (m < 2 ^ 16)) × (size_of (n, m) ≡ Some (size_from (n, m)))
    known n m a b c d = ((omega arith, omega arith), let p = true_side n a b in let q = true_side m c d in rw (p, q) refl)

reads_size : Reads IsCanvas (λ s. side s.w ++ side s.h) size_at
unfolding size_at
reads_size = reads_made (reads_pair reads_16 reads_16) size_of sides_of IsCanvas
    (λ p s f e. let k = let_through (is_side p.0 && is_side p.1) (size_from p) s e in
    let t = both (is_side p.0) (is_side p.1) k.0 in
    (ap sides_of (sym k.1), subst IsCanvas k.1 (canvas_at p.0 p.1 t.0 t.1)))
    (λ s c. sides_back s c)

-- ---- the letters

abbrev Letters : Type 0
Letters = (ℕ × ℕ) × (ℕ × ℕ)

abbrev the_letters : Letters
the_letters = ((82, 68), (76, 49))

are_letters : (p : Letters) → (p.0.0 == 82 && p.0.1 == 68 && p.1.0 == 76 && p.1.1 == 49) ≡ true → the_letters ≡ p
are_letters p h =
    let a = both _ (p.1.1 == 49) h in
    let b = both _ (p.1.0 == 76) a.0 in
    let c = both (p.0.0 == 82) (p.0.1 == 68) b.0 in
    let first : p.0.0 ≡ 82 = eqb-true p.0.0 82 c.0 in
    let second : p.0.1 ≡ 68 = eqb-true p.0.1 68 c.1 in
    let third : p.1.0 ≡ 76 = eqb-true p.1.0 76 b.1 in
    let fourth : p.1.1 ≡ 49 = eqb-true p.1.1 49 a.1 in
    ap (λ (n : ℕ). ((n, 68), (76, 49))) (sym first) ∙ ap (λ (n : ℕ). ((p.0.0, n), (76, 49))) (sym second)
    ∙ ap (λ (n : ℕ). ((p.0.0, p.0.1), (n, 49))) (sym third) ∙ ap (λ (n : ℕ). ((p.0.0, p.0.1), (p.1.0, n))) (sym fourth)

abbrev letters_form : Unit {0} → List ℕ
letters_form u = 82 ∷ 68 ∷ 76 ∷ 49 ∷ []

reads_letters : Reads Every letters_form letters_at
unfolding letters_at
reads_letters = reads_made (reads_pair (reads_pair reads_byte reads_byte) (reads_pair reads_byte reads_byte))
    (λ p. cond (p.0.0 == 82 && p.0.1 == 68 && p.1.0 == 76 && p.1.1 == 49) (Some tt) None) (λ (u : Unit {0}). the_letters) Every
    (λ p u f e. let k = let_through (p.0.0 == 82 && p.0.1 == 68 && p.1.0 == 76 && p.1.1 == 49) tt u e in (are_letters p k.0, tt))
    (λ (u : Unit {0}) (f : Unit {0}). (((omega arith, omega arith), (omega arith, omega arith)), refl))

-- ---- wires

reads_list : (s : Size) → Reads (GoodLevel (canvas_of s) max_groups) level (list_at s)
unfolding list_at
reads_list s = reads_level (canvas_of s) max_groups (inside_at (canvas_of s) max_groups) (reads_inside (canvas_of s) max_groups)

-- all but that no name stands twice
pub record GoodWire (w : Wire) : Type 0 where
  pub canvas : IsCanvas w.size
  pub list : GoodLevel (canvas_of w.size) max_groups w.list

abbrev wire_from : Size → Entries Wrapper Made → Wire
wire_from s list = record { size = s; list = list }

wire_takes : (bytes : List ℕ) (w : Wire) (rest : List ℕ) → IsBytes bytes → wire_at bytes ≡ Some (w, rest) → Takes bytes (spelled w) rest × GoodWire w
unfolding wire_at
wire_takes bytes w rest fits e =
    let p = then_some (letters_at bytes) (λ l. size_at l.1 >>= λ s. list_at s.0 s.1 >>= λ x. Some (wire_from s.0 x.0, x.1)) (w, rest) e in
    let q = then_some (size_at p.0.1) (λ s. list_at s.0 s.1 >>= λ x. Some (wire_from s.0 x.0, x.1)) (w, rest) p.2 in
    let r = then_some (list_at q.0.0 q.0.1) (λ x. Some (wire_from q.0.0 x.0, x.1)) (w, rest) q.2 in
    let u = reads_letters.takes bytes p.0.0 p.0.1 fits p.1 in
    let v = reads_size.takes p.0.1 q.0.0 q.0.1 u.0.rest_fits q.1 in
    let y = (reads_list q.0.0).takes q.0.1 r.0.0 r.0.1 v.0.rest_fits r.1 in
    let t = Takes-then p.0.1 (side q.0.0.w ++ side q.0.0.h) q.0.1 (level r.0.0) r.0.1 v.0 y.0 in
    let a = Takes-then bytes (letters_form p.0.0) p.0.1 ((side q.0.0.w ++ side q.0.0.h) ++ level r.0.0) r.0.1 u.0 t in
    subst (λ (z : Wire × List ℕ). Takes bytes (spelled z.0) z.1 × GoodWire z.0) (some_is (wire_from q.0.0 r.0.0, r.0.1) (w, rest) r.2) (a, record { canvas = v.1; list = y.1 })

wire_again : (w : Wire) (rest : List ℕ) → GoodWire w → wire_at (spelled w ++ rest) ≡ Some (w, rest)
unfolding wire_at
wire_again w rest g =
    let a = reads_letters.again tt (((side w.size.w ++ side w.size.h) ++ level w.list) ++ rest) tt in
    let b = reads_size.again w.size (level w.list ++ rest) g.canvas in
    let d = (reads_list w.size).again w.list rest g.list in
    let c : size_at (((side w.size.w ++ side w.size.h) ++ level w.list) ++ rest) ≡ Some (w.size, level w.list ++ rest) = ap size_at (append_assoc (side w.size.w ++ side w.size.h) (level w.list) rest) ∙ b in
    rw (a, c, d) refl

-- ---- the rules

module _ {G L : Type 0} (P P' : L → Type 0) (Q Q' : G → Entries G L → Type 0) where
  each_of : (xs : Entries G L) → EachEntry P Q xs → ((l : L) → P l → P' l) → ((g : G) (inner : Entries G L) → Q g inner → Q' g inner) → EachEntry P' Q' xs
  each_of nil h p q = tt
  each_of (leaf l rest) h p q = (p l h.0, each_of rest h.1 p q)
  each_of (group g inner rest) h p q = (q g inner h.0, each_of inner h.1 p q, each_of rest h.2 p q)

  each_both : (xs : Entries G L) → EachEntry P Q xs → EachEntry P' Q' xs → EachEntry (λ l. P l × P' l) (λ g inner. Q g inner × Q' g inner) xs
  each_both nil h k = tt
  each_both (leaf l rest) h k = ((h.0, k.0), each_both rest h.1 k.1)
  each_both (group g inner rest) h k = ((h.0, k.0), each_both inner h.1 k.1, each_both rest h.2 k.2)

pub good_wire : (w : Wire) → GoodWire w → Once (names w.list) → IsWire w
good_wire w g once = record {
  rules = record {
    canvas = g.canvas;
    entries = each_of (GoodLeaf (canvas_of w.size)) (λ m. IsSeen (canvas_of w.size) m.leaf) (GoodGroup (canvas_of w.size)) (λ k inner. IsFilled inner) w.list g.list.good (λ m h. h.1) (λ k inner h. h.1);
    count = g.list.count;
    once = once;
    depth = g.list.depth;
  };
  fits = each_of (GoodLeaf (canvas_of w.size)) FitsLeaf (GoodGroup (canvas_of w.size)) (λ k inner. FitsGroup k) w.list g.list.good (λ m h. h.0) (λ k inner h. h.0);
}

pub wire_good : (w : Wire) → IsWire w → GoodWire w
wire_good w h = record { canvas = h.rules.canvas; list = record { good = each_both FitsLeaf (λ m. IsSeen (canvas_of w.size) m.leaf) (λ k inner. FitsGroup k) (λ k inner. IsFilled inner) w.list h.fits h.rules.entries; count = h.rules.count; depth = h.rules.depth } }

-- ---- all of the bytes

pub whole_takes : (bytes : List ℕ) (w : Wire) → IsBytes bytes → whole_wire bytes ≡ Some w → (bytes ≡ spelled w) × GoodWire w
unfolding whole_wire
whole_takes bytes w fits e =
    let p = then_some (wire_at bytes) (λ x. cond (is_nil x.1) (Some x.0) None) w e in
    let k = let_through (is_nil p.0.1) p.0.0 w p.2 in
    let u = wire_takes bytes p.0.0 p.0.1 fits p.1 in
    subst (λ (x : Wire). (bytes ≡ spelled x) × GoodWire x) k.1 (u.0.parts ∙ ap (λ (r : List ℕ). spelled p.0.0 ++ r) (none_left p.0.1 k.0) ∙ append-nil (spelled p.0.0), u.1)
  where
    none_left : (r : List ℕ) → is_nil r ≡ true → r ≡ []
    none_left [] h = refl
    none_left (b ∷ r) h = absurd cc

pub whole_again : (w : Wire) → GoodWire w → whole_wire (spelled w) ≡ Some w
unfolding whole_wire
whole_again w g =
    let a : wire_at (spelled w) ≡ Some (w, []) = ap wire_at (sym (append-nil (spelled w))) ∙ wire_again w [] g in
    rw a refl

-- one spelling begins no other
pub one_spelling : (v w : Wire) (x y : List ℕ) → IsWire v → IsWire w → spelled v ++ x ≡ spelled w ++ y → (v ≡ w) × (x ≡ y)
one_spelling v w x y p q e =
    let a = wire_again v x (wire_good v p) in
    let b = wire_again w y (wire_good w q) in
    let k = some_is (v, x) (w, y) (sym a ∙ ap wire_at e ∙ b) in
    (ap (λ (z : Wire × List ℕ). z.0) k, ap (λ (z : Wire × List ℕ). z.1) k)

-- ---- what decoding answers

pub found : (bytes : List ℕ) (w : Wire) → IsBytes bytes → whole_wire bytes ≡ Some w → Once (names w.list) → IsWire w × (bytes ≡ spelled w)
found bytes w fits e once = let t = whole_takes bytes w fits e in (good_wire w t.1 once, t.0)

pub only_one : (bytes : List ℕ) (v : Wire) → whole_wire bytes ≡ Some v → (w : Wire) → IsWire w → bytes ≡ spelled w → v ≡ w
only_one bytes v e w h k = some_is v w (sym e ∙ ap whole_wire k ∙ whole_again w (wire_good w h))

pub none_there : (bytes : List ℕ) (f : WireFault) → Fails f (whole_wire bytes) → f ≡ Form → (w : Wire) → IsWire w → bytes ≡ spelled w → ⊥
none_there bytes f e is w h k =
    let none : whole_wire bytes ≡ None = subst (λ (g : WireFault). Fails g (whole_wire bytes)) is e in
    no_some w (sym none ∙ ap whole_wire k ∙ whole_again w (wire_good w h))
  where
    no_some : (x : Wire) → None ≡ Some x → ⊥
    no_some x e = cc

pub twice_named : (bytes : List ℕ) (v : Wire) → whole_wire bytes ≡ Some v → (Once (names v.list) → ⊥) → (w : Wire) → IsWire w → bytes ≡ spelled w → ⊥
twice_named bytes v e twice w h k = twice (subst (λ (x : Wire). Once (names x.list)) (sym (only_one bytes v e w h k)) h.rules.once)
