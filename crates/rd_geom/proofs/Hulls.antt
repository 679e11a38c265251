-- The algebra of hulls.
use Rattle.std.proofs.Common.{◌≡◌, ◌∙◌, ℤ, pos, ◌-ℤ◌, ◌≤ℤ◌, ◌<ℤ◌, Bool, true, false, cond, arith, refl, ap, sym, ◌⊎◌, inl, inr}
use Rattle.std.specs.Int.{int_max, int_min}
use Rattle.std.proofs.lemmas.Int.{ints, clamps}
use Rattle.rd_geom.specs.Plane.{Rectangle, right, bottom, spanning, has_none, no_pixels, around, hull_of, IsWithin}
use Rattle.rd_geom.proofs.Pixels.{At, HasSome, at_holds, holds_at, first_at, last_at, some_of, some_not_none}

-- the rectangle itself, or the one rectangle without a pixel
abbrev pub normal : Rectangle → Rectangle
normal r = cond (has_none r) no_pixels r

-- the rectangle with these edges
abbrev box : ℤ → ℤ → ℤ → ℤ → Rectangle
box l t r b = record { x = l; y = t; w = r -ℤ l; h = b -ℤ t }

which : (b : Bool) → (b ≡ true) ⊎ (b ≡ false)
which true = inl refl
which false = inr refl

between_box : (l t r b : ℤ) → l <ℤ r → t <ℤ b → spanning l t r b ≡ box l t r b
between_box l t r b h v = grind (arith, ints)

box_some : (l t r b : ℤ) → l <ℤ r → t <ℤ b → has_none (box l t r b) ≡ false
box_some l t r b h v = some_not_none (box l t r b) (record { wide = omega (arith, ints); high = omega (arith, ints) })

right_box : (l t r b : ℤ) → right (box l t r b) ≡ r
right_box l t r b = omega (arith, ints)

bottom_box : (l t r b : ℤ) → bottom (box l t r b) ≡ b
bottom_box l t r b = omega (arith, ints)

same_box : (l t r b l2 t2 r2 b2 : ℤ) → l ≡ l2 → t ≡ t2 → r ≡ r2 → b ≡ b2 → box l t r b ≡ box l2 t2 r2 b2
same_box l t r b l2 t2 r2 b2 p q u v = rw (p, q, u, v) refl

same_rectangle : (a b : Rectangle) → a.x ≡ b.x → a.y ≡ b.y → a.w ≡ b.w → a.h ≡ b.h → a ≡ b
same_rectangle a b x y w h = rw (sym x, sym y, sym w, sym h) refl

box_of : (a : Rectangle) → box a.x a.y (right a) (bottom a) ≡ a
box_of a = same_rectangle (box a.x a.y (right a) (bottom a)) a refl refl (omega (arith, ints)) (omega (arith, ints))

around_box : (a b : Rectangle) → has_none a ≡ false → has_none b ≡ false → around a b ≡ box (int_min a.x b.x) (int_min a.y b.y) (int_max (right a) (right b))
    (int_max (bottom a) (bottom b))
around_box a b ea eb =
    let sa : HasSome a = some_of a ea in
    let sb : HasSome b = some_of b eb in
    between_box (int_min a.x b.x) (int_min a.y b.y) (int_max (right a) (right b)) (int_max (bottom a) (bottom b))
    (omega (arith, ints, clamps, sa.wide, sb.wide)) (omega (arith, ints, clamps, sa.high, sb.high))

pub around_some : (a b : Rectangle) → has_none a ≡ false → has_none b ≡ false → has_none (around a b) ≡ false
around_some a b ea eb =
    let sa : HasSome a = some_of a ea in
    let sb : HasSome b = some_of b eb in
    ap has_none (around_box a b ea eb) ∙ box_some (int_min a.x b.x) (int_min a.y b.y) (int_max (right a) (right b)) (int_max (bottom a) (bottom b))
    (omega (arith, ints, clamps, sa.wide, sb.wide)) (omega (arith, ints, clamps, sa.high, sb.high))

min_comm : (a b : ℤ) → int_min a b ≡ int_min b a
min_comm a b = omega (arith, ints, clamps)

max_comm : (a b : ℤ) → int_max a b ≡ int_max b a
max_comm a b = omega (arith, ints, clamps)

min_assoc : (a b c : ℤ) → int_min (int_min a b) c ≡ int_min a (int_min b c)
min_assoc a b c = omega (arith, ints, clamps)

max_assoc : (a b c : ℤ) → int_max (int_max a b) c ≡ int_max a (int_max b c)
max_assoc a b c = omega (arith, ints, clamps)

around_comm : (a b : Rectangle) → around a b ≡ around b a
around_comm a b = rw (min_comm a.x b.x, min_comm a.y b.y, max_comm (right a) (right b), max_comm (bottom a) (bottom b)) refl

-- round a rectangle that is given by its edges
around_left : (l t r b : ℤ) (c : Rectangle) → around (box l t r b) c ≡ spanning (int_min l c.x) (int_min t c.y) (int_max r (right c)) (int_max b (bottom c))
around_left l t r b c = ap (λ i. spanning (int_min l c.x) (int_min t c.y) (int_max i (right c)) (int_max (bottom (box l t r b)) (bottom c))) (right_box l t r b)
    ∙ ap (λ i. spanning (int_min l c.x) (int_min t c.y) (int_max r (right c)) (int_max i (bottom c))) (bottom_box l t r b)

around_right : (l t r b : ℤ) (c : Rectangle) → around c (box l t r b) ≡ spanning (int_min c.x l) (int_min c.y t) (int_max (right c) r) (int_max (bottom c) b)
around_right l t r b c = ap (λ i. spanning (int_min c.x l) (int_min c.y t) (int_max (right c) i) (int_max (bottom c) (bottom (box l t r b))))
    (right_box l t r b) ∙ ap (λ i. spanning (int_min c.x l) (int_min c.y t) (int_max (right c) r) (int_max (bottom c) i)) (bottom_box l t r b)

around_assoc : (a b c : Rectangle) → has_none a ≡ false → has_none b ≡ false → has_none c ≡ false → around (around a b) c ≡ around a (around b c)
around_assoc a b c ea eb ec =
    ap (λ r. around r c) (around_box a b ea eb)
    ∙ (around_left (int_min a.x b.x) (int_min a.y b.y) (int_max (right a) (right b)) (int_max (bottom a) (bottom b)) c
    ∙ (ap (λ i. spanning i (int_min (int_min a.y b.y) c.y) (int_max (int_max (right a) (right b)) (right c))
    (int_max (int_max (bottom a) (bottom b)) (bottom c))) (min_assoc a.x b.x c.x)
    ∙ (ap (λ i. spanning (int_min a.x (int_min b.x c.x)) i (int_max (int_max (right a) (right b)) (right c))
    (int_max (int_max (bottom a) (bottom b)) (bottom c))) (min_assoc a.y b.y c.y)
    ∙ (ap (λ i. spanning (int_min a.x (int_min b.x c.x)) (int_min a.y (int_min b.y c.y)) i (int_max (int_max (bottom a) (bottom b)) (bottom c)))
    (max_assoc (right a) (right b) (right c))
    ∙ (ap (λ i. spanning (int_min a.x (int_min b.x c.x)) (int_min a.y (int_min b.y c.y)) (int_max (right a) (int_max (right b) (right c))) i)
    (max_assoc (bottom a) (bottom b) (bottom c))
    ∙ (sym (around_right (int_min b.x c.x) (int_min b.y c.y) (int_max (right b) (right c)) (int_max (bottom b) (bottom c)) a)
    ∙ ap (λ r. around a r) (sym (around_box b c eb ec))))))))

pub hull_none_left : (a b : Rectangle) → has_none a ≡ true → hull_of a b ≡ normal b
hull_none_left a b e = ap (λ t. cond t (cond (has_none b) no_pixels b) (cond (has_none b) a (around a b))) e

pub hull_none_right : (a b : Rectangle) → has_none b ≡ true → hull_of a b ≡ normal a
hull_none_right a b e = ap (λ t. cond (has_none a) (cond t no_pixels b) (cond t a (around a b))) e

pub hull_some : (a b : Rectangle) → has_none a ≡ false → has_none b ≡ false → hull_of a b ≡ around a b
hull_some a b ea eb =
    ap (λ t. cond t (cond (has_none b) no_pixels b) (cond (has_none b) a (around a b))) ea ∙ ap (λ t. cond t a (around a b)) eb

pub normal_none : (r : Rectangle) → has_none r ≡ true → normal r ≡ no_pixels
normal_none r e = ap (λ t. cond t no_pixels r) e

pub normal_some : (r : Rectangle) → has_none r ≡ false → normal r ≡ r
normal_some r e = ap (λ t. cond t no_pixels r) e

pub has_none_normal : (r : Rectangle) → has_none (normal r) ≡ has_none r
has_none_normal r =
    elim (which (has_none r)) [
      | inl e ↦ ap has_none (normal_none r e) ∙ sym e
      | inr e ↦ ap has_none (normal_some r e)
    ]

pub hull_none : (a : Rectangle) → hull_of a no_pixels ≡ normal a
hull_none a = hull_none_right a no_pixels refl

pub none_hull : (a : Rectangle) → hull_of no_pixels a ≡ normal a
none_hull a = hull_none_left no_pixels a refl

pub hull_comm : (a b : Rectangle) → hull_of a b ≡ hull_of b a
hull_comm a b =
    elim (which (has_none a)) [
      | inl ea ↦ hull_none_left a b ea ∙ sym (hull_none_right b a ea)
      | inr ea ↦ elim (which (has_none b)) [
        | inl eb ↦ hull_none_right a b eb ∙ sym (hull_none_left b a eb)
        | inr eb ↦ hull_some a b ea eb ∙ (around_comm a b ∙ sym (hull_some b a eb ea))
      ]
    ]

-- A hull is that one rectangle where it has no pixel.
pub normal_hull : (a b : Rectangle) → normal (hull_of a b) ≡ hull_of a b
normal_hull a b =
    elim (which (has_none a)) [
      | inl ea ↦ ap normal (hull_none_left a b ea) ∙ (normal_twice b ∙ sym (hull_none_left a b ea))
      | inr ea ↦ elim (which (has_none b)) [
        | inl eb ↦ ap normal (hull_none_right a b eb) ∙ (normal_twice a ∙ sym (hull_none_right a b eb))
        | inr eb ↦ ap normal (hull_some a b ea eb) ∙ (normal_some (around a b) (around_some a b ea eb) ∙ sym (hull_some a b ea eb))
      ]
    ] where
      normal_twice : (r : Rectangle) → normal (normal r) ≡ normal r
      normal_twice r =
          elim (which (has_none r)) [
            | inl e ↦ ap normal (normal_none r e) ∙ sym (normal_none r e)
            | inr e ↦ ap normal (normal_some r e)
          ]

pub hull_normal : (a b : Rectangle) → hull_of a (normal b) ≡ hull_of a b
hull_normal a b =
    elim (which (has_none b)) [
      | inl e ↦ ap (hull_of a) (normal_none b e) ∙ (hull_none a ∙ sym (hull_none_right a b e))
      | inr e ↦ ap (hull_of a) (normal_some b e)
    ]

pub normal_hull_left : (a b : Rectangle) → hull_of (normal a) b ≡ hull_of a b
normal_hull_left a b = hull_comm (normal a) b ∙ (hull_normal b a ∙ hull_comm b a)

pub hull_assoc : (a b c : Rectangle) → hull_of (hull_of a b) c ≡ hull_of a (hull_of b c)
hull_assoc a b c =
    elim (which (has_none a)) [
      | inl ea ↦ ap (λ r. hull_of r c) (hull_none_left a b ea) ∙ (normal_hull_left b c ∙ (sym (normal_hull b c) ∙ sym (hull_none_left a (hull_of b c) ea)))
      | inr ea ↦ elim (which (has_none b)) [
        | inl eb ↦ ap (λ r. hull_of r c) (hull_none_right a b eb)
            ∙ (normal_hull_left a c ∙ (sym (hull_normal a c) ∙ ap (hull_of a) (sym (hull_none_left b c eb))))
        | inr eb ↦ elim (which (has_none c)) [
          | inl ec ↦ hull_none_right (hull_of a b) c ec ∙ (normal_hull a b ∙ (sym (hull_normal a b) ∙ ap (hull_of a) (sym (hull_none_right b c ec))))
          | inr ec ↦
              ap (λ r. hull_of r c) (hull_some a b ea eb)
              ∙ (hull_some (around a b) c (around_some a b ea eb) ec
              ∙ (around_assoc a b c ea eb ec
              ∙ (sym (hull_some a (around b c) ea (around_some b c eb ec)) ∙ ap (hull_of a) (sym (hull_some b c eb ec)))))
        ]
      ]
    ]

-- every edge of b lies at a's or within
pub record Holds (a b : Rectangle) : Type 0 where
  pub left : a.x ≤ℤ b.x
  pub top : a.y ≤ℤ b.y
  pub right : right b ≤ℤ right a
  pub bottom : bottom b ≤ℤ bottom a

-- a rectangle with a pixel in another has its edges within those of that one
pub within_holds : (a b : Rectangle) → has_none a ≡ false → IsWithin a b → Holds b a
within_holds a b e w =
    let s : HasSome a = some_of a e in
    let p : At b a.x a.y = holds_at b _ _ (w _ _ (at_holds a _ _ (first_at a s))) in
    let q : At b (right a -ℤ pos 1) (bottom a -ℤ pos 1) = holds_at b _ _ (w _ _ (at_holds a _ _ (last_at a s))) in
    record { left = p.left; top = p.top; right = omega (arith, ints, q.right); bottom = omega (arith, ints, q.bottom) }

around_held : (a b : Rectangle) → has_none a ≡ false → has_none b ≡ false → Holds a b → around a b ≡ a
around_held a b ea eb h =
    around_box a b ea eb
    ∙ (same_box (int_min a.x b.x) (int_min a.y b.y) (int_max (right a) (right b)) (int_max (bottom a) (bottom b)) a.x a.y (right a) (bottom a)
    (omega (arith, ints, clamps, h.left)) (omega (arith, ints, clamps, h.top)) (omega (arith, ints, clamps, h.right))
    (omega (arith, ints, clamps, h.bottom))
    ∙ box_of a)

holder_some : (a b : Rectangle) → has_none b ≡ false → Holds a b → has_none a ≡ false
holder_some a b e h =
    let s : HasSome b = some_of b e in
    some_not_none a (record { wide = omega (arith, ints, s.wide, h.left, h.right); high = omega (arith, ints, s.high, h.top, h.bottom) })

pub hull_held : (a b : Rectangle) → Holds a b → hull_of a b ≡ normal a
hull_held a b h =
    elim (which (has_none b)) [
      | inl e ↦ hull_none_right a b e
      | inr e ↦ let s : has_none a ≡ false = holder_some a b e h in hull_some a b s e ∙ (around_held a b s e h ∙ sym (normal_some a s))
    ]

pub hull_same : (a : Rectangle) → hull_of a a ≡ normal a
hull_same a = hull_held a a (record { left = omega (arith, ints); top = omega (arith, ints); right = omega (arith, ints); bottom = omega (arith, ints) })

-- b lies off every edge of a
pub record IsOff (a b : Rectangle) : Type 0 where
  pub left : a.x ≡ b.x → ⊥
  pub top : a.y ≡ b.y → ⊥
  pub right : right a ≡ right b → ⊥
  pub bottom : bottom a ≡ bottom b → ⊥

off_min : (a b : ℤ) → (int_min a b ≡ b → ⊥) → a ≤ℤ b
off_min a b h = grind (arith, ints, clamps)

off_max : (a b : ℤ) → (int_max a b ≡ b → ⊥) → b ≤ℤ a
off_max a b h = grind (arith, ints, clamps)

-- What reaches no edge of the hull of it and the rest has no part in the hull.
pub hull_off : (rest lost : Rectangle) → IsOff (hull_of rest lost) lost → hull_of rest lost ≡ normal rest
hull_off rest lost f =
    elim (which (has_none lost)) [
      | inl e ↦ hull_none_right rest lost e
      | inr e ↦ elim (which (has_none rest)) [
        | inl n ↦ absurd (f.left (ap (λ r. r.x) (hull_none_left rest lost n ∙ normal_some lost e)))
        | inr n ↦
            let is : hull_of rest lost ≡ box (int_min rest.x lost.x) (int_min rest.y lost.y) (int_max (right rest) (right lost))
            (int_max (bottom rest) (bottom lost)) = hull_some rest lost n e ∙ around_box rest lost n e in
            let h : Holds rest lost = record {
              left = off_min rest.x lost.x (λ u. f.left (ap (λ r. r.x) is ∙ u));
              top = off_min rest.y lost.y (λ u. f.top (ap (λ r. r.y) is ∙ u));
              right = off_max (right rest) (right lost) (λ u.
                  f.right (ap right is ∙ (right_box (int_min rest.x lost.x) (int_min rest.y lost.y) (int_max (right rest) (right lost))
                  (int_max (bottom rest) (bottom lost)) ∙ u)));
              bottom = off_max (bottom rest) (bottom lost) (λ u.
                  f.bottom (ap bottom is
                  ∙ (bottom_box (int_min rest.x lost.x) (int_min rest.y lost.y) (int_max (right rest) (right lost)) (int_max (bottom rest) (bottom lost))
                  ∙ u)));
            } in
            hull_held rest lost h
      ]
    ]

-- The hull of the rest and what is lost tells the hull of the rest and what is gained: where what is lost reaches no edge,
pub hull_moved_off : (rest lost gained : Rectangle) → IsOff (hull_of rest lost) lost → hull_of (hull_of rest lost) gained ≡ hull_of rest gained
hull_moved_off rest lost gained f = ap (λ r. hull_of r gained) (hull_off rest lost f) ∙ normal_hull_left rest gained

-- where it is nothing,
pub hull_moved_none : (rest lost gained : Rectangle) → has_none lost ≡ true → hull_of (hull_of rest lost) gained ≡ hull_of rest gained
hull_moved_none rest lost gained e = ap (λ r. hull_of r gained) (hull_none_right rest lost e) ∙ normal_hull_left rest gained

-- and where what is gained holds it.
pub hull_moved_held : (rest lost gained : Rectangle) → Holds gained lost → hull_of (hull_of rest lost) gained ≡ hull_of rest gained
hull_moved_held rest lost gained h =
    hull_assoc rest lost gained ∙ (ap (hull_of rest) (hull_comm lost gained ∙ hull_held gained lost h) ∙ hull_normal rest gained)
