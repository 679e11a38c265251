use Rattle.std.proofs.Common.{◌≡◌, ℕ, ℤ, pos, ◌+ℤ◌, ◌-ℤ◌, ◌≤ℤ◌, ◌<ℤ◌, Bool, true, false, ◌&&◌, IsTrue, arith, refl, sym, subst, rules}
use Rattle.std.specs.Int.{int_max, int_min}
use Rattle.std.proofs.lemmas.Int.{ints, clamps}
use Rattle.rd_geom.specs.Plane.{Rectangle, right, bottom, holds_pixel, spanning, meet, inset, IsWithin, SharesPixel, has_none, meets, around}

-- the pixel in column x and row y lies from the first column and row of r on, and before the last
pub record At (r : Rectangle) (x y : ℤ) : Type 0 where
  pub left : r.x ≤ℤ x
  pub right : x <ℤ right r
  pub top : r.y ≤ℤ y
  pub bottom : y <ℤ bottom r

pub at_holds : (r : Rectangle) (x y : ℤ) → At r x y → IsTrue (holds_pixel r x y)
at_holds r x y a = grind (arith, ints)

pub holds_at : (r : Rectangle) (x y : ℤ) → IsTrue (holds_pixel r x y) → At r x y
holds_at r x y h = record { left = grind (arith, ints); right = grind (arith, ints); top = grind (arith, ints); bottom = grind (arith, ints) }

-- two tests that hold together are the same
pub same_test : (a b : Bool) → (IsTrue a → IsTrue b) → (IsTrue b → IsTrue a) → a ≡ b
same_test true true f g = refl
same_test true false f g = grind arith
same_test false true f g = grind arith
same_test false false f g = refl

pub both_true : (a b : Bool) → IsTrue a → IsTrue b → IsTrue (a && b)
both_true a b p q = grind arith

pub left_of : (a b : Bool) → IsTrue (a && b) → IsTrue a
left_of a b h = grind arith

pub right_of : (a b : Bool) → IsTrue (a && b) → IsTrue b
right_of a b h = grind arith

-- the pixels of what lies spanning four edges
pub record AtBetween (l t r b x y : ℤ) : Type 0 where
  pub left : l ≤ℤ x
  pub right : x <ℤ r
  pub top : t ≤ℤ y
  pub bottom : y <ℤ b

pub between_holds : (l t r b x y : ℤ) → AtBetween l t r b x y → IsTrue (holds_pixel (spanning l t r b) x y)
between_holds l t r b x y a = grind (arith, ints)

pub holds_between : (l t r b x y : ℤ) → IsTrue (holds_pixel (spanning l t r b) x y) → AtBetween l t r b x y
holds_between l t r b x y h = record { left = grind (arith, ints); right = grind (arith, ints); top = grind (arith, ints); bottom = grind (arith, ints) }

pub common_pixels : (a b : Rectangle) (x y : ℤ) → holds_pixel (meet a b) x y ≡ (holds_pixel a x y && holds_pixel b x y)
common_pixels a b x y =
    same_test _ _
    (λ h. let m : AtBetween (int_max a.x b.x) (int_max a.y b.y) (int_min (right a) (right b)) (int_min (bottom a) (bottom b)) x y = holds_between _ _ _ _ x y
    h in
    let p : At a x y = record {
      left = omega (arith, ints, clamps);
      right = omega (arith, ints, clamps);
      top = omega (arith, ints, clamps);
      bottom = omega (arith, ints, clamps);
    } in
    let q : At b x y = record {
      left = omega (arith, ints, clamps);
      right = omega (arith, ints, clamps);
      top = omega (arith, ints, clamps);
      bottom = omega (arith, ints, clamps);
    } in
    both_true _ _ (at_holds a x y p) (at_holds b x y q))
    (λ h. let hp : IsTrue (holds_pixel a x y) = grind arith in
    let hq : IsTrue (holds_pixel b x y) = grind arith in
    let p : At a x y = holds_at a x y hp in
    let q : At b x y = holds_at b x y hq in
    between_holds (int_max a.x b.x) (int_max a.y b.y) (int_min (right a) (right b)) (int_min (bottom a) (bottom b)) x y
    (record {
      left = omega (arith, ints, clamps);
      right = omega (arith, ints, clamps);
      top = omega (arith, ints, clamps);
      bottom = omega (arith, ints, clamps);
    }))

pub inset_pixels : (r : Rectangle) (top end down left : ℕ) (x y : ℤ)
    → holds_pixel (inset r top end down left) x y ≡ (holds_pixel r (x -ℤ pos left) (y -ℤ pos top) && holds_pixel r (x +ℤ pos end) (y +ℤ pos down))
inset_pixels r top end down left x y =
    same_test _ _
    (λ h. let m : AtBetween (r.x +ℤ pos left) (r.y +ℤ pos top) (right r -ℤ pos end) (bottom r -ℤ pos down) x y = holds_between _ _ _ _ x y h in
    let p : At r (x -ℤ pos left) (y -ℤ pos top) = record {
      left = omega (arith, ints);
      right = omega (arith, ints);
      top = omega (arith, ints);
      bottom = omega (arith, ints);
    } in
    let q : At r (x +ℤ pos end) (y +ℤ pos down) = record {
      left = omega (arith, ints);
      right = omega (arith, ints);
      top = omega (arith, ints);
      bottom = omega (arith, ints);
    } in
    both_true _ _ (at_holds r _ _ p) (at_holds r _ _ q))
    (λ h. let hp : IsTrue (holds_pixel r (x -ℤ pos left) (y -ℤ pos top)) = grind arith in
    let hq : IsTrue (holds_pixel r (x +ℤ pos end) (y +ℤ pos down)) = grind arith in
    let p : At r (x -ℤ pos left) (y -ℤ pos top) = holds_at r _ _ hp in
    let q : At r (x +ℤ pos end) (y +ℤ pos down) = holds_at r _ _ hq in
    between_holds (r.x +ℤ pos left) (r.y +ℤ pos top) (right r -ℤ pos end) (bottom r -ℤ pos down) x y (record {
      left = omega (arith, ints);
      right = omega (arith, ints);
      top = omega (arith, ints);
      bottom = omega (arith, ints);
    }))

-- a rectangle with a pixel has columns and rows
pub record HasSome (r : Rectangle) : Type 0 where
  pub wide : pos 0 <ℤ r.w
  pub high : pos 0 <ℤ r.h

pub some_of : (r : Rectangle) → has_none r ≡ false → HasSome r
some_of r e = record { wide = grind (arith, ints); high = grind (arith, ints) }

pub some_not_none : (r : Rectangle) → HasSome r → has_none r ≡ false
some_not_none r s = grind (arith, ints)

pub some_at : (r : Rectangle) (x y : ℤ) → At r x y → HasSome r
some_at r x y a = record { wide = omega (arith, ints); high = omega (arith, ints) }

pub first_at : (r : Rectangle) → HasSome r → At r r.x r.y
first_at r s = record { left = omega (arith, ints); right = omega (arith, ints); top = omega (arith, ints); bottom = omega (arith, ints) }

pub last_at : (r : Rectangle) → HasSome r → At r (right r -ℤ pos 1) (bottom r -ℤ pos 1)
last_at r s = record { left = omega (arith, ints); right = omega (arith, ints); top = omega (arith, ints); bottom = omega (arith, ints) }

pub none_is_within : (a r : Rectangle) → has_none a ≡ true → IsWithin a r
none_is_within a r e x y h = let p : At a x y = holds_at a x y h in grind (arith, ints)

-- a rectangle in another, by their edges
pub edges_within : (a b : Rectangle) → b.x ≤ℤ a.x → b.y ≤ℤ a.y → right a ≤ℤ right b → bottom a ≤ℤ bottom b → IsWithin a b
edges_within a b left top wide high x y h =
    let p : At a x y = holds_at a x y h in
    at_holds b x y (record { left = omega (arith, ints, p.left); right = omega (arith, ints, p.right); top = omega (arith, ints, p.top); bottom = omega (arith, ints, p.bottom) })

pub within_around_left : (a b : Rectangle) → IsWithin a (around a b)
within_around_left a b x y h =
    let p : At a x y = holds_at a x y h in
    between_holds (int_min a.x b.x) (int_min a.y b.y) (int_max (right a) (right b)) (int_max (bottom a) (bottom b)) x y
    (record {
      left = omega (arith, ints, clamps);
      right = omega (arith, ints, clamps);
      top = omega (arith, ints, clamps);
      bottom = omega (arith, ints, clamps);
    })

pub within_around_right : (a b : Rectangle) → IsWithin b (around a b)
within_around_right a b x y h =
    let p : At b x y = holds_at b x y h in
    between_holds (int_min a.x b.x) (int_min a.y b.y) (int_max (right a) (right b)) (int_max (bottom a) (bottom b)) x y
    (record {
      left = omega (arith, ints, clamps);
      right = omega (arith, ints, clamps);
      top = omega (arith, ints, clamps);
      bottom = omega (arith, ints, clamps);
    })

-- what holds both holds all that is spanning them
pub around_least : (a b r : Rectangle) → has_none a ≡ false → has_none b ≡ false → IsWithin a r → IsWithin b r → IsWithin (around a b) r
around_least a b r ea eb wa wb x y h =
    let sa : HasSome a = some_of a ea in
    let sb : HasSome b = some_of b eb in
    let pa : At r a.x a.y = holds_at r _ _ (wa _ _ (at_holds a _ _ (first_at a sa))) in
    let pb : At r b.x b.y = holds_at r _ _ (wb _ _ (at_holds b _ _ (first_at b sb))) in
    let qa : At r (right a -ℤ pos 1) (bottom a -ℤ pos 1) = holds_at r _ _ (wa _ _ (at_holds a _ _ (last_at a sa))) in
    let qb : At r (right b -ℤ pos 1) (bottom b -ℤ pos 1) = holds_at r _ _ (wb _ _ (at_holds b _ _ (last_at b sb))) in
    let m : AtBetween (int_min a.x b.x) (int_min a.y b.y) (int_max (right a) (right b)) (int_max (bottom a) (bottom b)) x y = holds_between _ _ _ _ x y h in
    let p : At r x y = record {
      left = omega (arith, ints, clamps);
      right = omega (arith, ints, clamps);
      top = omega (arith, ints, clamps);
      bottom = omega (arith, ints, clamps);
    } in
    at_holds r x y p

-- two rectangles meet exactly where they share a pixel
pub meets_shares : (a b : Rectangle) → IsTrue (meets a b) → SharesPixel a b
meets_shares a b h =
    let n : has_none (meet a b) ≡ false = grind arith in
    let p : IsTrue (holds_pixel (meet a b) (meet a b).x (meet a b).y) = at_holds (meet a b) _ _ (first_at (meet a b) (some_of (meet a b) n)) in
    let both : IsTrue (holds_pixel a (meet a b).x (meet a b).y && holds_pixel b (meet a b).x (meet a b).y) = subst (λ t. IsTrue t) (common_pixels a b _ _) p in
    record { x = (meet a b).x; y = (meet a b).y; first = left_of _ _ both; second = right_of _ _ both }

pub shares_meets : (a b : Rectangle) → SharesPixel a b → IsTrue (meets a b)
shares_meets a b s =
    let p : IsTrue (holds_pixel (meet a b) s.x s.y) = subst (λ t. IsTrue t) (sym (common_pixels a b s.x s.y)) (both_true _ _ s.first s.second) in
    let n : has_none (meet a b) ≡ false = some_not_none _ (some_at _ _ _ (holds_at (meet a b) s.x s.y p)) in
    rw n search rules
