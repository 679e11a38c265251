-- Leaves that hide all below them in a tile.
use Rattle.std.proofs.Common.{◌≡◌, ℕ, zero, suc, ℤ, ◌<◌, ◌≤◌, ◌≤ℤ◌, Bool, true, false, not, ◌&&◌, IsTrue, List, [], ◌∷◌, length, get_or, Some, None, refl, sym, ap, ◌∙◌, subst, inl, inr, ◌⊎◌, arith}
use Rattle.std.specs.Prelude.{int_le}
use Rattle.std.proofs.lemmas.Int.{ints}
use Rattle.rd_geom.specs.Colors.{Premultiplied, premultiplied, white}
use Rattle.rd_geom.specs.Plane.{Rectangle, IsWithin, SharesPixel, has_none, holds_pixel, meets, right, bottom}
use Rattle.rd_geom.proofs.Pixels.{At, HasSome, at_holds, holds_at, some_of, first_at, last_at, right_of, meets_shares, shares_meets}
use Rattle.rd_item.specs.declared.leaf.Leaf as item
use Rattle.rd_item.specs.Leaves.{covers}
use Rattle.rd_list.specs.Displayed.{shown}
use Rattle.rd_list.specs.declared.kept.Entry.{Entry}
use Rattle.rd_list.specs.declared.kept.Entry.TheVariants.{Leaf, Group}
use Rattle.rd_list.specs.Entries.{Entries, nil, leaf, group}
use Rattle.rd_list.specs.Lists.{composed, pixel}
use Rattle.rd_list.specs.Wrappers.{Wrapper}
use Rattle.rd_paint.specs.Parts.{entries_from}
use Rattle.rd_paint.proofs.Pieces.{opaque_over, seen_covers}
use Rattle.rd_tiles.specs.Covering.{HasLid, IsLid, lowest_leaf}

-- a leaf that covers a pixel and is opaque hides what is below it there
lid_hides : (l : item.Leaf) (rest : Entries Wrapper item.Leaf) (x y : ℤ) (d e : Premultiplied) → l.color.a ≡ 255 → covers l x y ≡ true
    → composed x y d (leaf l rest) ≡ composed x y e (leaf l rest)
lid_hides l rest x y d e a c = rw c (ap (λ q. composed x y q rest) (opaque_over (premultiplied l.color) d a ∙ sym (opaque_over (premultiplied l.color) e a)))

from_lid : (es : Entries Wrapper item.Leaf) (l : item.Leaf) (x y : ℤ) (d e : Premultiplied) → lowest_leaf es ≡ Some l → l.color.a ≡ 255 → covers l x y ≡ true
    → composed x y d es ≡ composed x y e es
from_lid nil l x y d e s a c = absurd (let f : None ≡ Some l = s in cc)
from_lid (leaf m rest) l x y d e s a c =
    let q : m ≡ l = some_same m l s in
    lid_hides m rest x y d e (ap (λ (k : item.Leaf). k.color.a) q ∙ a) (ap (λ k. covers k x y) q ∙ c)
  where
    some_same : (m l : item.Leaf) → Some m ≡ Some l → m ≡ l
    some_same m l s = cc
from_lid (group g inner rest) l x y d e s a c = absurd (let f : None ≡ Some l = s in cc)

-- from such a leaf on a list shows what it shows whole
pub shows_from : (n : ℕ) (es : Entries Wrapper item.Leaf) (l : item.Leaf) (x y : ℤ) (d e : Premultiplied) → lowest_leaf (entries_from n es) ≡ Some l
    → l.color.a ≡ 255 → covers l x y ≡ true → composed x y d (entries_from n es) ≡ composed x y e es
shows_from zero es l x y d e s a c = from_lid es l x y d e s a c
shows_from (suc n) nil l x y d e s a c = absurd (let f : None ≡ Some l = s in cc)
shows_from (suc n) (leaf m rest) l x y d e s a c = shows_from n rest l x y d _ s a c
shows_from (suc n) (group g inner rest) l x y d e s a c = shows_from n rest l x y d _ s a c

-- so does a list from such a leaf on, and from its first entry on
pub lid_shows : (tile : Rectangle) (es : Entries Wrapper item.Leaf) (n : ℕ) → HasLid tile es n ⊎ (n ≡ 0)
    → (x y : ℤ) → IsTrue (holds_pixel tile x y) → composed x y white (entries_from n es) ≡ pixel es x y
lid_shows tile es n k x y h = elim k [
  | inl p ↦ shows_from n es p.leaf x y white white p.stands p.lid.opaque (p.lid.covers x y h)
  | inr e ↦ rw e refl
]

-- a rectangle has every pixel of another, which has some, where its edges are not inside of it
pub edges_of_within : (a b : Rectangle) → has_none a ≡ false → IsWithin a b → (b.x ≤ℤ a.x) × (b.y ≤ℤ a.y) × (right a ≤ℤ right b) × (bottom a ≤ℤ bottom b)
edges_of_within a b s w =
    let some : HasSome a = some_of a s in
    let first : At b a.x a.y = holds_at b a.x a.y (w a.x a.y (at_holds a a.x a.y (first_at a some))) in
    let last = holds_at b _ _ (w _ _ (at_holds a _ _ (last_at a some))) in
    (omega (arith, ints, first), omega (arith, ints, first), omega (arith, ints, last), omega (arith, ints, last))

pub le_true : (a b : ℤ) → a ≤ℤ b → IsTrue (int_le a b)
le_true a b h = grind (arith, ints)

pub true_le : (a b : ℤ) → IsTrue (int_le a b) → a ≤ℤ b
true_le a b h = grind (arith, ints)

pub not_true : (b : Bool) → IsTrue (not b) → b ≡ false
not_true true h = absurd (let no : false ≡ true = h in cc)
not_true false h = refl

pub true_not : (b : Bool) → b ≡ false → IsTrue (not b)
true_not b e = rw e refl

-- ---- leaves that cover a tile

-- a leaf covers a tile that its visible part has and its hole does not meet
pub all_covered : (l : item.Leaf) (tile : Rectangle) → IsWithin l.visible l.shape.outer → IsWithin tile l.visible → meets tile l.shape.inner ≡ false
    → (x y : ℤ) → IsTrue (holds_pixel tile x y) → IsTrue (covers l x y)
all_covered l tile o w m x y h = seen_covers l x y o ∙ both (holds_pixel l.visible x y) (holds_pixel l.shape.inner x y) (w x y h) (hole (holds_pixel l.shape.inner x y) refl)
  where
    both : (v i : Bool) → v ≡ true → i ≡ false → (v && not i) ≡ true
    both v i a b = rw (a, b) refl

    hole : (b : Bool) → holds_pixel l.shape.inner x y ≡ b → b ≡ false
    hole false e = refl
    hole true e = absurd (let s : SharesPixel tile l.shape.inner = record { x = x; y = y; first = h; second = e } in let t : meets tile l.shape.inner ≡ true = shares_meets tile l.shape.inner s in let no : true ≡ false = sym t ∙ m in cc)

-- and no other
pub covered_within : (l : item.Leaf) (tile : Rectangle) → ((x y : ℤ) → IsTrue (holds_pixel tile x y) → IsTrue (covers l x y)) → IsWithin tile l.visible
covered_within l tile f x y h = right_of (holds_pixel l.shape.outer x y && not (holds_pixel l.shape.inner x y)) (holds_pixel l.visible x y) (f x y h)

pub covered_clear : (l : item.Leaf) (tile : Rectangle) → ((x y : ℤ) → IsTrue (holds_pixel tile x y) → IsTrue (covers l x y)) → meets tile l.shape.inner ≡ false
covered_clear l tile f = go (meets tile l.shape.inner) refl
  where
    never : (o i v : Bool) → i ≡ true → (o && not i && v) ≡ true → ⊥
    never true true v e h = let no : false ≡ true = h in cc
    never false true v e h = let no : false ≡ true = h in cc
    never o false v e h = let no : false ≡ true = e in cc

    go : (b : Bool) → meets tile l.shape.inner ≡ b → b ≡ false
    go false e = refl
    go true e =
        let s : SharesPixel tile l.shape.inner = meets_shares tile l.shape.inner e in
        absurd (never (holds_pixel l.shape.outer s.x s.y) (holds_pixel l.shape.inner s.x s.y) (holds_pixel l.visible s.x s.y) s.second (f s.x s.y s.first))

-- ---- entries

-- the only entry of a list
pub lid_alone : (tile : Rectangle) (l : item.Leaf) → IsLid tile l → HasLid tile (leaf l nil) 0
lid_alone tile l k = record { leaf = l; stands = refl; lid = k }

pub alone_lid : (tile : Rectangle) (l : item.Leaf) → HasLid tile (leaf l nil) 0 → IsLid tile l
alone_lid tile l h = subst (IsLid tile) (sym same) h.lid
  where
    same : l ≡ h.leaf
    same = let e : Some l ≡ Some h.leaf = h.stands in cc

pub no_lid : (tile : Rectangle) (g : Wrapper) (inner : Entries Wrapper item.Leaf) → HasLid tile (group g inner nil) 0 → ⊥
no_lid tile g inner h = let e : None ≡ Some h.leaf = h.stands in cc

module _ {A : Type 0} where
  lowest : (es : List (Entry A)) (n : ℕ) (e : Entry A) → n < length es → e ≡ get_or es n e → lowest_leaf (entries_from n (shown es)) ≡ lowest_leaf (entries_from 0 (shown (e ∷ [])))
  lowest [] n e h s = absurd (omega (arith, h))
  lowest (Leaf i ∷ es) zero e h s = rw s refl
  lowest (Group g ∷ es) zero e h s = rw s refl
  lowest (Leaf i ∷ es) (suc n) e h s = lowest es n e (omega (arith, h)) s
  lowest (Group g ∷ es) (suc n) e h s = lowest es n e (omega (arith, h)) s

  -- an entry at a place, and alone
  pub lid_at : (tile : Rectangle) (es : List (Entry A)) (n : ℕ) (e : Entry A) → n < length es → e ≡ get_or es n e → HasLid tile (shown (e ∷ [])) 0 → HasLid tile (shown es) n
  lid_at tile es n e h s k = record { leaf = k.leaf; stands = lowest es n e h s ∙ k.stands; lid = k.lid }

  pub at_lid : (tile : Rectangle) (es : List (Entry A)) (n : ℕ) (e : Entry A) → n < length es → e ≡ get_or es n e → HasLid tile (shown es) n → HasLid tile (shown (e ∷ [])) 0
  at_lid tile es n e h s k = record { leaf = k.leaf; stands = sym (lowest es n e h s) ∙ k.stands; lid = k.lid }

  past : (n : ℕ) (es : List (Entry A)) → length es ≤ n → lowest_leaf (entries_from n (shown es)) ≡ None
  past zero [] h = refl
  past (suc n) [] h = refl
  past zero (e ∷ es) h = absurd (omega (arith, h))
  past (suc n) (Leaf i ∷ es) h = past n es (omega (arith, h))
  past (suc n) (Group g ∷ es) h = past n es (omega (arith, h))

  -- past the last there is none
  pub no_lid_past : (tile : Rectangle) (es : List (Entry A)) (n : ℕ) → length es ≤ n → HasLid tile (shown es) n → ⊥
  no_lid_past tile es n h k = let e : None ≡ Some k.leaf = sym (past n es h) ∙ k.stands in cc
