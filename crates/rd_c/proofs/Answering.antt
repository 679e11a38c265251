-- What a call that reads answers, by what it found. Assumes nothing.
use Rattle.std.proofs.Common.{◌≡◌, ℕ, ℤ, pos, ◌+ℤ◌, ◌≤ℤ◌, ◌*◌, ◌<◌, ◌≤◌, ◌≢◌, Bool, true, false, List, length, refl, sym, subst, inl, inr, arith}
use Rattle.std.specs.Prelude.{Option, Some, None, ◌⊎◌, unsigned_abs, int_le, IfSome, IsSomeAnd, Result, Ok, Err, OnOk, OnErr}
use Rattle.std.proofs.lemmas.Bool.Decides.{nat_tests}
use Rattle.std.proofs.lemmas.Int.{ints}
use Rattle.rd_geom.specs.Areas.{Region}
use Rattle.rd_keys.specs.Keys.{BoxKey}
use Rattle.rd_paint.specs.Pictures.{Picture}
use Rattle.rd_c.specs.Copied.{lies_on, may_copy, bytes_wanted, copy_answer}
use Rattle.rd_c.specs.Memory.{IsWritten}
use Rattle.rd_c.specs.Reading.{room_answer, value_answer, text_answer, settled_answer, spans_answer, paint_answer, IsAnswer, IsTextWritten}
use Rattle.rd_c.specs.Shown.{box_key}
use Rattle.rd_c.specs.Spans.{told_rows}
use Rattle.rd_c.specs.declared.painting.RdSpan.{RdSpan}
use Rattle.rd_c.specs.declared.refusal.Refusal.{Refusal}
use Rattle.rd_c.specs.declared.values.RdRect.{RdRect}

module _ {A : Type 0} (b : Bool) (o : Option A) where
  pub value_pending : b ≡ true → 15 ≡ value_answer b o
  value_pending p = subst (λ z. 15 ≡ value_answer z o) (sym p) refl

  pub value_none : b ≡ false → o ≡ None → 16 ≡ value_answer b o
  value_none p q = subst (λ z. 16 ≡ value_answer z o) (sym p) (subst (λ (z : Option A). 16 ≡ value_answer false z) (sym q) refl)

  pub value_some : (x : A) → b ≡ false → o ≡ Some x → 0 ≡ value_answer b o
  value_some x p q = subst (λ z. 0 ≡ value_answer z o) (sym p) (subst (λ (z : Option A). 0 ≡ value_answer false z) (sym q) refl)

module _ (o : Option (List ℕ)) (room : ℕ) where
  pub text_none : o ≡ None → 16 ≡ text_answer o room
  text_none q = subst (λ (z : Option (List ℕ)). 16 ≡ text_answer z room) (sym q) refl

  pub text_some : (t : List ℕ) (n : ℕ) → o ≡ Some t → n ≡ room_answer (length t) room → n ≡ text_answer o room
  text_some t n q r = subst (λ (z : Option (List ℕ)). n ≡ text_answer z room) (sym q) r

  pub settled_pending : (b : Bool) → b ≡ true → 15 ≡ settled_answer b o room
  settled_pending b p = subst (λ z. 15 ≡ settled_answer z o room) (sym p) refl

  pub settled_text : (b : Bool) (n : ℕ) → b ≡ false → n ≡ text_answer o room → n ≡ settled_answer b o room
  settled_text b n p q = subst (λ z. n ≡ settled_answer z o room) (sym p) q

pub text_written : (o : Option (List ℕ)) (t old new : List ℕ) (n : ℕ) → o ≡ Some t → IsWritten t old new n → IsTextWritten o old new n
text_written o t old new n is written = record { text = t; is = is; written = written }

-- a key is its slot and its generation
pub key_is : (k : BoxKey) (slot generation : ℕ) → k.slot ≡ slot → k.generation ≡ generation → k ≡ box_key slot generation
key_is k slot generation p q = λ i. record { slot = p i; generation = q i; mark = record {} }

-- so much fits into the room, or there is too little
pub room_fits : (size room : ℕ) → size ≤ room → 0 ≡ room_answer size room
room_fits size room h = grind (arith, nat_tests)

pub room_short : (size room : ℕ) → room < size → 17 ≡ room_answer size room
room_short size room h = grind (arith, nat_tests)

pub no_memory : (wanted : ℕ) → IsAnswer wanted 10
no_memory wanted = inl refl

pub answered : (wanted n : ℕ) → n ≡ wanted → IsAnswer wanted n
answered wanted n e = inr e

module _ (o : Option Region) (height room : ℕ) where
  pub spans_none : o ≡ None → IsAnswer (spans_answer o height room) 16
  spans_none q = subst (λ (z : Option Region). IsAnswer (spans_answer z height room) 16) (sym q) (inr refl)

  pub spans_some : (a : Region) (n : ℕ) → o ≡ Some a → n ≡ room_answer (length (told_rows a height)) room → IsAnswer (spans_answer o height room) n
  spans_some a n q r = subst (λ (z : Option Region). IsAnswer (spans_answer z height room) n) (sym q) (inr r)

  pub spans_count : (a : Region) (n : ℕ) → o ≡ Some a → n ≡ length (told_rows a height) → IfSome o (λ a. n ≡ length (told_rows a height))
  spans_count a n q r = subst (λ (z : Option Region). IfSome z (λ a. n ≡ length (told_rows a height))) (sym q) r

  pub spans_written : (a : Region) (old new : List RdSpan) (n : ℕ) → o ≡ Some a → IsWritten (told_rows a height) old new n → IsSomeAnd o (λ a. IsWritten (told_rows a height) old new n)
  spans_written a old new n q r = subst (λ (z : Option Region). IsSomeAnd z (λ a. IsWritten (told_rows a height) old new n)) (sym q) r

true_le : (a b : ℤ) → a ≤ℤ b → int_le a b ≡ true
true_le a b h = grind (arith, ints)

-- a rectangle on a canvas
pub lies : (r : RdRect) (c : Picture) → pos 0 ≤ℤ r.x → pos 0 ≤ℤ r.y → pos 0 ≤ℤ r.w → pos 0 ≤ℤ r.h → (r.x +ℤ r.w) ≤ℤ pos c.width → (r.y +ℤ r.h) ≤ℤ pos c.height → true ≡ lies_on r c
lies r c x y w h right bottom =
    rw (true_le (pos 0) r.x x, true_le (pos 0) r.y y, true_le (pos 0) r.w w, true_le (pos 0) r.h h, true_le (r.x +ℤ r.w) (pos c.width) right, true_le (r.y +ℤ r.h) (pos c.height) bottom) refl

module _ (r : RdRect) (format stride : ℕ) (c : Picture) (room : ℕ) where
  pub copy_refused : may_copy r format stride c ≡ false → 12 ≡ copy_answer r format stride c room
  copy_refused h = rw h refl

  pub copy_tried : (n : ℕ) → may_copy r format stride c ≡ true → n ≡ room_answer (bytes_wanted (unsigned_abs r.h) stride (4 * unsigned_abs r.w)) room → n ≡ copy_answer r format stride c room
  copy_tried n h e = rw h e

  pub may_not_lie : lies_on r c ≡ false → may_copy r format stride c ≡ false
  may_not_lie h = rw h refl

  pub may_not_so : (1 < format) ⊎ (stride ≡ 0) ⊎ (stride < 4 * unsigned_abs r.w) → may_copy r format stride c ≡ false
  may_not_so h = grind (arith, nat_tests)

  pub may_so : lies_on r c ≡ true → format ≤ 1 → 0 < stride → 4 * unsigned_abs r.w ≤ stride → may_copy r format stride c ≡ true
  may_so h f s w = grind (arith, nat_tests)

pub ruleset copies = (room_fits, room_short, copy_refused, copy_tried, may_not_lie, may_not_so, may_so)

pub paint_last : (n : ℕ) → n ≡ 18446744073709551615 → IsAnswer (paint_answer n) 16
paint_last n e = subst (λ z. IsAnswer (paint_answer z) 16) (sym e) (inr refl)

pub paint_more : (n : ℕ) → n ≢ 18446744073709551615 → IsAnswer (paint_answer n) 0
paint_more n h = let e : 0 ≡ paint_answer n = grind (arith, nat_tests) in inr e

pub ruleset paints = (no_memory, paint_last, paint_more)

pub ruleset values = (value_pending, value_none, value_some)

pub ruleset texts = (text_none, text_some, settled_pending, settled_text, text_written, room_fits, room_short)

pub ruleset lists = (room_fits, room_short, no_memory, answered, spans_none, spans_some, spans_count, spans_written)

-- what was asked was done, if 0 was answered
pub on_ok : (r : Result (Unit {0}) Refusal) (n : ℕ) (P : Type 0) → n ≡ 0 → OnErr r (8 < n) → OnOk r P → P
on_ok (Ok u) n P z late h = h
on_ok (Err x) n P z late h = absurd (omega (arith, z, late))

-- what was kept stands, if another number was answered
pub on_err : (r : Result (Unit {0}) Refusal) (n : ℕ) (P : Type 0) → 0 < n → OnOk r (n ≡ 0) → OnErr r P → P
on_err (Ok u) n P some done h = absurd (omega (arith, some, done))
on_err (Err x) n P some done h = h

-- a call that is no edit answers no number of a test of edits
pub no_test : {A : Type 0} (r : Result (Unit {0}) Refusal) (n : ℕ) → OnOk r (n ≡ 0) → OnErr r (8 < n) → 0 < n → n < 9 → A
no_test (Ok u) n done late some few = absurd (omega (arith, some, done))
no_test (Err x) n done late some few = absurd (omega (arith, late, few))
