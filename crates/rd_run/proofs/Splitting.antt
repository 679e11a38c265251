-- A dump and the script behind it.
use Rattle.std.proofs.Common.{◌≡◌, ℕ, zero, suc, ◌+◌, ◌<◌, ◌≤◌, Bool, true, false, List, [], ◌∷◌, length, take, drop, get_or, refl, sym, ap, subst, ◌∙◌, arith, eq-eqb, Option, inl, inr}
use Rattle.std.specs.Prelude.{◌==◌, if◌then◌else◌}
use Rattle.std.proofs.lemmas.Bool.Decides.{Decides-eqb}
use Rattle.std.proofs.lemmas.Bool.{cases_lt}
use Rattle.std.proofs.lemmas.List.{take_all, drop_all, length-take}
use Rattle.rd_tree.specs.Document.{Document}
use Rattle.rd_tree.specs.Forest.{size}
use Rattle.rd_scene.specs.Reading.{IsScriptText}
use Rattle.rd_scene.specs.Scripts.{Script}
use Rattle.rd_check.specs.Checked.{IsChecked}
use Rattle.rd_check.specs.Spoken.{verdict_line}
use Rattle.rd_check.specs.declared.verdict.Verdict.{Verdict}
use Rattle.rd_run.specs.Checks.{dump_before, script_from, leaf_count, checked_looks}
use Rattle.rd_run.specs.Endings.{Stream, Counter, stream, counter}
use Rattle.rd_run.specs.Machine.{State}
use Rattle.rd_run.specs.Internal.Answered.{ChecksAs, ChecksOf, ChecksText, Writes}
use Rattle.rd_run.specs.declared.status.Status.{Status}
use Rattle.rd_run.specs.declared.status.Status.TheVariants as status

-- ---- where the script begins

other_byte : (b : ℕ) → (b ≡ 123 → ⊥) → (t : Bool) → (b == 123) ≡ t → t ≡ false
other_byte b n true e = absurd (n ((Decides-eqb b 123).0 e))
other_byte b n false e = refl

module _ (b : ℕ) (bs : List ℕ) where
  at_opening : b ≡ 123 → ([] ≡ dump_before (b ∷ bs)) × (b ∷ bs ≡ script_from (b ∷ bs))
  at_opening e =
      let t : (b == 123) ≡ true = eq-eqb b 123 e in
      (sym (ap (λ (z : Bool). if z then [] else b ∷ dump_before bs) t), sym (ap (λ (z : Bool). if z then b ∷ bs else script_from bs) t))

  past_other : (b ≡ 123 → ⊥) → (b ∷ dump_before bs ≡ dump_before (b ∷ bs)) × (script_from bs ≡ script_from (b ∷ bs))
  past_other n =
      let f : (b == 123) ≡ false = other_byte b n (b == 123) refl in
      (sym (ap (λ (z : Bool). if z then [] else b ∷ dump_before bs) f), sym (ap (λ (z : Bool). if z then b ∷ bs else script_from bs) f))

-- none of the first bytes begins a script
abbrev pub NoneOpens : List ℕ → ℕ → Type 0
NoneOpens bs i = (k : ℕ) → k < i → get_or bs k 0 ≡ 123 → ⊥

pub begins_at : (bs : List ℕ) (i : ℕ) → i < length bs → NoneOpens bs i → get_or bs i 0 ≡ 123 → (take i bs ≡ dump_before bs) × (drop i bs ≡ script_from bs)
begins_at [] i h n e = absurd (omega (arith, h))
begins_at (b ∷ bs) zero h n e = at_opening b bs e
begins_at (b ∷ bs) (suc i) h n e =
    let r = begins_at bs i (omega (arith, h)) (λ k l g. n (suc k) (omega (arith, l)) g) e in
    let q = past_other b bs (n zero (omega arith)) in
    (ap (λ (z : List ℕ). b ∷ z) r.0 ∙ q.0, r.1 ∙ q.1)

nowhere : (bs : List ℕ) → NoneOpens bs (length bs) → (bs ≡ dump_before bs) × ([] ≡ script_from bs)
nowhere [] n = (refl, refl)
nowhere (b ∷ bs) n =
    let r = nowhere bs (λ k l g. n (suc k) (omega (arith, l)) g) in
    let q = past_other b bs (n zero (omega arith)) in
    (ap (λ (z : List ℕ). b ∷ z) r.0 ∙ q.0, r.1 ∙ q.1)

pub begins_nowhere : (bs : List ℕ) (i : ℕ) → NoneOpens bs i → length bs ≤ i
    → (take (length bs) bs ≡ dump_before bs) × (drop (length bs) bs ≡ script_from bs)
begins_nowhere bs i n past =
    let r = nowhere bs (λ k l g. n k (omega (arith, l, past)) g) in
    (take_all (length bs) bs (omega arith) ∙ r.0, drop_all (length bs) bs (omega arith) ∙ r.1)

pub begins_here : (bs : List ℕ) (i : ℕ) → i < length bs → NoneOpens bs i → (get_or bs i 0 == 123) ≡ true → (take i bs ≡ dump_before bs) × (drop i bs ≡ script_from bs)
begins_here bs i h n t = begins_at bs i h n ((Decides-eqb (get_or bs i 0) 123).0 t)

pub opens_not : (bs : List ℕ) (i : ℕ) → NoneOpens bs i → (get_or bs i 0 == 123) ≡ false → NoneOpens bs (i + 1)
opens_not bs i n f k below e = elim (cases_lt k i) [
  | inl l ↦ n k l e
  | inr l ↦
      let at : k ≡ i = omega (arith, below, l) in
      let no : true ≡ false = sym ((Decides-eqb (get_or bs i 0) 123).1 (ap (λ (z : ℕ). get_or bs z 0) (sym at) ∙ e)) ∙ f in
      absurd cc
]

-- the bytes of a dump are fewer than are read
pub few_before : (n : ℕ) (bs : List ℕ) → length bs < 4294967296 → length (take n bs) < 4294967296
few_before n bs h = let l = length-take n bs in omega (arith, h, l)

-- ---- what is told

module _ (out : Stream) (made looks : Counter) where
  -- the line of a verdict was written
  pub verdict_written : (dump : List ℕ) (last : Document) (v : Verdict) (text : List ℕ) (s : Status) → IsChecked dump last v → text ≡ verdict_line last.boxes v
      → made.now ≡ made.was + leaf_count last → looks.now ≤ looks.was + size last.boxes → Writes out text s → ChecksAs dump last (size last.boxes) out made looks s
  verdict_written dump last v text status.Done h e m l w = (w.0, (text, (v, h, e), w.1, m, l))
  verdict_written dump last v text status.WriteFault h e m l w = (w.0, (text, (v, h, e), w.1, omega (arith, m), l))
  verdict_written dump last v text status.NoMemory h e m l w = absurd w
  verdict_written dump last v text status.Usage h e m l w = absurd w
  verdict_written dump last v text status.NotJson h e m l w = absurd w
  verdict_written dump last v text (status.Form p y) h e m l w = absurd w
  verdict_written dump last v text status.ReadFault h e m l w = absurd w
  verdict_written dump last v text status.TooLarge h e m l w = absurd w
  verdict_written dump last v text status.BadWire h e m l w = absurd w
  verdict_written dump last v text status.BadDump h e m l w = absurd w

module _ (out : Stream) (m n o l k j : ℕ) where
  -- The tree is that at the end of a script; what was counted before the check is counted too.
  pub last_checked : (dump : List ℕ) (last : State) (t : Document) (s : Status) → t ≡ last.tree → n ≡ m → k ≤ l + last.counts.looks
      → ChecksAs dump t (size t.boxes) out (counter n o) (counter k j) s → ChecksAs dump last.tree (checked_looks last) out (counter m o) (counter l j) s
  last_checked dump last t s e a b c = on s (subst (λ (d : Document). ChecksAs dump d (size d.boxes) out (counter n o) (counter k j) s) e c)
    where
      on : (s : Status) → ChecksAs dump last.tree (size last.tree.boxes) out (counter n o) (counter k j) s → ChecksAs dump last.tree (checked_looks last) out (counter m o) (counter l j) s
      on status.Done h = let y = h.1.3 in let z = h.1.4 in (h.0, (h.1.0, h.1.1, h.1.2, omega (arith, a, y), omega (arith, b, z)))
      on status.WriteFault h = let y = h.1.3 in let z = h.1.4 in (h.0, (h.1.0, h.1.1, h.1.2, omega (arith, a, y), omega (arith, b, z)))
      on status.NoMemory h = let y = h.2 in let z = h.3 in (h.0, h.1, omega (arith, a, y), omega (arith, b, z))
      on status.Usage h = absurd h
      on status.NotJson h = absurd h
      on (status.Form p y) h = absurd h
      on status.ReadFault h = absurd h
      on status.TooLarge h = absurd h
      on status.BadWire h = absurd h
      on status.BadDump h = absurd h

-- without memory, where the tree could be had
pub unchecked : (dump : List ℕ) (last : State) (o : Option (List ℕ)) (f m n l k : ℕ) → n ≤ m → k ≤ l + last.counts.looks
    → ChecksAs dump last.tree (checked_looks last) (stream o o f f) (counter m n) (counter l k) status.NoMemory
unchecked dump last o f m n l k a b = (refl, refl, omega (arith, a), omega (arith, b))

module _ (untouched : Type 0) (out : Stream) (made looks : Counter) where
  -- the two parts of the bytes are their dump and their script
  pub parts_checked : (bytes text dump : List ℕ) (script : Script) (s : Status) → text ≡ script_from bytes → dump ≡ dump_before bytes → IsScriptText text script
      → ChecksOf untouched dump script out made looks s → ChecksText untouched bytes out made looks s
  parts_checked bytes text dump script s p q t h = inr (
    script,
    subst (λ (z : List ℕ). IsScriptText z script) p t,
    subst (λ (z : List ℕ). ChecksOf untouched z script out made looks s) q h,
  )
