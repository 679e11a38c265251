-- Steps of the machine, one after another.
use Rattle.std.proofs.Common.{◌≡◌, ℕ, ◌+◌, ◌*◌, ◌^◌, ◌≤◌, Bool, true, List, ◌++◌, refl, sym, ◌∙◌, ap, subst, append_assoc, arith}
use Rattle.std.specs.Prelude.{Result, Ok, Err, OnErr}
use Rattle.rd_edits.specs.declared.edit.Edit.{Edit}
use Rattle.rd_scene.specs.declared.script.Command.{Command}
use Rattle.rd_scene.specs.declared.script.Command.TheVariants.{Change, Paint, Hit, Pixel, Dump, Shot, Undo}
use Rattle.rd_run.specs.Endings.{Counter}
use Rattle.rd_run.specs.Machine.{State, Step, Asks, Paints, PaintsIf}
use Rattle.rd_run.specs.Internal.Session.{SessionState, Shows, IsFew, Advances, Does, Tells, MayGoOn, reply}

module _ (P Q : State → List ℕ → State → Type 0) (made looks : Counter) (s : State) (f : (text : List ℕ) (next : State) → P s text next → Q s text next) where
  pub advances_as : (text : List ℕ) (now : SessionState) → Advances P made looks s text now → Advances Q made looks s text now
  advances_as text now a = (a.0, f text a.0 a.1, a.2, a.3)

  pub may_as : MayGoOn P made looks s → MayGoOn Q made looks s
  may_as m = (m.0, m.1, f m.0 m.1 m.2, m.3, m.4)

-- where a paint is pending, a paint is what is done
pub advances_if : (b : Bool) (made looks : Counter) (s : State) (text : List ℕ) (now : SessionState) → b ≡ true
    → Advances Paints made looks s text now → Advances (PaintsIf b) made looks s text now
advances_if b made looks s text now e =
    advances_as Paints (PaintsIf b) made looks s (λ line next p. subst (λ (x : Bool). PaintsIf x s line next) (sym e) p) text now

module _ (P : State → List ℕ → State → Type 0) (made looks : Counter) (s : State) where
  -- what was done could be done
  pub may_from : (text : List ℕ) (now : SessionState) → Advances P made looks s text now → MayGoOn P made looks s
  may_from text now a =
      let i = a.3.items in (
        text,
        a.0,
        a.1,
        a.2.well_formed,
        record { items = omega (arith, i); taken = a.3.taken },
      )

module _ (s : State) (x : SessionState) (sh : Shows x s) where
  -- a question after the paint that it causes
  pub asks_of : (answer : State → List ℕ) (text : List ℕ) (next : State) → PaintsIf x.engine.pending s text next → Asks answer s (text ++ answer next) next
  asks_of answer text next p = (text, subst (λ (b : Bool). PaintsIf b s text next) (sym sh.pending) p, refl)

  module _ (answer : State → List ℕ) (made looks : Counter) where
    pub asks_tell : (line before mid after : List ℕ) (now : SessionState) → Advances (PaintsIf x.engine.pending) made looks s line now → mid ≡ before ++ line
        → ((next : State) → Shows now next → after ≡ mid ++ answer next) → Tells (Asks answer) made looks s before after now
    asks_tell line before mid after now a m r = (
      line ++ answer a.0,
      r a.0 a.2 ∙ ap (λ z. z ++ answer a.0) m ∙ append_assoc before line (answer a.0),
      (a.0, asks_of answer line a.0 a.1, a.2, a.3),
    )

    pub asks_may : MayGoOn (PaintsIf x.engine.pending) made looks s → MayGoOn (Asks answer) made looks s
    asks_may m = (m.0 ++ answer m.1, m.1, asks_of answer m.0 m.1 m.2, m.3, m.4)

    pub asks_went : (line : List ℕ) (now : SessionState) → Advances (PaintsIf x.engine.pending) made looks s line now → MayGoOn (Asks answer) made looks s
    asks_went line now a = asks_may (may_from (PaintsIf x.engine.pending) made looks s line now a)

    pub asks_does : (line : List ℕ) (now : SessionState) → Advances (PaintsIf x.engine.pending) made looks s line now → Does (Asks answer) made looks s now
    asks_does line now a = (line ++ answer a.0, (a.0, asks_of answer line a.0 a.1, a.2, a.3))

-- an answer to a question is a step, and what is no question is an edit, a paint or an undo
pub step_of : (q : Command) → ((e : Edit) → q ≡ Change e → ⊥) → (q ≡ Paint → ⊥) → (q ≡ Undo → ⊥) → (s : State) (text : List ℕ) (next : State) → Asks (reply q) s text next → Step q s text next
step_of (Change e) n m u s text next a = absurd (n e refl)
step_of Paint n m u s text next a = absurd (m refl)
step_of (Hit x y) n m u s text next a = a
step_of (Pixel x y) n m u s text next a = a
step_of Dump n m u s text next a = a
step_of Shot n m u s text next a = a
step_of Undo n m u s text next a = absurd (u refl)

-- what holds anyway holds of a failure
pub on_err : {A E P : Type 0} (r : Result A E) → P → OnErr r P
on_err (Ok x) p = tt
on_err (Err e) p = p

-- the same of every state that is shown
module _ (x : SessionState) (made looks : Counter) where
  abbrev pub AllMay : (State → List ℕ → State → Type 0) → Type 0
  AllMay P = (s : State) → Shows x s → MayGoOn P made looks s

  pub all_asks_may : (answer : State → List ℕ) → AllMay (PaintsIf x.engine.pending) → AllMay (Asks answer)
  all_asks_may answer f s sh = asks_may s x sh answer made looks (f s sh)

  pub all_asks_went : (answer : State → List ℕ) (line : List ℕ) (now : SessionState) → ((s : State) → Shows x s → Advances (PaintsIf x.engine.pending) made looks s line now)
      → AllMay (Asks answer)
  all_asks_went answer line now f s sh = asks_went s x sh answer made looks line now (f s sh)

  pub all_paint_may : (q : Command) → q ≡ Paint → AllMay Paints → AllMay (Step q)
  all_paint_may q e f s sh = rw e (f s sh)

  pub all_paint_went : (q : Command) (line : List ℕ) (now : SessionState) → q ≡ Paint → ((s : State) → Shows x s → Advances Paints made looks s line now) → AllMay (Step q)
  all_paint_went q line now e f s sh = rw e (may_from Paints made looks s line now (f s sh))

-- what is told, and what may be, by another word
pub tells_as : (P Q : State → List ℕ → State → Type 0) (made looks : Counter) (s : State) (before after : List ℕ) (now : SessionState)
    → ((text : List ℕ) (next : State) → P s text next → Q s text next)
    → Tells P made looks s before after now → Tells Q made looks s before after now
tells_as P Q made looks s before after now f t = (t.0, t.1, advances_as P Q made looks s f t.0 now t.2)

-- no count is above what one more command may make of it
pub grows : (a b n k : ℕ) → a ≤ n * k → b ≤ k → a + b ≤ (n + 1) * k
grows a b n k h l = let e : (n + 1) * k ≡ n * k + k = omega arith in omega (arith, h, l, e)

pub few_next : (x y : SessionState) (n built area : ℕ) → IsFew x n → y.engine.paints ≤ x.engine.paints + 1 → y.accepted ≤ x.accepted + 1 → y.refused ≤ x.refused + 1
    → y.built ≡ x.built + built → built ≤ 2 ^ 34 → y.area ≡ x.area + area → area ≤ 2 ^ 24 → IsFew y (n + 1)
few_next x y n built area f p a r b bm c cm =
    let f0 = f.paints in
    let f1 = f.accepted in
    let f2 = f.refused in
    record {
      paints = omega (arith, f0, p);
      accepted = omega (arith, f1, a);
      refused = omega (arith, f2, r);
      built = rw b (grows x.built built n (2 ^ 34) f.built bm);
      area = rw c (grows x.area area n (2 ^ 24) f.area cm);
    }

-- a paint with its line is a step
pub paint_tells : (q : Command) → q ≡ Paint → (made looks : Counter) (s : State) (line before after : List ℕ) (now : SessionState)
    → Advances Paints made looks s line now → after ≡ before ++ line → Tells (Step q) made looks s before after now
paint_tells q e made looks s line before after now a w = rw e (line, w, a)
