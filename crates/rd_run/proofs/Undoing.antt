-- An undo of a session is one of the machine.
use Rattle.std.proofs.Common.{◌≡◌, ℕ, ◌+◌, ◌-◌, ◌<◌, ◌≤◌, Bool, true, false, List, ◌∷◌, ◌++◌, length, get_or, take, refl, sym, ◌∙◌, ap, subst, arith, Option, Some, None, []}
use Rattle.std.proofs.lemmas.List.{take_more}
use Rattle.std.proofs.lemmas.Option.{slice_get-get_or}
use Rattle.std.proofs.lemmas.Grind.{common_steps}
use Rattle.circular_buffer.specs.Buffer.{Buffer, buffer, last_item}
use Rattle.rd_tree.specs.Document.{Document}
use Rattle.rd_edits.specs.declared.edit.Edit.{Edit}
use Rattle.rd_edits.specs.declared.fault.EditFault.{EditFault}
use Rattle.rd_edits.specs.Refusals.{refusal_of}
use Rattle.rd_engine.specs.State.{EngineState}
use Rattle.rd_report.specs.Answers.{undone_line}
use Rattle.rd_scene.specs.declared.script.Command.{Command}
use Rattle.rd_scene.specs.declared.script.Command.TheVariants.{Undo}
use Rattle.rd_run.specs.Endings.{counter}
use Rattle.rd_run.specs.Machine.{State, Counts, Step, TakesOne, TakesBack, newest, older}
use Rattle.rd_run.specs.Internal.Session.{SessionState, Shows, IsFew, undos_of, AreCounted, Advances, MayGoOn, PaintsNot}
use Rattle.rd_run.proofs.Going.{step_goes}

-- ---- one edit more

takes_more : (es : List Edit) (e : Edit) (n m : ℕ) (a b d : State) → TakesBack es n a b → TakesOne (refusal_of b.tree e) e m b d → TakesBack (es ++ e ∷ []) (n + m) a d
takes_more [] e n m a b d h g =
    let zero : n ≡ 0 = h.0 in
    (m, 0, d, subst (λ (x : State). TakesOne (refusal_of x.tree e) e m x d) h.1 g, (refl, refl), omega (arith, zero))
takes_more (x ∷ es) e n m a b d h g =
    let sum : n ≡ h.0 + h.1 = h.5 in
    (h.0, h.1 + m, h.2, h.3, takes_more es e h.1 m h.2 b d h.4 g, omega (arith, sum))

pub takes_on : (xs : List Edit) (i : ℕ) (d : Edit) (n m : ℕ) (a b e : State) → i < length xs → d ≡ get_or xs i d → TakesBack (take i xs) n a b
    → TakesOne (refusal_of b.tree d) d m b e → TakesBack (take (i + 1) xs) (n + m) a e
takes_on xs i d n m a b e h is t g =
    let here : TakesOne (refusal_of b.tree (get_or xs i d)) (get_or xs i d) m b e = subst (λ (x : Edit). TakesOne (refusal_of b.tree x) x m b e) is g in
    rw (take_more xs i d h) (takes_more (take i xs) (get_or xs i d) n m a b e t here)

all_of : (xs : List Edit) (i : ℕ) → length xs ≤ i → take i xs ≡ xs
all_of xs i h = grind (arith, common_steps)

pub takes_all : (xs : List Edit) (i n : ℕ) (a b : State) → length xs ≤ i → TakesBack (take i xs) n a b → TakesBack xs n a b
takes_all xs i n a b h t = subst (λ (es : List Edit). TakesBack es n a b) (all_of xs i h) t

-- Nothing is counted of such edits.
one_uncounted : (o : Option EditFault) (e : Edit) (n : ℕ) (a b : State) → TakesOne o e n a b → b.counts ≡ a.counts
one_uncounted (Some f) e n a b h = ap (λ (x : State). x.counts) h.1
one_uncounted None e n a b h = ap (λ (x : State). x.counts) h.1.2

pub uncounted : (es : List Edit) (n : ℕ) (a b : State) → TakesBack es n a b → b.counts ≡ a.counts
uncounted [] n a b h = ap (λ (x : State). x.counts) h.1
uncounted (e ∷ es) n a b h = uncounted es h.1 h.2 b h.4 ∙ one_uncounted (refusal_of a.tree e) e h.0 a h.2 h.3

-- ---- undos

no_newest : {A : Type 0} (us : List A) → last_item us ≡ None → take (length us - 1) us ≡ us
no_newest [] h = refl
no_newest {A = A} (x ∷ us) h =
    let less : length (x ∷ us) - 1 < length (x ∷ us) = omega arith in
    absurd (some_none (get_or (x ∷ us) (length (x ∷ us) - 1) x) (sym (slice_get-get_or (x ∷ us) (length (x ∷ us) - 1) x less) ∙ h))
  where
    some_none : (y : A) → Some y ≡ None → ⊥
    some_none y h = cc (h)

module _ (s : State) (x : SessionState) (sh : Shows x s) where
  same_counted : (m l : ℕ) → AreCounted s s (counter m m) (counter l l)
  same_counted m l = record { items = refl; taken = omega arith }

  -- where nothing is kept
  pub none_kept : x.keeps ≡ false → (m l : ℕ) → Advances (Step Undo) (counter m m) (counter l l) s (undone_line None) x
  none_kept k m l =
      let e : newest s.undos ≡ None = ap newest (sh.undos ∙ ap (λ b. undos_of b x.undo) k) in
      (s, rw e (refl, refl), sh, same_counted m l)

  module _ (k : x.keeps ≡ true) (u : Buffer (List Edit)) (is : u ≡ buffer (take (length x.undo.items - 1) x.undo.items) x.undo.capacity) where
    kept : s.undos ≡ Some x.undo.items
    kept = sh.undos ∙ ap (λ b. undos_of b x.undo) k

    others_are : Some (take (length x.undo.items - 1) x.undo.items) ≡ undos_of x.keeps u
    others_are = ap (undos_of true) (sym is) ∙ ap (λ b. undos_of b u) (sym k)

    -- where nothing is left
    pub none_left : None ≡ last_item x.undo.items → (m l : ℕ) → Advances (Step Undo) (counter m m) (counter l l) s (undone_line None) (record x { undo = u })
    none_left e m l =
        let none : newest s.undos ≡ None = ap newest kept ∙ sym e in
        let same : Some x.undo.items ≡ Some (take (length x.undo.items - 1) x.undo.items) = ap (λ z. Some z) (sym (no_newest x.undo.items (sym e))) in (
          s,
          rw none (refl, refl),
          record {
            tree = sh.tree;
            pending = sh.pending;
            paints = sh.paints;
            kept = sh.kept;
            last = sh.last;
            accepted = sh.accepted;
            refused = sh.refused;
            built = sh.built;
            area = sh.area;
            undos = kept ∙ (same ∙ others_are);
            room = ap (λ (z : Buffer (List Edit)). z.capacity) is ∙ sh.room;
            well_formed = sh.well_formed;
          },
          same_counted m l,
        )

    -- Once the newest is taken out,
    pub taken_out : Shows (record x { undo = u }) (record s { undos = older s.undos })
    taken_out = record {
      tree = sh.tree;
      pending = sh.pending;
      paints = sh.paints;
      kept = sh.kept;
      last = sh.last;
      accepted = sh.accepted;
      refused = sh.refused;
      built = sh.built;
      area = sh.area;
      undos = ap older kept ∙ others_are;
      room = ap (λ (z : Buffer (List Edit)). z.capacity) is ∙ sh.room;
      well_formed = sh.well_formed;
    }

    -- its edits make the undo.
    pub undone : (es : List Edit) (n : ℕ) (now : SessionState) (next : State) → Some es ≡ last_item x.undo.items → TakesBack es n (record s { undos = older s.undos }) next → Shows now next
        → (m l : ℕ) → Advances (Step Undo) (counter m m) (counter l l) s (undone_line (Some n)) now
    undone es n now next e t shows m l =
        let some : newest s.undos ≡ Some es = ap newest kept ∙ sym e in
        let c : next.counts ≡ s.counts = uncounted es n (record s { undos = older s.undos }) next t in
        let b : next.counts.built ≡ s.counts.built = ap (λ (z : Counts). z.built) c in
        let v : next.counts.looks ≡ s.counts.looks = ap (λ (z : Counts). z.looks) c in (
          next,
          rw some (n, refl, t),
          shows,
          record { items = omega (arith, b); taken = omega (arith, v) },
        )

-- an undo can always be answered
pub undo_may : (x : SessionState) (q : Command) (m l : ℕ) → q ≡ Undo → (s : State) → Shows x s → MayGoOn (Step q) (counter m m) (counter l l) s
undo_may x q m l i s sh =
    let g = step_goes Undo s sh.well_formed in
    let b = g.4.built in
    let v = g.4.looks in
    rw i (g.1, g.0, g.2, g.3, record { items = omega (arith, b); taken = omega (arith, v) })

-- ---- few edits are counted

pub few_same : (x : SessionState) (n : ℕ) (pending : Bool) (t : Document) → IsFew x n → IsFew (record x { engine = record x.engine { tree = t; pending = pending } }) n
few_same x n pending t f = record { paints = f.paints; accepted = f.accepted; refused = f.refused; built = f.built; area = f.area }

pub few_popped : (x : SessionState) (n : ℕ) (u : Buffer (List Edit)) → IsFew x n → IsFew (record x { undo = u }) n
few_popped x n u f = record { paints = f.paints; accepted = f.accepted; refused = f.refused; built = f.built; area = f.area }

-- what does not paint twice does not paint
pub unpainted_on : (a b d : EngineState) → PaintsNot a b → PaintsNot b d → PaintsNot a d
unpainted_on a b d p q = record { canvas = q.canvas ∙ p.canvas; paints = q.paints ∙ p.paints }
