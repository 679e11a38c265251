-- What a script's tree is: well formed, on the script's canvas, with each box touched; and what answers its commands.
use Rattle.std.proofs.Common.{◌≡◌, ◌⊎◌, ℕ, ◌+◌, ◌≤◌, Bool, false, refl, ap, ◌∙◌, sym, subst, Option, None, List, ◌∷◌, inl, inr, arith, []}
use Rattle.std.specs.Prelude.{Result, Err, IsErrOf}
use Rattle.rd_geom.specs.Canvas.{IsCanvas}
use Rattle.rd_item.specs.Items.{Made}
use Rattle.rd_list.specs.Wrappers.{Wrapper}
use Rattle.rd_list.specs.Entries.{Entries}
use Rattle.rd_list.specs.Unordered.{unordered}
use Rattle.rd_tree.specs.Document.{Document}
use Rattle.rd_tree.specs.Changes.{insertion}
use Rattle.rd_engine.specs.Painted.{IsAllTouched}
use Rattle.rd_engine.proofs.Nothing.{every_touched}
use Rattle.rd_gen.specs.Generated.{generated_script}
use Rattle.rd_report.specs.Summaries.{summary_lines}
use Rattle.rd_scene.specs.declared.script.Command.{Command}
use Rattle.rd_scene.specs.declared.script.SceneBox.{SceneBox}
use Rattle.rd_scene.specs.Scripts.{Script}
use Rattle.rd_scene.specs.Planting.{Plants, Grows, Adds, AddsAll, item_of}
use Rattle.rd_scene.proofs.Keyed.{planted_well}
use Rattle.rd_scene.proofs.Changing.{edited_canvas}
use Rattle.rd_scene.proofs.Touched.{planted_touched}
use Rattle.rd_wire.specs.Wires.{spelled}
use Rattle.rd_run.specs.Endings.{Stream, Counter, stream, counter, HasFailed, IsFaultless, IsScriptAnswer, IsScriptPicture, IsScriptWire, IsStormSummary, totals_of}
use Rattle.rd_run.specs.Machine.{State, Counts, start, Run, PaintsIf, Finishes}
use Rattle.rd_run.specs.Pictures.{picture}
use Rattle.rd_run.specs.Internal.Answered.{AnswersAll, AnswersPart, AnswersAs, AnsweredAll, AnsweredPart, Performs, MayPerform, Finished, MayFinish, Writes}
use Rattle.rd_run.specs.Internal.Lasts.{IsWellFormed}
use Rattle.rd_run.specs.Internal.Session.{SessionState, Shows, Does, MayGoOn}
use Rattle.rd_run.specs.declared.status.Status.{Status}
use Rattle.rd_run.specs.declared.status.Status.TheVariants.{Done, Usage, NotJson, Form, ReadFault, WriteFault, NoMemory, TooLarge, BadWire, BadDump}
use Rattle.rd_run.proofs.Going.{paints_if_goes}
use Rattle.rd_run.proofs.Runs.{gains_none, stays, counted_on, within_on, within_more}

added_canvas : (b : SceneBox) (old new : Document) → Adds b old new → new.canvas ≡ old.canvas
added_canvas b old new a = ap (λ (t : Document). t.canvas) a.new_is ∙ edited_canvas (insertion a.parent None a.key (item_of b)) old

all_added-canvas : (bs : List SceneBox) (old new : Document) → AddsAll bs old new → new.canvas ≡ old.canvas
all_added-canvas [] old new h = ap (λ t. t.canvas) h
all_added-canvas (b ∷ bs) old new h = all_added-canvas bs (h.0) new h.2 ∙ added_canvas b old (h.0) h.1

grown-canvas : (bs : List SceneBox) (root t : Document) → Grows bs root t → t.canvas ≡ root.canvas
grown-canvas [] root t h = absurd h
grown-canvas (b ∷ bs) root t h = all_added-canvas bs root t h.1

-- the canvas is the script's
pub planted-canvas : (s : Script) (t : Document) → Plants s t → t.canvas ≡ s.canvas
planted-canvas s t h = grown-canvas s.boxes (h.0) t h.2 ∙ h.1

pub planted_well_formed : (s : Script) (t : Document) → Plants s t → IsCanvas s.canvas → IsWellFormed t
planted_well_formed s t p h = record { boxes = planted_well s t p; canvas = subst IsCanvas (sym (planted-canvas s t p)) h }

pub planted_all : (s : Script) (t : Document) → Plants s t → IsAllTouched t
planted_all s t p = every_touched t.boxes (planted_touched s t p)

-- ---- answers

module _ (untouched : Type 0) (s : Script) (v : ℕ) (t : Document) (cs : List Command) (out : Stream) (m n l k : ℕ) where
  -- an answer to all commands of a script is an answer to the script
  pub answered_all : Plants s t → v ≡ s.version → cs ≡ s.commands → AnswersAll (counter m n) (counter l k) (start v t) cs out
      → AnsweredAll untouched (IsScriptAnswer s) out (counter m n) (counter l k)
  answered_all p u e a =
      let c = a.3 in let x = c.items in let y = c.taken in (
        a.1,
        (a.0).counts,
        (a.0, (t, p, subst (λ (w : ℕ). Run (start w t) s.commands (a.1) (a.0)) u (subst (λ (c : List Command). Run (start v t) c (a.1) (a.0)) e a.2)), refl),
        a.4,
        omega (arith, x),
        omega (arith, y),
      )

  pub answered_part : Plants s t → v ≡ s.version → cs ≡ s.commands → AnswersPart (counter m n) (counter l k) (start v t) cs out
      → AnsweredPart untouched (IsScriptAnswer s) out (counter m n) (counter l k)
  answered_part p u e a =
      let c = a.3 in let x = c.items in let y = c.taken in (
        a.1,
        (a.0).counts,
        (a.0, (t, p, subst (λ (w : ℕ). Run (start w t) s.commands (a.1) (a.0)) u (subst (λ (c : List Command). Run (start v t) c (a.1) (a.0)) e a.2)), refl),
        a.4,
        omega (arith, x),
        omega (arith, y),
      )

module _ (untouched : Type 0) (is_answer : List ℕ → Counts → Type 0) (out : Stream) (made looks : Counter) where
  -- how a script that was not answered whole ends
  pub ends_early : (r : Result (Unit {0}) Status) (s : Status) → r ≡ Err s
      → (IsErrOf r WriteFault ⊎ IsErrOf r NoMemory) → AnsweredPart untouched is_answer out made looks
      → (IsErrOf r WriteFault → HasFailed out) → (IsErrOf r NoMemory → IsFaultless out) → AnswersAs untouched is_answer out made looks s
  ends_early r s e (inl w) a fault still =
      let is : WriteFault ≡ s = (let p : Err WriteFault ≡ Err s = sym w ∙ e in cc) in
      subst (AnswersAs untouched is_answer out made looks) is (fault w, a)
  ends_early r s e (inr w) a fault still =
      let is : NoMemory ≡ s = (let p : Err NoMemory ≡ Err s = sym w ∙ e in cc) in
      subst (AnswersAs untouched is_answer out made looks) is (inr (still w, a))

-- ---- scripts whose commands are done

module _ (script : Script) (v : ℕ) (t : Document) (cs : List Command) (m n o l k j : ℕ) where
  commands_of : (a : State) (text : List ℕ) → v ≡ script.version → cs ≡ script.commands → Run (start v t) cs text a → Run (start script.version t) script.commands text a
  commands_of a text u e r = subst (λ (w : ℕ). Run (start w t) script.commands text a) u (subst (λ (c : List Command). Run (start v t) c text a) e r)

  -- after the last paint
  pub finished_on : (was now : SessionState) → Plants script t → v ≡ script.version → cs ≡ script.commands → Performs (counter m n) (counter l k) (start v t) cs was
      → ((s : State) → Shows was s → Does (PaintsIf was.engine.pending) (counter n o) (counter k j) s now)
      → now.engine.pending ≡ false → Finished (counter m o) (counter l j) script now
  finished_on was now p u e a f done =
      let d = f (a.0) a.4 in
      let c = counted_on (start v t) (a.0) (d.1.0) m n o l k j a.3 d.1.3 in
      let x = c.items in let y = c.taken in (
        d.1.0,
        (
          a.1,
          d.0,
          a.0,
          (t, p, commands_of (a.0) (a.1) u e a.2),
          subst (λ (b : Bool). PaintsIf b (a.0) (d.0) (d.1.0)) (sym a.4.pending) d.1.1,
        ),
        record { items = x; taken = y },
        d.1.2,
        done,
      )

  -- where the last paint gave up
  pub may_finish_on : (was : SessionState) → Plants script t → v ≡ script.version → cs ≡ script.commands → Performs (counter m n) (counter l k) (start v t) cs was
      → ((s : State) → Shows was s → MayGoOn (PaintsIf was.engine.pending) (counter n o) (counter k j) s)
      → MayFinish (counter m o) (counter l j) script
  may_finish_on was p u e a f =
      let d = f (a.0) a.4 in
      let c = within_on (start v t) (a.0) (d.1) m n o l k j a.3 d.4 in
      let x = c.items in let y = c.taken in (
        d.1,
        (
          a.1,
          d.0,
          a.0,
          (t, p, commands_of (a.0) (a.1) u e a.2),
          subst (λ (b : Bool). PaintsIf b (a.0) (d.0) (d.1)) (sym a.4.pending) d.2,
        ),
        record { items = x; taken = y },
        d.3,
      )

  -- where a command gave up
  pub may_finish : Plants script t → v ≡ script.version → cs ≡ script.commands → MayPerform (counter m n) (counter l k) (start v t) cs
      → MayFinish (counter m n) (counter l k) script
  may_finish p u e a =
      let d = paints_if_goes (a.0).pending (a.0) a.4 in
      let c = within_more (start v t) (a.0) m n l k (d.0) a.3 d.4 in
      let x = c.items in let y = c.taken in (
        d.0,
        (a.1, d.1, a.0, (t, p, commands_of (a.0) (a.1) u e a.2), d.2),
        record { items = x; taken = y },
        d.3,
      )

-- ---- what is written at the end

module _ (untouched : Type 0) (is_answer : List ℕ → Counts → Type 0) (m n l k : ℕ) where
  pub ends_written : (o q : Option (List ℕ)) (f f' : ℕ) (text : List ℕ) (counts : Counts) (s : Status) → is_answer text counts
      → n ≡ m + counts.built → k ≤ l + counts.looks → Writes (stream o q f f') text s
      → AnswersAs untouched is_answer (stream o q f f') (counter m n) (counter l k) s
  ends_written o q f f' text counts Done a x y w = (w.0, (text, counts, a, w.1, x, y))
  ends_written o q f f' text counts WriteFault a x y w = (w.0, (text, counts, a, w.1, omega (arith, x), y))
  ends_written o q f f' text counts NoMemory a x y w = absurd w
  ends_written o q f f' text counts Usage a x y w = absurd w
  ends_written o q f f' text counts NotJson a x y w = absurd w
  ends_written o q f f' text counts (Form p v) a x y w = absurd w
  ends_written o q f f' text counts ReadFault a x y w = absurd w
  ends_written o q f f' text counts TooLarge a x y w = absurd w
  ends_written o q f f' text counts BadWire a x y w = absurd w
  ends_written o q f f' text counts BadDump a x y w = absurd w

module _ (untouched : Type 0) (m n l k : ℕ) where
  -- without memory, where the commands could be done
  pub picture_unwritten : (script : Script) (o : Option (List ℕ)) (f : ℕ) → MayFinish (counter m n) (counter l k) script
      → AnswersAs untouched (IsScriptPicture script) (stream o o f f) (counter m n) (counter l k) NoMemory
  picture_unwritten script o f a =
      let c = a.2 in let x = c.items in let y = c.taken in
      inr (refl, (picture (a.0).tree, (a.0).counts, (a.0, a.1, refl, refl), gains_none o o [] (picture (a.0).tree) (stays o), omega (arith, x), omega (arith, y)))

  pub wire_unwritten : (script : Script) (o : Option (List ℕ)) (f : ℕ) → MayFinish (counter m n) (counter l k) script
      → AnswersAs untouched (IsScriptWire script) (stream o o f f) (counter m n) (counter l k) NoMemory
  wire_unwritten script o f a =
      let c = a.2 in let x = c.items in let y = c.taken in
      let text : List ℕ = spelled (record { size = (a.0).tree.canvas; list = (a.0).kept }) in
      inr (refl, (text, (a.0).counts, (a.0, a.1, refl, refl), gains_none o o [] text (stays o), omega (arith, x), omega (arith, y)))

  pub storm_unwritten : (seed boxes edits : ℕ) (script : Script) (o : Option (List ℕ)) (f : ℕ) → script ≡ generated_script seed boxes edits
      → MayFinish (counter m n) (counter l k) script
      → AnswersAs untouched (IsStormSummary seed boxes edits) (stream o o f f) (counter m n) (counter l k) NoMemory
  storm_unwritten seed boxes edits script o f e a =
      let c = a.2 in let x = c.items in let y = c.taken in
      let text : List ℕ = summary_lines (totals_of seed boxes edits (a.0)) in
      inr (
        refl,
        (
          text,
          (a.0).counts,
          (a.0, subst (λ (s : Script). Finishes s (a.0)) e a.1, refl, refl),
          gains_none o o [] text (stays o),
          omega (arith, x),
          omega (arith, y),
        ),
      )

-- what was done could be done
pub finished_may : (script : Script) (now : SessionState) (m n l k : ℕ) → Finished (counter m n) (counter l k) script now → MayFinish (counter m n) (counter l k) script
finished_may script now m n l k a =
    let c = a.2 in let x = c.items in let y = c.taken in
    (a.0, a.1, record { items = omega (arith, x); taken = y }, a.3.well_formed)

module _ (untouched : Type 0) (m n l k : ℕ) (o q : Option (List ℕ)) (f f' : ℕ) where
  pub picture_written : (script : Script) (now : SessionState) (bytes : List ℕ) (s : Status) → Finished (counter m n) (counter l k) script now
      → bytes ≡ picture now.engine.tree → Writes (stream o q f f') bytes s
      → AnswersAs untouched (IsScriptPicture script) (stream o q f f') (counter m n) (counter l k) s
  picture_written script now bytes s a e w =
      let c = a.2 in let x = c.items in let y = c.taken in
      ends_written untouched (IsScriptPicture script) m n l k o q f f' bytes (a.0).counts s
      (a.0, a.1, e ∙ ap picture (sym a.3.tree), refl) (omega (arith, x)) (omega (arith, y)) w

  pub wire_written : (script : Script) (now : SessionState) (bytes : List ℕ) (s : Status) → Finished (counter m n) (counter l k) script now
      → bytes ≡ spelled (record { size = now.engine.tree.canvas; list = unordered now.engine.kept.entries }) → Writes (stream o q f f') bytes s
      → AnswersAs untouched (IsScriptWire script) (stream o q f f') (counter m n) (counter l k) s
  wire_written script now bytes s a e w =
      let c = a.2 in let x = c.items in let y = c.taken in
      let told : bytes ≡ spelled (record { size = (a.0).tree.canvas; list = (a.0).kept }) =
      e ∙ ap (λ (d : Document). spelled (record { size = d.canvas; list = unordered now.engine.kept.entries })) (sym a.3.tree)
      ∙ ap (λ (kept : Entries Wrapper Made). spelled (record { size = (a.0).tree.canvas; list = kept })) (sym a.3.kept) in
      ends_written untouched (IsScriptWire script) m n l k o q f f' bytes (a.0).counts s (a.0, a.1, told, refl) (omega (arith, x)) (omega (arith, y)) w

  pub storm_written : (seed boxes edits : ℕ) (script : Script) (now : SessionState) (text : List ℕ) (s : Status) → script ≡ generated_script seed boxes edits
      → Finished (counter m n) (counter l k) script now
      → ((t : State) → Shows now t → text ≡ summary_lines (totals_of seed boxes edits t)) → Writes (stream o q f f') text s
      → AnswersAs untouched (IsStormSummary seed boxes edits) (stream o q f f') (counter m n) (counter l k) s
  storm_written seed boxes edits script now text s e a told w =
      let c = a.2 in let x = c.items in let y = c.taken in
      ends_written untouched (IsStormSummary seed boxes edits) m n l k o q f f' text (a.0).counts s
      (a.0, subst (λ (s : Script). Finishes s (a.0)) e a.1, told (a.0) a.3, refl) (omega (arith, x)) (omega (arith, y)) w
