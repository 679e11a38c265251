-- An edit of the engine is one of the machine.
use Rattle.std.proofs.Common.{◌≡◌, ◌+◌, ◌≤◌, true, false, List, ◌∷◌, refl, sym, ◌∙◌, ap, subst, arith, ◌++◌, Option, Some, None, []}
use Rattle.circular_buffer.specs.Buffer.{Buffer, buffer, keep_last}
use Rattle.rd_geom.specs.Canvas.{IsCanvas}
use Rattle.rd_tree.specs.Document.{Document}
use Rattle.rd_edits.specs.declared.edit.Edit.{Edit}
use Rattle.rd_edits.specs.declared.fault.EditFault.{EditFault}
use Rattle.rd_edits.specs.declared.fault.EditFault.TheVariants.{UnknownId, UnknownParent, IsRoot, IntoItself, NotAChild, DuplicateId, TooDeep, TooMany, OutOfRange, NoMemory}
use Rattle.rd_edits.specs.Edited.{IsEdited}
use Rattle.rd_edits.specs.Refusals.{refusal_of, number_of, IsRefused}
use Rattle.rd_engine.specs.State.{EngineState}
use Rattle.rd_report.specs.Answers.{ok_line, refused_line}
use Rattle.rd_scene.proofs.Changing.{edit_well, edit_canvas, edit_goes}
use Rattle.rd_run.specs.Endings.{Counter}
use Rattle.rd_scene.specs.declared.script.Command.TheVariants.{Change}
use Rattle.rd_undo.specs.Inverse.{inverse, boxes_of}
use Rattle.rd_run.specs.Figures.{max_undos}
use Rattle.rd_run.specs.Machine.{State, Step, TakesOne, noted, noting_looks, one_done, one_refused}
use Rattle.rd_run.specs.Internal.Lasts.{IsWellFormed, IsLast}
use Rattle.rd_run.specs.Internal.Session.{SessionState, Shows, undos_of, Advances, MayGoOn}

pub edited_sound : (e : Edit) (old new : Document) → IsEdited e old new → IsWellFormed old → IsWellFormed new
edited_sound e old new h s = record {
  boxes = edit_well e old new h s.boxes;
  canvas = subst IsCanvas (sym (edit_canvas e old new h)) s.canvas;
}

-- an edit that no test refuses can be answered
pub done_may : (e : Edit) (s : State) (made looks : Counter) → IsWellFormed s.tree → refusal_of s.tree e ≡ None → made.now ≤ made.was
    → looks.now ≤ looks.was + noting_looks s.tree e s.undos → MayGoOn (Step (Change e)) made looks s
done_may e s made looks h r m l =
    let t = edit_goes e s.tree r in (
      ok_line,
      record s { tree = t.0; pending = true; undos = noted s.tree e s.undos; counts = one_done e s },
      rw r (refl, (t.0, t.1, refl)),
      edited_sound e s.tree t.0 t.1 h,
      record { items = omega (arith, m); taken = omega (arith, l) },
    )

-- so can any edit
pub edit_may : (e : Edit) (s : State) (made looks : Counter) → IsWellFormed s.tree → made.now ≤ made.was → looks.now ≤ looks.was
    → MayGoOn (Step (Change e)) made looks s
edit_may e s made looks h m l = by (refusal_of s.tree e) refl
  where
    by : (o : Option EditFault) → refusal_of s.tree e ≡ o → MayGoOn (Step (Change e)) made looks s
    by (Some f) r = (
      refused_line (number_of f),
      record s { counts = one_refused s.counts },
      rw r (refl, refl),
      h,
      record { items = omega (arith, m); taken = omega (arith, l) },
    )
    by None r = done_may e s made looks h r m (omega (arith, l))

-- an engine of which only the tree changes keeps its list
still_last : (last : Option Document) (e : EngineState) (t : Document) → IsLast last e → IsLast last (record e { tree = t; pending = true })
still_last None e t h = h
still_last (Some d) e t h = h

-- ---- what is kept to undo edits

module _ (s : State) (x : SessionState) (e : Edit) (sh : Shows x s) where
  pub nothing_noted : x.keeps ≡ false → noted s.tree e s.undos ≡ undos_of x.keeps x.undo
  nothing_noted k = ap (noted s.tree e) (sh.undos ∙ ap (λ b. undos_of b x.undo) k) ∙ sym (ap (λ b. undos_of b x.undo) k)

  pub one_noted : x.keeps ≡ true → (u : Buffer (List Edit)) → u ≡ buffer (keep_last x.undo.capacity (x.undo.items ++ inverse x.engine.tree e ∷ [])) x.undo.capacity
      → noted s.tree e s.undos ≡ undos_of x.keeps u
  one_noted k u is =
      ap (noted s.tree e) (sh.undos ∙ ap (λ b. undos_of b x.undo) k)
      ∙ (ap (λ (t : Document). Some (keep_last max_undos (x.undo.items ++ inverse t e ∷ []))) sh.tree
      ∙ (ap (λ n. Some (keep_last n (x.undo.items ++ inverse x.engine.tree e ∷ []))) (sym sh.room)
      ∙ (ap (undos_of true) (sym is) ∙ ap (λ b. undos_of b u) (sym k))))

  pub noting_is : x.keeps ≡ true → noting_looks s.tree e s.undos ≡ boxes_of x.engine.tree e
  noting_is k = ap (noting_looks s.tree e) (sh.undos ∙ ap (λ b. undos_of b x.undo) k) ∙ ap (λ (t : Document). boxes_of t e) sh.tree

  pub noted_looks : x.keeps ≡ true → (looks : Counter) (t : Document) → t ≡ x.engine.tree → looks.now ≤ looks.was + boxes_of t e → looks.now ≤ looks.was + noting_looks s.tree e s.undos
  noted_looks k looks t is l =
      let b : boxes_of t e ≡ boxes_of x.engine.tree e = ap (λ (d : Document). boxes_of d e) is in
      let n : noting_looks s.tree e s.undos ≡ boxes_of x.engine.tree e = noting_is k in
      omega (arith, l, b, n)

module _ (s : State) (x : SessionState) (e : Edit) (sh : Shows x s) (made looks : Counter) (m : made.now ≡ made.was) where
  -- an edit that is done
  pub edit_done : (t : Document) (u : Buffer (List Edit)) → looks.now ≤ looks.was + noting_looks s.tree e s.undos → noted s.tree e s.undos ≡ undos_of x.keeps u
      → u.capacity ≡ max_undos → refusal_of x.engine.tree e ≡ None → IsEdited e x.engine.tree t
      → Advances (Step (Change e)) made looks s ok_line (record x { engine = record x.engine { tree = t; pending = true }; accepted = x.accepted + 1; undo = u })
  edit_done t u l n c r d =
      let none : refusal_of s.tree e ≡ None = ap (λ z. refusal_of z e) sh.tree ∙ r in
      let edited : IsEdited e s.tree t = subst (λ (z : Document). IsEdited e z t) (sym sh.tree) d in (
        record s { tree = t; pending = true; undos = noted s.tree e s.undos; counts = one_done e s },
        rw none (refl, (t, edited, refl)),
        record {
          tree = refl;
          pending = refl;
          paints = sh.paints;
          kept = sh.kept;
          last = still_last s.last x.engine t sh.last;
          accepted = ap (λ n. n + 1) sh.accepted;
          refused = sh.refused;
          built = sh.built;
          area = sh.area;
          undos = n;
          room = c;
          well_formed = edited_sound e s.tree t edited sh.well_formed;
        },
        record { items = omega (arith, m); taken = omega (arith, l) },
      )

  -- an edit that is refused changes nothing but a count
  pub edit_refused : looks.now ≤ looks.was → (f : EditFault) → refusal_of x.engine.tree e ≡ Some f
      → Advances (Step (Change e)) made looks s (refused_line (number_of f)) (record x { refused = x.refused + 1 })
  edit_refused l f r =
      let some : refusal_of s.tree e ≡ Some f = ap (λ z. refusal_of z e) sh.tree ∙ r in (
        record s { counts = one_refused s.counts },
        rw some (refl, refl),
        record {
          tree = sh.tree;
          pending = sh.pending;
          paints = sh.paints;
          kept = sh.kept;
          last = sh.last;
          accepted = sh.accepted;
          refused = ap (λ n. n + 1) sh.refused;
          built = sh.built;
          area = sh.area;
          undos = sh.undos;
          room = sh.room;
          well_formed = sh.well_formed;
        },
        record { items = omega (arith, m); taken = omega (arith, l) },
      )

-- ---- the edits that undo another

module _ (s : State) (x : SessionState) (e : Edit) (sh : Shows x s) where
  pub taken_done : (t : Document) → refusal_of x.engine.tree e ≡ None → IsEdited e x.engine.tree t
      → (next : State) × TakesOne (refusal_of s.tree e) e 1 s next × Shows (record x { engine = record x.engine { tree = t; pending = true } }) next
  taken_done t r d =
      let none : refusal_of s.tree e ≡ None = ap (λ z. refusal_of z e) sh.tree ∙ r in
      let edited : IsEdited e s.tree t = subst (λ (z : Document). IsEdited e z t) (sym sh.tree) d in (
        record s { tree = t; pending = true },
        rw none (refl, (t, edited, refl)),
        record {
          tree = refl;
          pending = refl;
          paints = sh.paints;
          kept = sh.kept;
          last = still_last s.last x.engine t sh.last;
          accepted = sh.accepted;
          refused = sh.refused;
          built = sh.built;
          area = sh.area;
          undos = sh.undos;
          room = sh.room;
          well_formed = edited_sound e s.tree t edited sh.well_formed;
        },
      )

  pub taken_refused : (f : EditFault) → refusal_of x.engine.tree e ≡ Some f → (next : State) × TakesOne (refusal_of s.tree e) e 0 s next × Shows x next
  taken_refused f r =
      let some : refusal_of s.tree e ≡ Some f = ap (λ z. refusal_of z e) sh.tree ∙ r in
      (s, rw some (refl, refl), sh)

-- an edit that is refused, and not for want of memory, is refused by a test
pub refused_by : (t : Document) (e : Edit) (f : EditFault) → IsRefused t e f → (f ≡ NoMemory → ⊥) → refusal_of t e ≡ Some f
refused_by t e UnknownId h n = h
refused_by t e UnknownParent h n = h
refused_by t e IsRoot h n = h
refused_by t e IntoItself h n = h
refused_by t e NotAChild h n = h
refused_by t e DuplicateId h n = h
refused_by t e TooDeep h n = h
refused_by t e TooMany h n = h
refused_by t e OutOfRange h n = h
refused_by t e NoMemory h n = absurd (n refl)
