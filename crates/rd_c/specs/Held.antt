-- What a call of C makes of the engine behind its handle. All of it is this project's own choice.
use Rattle.std.specs.Prelude.{◌≡◌, ◌⊎◌, ℕ, true, List, ◌∷◌, ◌++◌, [], Option, Some, None, is_some, IsSomeAnd}
use Rattle.circular_buffer.specs.Buffer.{Buffer, buffer, keep_last}
use Rattle.rd_tree.specs.Proper.{IsProper}
use Rattle.rd_edits.specs.Edited.{IsEdited, IsInsert}
use Rattle.rd_edits.specs.Refusals.{refusal_of, number_of}
use Rattle.rd_edits.specs.declared.fault.EditFault.{EditFault}
use Rattle.rd_edits.specs.declared.fault.EditFault.TheVariants.{NoMemory}
use Rattle.rd_edits.specs.declared.edit.Edit.{Edit}
use Rattle.rd_list.specs.Lists.{StandsFor}
use Rattle.rd_list.specs.EntryNames.{kept_leaves}
use Rattle.rd_stack.specs.Fresh.{fresh_list}
use Rattle.rd_undo.specs.Inverse.{inverse}
use Rattle.rd_engine.specs.Painted.{IsAreaPainted, IsJoinedBy, IsNoted, IsSettled, AreNumbered}
use Rattle.rd_engine.specs.State.{EngineState}
use Rattle.rd_c.specs.declared.painter.Painter.{Painter}
use Rattle.rd_c.specs.declared.values.RdNote.{RdNote}

-- Does a handle hold an engine of which this holds?
abbrev pub Holds : (Painter → Type 0) → Option Painter → Type 0
Holds P held = IsSomeAnd held P

-- Do a handle before and after a call hold engines that this relates?
abbrev pub OnHeld : (Painter → Painter → Type 0) → Option Painter → Option Painter → Type 0
OnHeld P None new = ⊥
OnHeld P (Some old) None = ⊥
OnHeld P (Some old) (Some new) = P old new

-- For each of the latest edits what is left of the edits that undo it, the newest last, and for how many there is room.
abbrev pub Undos : Type 0
Undos = Buffer (List Edit)

-- with what undoes one more edit, where that is kept; the oldest goes where there is no room for all
abbrev pub with_newest : List Edit → Option Undos → Option Undos
with_newest es None = None
with_newest es (Some u) = Some (buffer (keep_last u.capacity (u.items ++ es ∷ [])) u.capacity)

-- The edit, which no test refuses, was done of the engine: the tree is the edited one, a paint is pending, and all else is as it was.
pub record IsChanged (e : Edit) (old new : EngineState) : Type 0 where
  pub accepted : refusal_of old.tree e ≡ None
  pub edited : IsEdited e old.tree new.tree
  pub others : new ≡ record old { tree = new.tree; pending = true }
  pub before : IsProper old.tree
  pub after : IsProper new.tree

-- The edit was done, and what undoes it is kept, where that is kept of edits.
pub record IsDone (e : Edit) (old new : Painter) : Type 0 where
  pub changed : IsChanged e old.engine new.engine
  pub noted : new.undo ≡ with_newest (inverse old.engine.tree e) old.undo

-- Memory is wanting for an edit that no test refuses: one that makes a box, or one of which is kept what undoes it.
abbrev pub IsWanting : EditFault → Edit → Painter → Type 0
IsWanting f e p = (f ≡ NoMemory) × (refusal_of p.engine.tree e ≡ None) × (IsInsert e ⊎ (is_some p.undo ≡ true))

-- The edit is refused by a fault with this number: that of the first of its tests that holds, or want of memory.
pub record IsRefusedBy (n : ℕ) (e : Edit) (p : Painter) : Type 0 where
  pub fault : EditFault
  pub number : number_of fault ≡ n
  pub refused : (refusal_of p.engine.tree e ≡ Some fault) ⊎ IsWanting fault e p

-- A paint was done, and this is what it told: all that a paint of the engine owes but its counts.
pub record IsPainted (note : RdNote) (old new : Painter) : Type 0 where
  pub stands : StandsFor (kept_leaves new.engine.kept.entries) (fresh_list old.engine.tree)
  pub joined : IsJoinedBy old.engine new.engine
  pub settled : IsSettled old.engine new.engine
  pub noted : IsNoted old.engine (record { number = note.number; built = note.built; kept = note.kept; area = note.area })
  pub numbers : AreNumbered old.engine new.engine
  pub area : IsAreaPainted old.engine new.engine
  pub undo : new.undo ≡ old.undo
