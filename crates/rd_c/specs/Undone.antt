-- Edits that are taken back. All of it is this project's own choice.
use Rattle.std.specs.Prelude.{◌≡◌, ℕ, ◌-◌, ◌<◌, ◌≤◌, ◌==◌, nat_le, if◌then◌else◌, List, [], length, take, drop, Option, Some, None, option_and_then}
use Rattle.circular_buffer.specs.Buffer.{buffer, last_item}
use Rattle.rd_tree.specs.ByIds.{named_tree}
use Rattle.rd_tree.specs.Document.{Document}
use Rattle.rd_tree.specs.Proper.{IsProper}
use Rattle.rd_edits.specs.Edited.{IsEdited}
use Rattle.rd_edits.specs.Refusals.{refusal_of}
use Rattle.rd_edits.specs.declared.edit.Edit.{Edit}
use Rattle.rd_undo.specs.Figures.{max_steps}
use Rattle.rd_undo.specs.Inverse.{inverse}
use Rattle.rd_undo.specs.Undoing.{SameRetired}
use Rattle.rd_c.specs.Held.{Undos, IsChanged, IsDone, IsRefusedBy, with_newest}
use Rattle.rd_c.specs.Numbers.{number_of}
use Rattle.rd_c.specs.Turns.{InTurn, IsFirst}
use Rattle.rd_c.specs.declared.painter.Painter.{Painter}
use Rattle.rd_c.specs.declared.refusal.Refusal.TheVariants.{NoMemory, Value}

-- room for what undoes so many edits, and nothing to undo yet
abbrev pub room_for : ℕ → Option Undos
room_for n = if n == 0 then None else Some (buffer [] n)

-- what a call answers that makes this room
abbrev pub keep_answer : ℕ → ℕ
keep_answer n = if nat_le n max_steps then 0 else number_of Value

-- What undoes so many edits is kept from now on; what was kept is forgotten.
pub record IsKeeping (n : ℕ) (old new : Painter) : Type 0 where
  pub engine : new.engine ≡ old.engine
  pub undo : new.undo ≡ room_for n

-- what is left of the edits that undo the latest edit, and the others
abbrev pub newest_of : Option Undos → Option (List Edit)
newest_of o = option_and_then (λ u. last_item u.items) o

abbrev pub older_of : Option Undos → Option Undos
older_of None = None
older_of (Some u) = Some (buffer (take (length u.items - 1) u.items) u.capacity)

-- The edits that undo the latest edit were done, so many of them.
pub record IsTakenBack (n : ℕ) (old new : Painter) : Type 0 where
  pub edits : List Edit
  pub newest : newest_of old.undo ≡ Some edits
  pub count : n ≡ length edits
  pub done : InTurn IsChanged edits old.engine new.engine
  pub left : new.undo ≡ older_of old.undo

-- The first of them were done, so many of them, and the next is refused, by a fault with this number. Those that are left undo the
-- latest edit from there.
pub record IsStopped (n number : ℕ) (old new : Painter) : Type 0 where
  pub edits : List Edit
  pub newest : newest_of old.undo ≡ Some edits
  pub few : n < length edits
  pub done : InTurn IsChanged (take n edits) old.engine new.engine
  pub refused : IsFirst (λ e. IsRefusedBy number e new) (drop n edits)
  pub left : new.undo ≡ with_newest (drop n edits) (older_of old.undo)

-- What is kept of the latest edit is what undoes this one of this tree, and the tree is by ids the one after it, with no slot retired
-- since.
pub record Undoes (e : Edit) (before : Document) (p : Painter) : Type 0 where
  pub after : Document
  pub proper : IsProper before
  pub accepted : refusal_of before e ≡ None
  pub edited : IsEdited e before after
  pub newest : newest_of p.undo ≡ Some (inverse before e)
  pub named : named_tree p.engine.tree ≡ named_tree after
  pub retired : SameRetired before p.engine.tree

-- Then the new tree is by ids the one before that edit.
pub record IsBack (old new : Painter) : Type 0 where
  pub named : (e : Edit) (before : Document) → Undoes e before old → named_tree new.engine.tree ≡ named_tree before

-- And where this number is answered, memory was wanting.
pub record IsNeverRefused (number : ℕ) (old : Painter) : Type 0 where
  pub memory : (e : Edit) (before : Document) → Undoes e before old → number ≡ number_of NoMemory

-- The step retires no slot of the tree.
abbrev pub Sparing : {X : Type 0} → (X → Painter → Painter → Type 0) → X → Painter → Painter → Type 0
Sparing Step x old new = Step x old new × SameRetired old.engine.tree new.engine.tree

-- After some edits, at most as many as there is room for, as many undos give the first tree by ids.
abbrev pub UndosLaw : Type 0
UndosLaw =
    (es : List Edit) (ns : List ℕ) (u : Undos) (p p1 p2 : Painter) → p.undo ≡ Some u → length u.items ≤ u.capacity → length es ≤ u.capacity
    → length ns ≡ length es → InTurn (Sparing IsDone) es p p1 → InTurn (Sparing IsTakenBack) ns p1 p2
    → named_tree p2.engine.tree ≡ named_tree p.engine.tree
