-- The edits that numbers spell. Assumes nothing.
use Rattle.std.proofs.Common.{◌≡◌, ℕ, List, arith}
use Rattle.std.specs.Prelude.{Some, Result, Ok, Err, IfOk}
use Rattle.rd_edits.specs.declared.edit.Edit.{Edit}
use Rattle.rd_edits.specs.declared.edit.Edit.TheVariants.{Remove, Move, SetRect, Shift, Scroll}
use Rattle.rd_c.specs.Asked.{IsInsertion, IsStyling, or_none}
use Rattle.rd_c.specs.Batched.{text_of, Spells}
use Rattle.rd_c.specs.Spelled.{rectangle_of}
use Rattle.rd_c.specs.declared.batches.RdEdit.{RdEdit}
use Rattle.rd_c.specs.declared.refusal.Refusal.{Refusal}

module _ (texts id parent before : List ℕ) (e : RdEdit) (named : text_of texts e.id ≡ Some id) (below : text_of texts e.parent ≡ Some parent) (place : text_of texts e.before ≡ Some before) where
  -- what an edit of each kind is
  pub spells_insertion : (r : Result Edit Refusal) → e.kind ≡ 0 → IfOk r (IsInsertion id parent before e.place e.look) → IfOk r (Spells texts e)
  spells_insertion (Ok d) k is = record { id = id; parent = parent; before = before; named = named; below = below; place = place; kind = omega arith; inserts = λ _. is; removes = λ z. absurd (omega arith); moves = λ z. absurd (omega arith); styles = λ z. absurd (omega arith); places = λ z. absurd (omega arith); shifts = λ z. absurd (omega arith); scrolls = λ z. absurd (omega arith) }
  spells_insertion (Err x) k is = is

  pub spells_removal : (r : Result Edit Refusal) → e.kind ≡ 1 → IfOk r (λ d. d ≡ Remove id) → IfOk r (Spells texts e)
  spells_removal (Ok d) k is = record { id = id; parent = parent; before = before; named = named; below = below; place = place; kind = omega arith; inserts = λ z. absurd (omega arith); removes = λ _. is; moves = λ z. absurd (omega arith); styles = λ z. absurd (omega arith); places = λ z. absurd (omega arith); shifts = λ z. absurd (omega arith); scrolls = λ z. absurd (omega arith) }
  spells_removal (Err x) k is = is

  pub spells_moving : (r : Result Edit Refusal) → e.kind ≡ 2 → IfOk r (λ d. d ≡ Move id parent (or_none before)) → IfOk r (Spells texts e)
  spells_moving (Ok d) k is = record { id = id; parent = parent; before = before; named = named; below = below; place = place; kind = omega arith; inserts = λ z. absurd (omega arith); removes = λ z. absurd (omega arith); moves = λ _. is; styles = λ z. absurd (omega arith); places = λ z. absurd (omega arith); shifts = λ z. absurd (omega arith); scrolls = λ z. absurd (omega arith) }
  spells_moving (Err x) k is = is

  pub spells_styling : (r : Result Edit Refusal) → e.kind ≡ 3 → IfOk r (IsStyling id e.look e.names) → IfOk r (Spells texts e)
  spells_styling (Ok d) k is = record { id = id; parent = parent; before = before; named = named; below = below; place = place; kind = omega arith; inserts = λ z. absurd (omega arith); removes = λ z. absurd (omega arith); moves = λ z. absurd (omega arith); styles = λ _. is; places = λ z. absurd (omega arith); shifts = λ z. absurd (omega arith); scrolls = λ z. absurd (omega arith) }
  spells_styling (Err x) k is = is

  pub spells_placing : (r : Result Edit Refusal) → e.kind ≡ 4 → IfOk r (λ d. d ≡ SetRect id (rectangle_of e.place)) → IfOk r (Spells texts e)
  spells_placing (Ok d) k is = record { id = id; parent = parent; before = before; named = named; below = below; place = place; kind = omega arith; inserts = λ z. absurd (omega arith); removes = λ z. absurd (omega arith); moves = λ z. absurd (omega arith); styles = λ z. absurd (omega arith); places = λ _. is; shifts = λ z. absurd (omega arith); scrolls = λ z. absurd (omega arith) }
  spells_placing (Err x) k is = is

  pub spells_shifting : (r : Result Edit Refusal) → e.kind ≡ 5 → IfOk r (λ d. d ≡ Shift id e.dx e.dy) → IfOk r (Spells texts e)
  spells_shifting (Ok d) k is = record { id = id; parent = parent; before = before; named = named; below = below; place = place; kind = omega arith; inserts = λ z. absurd (omega arith); removes = λ z. absurd (omega arith); moves = λ z. absurd (omega arith); styles = λ z. absurd (omega arith); places = λ z. absurd (omega arith); shifts = λ _. is; scrolls = λ z. absurd (omega arith) }
  spells_shifting (Err x) k is = is

  pub spells_scrolling : (r : Result Edit Refusal) → e.kind ≡ 6 → IfOk r (λ d. d ≡ Scroll id e.dx e.dy) → IfOk r (Spells texts e)
  spells_scrolling (Ok d) k is = record { id = id; parent = parent; before = before; named = named; below = below; place = place; kind = omega arith; inserts = λ z. absurd (omega arith); removes = λ z. absurd (omega arith); moves = λ z. absurd (omega arith); styles = λ z. absurd (omega arith); places = λ z. absurd (omega arith); shifts = λ z. absurd (omega arith); scrolls = λ _. is }
  spells_scrolling (Err x) k is = is
