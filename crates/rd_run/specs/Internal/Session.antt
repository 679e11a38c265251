-- Which state of the machine an engine is in, and how it goes on.
use Rattle.std.specs.Prelude.{◌≡◌, ◌⊎◌, ℕ, ◌+◌, ◌*◌, ◌^◌, ◌≤◌, List, ◌++◌, Option, Some, None, Bool, if◌then◌else◌, []}
use Rattle.circular_buffer.specs.Buffer.{Buffer}
use Rattle.rd_list.specs.Unordered.{unordered}
use Rattle.rd_edits.specs.declared.edit.Edit.{Edit}
use Rattle.rd_engine.specs.State.{EngineState}
use Rattle.rd_engine.specs.Painted.{IsAreaPainted}
use Rattle.rd_report.specs.Answers.{ok_line, refused_line, paint_line}
use Rattle.rd_scene.specs.declared.script.Command.{Command}
use Rattle.rd_scene.specs.declared.script.Command.TheVariants.{Change, Paint, Hit, Pixel, Dump, Shot, Undo}
use Rattle.rd_engine.specs.declared.note.PaintNote.{PaintNote}
use Rattle.rd_run.specs.Machine.{State, Undos, hit_answer, pixel_answer, dump_answer, shot_answer}
use Rattle.rd_run.specs.Endings.{Counter}
use Rattle.rd_run.specs.Figures.{max_undos}
use Rattle.rd_run.specs.Internal.Lasts.{IsWellFormed, IsLast}

-- what a contract sees of a session: its engine, the edits that were done and refused, the sums of the items that its
-- paints made and of the pixels of their areas, whether it keeps what undoes edits, and what it keeps
pub record SessionState : Type 0 where
  pub engine : EngineState
  pub accepted : ℕ
  pub refused : ℕ
  pub built : ℕ
  pub area : ℕ
  pub keeps : Bool
  pub undo : Buffer (List Edit)

-- what undoes edits, where it is kept
abbrev pub undos_of : Bool → Buffer (List Edit) → Option Undos
undos_of keeps u = if keeps then Some u.items else None

-- The machine is in the state s.
pub record Shows (x : SessionState) (s : State) : Type 0 where
  pub tree : s.tree ≡ x.engine.tree
  pub pending : s.pending ≡ x.engine.pending
  pub paints : s.paints ≡ x.engine.paints
  pub kept : s.kept ≡ unordered x.engine.kept.entries
  pub last : IsLast s.last x.engine
  pub accepted : s.counts.accepted ≡ x.accepted
  pub refused : s.counts.refused ≡ x.refused
  pub built : s.counts.built ≡ x.built
  pub area : s.counts.area ≡ x.area
  pub undos : s.undos ≡ undos_of x.keeps x.undo
  pub room : x.undo.capacity ≡ max_undos
  pub well_formed : IsWellFormed s.tree

-- An engine painted once: its canvas in the area of that paint, which is counted.
pub record PaintsOnce (old new : EngineState) : Type 0 where
  pub area : IsAreaPainted old new
  pub number : new.paints ≡ old.paints + 1

-- An engine did not paint.
pub record PaintsNot (old new : EngineState) : Type 0 where
  pub canvas : new.canvas ≡ old.canvas
  pub paints : new.paints ≡ old.paints

-- An engine painted at most once.
abbrev pub Watched : EngineState → EngineState → Type 0
Watched old new = PaintsOnce old new ⊎ PaintsNot old new

-- No count is above what n commands may make of it.
pub record IsFew (x : SessionState) (n : ℕ) : Type 0 where
  pub paints : x.engine.paints ≤ n
  pub accepted : x.accepted ≤ n
  pub refused : x.refused ≤ n
  pub built : x.built ≤ n * 2 ^ 34
  pub area : x.area ≤ n * 2 ^ 24

-- From one state to another as many items were made as the machine counts, and no more looks taken.
pub record AreCounted (s next : State) (made looks : Counter) : Type 0 where
  pub items : made.now + s.counts.built ≡ made.was + next.counts.built
  pub taken : looks.now + s.counts.looks ≤ looks.was + next.counts.looks

-- From one state to another no more items were made, and no more looks taken, than the machine counts.
pub record AreWithin (s next : State) (made looks : Counter) : Type 0 where
  pub items : made.now + s.counts.built ≤ made.was + next.counts.built
  pub taken : looks.now + s.counts.looks ≤ looks.was + next.counts.looks

module _ (step : State → List ℕ → State → Type 0) (made looks : Counter) where
  -- From s, the machine may go on by this text to what is shown now.
  abbrev pub Advances : State → List ℕ → SessionState → Type 0
  Advances s text now =
      (next : State) × step s text next × Shows now next × AreCounted s next made looks

  -- From s, the machine may go on by some text to what is shown now.
  abbrev pub Does : State → SessionState → Type 0
  Does s now = (text : List ℕ) × Advances s text now

  -- From s, the machine may go on to what is shown now with a text that the gathered one ends with.
  abbrev pub Tells : State → List ℕ → List ℕ → SessionState → Type 0
  Tells s before after now = (text : List ℕ) × (after ≡ before ++ text) × Advances s text now

  -- From s, the machine may go on, with counts that are not passed.
  abbrev pub MayGoOn : State → Type 0
  MayGoOn s = (text : List ℕ) × (next : State) × step s text next × IsWellFormed next.tree × AreWithin s next made looks

-- the line of a paint, where there was one
abbrev pub line_if : Option PaintNote → List ℕ
line_if None = []
line_if (Some note) = paint_line note.number note.built note.kept note.area

-- the line of an edit that was done, or of one that the test of a number refuses
abbrev pub edit_line : Option ℕ → List ℕ
edit_line None = ok_line
edit_line (Some n) = refused_line n

-- the answer to a question
abbrev pub reply : Command → State → List ℕ
reply (Change e) s = []
reply Paint s = []
reply (Hit x y) s = hit_answer x y s
reply (Pixel x y) s = pixel_answer x y s
reply Dump s = dump_answer s
reply Shot s = shot_answer s
reply Undo s = []
