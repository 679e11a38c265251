-- What was done and written of the commands of a script.
use Rattle.std.specs.Prelude.{◌≡◌, ◌⊎◌, ℕ, ◌+◌, ◌≤◌, false, List, ◌++◌}
use Rattle.std.specs.Io.KnownBytes.{Appends}
use Rattle.rd_io.specs.Causes.{GainsPart, Takes}
use Rattle.rd_tree.specs.Document.{Document}
use Rattle.rd_scene.specs.Reading.{IsScriptText, IsOffForm, HasNoReading}
use Rattle.rd_scene.specs.Planting.{Plants}
use Rattle.rd_scene.specs.Scripts.{Script}
use Rattle.rd_scene.specs.declared.script.Command.{Command}
use Rattle.rd_run.specs.Machine.{State, Counts, no_counts, start, Run, Finishes}
use Rattle.rd_run.specs.Endings.{Stream, Counter, HasFailed, IsFaultless, HasRead, IsNoWireText}
use Rattle.rd_run.specs.Checks.{dump_before, script_from, IsLastState, IsVerdictOn, IsNoDumpText, leaf_count, checked_looks}
use Rattle.rd_run.specs.Internal.Session.{SessionState, AreCounted, AreWithin, Shows}
use Rattle.rd_run.specs.Internal.Lasts.{IsWellFormed}
use Rattle.rd_run.specs.Figures.{most_bytes}
use Rattle.rd_run.specs.declared.status.Status.{Status}
use Rattle.rd_run.specs.declared.status.Status.TheVariants.{Done, NotJson, Form, ReadFault, WriteFault, NoMemory, TooLarge, BadWire, BadDump}

-- a state in which nothing was counted
abbrev start_of : State → State
start_of s = record s { counts = no_counts }

module _ (made looks : Counter) where
  -- the whole answer to these commands, from a state on
  abbrev pub AnswersAll : State → List Command → Stream → Type 0
  AnswersAll s cs out =
      (t : State) × (text : List ℕ) × Run s cs text t × AreCounted s t made looks × Appends out.bytes out.bytes_now text

  -- a front of an answer to these commands
  abbrev pub AnswersPart : State → List Command → Stream → Type 0
  AnswersPart s cs out =
      (t : State) × (text : List ℕ) × Run s cs text t × AreWithin s t made looks × GainsPart out.bytes out.bytes_now text

  -- these commands are done
  abbrev pub Performs : State → List Command → SessionState → Type 0
  Performs s cs now = (t : State) × (text : List ℕ) × Run s cs text t × AreCounted s t made looks × Shows now t

  -- these commands could be done, with counts that are not passed
  abbrev pub MayPerform : State → List Command → Type 0
  MayPerform s cs = (t : State) × (text : List ℕ) × Run s cs text t × AreWithin s t made looks × IsWellFormed t.tree

  -- the commands of a script are done, and no paint is pending
  abbrev pub Finished : Script → SessionState → Type 0
  Finished s now = (t : State) × Finishes s t × AreCounted (start_of t) t made looks × Shows now t × (now.engine.pending ≡ false)

  -- they could be done, with counts that are not passed
  abbrev pub MayFinish : Script → Type 0
  MayFinish s = (t : State) × Finishes s t × AreWithin (start_of t) t made looks × IsWellFormed t.tree

  -- the same, and these bytes are so of what is there then
  abbrev pub AreOfEnd : (SessionState → List ℕ → Type 0) → Script → List ℕ → Type 0
  AreOfEnd Are s bytes = (now : SessionState) × Finished s now × Are now bytes

-- a session begins with the tree of a script's boxes
abbrev pub Begins : Script → SessionState → Type 0
Begins s now = (t : Document) × Plants s t × Shows now (start s.version t)

-- Of a gathered text and what was put after it, a front went out and the rest is gathered now.
pub record Passes (out : Stream) (before text now : List ℕ) : Type 0 where
  pub sent : List ℕ
  pub whole : before ++ text ≡ sent ++ now
  pub gained : Appends out.bytes out.bytes_now sent

-- how the input of words of a form was answered: by a text that is an answer to it
module _ (untouched : Type 0) (is_answer : List ℕ → Counts → Type 0) (out : Stream) (made looks : Counter) where
  abbrev pub AnsweredAll : Type 0
  AnsweredAll =
      (text : List ℕ) × (counts : Counts) × is_answer text counts × Appends out.bytes out.bytes_now text
      × (made.now ≡ made.was + counts.built) × (looks.now ≤ looks.was + counts.looks)

  abbrev pub AnsweredPart : Type 0
  AnsweredPart =
      (text : List ℕ) × (counts : Counts) × is_answer text counts × GainsPart out.bytes out.bytes_now text
      × (made.now ≤ made.was + counts.built) × (looks.now ≤ looks.was + counts.looks)

  abbrev pub AnswersAs : Status → Type 0
  AnswersAs Done = IsFaultless out × AnsweredAll
  AnswersAs WriteFault = HasFailed out × AnsweredPart
  AnswersAs NoMemory = untouched ⊎ (IsFaultless out × AnsweredPart)
  AnswersAs _ = ⊥

-- why no wire was read
abbrev pub RefusesWire : Stream → Status → Type 0
RefusesWire source ReadFault = HasFailed source
RefusesWire source TooLarge = IsFaultless source × Takes source.bytes source.bytes_now (most_bytes + 1)
RefusesWire source BadWire = (bytes : List ℕ) × HasRead source bytes × IsNoWireText bytes
RefusesWire source NoMemory = IsFaultless source
RefusesWire source _ = ⊥

-- why no bytes were read
abbrev pub RefusesBytes : Stream → Status → Type 0
RefusesBytes source ReadFault = HasFailed source
RefusesBytes source TooLarge = IsFaultless source × Takes source.bytes source.bytes_now (most_bytes + 1)
RefusesBytes source NoMemory = IsFaultless source
RefusesBytes source _ = ⊥

-- why bytes are no script
abbrev pub RefusesText : List ℕ → Status → Type 0
RefusesText bytes NotJson = HasNoReading bytes
RefusesText bytes (Form p w) = IsOffForm bytes p w
RefusesText bytes NoMemory = Unit {0}
RefusesText bytes _ = ⊥

-- why bytes are no dump
abbrev pub RefusesDump : List ℕ → Status → Type 0
RefusesDump dump BadDump = IsNoDumpText dump
RefusesDump dump NoMemory = Unit {0}
RefusesDump dump _ = ⊥

-- how a dump was checked beside a tree, with at most so many looks
module _ (dump : List ℕ) (tree : Document) (most : ℕ) (out : Stream) (made looks : Counter) where
  abbrev pub ChecksAs : Status → Type 0
  ChecksAs Done =
      IsFaultless out × ((text : List ℕ) × IsVerdictOn dump tree text × Appends out.bytes out.bytes_now text
      × (made.now ≡ made.was + leaf_count tree) × (looks.now ≤ looks.was + most))
  ChecksAs WriteFault =
      HasFailed out × ((text : List ℕ) × IsVerdictOn dump tree text × GainsPart out.bytes out.bytes_now text
      × (made.now ≤ made.was + leaf_count tree) × (looks.now ≤ looks.was + most))
  ChecksAs NoMemory =
      IsFaultless out × (out.bytes_now ≡ out.bytes)
      × (made.now ≤ made.was + leaf_count tree) × (looks.now ≤ looks.was + most)
  ChecksAs _ = ⊥

-- the same, or there was no memory for that
abbrev pub ChecksScript : Type 0 → List ℕ → Script → Stream → Counter → Counter → Status → Type 0
ChecksScript untouched dump script out made looks s =
    (untouched × (s ≡ NoMemory))
    ⊎ ((last : State) × IsLastState script last × ChecksAs dump last.tree (checked_looks last) out made looks s)

-- the same of bytes, or these are no dump
abbrev pub ChecksOf : Type 0 → List ℕ → Script → Stream → Counter → Counter → Status → Type 0
ChecksOf untouched dump script out made looks s =
    (untouched × RefusesDump dump s) ⊎ ChecksScript untouched dump script out made looks s

-- the same of bytes with a script behind the dump, or these are no script
abbrev pub ChecksText : Type 0 → List ℕ → Stream → Counter → Counter → Status → Type 0
ChecksText untouched bytes out made looks s =
    (untouched × RefusesText (script_from bytes) s)
    ⊎ ((script : Script) × IsScriptText (script_from bytes) script
    × ChecksOf untouched (dump_before bytes) script out made looks s)

-- all of a text was written, or a front of it before a fault
abbrev pub Writes : Stream → List ℕ → Status → Type 0
Writes out text Done = IsFaultless out × Appends out.bytes out.bytes_now text
Writes out text WriteFault = HasFailed out × GainsPart out.bytes out.bytes_now text
Writes out text _ = ⊥
