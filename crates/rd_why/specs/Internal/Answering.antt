-- How a script that was read is answered.
use Rattle.std.specs.Prelude.{◌≡◌, ℕ, List}
use Rattle.std.specs.Io.KnownBytes.{Appends}
use Rattle.rd_io.specs.Causes.{GainsPart}
use Rattle.rd_tree.specs.Document.{Document}
use Rattle.rd_scene.specs.Scripts.{Script}
use Rattle.rd_run.specs.Endings.{Stream, HasFailed, IsFaultless}
use Rattle.rd_run.specs.declared.status.Status.{Status}
use Rattle.rd_run.specs.declared.status.Status.TheVariants.{Done, WriteFault, NoMemory}
use Rattle.rd_why.specs.declared.words.Question.{Question}
use Rattle.rd_why.specs.After.{IsAfter}
use Rattle.rd_why.specs.Json.{why_text}

-- all of a text was written, or a front of it where a fault was counted
abbrev pub Writes : Stream → List ℕ → Status → Type 0
Writes out text Done = IsFaultless out × Appends out.bytes out.bytes_now text
Writes out text WriteFault = HasFailed out × GainsPart out.bytes out.bytes_now text
Writes out text _ = ⊥

-- the answer to the question about a tree was written, or a front of it
abbrev pub AnswersOn : Type 0 → Document → Question → Stream → Status → Type 0
AnswersOn untouched t q out Done = IsFaultless out × Appends out.bytes out.bytes_now (why_text q t)
AnswersOn untouched t q out WriteFault = HasFailed out × GainsPart out.bytes out.bytes_now (why_text q t)
AnswersOn untouched t q out NoMemory = untouched
AnswersOn untouched t q out _ = ⊥

module _ (untouched : Type 0) (s : Script) (q : Question) (out : Stream) where
  -- a text answers the question about the tree after the commands of the script, and all of it was written, or a front
  abbrev pub AnswersAs : Status → Type 0
  AnswersAs Done = IsFaultless out × ((t : Document) × IsAfter s t × Appends out.bytes out.bytes_now (why_text q t))
  AnswersAs WriteFault = HasFailed out × ((t : Document) × IsAfter s t × GainsPart out.bytes out.bytes_now (why_text q t))
  AnswersAs NoMemory = untouched
  AnswersAs _ = ⊥
