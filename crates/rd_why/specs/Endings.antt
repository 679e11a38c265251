-- How a run may end, why, and what it has then written. All of it is this project's own choice; statuses, lines and streams are
-- those of `rd_run`.
use Rattle.std.specs.Prelude.{◌≡◌, ◌⊎◌, ℕ, ◌≤◌, List, codes, length, Option, Some, None}
use Rattle.std.specs.Io.KnownBytes.{Appends}
use Rattle.rd_io.specs.Causes.{GainsPart}
use Rattle.rd_tree.specs.Document.{Document}
use Rattle.rd_scene.specs.Scripts.{Script}
use Rattle.rd_scene.specs.Reading.{IsScriptText}
use Rattle.rd_run.specs.Figures.{most_bytes}
use Rattle.rd_run.specs.Endings.{Stream, HasFailed, IsFaultless, HasRead, RefusesInput, line_of, number}
use Rattle.rd_run.specs.declared.status.Status.{Status}
use Rattle.rd_run.specs.declared.status.Status.TheVariants.{Done, Usage, NotJson, Form, ReadFault, WriteFault, NoMemory, TooLarge}
use Rattle.rd_why.specs.declared.words.Question.{Question}
use Rattle.rd_why.specs.After.{IsAfter}
use Rattle.rd_why.specs.Json.{why_text}

-- the line on standard error
abbrev pub why_line : Status → List ℕ
why_line Usage = codes "usage: rd_why X Y [--json]\n"
why_line s = line_of s

-- the bytes are a script, and the text answers the question about the tree after its commands
abbrev pub IsWhy : Question → List ℕ → List ℕ → Type 0
IsWhy q bytes text = (s : Script) × (t : Document) × IsScriptText bytes s × IsAfter s t × (text ≡ why_text q t)

module _ (untouched : Type 0) (source out : Stream) where
  -- How a run of a question may end: the status, its cause, and what was written. 'Untouched' says that the sink is the one
  -- of before, its count too.
  abbrev pub EndsAs : Question → Status → Type 0
  EndsAs q Done =
      IsFaultless out × ((bytes text : List ℕ) × HasRead source bytes × IsWhy q bytes text × Appends out.bytes out.bytes_now text)
  EndsAs q WriteFault =
      HasFailed out × ((bytes text : List ℕ) × HasRead source bytes × IsWhy q bytes text × GainsPart out.bytes out.bytes_now text)
  EndsAs q NotJson = untouched × RefusesInput source NotJson
  EndsAs q (Form p w) = untouched × RefusesInput source (Form p w)
  EndsAs q ReadFault = untouched × RefusesInput source ReadFault
  EndsAs q NoMemory = untouched × RefusesInput source NoMemory
  EndsAs q TooLarge = untouched × RefusesInput source TooLarge
  EndsAs q _ = ⊥

-- How a run may end: words of no form end it before anything is read. 'Unread' says that the source is the one of before.
abbrev pub Ends : (unread untouched : Type 0) (source out : Stream) → Option Question → Status → Type 0
Ends unread untouched source out None Usage = unread × untouched
Ends unread untouched source out None _ = ⊥
Ends unread untouched source out (Some q) s = EndsAs untouched source out q s

-- A source that has a script within the limit is answered, unless a fault was counted or there was no memory.
abbrev pub Completes : Option Question → Stream → Stream → Status → Type 0
Completes question source out s =
    (q : Question) (bytes : List ℕ) (script : Script) → question ≡ Some q → source.bytes ≡ Some bytes
    → length bytes ≤ most_bytes → IsScriptText bytes script → ¬ HasFailed source → ¬ HasFailed out
    → (s ≡ Done) ⊎ (s ≡ NoMemory)

-- The line of the status was written, or a front of it where a fault was counted.
abbrev pub Tells : Stream → Status → Type 0
Tells err s =
    Appends err.bytes err.bytes_now (why_line s)
    ⊎ (HasFailed err × GainsPart err.bytes err.bytes_now (why_line s))

-- What a run says, all of it of one status: the number of the status is its result; how it ends with it, and why; that a
-- script is answered; and the line on standard error.
pub record Answers (unread untouched : Type 0) (source out err : Stream) (question : Option Question) (result : ℕ) : Type 0 where
  pub status : Status
  pub numbered : result ≡ number status
  pub ends : Ends unread untouched source out question status
  pub complete : Completes question source out status
  pub line : Tells err status
