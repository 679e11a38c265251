-- How runs end.
use Rattle.std.proofs.Common.{◌≡◌, ◌⊎◌, ℕ, List, Option, Some, None, refl, subst, inl, inr}
use Rattle.std.specs.Io.KnownBytes.{Appends}
use Rattle.rd_io.specs.Causes.{GainsPart}
use Rattle.rd_scene.specs.Scripts.{Script}
use Rattle.rd_scene.specs.Reading.{IsScriptText}
use Rattle.rd_run.specs.Endings.{Stream, HasFailed, HasRead, RefusesInput}
use Rattle.rd_run.specs.declared.status.Status.{Status}
use Rattle.rd_run.specs.declared.status.Status.TheVariants.{Done, Usage, NotJson, Form, ReadFault, WriteFault, NoMemory, TooLarge, BadWire, BadDump}
use Rattle.rd_run.proofs.Finishing.{IsGiven, unreadable, broken, too_large}
use Rattle.rd_why.specs.declared.words.Question.{Question}
use Rattle.rd_why.specs.Endings.{EndsAs, Ends, Completes}
use Rattle.rd_why.specs.Json.{why_text}
use Rattle.rd_tree.specs.Document.{Document}
use Rattle.rd_why.specs.After.{IsAfter}
use Rattle.rd_why.specs.Internal.Answering.{AnswersAs, AnswersOn, Writes}

-- the text that was written, or a front of it, is the answer
pub written : (untouched : Type 0) (t : Document) (q : Question) (out : Stream) (text : List ℕ) (s : Status) → text ≡ why_text q t → Writes out text s → AnswersOn untouched t q out s
written untouched t q out text Done e w = (w.0, subst (λ x. Appends out.bytes out.bytes_now x) e w.1)
written untouched t q out text WriteFault e w = (w.0, subst (λ x. GainsPart out.bytes out.bytes_now x) e w.1)
written untouched t q out text NoMemory e w = absurd w
written untouched t q out text Usage e w = absurd w
written untouched t q out text NotJson e w = absurd w
written untouched t q out text (Form p why) e w = absurd w
written untouched t q out text ReadFault e w = absurd w
written untouched t q out text TooLarge e w = absurd w
written untouched t q out text BadWire e w = absurd w
written untouched t q out text BadDump e w = absurd w

-- it is asked of the tree after the commands of a script
pub of_script : (untouched : Type 0) (script : Script) (t : Document) (q : Question) (out : Stream) (s : Status) → IsAfter script t → AnswersOn untouched t q out s → AnswersAs untouched script q out s
of_script untouched script t q out Done a w = (w.0, (t, a, w.1))
of_script untouched script t q out WriteFault a w = (w.0, (t, a, w.1))
of_script untouched script t q out NoMemory a w = w
of_script untouched script t q out Usage a w = absurd w
of_script untouched script t q out NotJson a w = absurd w
of_script untouched script t q out (Form p why) a w = absurd w
of_script untouched script t q out ReadFault a w = absurd w
of_script untouched script t q out TooLarge a w = absurd w
of_script untouched script t q out BadWire a w = absurd w
of_script untouched script t q out BadDump a w = absurd w

module _ (untouched : Type 0) (source out : Stream) (q : Question) where
  -- a run whose script was answered
  pub answered : (script : Script) (bytes : List ℕ) (s : Status) → IsScriptText bytes script → HasRead source bytes
      → AnswersAs untouched script q out s → EndsAs untouched source out q s
  answered script bytes Done t r a = (a.0, (bytes, why_text q a.1.0, r, (script, a.1.0, t, a.1.1, refl), a.1.2))
  answered script bytes WriteFault t r a = (a.0, (bytes, why_text q a.1.0, r, (script, a.1.0, t, a.1.1, refl), a.1.2))
  answered script bytes NoMemory t r a = (a, r.faultless)
  answered script bytes Usage t r a = absurd a
  answered script bytes NotJson t r a = absurd a
  answered script bytes (Form p w) t r a = absurd a
  answered script bytes ReadFault t r a = absurd a
  answered script bytes TooLarge t r a = absurd a
  answered script bytes BadWire t r a = absurd a
  answered script bytes BadDump t r a = absurd a

  -- a run without a script
  pub refused : (s : Status) → RefusesInput source s → untouched → EndsAs untouched source out q s
  refused ReadFault h u = (u, h)
  refused TooLarge h u = (u, h)
  refused NotJson h u = (u, h)
  refused (Form p w) h u = (u, h)
  refused NoMemory h u = (u, h)
  refused Done h u = absurd h
  refused Usage h u = absurd h
  refused WriteFault h u = absurd h
  refused BadWire h u = absurd h
  refused BadDump h u = absurd h

  -- a script within the limit is answered
  done : (s : Status) → EndsAs untouched source out q s → IsGiven source → (HasFailed source → ⊥) → (HasFailed out → ⊥) → (s ≡ Done) ⊎ (s ≡ NoMemory)
  done Done e v f g = inl refl
  done NoMemory e v f g = inr refl
  done Usage e v f g = absurd e
  done BadWire e v f g = absurd e
  done BadDump e v f g = absurd e
  done ReadFault e v f g = absurd (f e.1)
  done WriteFault e v f g = absurd (g e.0)
  done TooLarge e v f g = absurd (too_large source v e.1.1)
  done NotJson e v f g = absurd (unreadable source (e.1.0) v e.1.1 e.1.2)
  done (Form p w) e v f g = absurd (broken source (e.1.0) p w v e.1.1 e.1.2)

module _ (unread untouched : Type 0) (source out : Stream) where
  pub completes : (question : Option Question) (s : Status) → Ends unread untouched source out question s → Completes question source out s
  completes None s e = λ q bytes script w g l t f h. absurd (let no : None ≡ Some q = w in cc)
  completes (Some q) s e = λ other bytes script w g l t f h. done untouched source out q s e (bytes, script, g, l, t) f h
