-- How a run ends, where less is said of what was left as it was.
use Rattle.std.proofs.Common.{◌≡◌, ℕ, subst, inl, inr, Option, Some, None}
use Rattle.rd_run.specs.Endings.{Stream, Counter, counter, EndsAs, Ends}
use Rattle.rd_run.specs.declared.status.Status.{Status}
use Rattle.rd_run.specs.declared.status.Status.TheVariants.{Done, Usage, NotJson, Form, ReadFault, WriteFault, NoMemory, TooLarge, BadWire, BadDump}
use Rattle.rd_run.specs.declared.words.WordsForm.{WordsForm}

module _ (unread untouched less : Type 0) (source out : Stream) (made looks : Counter) (f : untouched → less) where
  weaker_as : (form : WordsForm) (s : Status) → EndsAs unread untouched source out made looks form s → EndsAs unread less source out made looks form s
  weaker_as form Done e = e
  weaker_as form Usage e = e
  weaker_as form NotJson e = (e.0, f e.1, e.2)
  weaker_as form (Form p w) e = (e.0, f e.1, e.2)
  weaker_as form ReadFault e = (e.0, f e.1, e.2)
  weaker_as form TooLarge e = (e.0, f e.1, e.2, e.3)
  weaker_as form BadWire e = (e.0, f e.1, e.2)
  weaker_as form BadDump e = (e.0, f e.1, e.2)
  weaker_as form WriteFault e = e
  weaker_as form NoMemory e = (e.0, elim e.1 [ inl u ↦ inl (f u) | inr u ↦ inr u ])

  pub weaker : (words : Option WordsForm) (s : Status) → Ends unread untouched source out made looks words s → Ends unread less source out made looks words s
  weaker (Some form) s e = weaker_as form s e
  weaker None Usage e = (e.0, f e.1)
  weaker None NoMemory e = (e.0, f e.1)
  weaker None Done e = absurd e
  weaker None NotJson e = absurd e
  weaker None (Form p w) e = absurd e
  weaker None ReadFault e = absurd e
  weaker None WriteFault e = absurd e
  weaker None TooLarge e = absurd e
  weaker None BadWire e = absurd e
  weaker None BadDump e = absurd e

-- the same of counters that began at 0
pub from_zero : (unread less : Type 0) (source out : Stream) (m made l looks : ℕ) (words : Option WordsForm) (s : Status) → m ≡ 0 → l ≡ 0
    → Ends unread less source out (counter m made) (counter l looks) words s → Ends unread less source out (counter 0 made) (counter 0 looks) words s
from_zero unread less source out m made l looks words s hm hl e =
    subst (λ (x : ℕ). Ends unread less source out (counter x made) (counter 0 looks) words s) hm
    (subst (λ (x : ℕ). Ends unread less source out (counter m made) (counter x looks) words s) hl e)
