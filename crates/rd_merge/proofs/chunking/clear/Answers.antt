use Rattle.std.proofs.Common.{subst, Option, ℕ}
use Rattle.std.specs.Prelude.{Some}
use Rattle.rd_merge.specs.Internal.Moving.{ChangesAt}
use Rattle.rd_merge.proofs.InPlace.{others_change}
use Rattle.rd_merge.proofs.chunking.clear.Goals as goal

pub returns-in-Some-clause-covers : goal.returns-in-Some-clause-covers
returns-in-Some-clause-covers g c = λ xs ys h k.
    c.replace_entry.ensures.covers xs ys h (others_change c.in-Some.place xs ys (subst (λ (o : Option ℕ). ChangesAt o xs ys) c.in-Some.is k))
