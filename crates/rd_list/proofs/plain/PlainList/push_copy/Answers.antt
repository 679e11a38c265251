use Rattle.std.proofs.Common.{refl}
use Rattle.rd_list.proofs.Joins.{listed-append}
use Rattle.rd_list.proofs.plain.PlainList.push_copy.Goals as goal

pub returns-clause-pushed : goal.returns-clause-pushed
returns-clause-pushed c = rw (c.in_ok-append.ensures.items, listed-append, c.in_ok-copy.ensures, c.deref.ensures.value, ← c.self.view_is, ← c.from.view_is) refl
