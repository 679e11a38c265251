use Rattle.std.proofs.Common.{refl, arith}
use Rattle.std.proofs.lemmas.List.{take_more}
use Rattle.rd_list.proofs.Joins.{listed-append}
use Rattle.rd_list.proofs.Sizes.{list_size-at}
use Rattle.rd_list.proofs.plain.+copy.Goals as goal

pub copies-copy_of-requires : goal.copies-copy_of-requires
copies-copy_of-requires t c = (omega (arith, list_size-at c.args.entries.now c.loop-entry.entry-index c.entry-item.result (omega arith) c.entry-item.is, c.decreases), tt)

pub copies-loop-entry-preserved : goal.copies-loop-entry-preserved
copies-loop-entry-preserved t c =
    rw (c.in_ok-push.ensures.items, listed-append, c.loop-entry.invariant, c.in_ok-copy.ensures, take_more c.args.entries.now c.loop-entry.entry-index c.entry-item.result c.loop-entry-test.true, ← c.entry-item.is, listed-append) refl
