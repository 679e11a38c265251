use Rattle.std.proofs.Common.{arith}
use Rattle.rd_list.proofs.Viewing.{size_at}
use Rattle.rd_c.proofs.Telling.{listed_more}
use Rattle.rd_c.proofs.listing.+listing.Goals as goal

pub push_entries-push_entry-requires : goal.push_entries-push_entry-requires
push_entries-push_entry-requires g t c κs within =
    let s = size_at c.args.entries.now c.loop-entry.entry-index c.entry-item.result c.loop-entry-test.true c.entry-item.is in (omega (arith, s, c.decreases), within)

pub push_entries-loop-entry-preserved : goal.push_entries-loop-entry-preserved
push_entries-loop-entry-preserved g t c =
    listed_more c.args.entries.now c.loop-entry.entry-index c.entry-item.result c.loop-entry-test.true c.entry-item.is _ _ _ c.loop-entry.invariant c.in_ok-push_entry.ensures
