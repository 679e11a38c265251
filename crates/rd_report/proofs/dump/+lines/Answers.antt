use Rattle.std.proofs.Common.{arith}
use Rattle.rd_list.proofs.Viewing.{size_at}
use Rattle.rd_report.proofs.Dumping.{lines_more, depth_at}
use Rattle.rd_report.proofs.dump.+lines.Goals as goal

pub push_entries-push_entry-requires : goal.push_entries-push_entry-requires
push_entries-push_entry-requires g t c κs within =
    let s = size_at c.args.entries.now c.loop-entry.entry-index c.entry-item.result c.loop-entry-test.true c.entry-item.is in
    let d = depth_at c.args.entries.now c.loop-entry.entry-index c.entry-item.result c.loop-entry-test.true c.entry-item.is in
    (omega (arith, s, c.decreases), (within.0, (within.1, omega (arith, d, c.requires))))

pub push_entries-loop-entry-preserved : goal.push_entries-loop-entry-preserved
push_entries-loop-entry-preserved g t c =
    lines_more _ _ c.args.entries.now c.loop-entry.entry-index c.entry-item.result _ _ _ c.loop-entry-test.true c.entry-item.is c.loop-entry.invariant c.in_ok-push_entry.ensures
