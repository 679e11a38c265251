use Rattle.std.proofs.Common.{arith}
use Rattle.rd_list.proofs.Viewing.{size_at}
use Rattle.rd_wire.proofs.Spelling.{forms_more, fits_more, counts_at}
use Rattle.rd_wire.proofs.writing.+writing.Goals as goal

pub push_entries-push_entry-requires : goal.push_entries-push_entry-requires
push_entries-push_entry-requires g t c κs within =
    let s = size_at c.args.entries.now c.loop-entry.entry-index c.entry-item.result c.loop-entry-test.true c.entry-item.is in
    (omega (arith, s, c.decreases), (within, counts_at c.args.entries.now c.loop-entry.entry-index c.entry-item.result c.loop-entry-test.true c.entry-item.is c.requires))

pub push_entries-loop-entry-preserved : goal.push_entries-loop-entry-preserved
push_entries-loop-entry-preserved g t c = record {
  spelled = forms_more c.args.entries.now c.loop-entry.entry-index c.entry-item.result c.loop-entry-test.true c.entry-item.is _ _ _ c.loop-entry.invariant.spelled c.in_ok-push_entry.ensures.spelled;
  fits = fits_more c.args.entries.now c.loop-entry.entry-index c.entry-item.result c.loop-entry-test.true c.entry-item.is c.loop-entry.invariant.fits c.in_ok-push_entry.ensures.fits;
}
