use Rattle.std.proofs.Common.{arith}
use Rattle.std.proofs.lemmas.Result.{on_ok_weaker}
use Rattle.rd_check.proofs.Adding.{adds_entry, adds_run, adds_wrapper, entry_size, lent_size}
use Rattle.rd_check.proofs.painted.+painted.Goals as goal

pub add_run-add_entry-requires : goal.add_run-add_entry-requires
add_run-add_entry-requires g t c κs within =
    let s = entry_size c.args.run.now c.loop-entry.entry-index c.entry-item.result c.loop-entry-test.true c.entry-item.is in
    (omega (arith, s, c.decreases), within)

pub add_runs-add_run-requires : goal.add_runs-add_run-requires
add_runs-add_run-requires g t c κs within =
    let s = lent_size c.args.runs.now c.loop-run.run-index c.run-item.result c.deref.result.now c.loop-run-test.true c.run-item.is c.deref.ensures.value in
    (omega (arith, s, c.decreases), within)

pub add_entry-returns-in_ok-within-in-Group : goal.add_entry-returns-in_ok-within-in-Group
add_entry-returns-in_ok-within-in-Group g t c =
    on_ok_weaker c.add_list.result
    (adds_wrapper c.args.round c.args.entry.now c.in-Group.key c.in-Group.opacity c.in-Group.blend c.in-Group.inner c.args.painted.now c.add_list.new.painted c.within.new.self
    c.in_ok-within-in-Group.within c.in-Group.is c.in_ok-within-in-Group.ensures.grown c.in_ok-within-in-Group.ensures.there c.in_ok-within-in-Group.ensures.round)
    c.add_list.ensures

pub add_run-loop-entry-preserved : goal.add_run-loop-entry-preserved
add_run-loop-entry-preserved g t c =
    adds_entry c.args.round c.args.run.now c.loop-entry.entry-index c.entry-item.result c.args.painted.now c.loop-entry.painted c.add_entry.new.painted
    c.loop-entry-test.true c.entry-item.is c.loop-entry.invariant c.in_ok-add_entry.ensures

pub add_runs-loop-run-preserved : goal.add_runs-loop-run-preserved
add_runs-loop-run-preserved g t c =
    adds_run c.args.round c.args.runs.now c.loop-run.run-index c.run-item.result c.deref.result.now c.args.painted.now c.loop-run.painted c.add_run.new.painted
    c.loop-run-test.true c.run-item.is c.deref.ensures.value c.loop-run.invariant c.in_ok-add_run.ensures
