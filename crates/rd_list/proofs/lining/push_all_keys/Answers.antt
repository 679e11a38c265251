use Rattle.rd_list.proofs.News.{run_names}
use Rattle.rd_list.proofs.lining.push_all_keys.Goals as goal

pub loop-entries-preserved : goal.loop-entries-preserved
loop-entries-preserved g c = record { all = run_names c.args.runs.now c.loop-entries.entries-index c.entries-item.result c.deref.result.now c.args.all.now.items c.loop-entries.all.items c.push_keys.new.all.items c.loop-entries-test.true c.entries-item.is c.deref.ensures.value c.loop-entries.invariant.all c.in_ok-push_keys.ensures }
