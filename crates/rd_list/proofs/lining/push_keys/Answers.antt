use Rattle.rd_list.proofs.News.{names_next}
use Rattle.rd_list.proofs.lining.push_keys.Goals as goal

pub loop-entry-preserved : goal.loop-entry-preserved
loop-entry-preserved g c = record { all = names_next c.args.all.now.items c.args.run.now c.loop-entry.entry-index c.entry-item.result c.key.result c.loop-entry.all.items c.push.new.self.items c.loop-entry-test.true c.entry-item.is c.loop-entry.invariant.all c.key.ensures c.in_ok-push.ensures.items }
