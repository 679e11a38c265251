use Rattle.rd_list.proofs.Covering.{told_if}
use Rattle.rd_list.proofs.told.told_more.Goals as goal

pub returns : goal.returns
returns g c = λ es h. told_if c.joined.result c.args.told.now c.in_ok-more.more es c.args.entry.now c.joined.ensures h c.in_ok-more.ensures
