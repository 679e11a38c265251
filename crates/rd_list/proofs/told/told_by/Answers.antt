use Rattle.std.proofs.Common.{subst}
use Rattle.std.proofs.lemmas.List.{take_all}
use Rattle.rd_list.specs.Chunks.{IsTold}
use Rattle.rd_list.proofs.told.told_by.Goals as goal

pub returns : goal.returns
returns g c = subst (IsTold c.sum_of-all.result.told) (take_all c.sum_of-all.result.count c.args.entries.now c.if-all-entries.false) (c.sum_of-all.ensures.told c.if-all.false)
