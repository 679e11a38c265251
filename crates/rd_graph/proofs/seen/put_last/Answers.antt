use Rattle.std.proofs.Common.{subst}
use Rattle.std.proofs.lemmas.Result.{on_ok_weaker}
use Rattle.rd_graph.specs.Internal.Tables.{at, fits_table}
use Rattle.rd_graph.proofs.Lists.Entries.{named_one}
use Rattle.rd_graph.proofs.seen.put_last.Goals as goal

pub returns-in-Some : goal.returns-in-Some
returns-in-Some c = λ before was is. on_ok_weaker c.put.result
    (λ h. named_one before c.args.names.now c.args.key _ (at c.in-Some.table) (at c.put.new.table) (subst (λ t. fits_table t before) c.in-Some.is was) h is) c.put.ensures
