use Rattle.std.proofs.lemmas.Result.{on_ok_weaker}
use Rattle.rd_check.proofs.Nearby.{entered_more}
use Rattle.rd_check.proofs.crossing.enter.Goals as goal

pub returns-in-Some-clause-before : goal.returns-in-Some-clause-before
returns-in-Some-clause-before c =
    on_ok_weaker c.add.result (entered_more c.args.near.now.clusters.items c.add.new.self.clusters.items) c.add.ensures.before
