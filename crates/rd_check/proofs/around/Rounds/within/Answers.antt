use Rattle.std.proofs.Common.{◌∙◌}
use Rattle.rd_check.proofs.Adding.{row_is}
use Rattle.rd_check.proofs.around.Rounds.within.Goals as goal

pub returns-clause-round : goal.returns-clause-round
returns-clause-round c =
    row_is c.args.self.now.rows.items c.push.new.self.items c.in_ok-inner.inner c.get.result.now c.args.group c.args.row c.len-place.result
    c.in_ok-push.ensures.items (c.len-place.ensures ∙ c.args.self.now.rows.ok.0) c.in_ok-inner.ensures c.get.ensures
