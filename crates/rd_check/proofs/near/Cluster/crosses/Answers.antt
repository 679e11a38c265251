use Rattle.std.proofs.Common.{sym, ◌∙◌}
use Rattle.rd_check.proofs.Nearby.{far_none}
use Rattle.rd_check.proofs.near.Cluster.crosses.Goals as goal

pub returns-then-is_far : goal.returns-then-is_far
returns-then-is_far c = far_none c.args.seen c.args.place c.args.self.now c.requires (sym c.is_far.ensures ∙ c.if-is_far.true)
