use Rattle.std.proofs.Common.{sym}
use Rattle.rd_check.specs.Internal.Sights.{sight_of}
use Rattle.rd_check.proofs.Nearby.{upper_none, not_crossed}
use Rattle.rd_check.proofs.crossing.is_crossed_near.Goals as goal

pub returns-in-Some : goal.returns-in-Some
returns-in-Some c = λ f s n.
    not_crossed c.args.near.now.clusters.items s (sight_of c.args.seen.now) c.in-Some.spot (sym c.in-Some.ensures) (c.crosses.ensures f) n

pub returns-in-None : goal.returns-in-None
returns-in-None c = λ f s n. upper_none s (sight_of c.args.seen.now) (sym c.in-None.ensures)
