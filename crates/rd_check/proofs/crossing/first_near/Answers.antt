use Rattle.rd_check.proofs.Crossed.{never_near}
use Rattle.rd_check.proofs.crossing.first_near.Goals as goal

pub returns-else-is_crossed_near : goal.returns-else-is_crossed_near
returns-else-is_crossed_near c =
    never_near c.args.near.now.clusters.items c.args.seen.now c.args.j c.index-seen-j.result c.requires.entered c.requires.there c.index-seen-j.is
    (c.is_crossed_near.ensures c.if-is_crossed_near.false)
