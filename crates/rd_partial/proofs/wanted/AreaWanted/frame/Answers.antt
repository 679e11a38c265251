use Rattle.rd_geom.proofs.Areas.{meets_area-shares}
use Rattle.rd_partial.proofs.Framed.{share_reaches}
use Rattle.rd_partial.proofs.wanted.AreaWanted.frame.Goals as goal

pub returns : goal.returns
returns c r h =
    let s = meets_area-shares c.args.self.now r h in
    share_reaches c.frame.result r s.x s.y (c.frame.ensures s.x s.y s.first) s.second
