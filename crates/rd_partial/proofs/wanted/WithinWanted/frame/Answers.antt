use Rattle.rd_geom.proofs.Pixels.{meets_shares}
use Rattle.rd_partial.proofs.Framed.{share_reaches}
use Rattle.rd_partial.proofs.wanted.WithinWanted.frame.Goals as goal

pub returns : goal.returns
returns c r h =
    let s = meets_shares c.args.self.now.rect r h in
    share_reaches c.args.self.now.rect r s.x s.y s.first s.second
