use Rattle.std.proofs.Common.{rules}
use Rattle.rd_scene.proofs.Limits.{made_some}
use Rattle.rd_scene.proofs.rects.made.Goals as goal

pub returns-in-None : goal.returns-in-None
returns-in-None c =
    absurd (made_some c.new.result _ (record { x = c.args.x; y = c.args.y; w = c.args.w; h = c.args.h }) (search rules) c.requires c.new.ensures.none c.in-None.is)
