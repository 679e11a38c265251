use Rattle.rd_tree.proofs.Redrawn.{put_far}
use Rattle.rd_tree.proofs.redrawing.draw_at.Goals as goal

pub returns : goal.returns
returns c = put_far c.args.nodes.now c.put_rect.new.self c.args.key c.args.old c.args.new c.rect_at-rect.result c.rect_at-rect.ensures c.put_rect.ensures.put
