use Rattle.std.proofs.Common.{◌∙◌, ap, length, sym}
use Rattle.rd_graph.proofs.LinedUp.StayBits.{stay_count}
use Rattle.rd_graph.proofs.stays.Stays.len.Goals as goal

pub returns : goal.returns
returns c = sym (stay_count c.self.inside.gone.items 0 c.self.inside.count) ∙ ap length c.self.view_is
