use Rattle.std.proofs.Common.{refl}
use Rattle.rd_engine.proofs.engine.Engine.prepare.Goals as goal

pub planned-requires : goal.planned-requires
planned-requires g c = c.in_ok-new.ensures.new

pub same-new : goal.same-new
same-new g c = refl

pub counts_of-counts-requires : goal.counts_of-counts-requires
counts_of-counts-requires g c = c.in_ok-new.ensures.new.few

pub same-area : goal.same-area
same-area g c = refl

pub same-plan : goal.same-plan
same-plan g c = refl
