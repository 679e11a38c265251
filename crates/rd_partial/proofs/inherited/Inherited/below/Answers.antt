use Rattle.std.proofs.Common.{subst, sym}
use Rattle.rd_partial.specs.Internal.Inherited.{Stood}
use Rattle.rd_partial.proofs.Pass.Stood.{stood_below, clips_stood}
use Rattle.rd_partial.proofs.inherited.Inherited.below.Goals as goal

pub invariant_of-result : goal.invariant_of-result
invariant_of-result c =
    subst Stood (sym (clips_stood _ c.self.invariant c.args.b.now c.enter.result c.style.result.now c.rect.result c.style.ensures c.rect.ensures c.enter.ensures)) (stood_below _ c.self.invariant c.args.b.now)
