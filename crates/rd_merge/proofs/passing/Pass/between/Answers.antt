use Rattle.std.proofs.Common.{◌≡◌, ℕ, arith, subst}
use Rattle.rd_merge.specs.Internal.Passes.{IsNoted}
use Rattle.rd_merge.proofs.passing.Pass.between.Goals as goal

pub returns : goal.returns
returns g c =
    let at : c.loop-place.place ≡ c.args.end = omega (arith, c.loop-place-test.false, c.loop-place.invariant.end) in
    subst (λ (n : ℕ). IsNoted (g.T.Touches.is_touched c.args.self.now.tree.now) c.args.self.now n c.loop-place.notes) at c.loop-place.invariant.noted
