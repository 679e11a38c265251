use Rattle.std.proofs.Common.{IsTrue, subst}
use Rattle.rd_geom.proofs.Pixels.{left_of}
use Rattle.rd_partial.proofs.visit.Pass.show.Goals as goal

pub make-requires-clause-within : goal.make-requires-clause-within
make-requires-clause-within g c = λ x y h. left_of _ _ (subst (λ t. IsTrue t) (c.meet-visible.ensures.pixels x y) h)
