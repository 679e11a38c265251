use Rattle.std.proofs.Common.{sym, subst, Bool, List}
use Rattle.std.proofs.lemmas.Result.{IfOk-weaker}
use Rattle.rd_graph.specs.Internal.Trimming.{HasMark}
use Rattle.rd_graph.proofs.trimming.places_in.Goals as goal

pub returns : goal.returns
returns c = IfOk-weaker c.places_asked.result _ _ (λ t h l m n k i. h k (subst (λ (ms : List Bool). HasMark ms k) (sym c.deref.ensures.value) (c.in_ok-marks.ensures l m n k i))) c.places_asked.ensures
