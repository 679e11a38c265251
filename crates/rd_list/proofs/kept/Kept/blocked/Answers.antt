use Rattle.std.proofs.Common.{refl}
use Rattle.rd_list.proofs.kept.Kept.blocked.Goals as goal

pub slice_bounds-result-end : goal.slice_bounds-result-end
slice_bounds-result-end g c = refl

pub slice_bounds-result-end-in-None : goal.slice_bounds-result-end-in-None
slice_bounds-result-end-in-None g c = refl

pub slice_bounds-result-end-in-None-2 : goal.slice_bounds-result-end-in-None-2
slice_bounds-result-end-in-None-2 g c = refl
