use Rattle.std.proofs.Common.{◌∙◌, ◌++◌, ◌+◌, ◌-◌, ap, drop, take}
use Rattle.rd_graph.proofs.LinedUp.InPlace.{parts_swapped}
use Rattle.rd_graph.proofs.in_place.swap.Goals as goal

pub returns-clause-swapped : goal.returns-clause-swapped
returns-clause-swapped g c = λ us xs vs ys zs w a b d e.
    let first = c.args.first in
    let count = c.args.count in
    let left = c.split_at_mut-left.result.0.now in
    let right = c.split_at_mut-left.result.1.now in
    parts_swapped us xs vs ys zs c.args.elements.now left right _ first c.args.other count w a b d e c.split_at_mut-left.ensures.front c.split_at_mut-left.ensures.back
    (ap (λ ks. (take first left ++ (ks ++ drop (first + count - first) (drop first left))) ++ (c.swap_with_slice.new.other ++ drop count right)) c.swap_with_slice.ensures.after
    ∙ ap (λ ks. (take first left ++ (take count right ++ drop (first + count - first) (drop first left))) ++ (ks ++ drop count right)) c.swap_with_slice.ensures.other_after)
