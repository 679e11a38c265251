use Rattle.std.proofs.Common.{◌∙◌, ap, map, rules}
use Rattle.std.proofs.lemmas.List.Sorted.{answers_always}
use Rattle.rd_stack.proofs.Walk.Sorting.{sort_by_cmp}
use Rattle.rd_trace.specs.Internal.Pieces.{now}
use Rattle.rd_trace.proofs.Sorting.{level_now, sorted_now}
use Rattle.rd_trace.proofs.layers.by_level.Goals as goal

pub returns : goal.returns
returns c =
    ap (map now) (sort_by_cmp level_now c.args.layers.items c.sort_by_key.new.self.items
    (c.in_ok-sort_by_key.ensures.sorted level_now (answers_always _ _ _ (λ f a r h q. search rules)))
    (c.in_ok-sort_by_key.ensures.stable level_now (answers_always _ _ _ (λ f a r h q. search rules))))
    ∙ sorted_now c.args.layers.items
