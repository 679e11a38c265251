use Rattle.std.proofs.Common.{◌∙◌, ap, map, rules}
use Rattle.std.proofs.lemmas.List.Sorted.{answers_always}
use Rattle.rd_partial.specs.Internal.Held.{held_stack}
use Rattle.rd_stack.proofs.Walk.Sorting.{sort_by_cmp}
use Rattle.rd_partial.proofs.Sorting.{held_sorted}
use Rattle.rd_partial.proofs.order.in_order.Goals as goal

pub returns : goal.returns
returns g c =
    ap (map held_stack) (sort_by_cmp (λ y. y.level) c.args.layers.now.items c.sort_by_key.new.self.items
    (c.in_ok-sort_by_key.ensures.sorted (λ y. y.level) (answers_always _ _ _ (λ f a r h q. search rules)))
    (c.in_ok-sort_by_key.ensures.stable (λ y. y.level) (answers_always _ _ _ (λ f a r h q. search rules))))
    ∙ held_sorted c.args.layers.now.items
