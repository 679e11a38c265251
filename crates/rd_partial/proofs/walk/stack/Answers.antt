use Rattle.std.proofs.Common.{refl, ◌∙◌, sym}
use Rattle.rd_list.specs.Nested.{laid_out}
use Rattle.rd_partial.specs.Internal.Pass.{level_in}
use Rattle.rd_partial.proofs.Pass.Stacking.{empty_layer, under_layer, over_layer, zero_layer}
use Rattle.rd_partial.proofs.walk.stack.Goals as goal

pub returns-then-is_empty : goal.returns-then-is_empty
returns-then-is_empty g c = empty_layer c.args.layers.now (level_in c.args.b.now) (laid_out c.args.order) (sym c.is_empty.ensures ∙ c.if-is_empty.true)

pub same-order : goal.same-order
same-order g c = refl

pub same-order-then-has_positive_level : goal.same-order-then-has_positive_level
same-order-then-has_positive_level g c = refl

pub same-order-2 : goal.same-order-2
same-order-2 g c = refl

pub returns-then-has_negative_level : goal.returns-then-has_negative_level
returns-then-has_negative_level g c =
    under_layer c.args.layers.now (record c.args.layers.now { negatives = c.push.new.self }) c.stacked.result (level_in c.args.b.now) c.args.order c.stacked.ensures.level c.stacked.ensures.order refl refl c.in_ok-push.ensures.items
    (sym c.has_negative_level.ensures ∙ c.if-has_negative_level.true) (sym c.is_empty.ensures ∙ c.if-is_empty.false)

pub returns-then-has_positive_level : goal.returns-then-has_positive_level
returns-then-has_positive_level g c =
    over_layer c.args.layers.now (record c.args.layers.now { positives = c.push-then-has_positive_level.new.self }) c.stacked-then-has_positive_level.result (level_in c.args.b.now) c.args.order c.stacked-then-has_positive_level.ensures.level c.stacked-then-has_positive_level.ensures.order refl refl c.in_ok-push-2.ensures.items
    (sym c.has_positive_level.ensures ∙ c.if-has_positive_level.true) (sym c.is_empty.ensures ∙ c.if-is_empty.false)

pub returns : goal.returns
returns g c =
    zero_layer c.args.layers.now (record c.args.layers.now { zeros = c.join.new.self }) (level_in c.args.b.now) (laid_out c.args.order) refl refl c.in_ok-join.ensures
    (sym c.has_negative_level.ensures ∙ c.if-has_negative_level.false) (sym c.has_positive_level.ensures ∙ c.if-has_positive_level.false)
