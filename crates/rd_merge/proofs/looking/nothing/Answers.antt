use Rattle.std.proofs.Common.{◌∙◌, sym, ap, ◌++◌, ◌∷◌, [], None, arith}
use Rattle.rd_merge.proofs.Looks.{none_more}
use Rattle.rd_merge.proofs.looking.nothing.Goals as goal

pub loop-preserved : goal.loop-preserved
loop-preserved c = record { found = c.in_ok-push.ensures.items ∙ ap (λ os. os ++ None ∷ []) c.loop.invariant.found ∙ sym (none_more c.args.names.now c.loop.index _ c.loop-test.true (omega arith)) }
