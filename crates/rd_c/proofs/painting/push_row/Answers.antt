use Rattle.std.proofs.Common.{◌∙◌, ◌++◌, ◌∷◌, [], ap}
use Rattle.rd_c.proofs.Spanning.{told_more}
use Rattle.rd_c.proofs.painting.push_row.Goals as goal

pub loop-span-preserved : goal.loop-span-preserved
loop-span-preserved c = record {
  told = told_more c.args.y c.args.row.now c.loop-span.span-index _ _ _ _ c.loop-span-test.true c.loop-span.invariant.told (c.in_ok-push.ensures.items ∙ ap (λ r. c.loop-span.out.items ++ r ∷ []) c.told.ensures);
}
