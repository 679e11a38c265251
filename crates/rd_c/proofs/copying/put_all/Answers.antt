use Rattle.std.proofs.Common.{◌∙◌, ap, ◌++◌, take, drop, ◌*◌, ◌+◌}
use Rattle.rd_c.specs.Copied.{quad}
use Rattle.rd_c.proofs.Putting.{put_more, length-quad}
use Rattle.rd_c.proofs.copying.put_all.Goals as goal

pub loop-i-preserved : goal.loop-i-preserved
loop-i-preserved c = record {
  put = put_more (quad c.args.format) 4 (length-quad c.args.format) c.args.pixels.now c.loop-i.i _ c.args.out.now c.loop-i.out _ c.loop-i-test.true c.loop-i.invariant.put
      (c.put.ensures ∙ ap (λ p. take (4 * c.loop-i.i) c.loop-i.out ++ (quad c.args.format p ++ drop (4 * c.loop-i.i + 4) c.loop-i.out)) c.index-pixels-i.is);
}
