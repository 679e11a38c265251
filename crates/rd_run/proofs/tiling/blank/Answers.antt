use Rattle.std.proofs.Common.{rules}
use Rattle.rd_run.proofs.tiling.blank.Goals as goal

pub returns : goal.returns
returns c = record {
  size = c.in_ok-canvas.ensures.size;
  rows = c.in_ok-buffers.ensures;
  pixels = c.in_ok-canvas.ensures.pixels;
  text = search rules;
}
