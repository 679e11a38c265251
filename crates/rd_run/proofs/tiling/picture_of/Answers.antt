use Rattle.std.proofs.Common.{◌∙◌, ap, sym, length}
use Rattle.std.proofs.lemmas.Result.{IfOk-weaker}
use Rattle.rd_run.proofs.tiling.picture_of.Goals as goal

pub copy_to-requires : goal.copy_to-requires
copy_to-requires c = c.in_ok-canvas.ensures.size ∙ c.size-size.ensures.value

pub returns : goal.returns
returns c =
    IfOk-weaker c.p6.result _ _
    (λ bytes w. (
      c.copy_to.new.canvas,
      record {
        size = c.copy_to.ensures.size ∙ c.in_ok-canvas.ensures.size ∙ c.size-size.ensures.value;
        count = ap length (sym c.pixels-pixels.ensures.value) ∙ c.pixels-pixels.ensures.count;
        pixels = c.copy_to.ensures.pixels;
      },
      w,
    ))
    c.p6.ensures
