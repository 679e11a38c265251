use Rattle.std.proofs.Common.{◌%◌, ◌/◌, arith}
use Rattle.std.specs.Prelude.{slice_index}
use Rattle.rd_keys.proofs.Bits.{bit_apart}
use Rattle.rd_merge.proofs.pages.each_lacks.Goals as goal

pub returns : goal.returns
returns c = λ t k i. bit_apart (slice_index c.args.pages.now (k.slot / 64 % 256)) c.args.keys.slots (k.slot % 64)
    (c.loop-page.invariant (k.slot / 64) (omega (arith, i.first)) (omega (arith, i.last)) i.page) i.slot
