use Rattle.std.proofs.Common.{◌%◌, ◌/◌, arith}
use Rattle.std.specs.Prelude.{slice_index}
use Rattle.rd_keys.proofs.Bits.{bit_apart}
use Rattle.rd_merge.proofs.pages.none_marked.Goals as goal

pub returns : goal.returns
returns c = λ t k i. bit_apart (slice_index c.args.groups.now (k.slot / 4096 % 4)) c.args.keys.pages (k.slot / 64 % 64)
    (c.loop-group.invariant (k.slot / 4096) (omega (arith, i.first)) (omega (arith, i.last))) i.page
