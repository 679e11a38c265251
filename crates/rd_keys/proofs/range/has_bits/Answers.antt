use Rattle.std.proofs.Common.{arith}
use Rattle.rd_keys.proofs.Bits.{bit_among}
use Rattle.rd_keys.proofs.range.has_bits.Goals as goal

pub returns : goal.returns
returns c = λ t i h. bit_among c.args.bits c.args.others i (grind (arith, t)) h
