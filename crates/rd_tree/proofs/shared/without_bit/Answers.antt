use Rattle.rd_keys.proofs.Bits.{bit_cleared}
use Rattle.rd_tree.proofs.shared.without_bit.Goals as goal

pub returns : goal.returns
returns c = bit_cleared c.args.bits c.args.number
