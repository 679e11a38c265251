use Rattle.rd_keys.proofs.Bits.{bit_kept, bit_left, bit_set}
use Rattle.rd_keys.proofs.words.with_bit.Goals as goal

pub returns-clause-set : goal.returns-clause-set
returns-clause-set c = bit_set c.args.bits c.args.number

pub returns-clause-kept : goal.returns-clause-kept
returns-clause-kept c = λ i. bit_left c.args.bits _ i

pub returns-clause-others : goal.returns-clause-others
returns-clause-others c = bit_kept c.args.bits c.args.number
