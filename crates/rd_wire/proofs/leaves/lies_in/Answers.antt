use Rattle.rd_wire.proofs.Seen.{lies_told}
use Rattle.rd_wire.proofs.leaves.lies_in.Goals as goal

pub returns : goal.returns
returns c = lies_told c.args.a c.args.b c.is_within.result c.requires c.is_within.ensures.within c.is_within.ensures.outside
