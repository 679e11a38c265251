use Rattle.std.proofs.Common.{arith}
use Rattle.rd_graph.specs.Internal.Tables.{at}
use Rattle.rd_graph.proofs.Patches.Thinned.Trims.{few_left}
use Rattle.rd_graph.proofs.trimming.trim.Goals as goal

pub returns-then-len-lt2 : goal.returns-then-len-lt2
returns-then-len-lt2 c = few_left (at c.args.places.now) c.args.keys.items (omega (arith, c.if-len-lt2.true, c.len.ensures))
