use Rattle.rd_graph.proofs.Patches.Kinds.{kept_left, kind_set}
use Rattle.rd_graph.proofs.chunks.with_kind.Goals as goal

pub returns-clause-has : goal.returns-clause-has
returns-clause-has c = kind_set c.args.kinds c.kind_of.result c.args.key.now c.kind_of.ensures

pub returns-clause-keeps : goal.returns-clause-keeps
returns-clause-keeps c = kept_left c.args.kinds _
