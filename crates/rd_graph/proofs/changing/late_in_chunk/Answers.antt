use Rattle.std.proofs.Common.{Bool, List, subst, sym}
use Rattle.rd_graph.specs.Internal.Relisting.{AreMarked}
use Rattle.rd_graph.specs.Internal.Seen.{seen}
use Rattle.rd_graph.specs.Internal.Tables.{has_it}
use Rattle.rd_graph.proofs.Patches.Kinds.{apart_quiet}
use Rattle.rd_graph.proofs.Patches.Quiet.{quiet_where}
use Rattle.rd_graph.proofs.changing.late_in_chunk.Goals as goal

pub returns-then-is_apart-clause-quiet : goal.returns-then-is_apart-clause-quiet
returns-then-is_apart-clause-quiet c =
    apart_quiet (has_it c.args.gone.now.names) c.args.gone.now.kinds c.requires.kinds c.args.chunks.now (seen c.args.nodes.now) c.args.from c.args.end c.requires.told c.requires.one (c.is_apart.ensures c.if-is_apart.true)

pub returns-clause-quiet : goal.returns-clause-quiet
returns-clause-quiet c =
    quiet_where (has_it c.args.gone.now.names) _ (subst (λ (ms : List Bool). AreMarked ms c.args.gone.now.names) (sym c.deref.ensures.value) c.requires.marked) (seen c.args.nodes.now) _ _ c.late_among.ensures.quiet
