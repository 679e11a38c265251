use Rattle.std.proofs.Common.{sym, subst, List}
use Rattle.rd_graph.specs.Internal.Chains.{NoneGoesBack}
use Rattle.rd_graph.specs.Internal.Seen.{seen}
use Rattle.rd_graph.specs.declared.graph.Node.{Node}
use Rattle.rd_graph.proofs.LinedUp.ByRanks.RankParts.{goes_forward}
use Rattle.rd_graph.proofs.chain.chained.Goals as goal

pub label_nodes-requires-clause-forward : goal.label_nodes-requires-clause-forward
label_nodes-requires-clause-forward c = subst (λ (ns : List Node). NoneGoesBack (seen ns)) (sym c.deref.ensures.value) (goes_forward (seen c.args.nodes.items) c.requires.sound)
