use Rattle.rd_graph.proofs.LinedUp.ByRanks.RankParts.{range_once, none_goes_back}
use Rattle.rd_graph.proofs.counting.push_within.Goals as goal

pub label_nodes-requires-clause-once : goal.label_nodes-requires-clause-once
label_nodes-requires-clause-once c = range_once c.args.what.names.now c.args.region.from.met c.args.region.to.met c.requires.what.once

pub label_nodes-requires-clause-forward : goal.label_nodes-requires-clause-forward
label_nodes-requires-clause-forward c = none_goes_back c.args.what.nodes.now c.args.region.from.place c.args.region.to.place c.requires.what.sound
