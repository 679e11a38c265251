use Rattle.std.proofs.Common.{refl}
use Rattle.rd_graph.proofs.Lists.Countings.{are_rising}
use Rattle.rd_graph.proofs.arranging.stands_still.Goals as goal

pub are_among-requires-clause-places : goal.are_among-requires-clause-places
are_among-requires-clause-places c = are_rising c.args.end 0 c.args.places.now (c.if-not-rises.ensures.0 refl)
