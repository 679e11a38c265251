use Rattle.rd_graph.specs.Internal.Seen.{seen_one}
use Rattle.rd_graph.proofs.Patches.SeenAt.{seen_at}
use Rattle.rd_graph.proofs.changing.go_along_at.Goals as goal

pub returns-in-Some : goal.returns-in-Some
returns-in-Some c =
    let within = rw c.in-Some.is at c.requires.within in
    rw c.in-Some.is (seen_one c.index-nodes-place.result, seen_at c.args.nodes.now c.in-Some.place c.index-nodes-place.result within c.index-nodes-place.is, c.in_ok-go_along.ensures)
