use Rattle.std.proofs.lemmas.Result.{IfOk-weaker}
use Rattle.rd_graph.specs.Internal.Patching.{lists_seen}
use Rattle.rd_graph.specs.Internal.Seen.{seen}
use Rattle.rd_graph.specs.Internal.Tables.{has_it}
use Rattle.rd_graph.proofs.Patches.Along.{relisted}
use Rattle.rd_graph.proofs.changing.changed_by.Goals as goal

pub returns : goal.returns
returns c =
    IfOk-weaker c.led_along.result _ _
    (λ v. relisted c.args.places.now _ c.args.chain.now (seen c.args.nodes.now) (has_it c.args.gone.now.names) (lists_seen c.in_ok-passed.passed.lists.items) (lists_seen v.items)
    c.requires.sound c.requires.can.once c.requires.named c.in_ok-passed.ensures.noted c.in_ok-passed.ensures.relisted)
    c.led_along.ensures
