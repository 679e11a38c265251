use Rattle.std.proofs.Common.{◌≡◌, ap, sym, subst, ℕ, List, is_some, arith}
use Rattle.rd_graph.specs.Gathered.{gathered}
use Rattle.rd_graph.specs.Graphs.{nodes}
use Rattle.rd_graph.specs.Internal.Seen.{seen}
use Rattle.rd_graph.specs.Names.{is_in, same_entry}
use Rattle.rd_graph.specs.declared.graph.Node.{Node}
use Rattle.rd_graph.specs.Internal.Tables.{at}
use Rattle.rd_graph.proofs.Patches.Marks.{named_next, take_whole}
use Rattle.rd_graph.proofs.Patches.Numbers.{numbered_next, numbers_apart}
use Rattle.rd_graph.proofs.gone.names_at.Goals as goal

pub loop-i-preserved : goal.loop-i-preserved
loop-i-preserved c =
    let within = c.requires c.loop-i.i c.loop-i-test.true in
    let key = ap (λ (x : Node). x.key) (sym c.index-nodes-place.is) in
    record {
      named = named_next c.args.nodes.now c.args.gone.now c.loop-i.i c.index-nodes-place.result _ c.loop-i.i (at c.loop-i.table) (at c.put.new.table) c.loop-i-test.true within c.index-nodes-place.is key c.loop-i.invariant.named c.in_ok-put.ensures;
      numbered = numbered_next c.args.nodes.now c.args.gone.now c.loop-i.i c.index-nodes-place.result _ (at c.loop-i.table) (at c.put.new.table) within c.index-nodes-place.is key c.loop-i.invariant.numbered c.in_ok-put.ensures;
    }

pub returns-clause-named : goal.returns-clause-named
returns-clause-named c = λ k. subst (λ (ps : List ℕ). is_some (at c.loop-i.table k) ≡ is_in same_entry (gathered ps (nodes (seen c.args.nodes.now))) k)
    (take_whole c.args.gone.now c.loop-i.i c.loop-i-test.false) (c.loop-i.invariant.named k)

pub returns-clause-numbered : goal.returns-clause-numbered
returns-clause-numbered c =
    let most = c.loop-i.auto.i-end in
    numbers_apart c.loop-i.table c.args.nodes.now c.args.gone.now c.loop-i.i c.requires (omega (arith, c.loop-i-test.false, most)) c.loop-i.invariant.numbered
