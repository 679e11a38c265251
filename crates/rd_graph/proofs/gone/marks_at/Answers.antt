use Rattle.std.proofs.Common.{◌≡◌, ◌∙◌, ap, sym, subst, ℕ, List, arith}
use Rattle.std.specs.Prelude.{vec_len, Contains}
use Rattle.rd_graph.specs.Gathered.{gathered}
use Rattle.rd_graph.specs.Graphs.{nodes}
use Rattle.rd_graph.specs.Internal.Seen.{seen}
use Rattle.rd_graph.specs.Internal.Relisting.{mark_of}
use Rattle.rd_graph.specs.declared.graph.Node.{Node}
use Rattle.rd_graph.proofs.Lists.Listing.{has_from}
use Rattle.rd_graph.proofs.Patches.Marks.{marked_next, mark_small, take_whole}
use Rattle.rd_graph.proofs.gone.marks_at.Goals as goal

pub index_mut-requires : goal.index_mut-requires
index_mut-requires c =
    let e = c.mark_of.ensures ∙ ap (λ (n : Node). mark_of n.key) (sym c.index-nodes-place.is) in
    let s = mark_small c.index-nodes-place.result.key in
    let w : vec_len c.loop-place.marks ≡ 2048 = c.loop-place.marks.ok.0 ∙ c.loop-place.invariant.whole in
    omega (arith, e, s, w)

pub loop-place-preserved : goal.loop-place-preserved
loop-place-preserved c =
    let m = marked_next c.args.nodes.now c.args.gone.now c.loop-place.place-index c.index-nodes-place.result c.mark_of.result c.loop-place.marks.items c.loop-place-test.true
    (c.requires c.loop-place.place-index c.loop-place-test.true) c.index-nodes-place.is (c.mark_of.ensures ∙ ap (λ (n : Node). mark_of n.key) (sym c.index-nodes-place.is)) c.loop-place.invariant.whole c.loop-place.invariant.marked in
    record { whole = m.0; marked = m.1 }

pub returns-clause-marked : goal.returns-clause-marked
returns-clause-marked c = λ k h. c.loop-place.invariant.marked k
    (has_from _ k (subst (λ (ps : List ℕ). Contains (gathered ps (nodes (seen c.args.nodes.now))) k) (sym (take_whole c.args.gone.now c.loop-place.place-index c.loop-place-test.false)) h))
