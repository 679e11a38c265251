use Rattle.std.proofs.Common.{◌∙◌, ap, sym, subst, List}
use Rattle.std.specs.Prelude.{Contains}
use Rattle.rd_keys.specs.declared.entry.EntryKey.{EntryKey}
use Rattle.rd_graph.specs.Internal.Relisting.{mark_of}
use Rattle.rd_graph.proofs.Lists.Listing.{has_from}
use Rattle.rd_graph.proofs.Patches.AskedPlaces.{mark_fits, mark_next}
use Rattle.rd_graph.proofs.Patches.Marks.{take_whole}
use Rattle.rd_graph.proofs.asking.mark_names.Goals as goal

pub loop-name-init : goal.loop-name-init
loop-name-init c = record { whole = c.requires; kept = λ i h. h; marked = λ k h. absurd h }

pub index_mut-requires : goal.index_mut-requires
index_mut-requires c = mark_fits _ _ _ c.mark_of.ensures (c.loop-name.marks.ok.0 ∙ c.loop-name.invariant.whole)

pub loop-name-preserved : goal.loop-name-preserved
loop-name-preserved c =
    let m = mark_next c.args.names.now c.loop-name.name-index _ c.mark_of.result c.args.marks.now.items c.loop-name.marks.items c.loop-name-test.true (c.mark_of.ensures ∙ ap (λ (k : EntryKey). mark_of k) (c.name.view_is ∙ c.name-item.is))
    c.loop-name.invariant.whole c.loop-name.invariant.kept c.loop-name.invariant.marked in
    record { whole = m.0; kept = m.1; marked = m.2 }

pub returns-clause-marked : goal.returns-clause-marked
returns-clause-marked c = λ k h. c.loop-name.invariant.marked k
    (has_from _ k (subst (λ (ks : List EntryKey). Contains ks k) (sym (take_whole c.args.names.now c.loop-name.name-index c.loop-name-test.false)) h))
