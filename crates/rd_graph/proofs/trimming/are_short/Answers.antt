use Rattle.std.proofs.Common.{◌<◌, ℕ, List, sym, subst, length, arith}
use Rattle.std.specs.Prelude.{Contains}
use Rattle.smallvec.specs.SmallVec.{SmallVec}
use Rattle.rd_keys.specs.declared.entry.EntryKey.{EntryKey}
use Rattle.rd_graph.proofs.Patches.AskedPlaces.{short_next, take_lists}
use Rattle.rd_graph.proofs.Lists.Listing.{has_from}
use Rattle.rd_graph.proofs.trimming.are_short.Goals as goal

pub loop-list-preserved : goal.loop-list-preserved
loop-list-preserved c =
    let few = c.if-len-gt1.false in
    let size = c.len.ensures.value in
    let here : length c.list-item.result.1.items < 2 = omega (arith, few, size) in
    record {
      short = short_next c.args.lists.now c.loop-list.list-index c.list-item.result c.loop-list-test.true c.loop-list.invariant.short
          (subst (λ (z : ℕ × SmallVec EntryKey). length z.1.items < 2) c.list-item.is here);
    }

pub returns : goal.returns
returns c = λ t l h. c.loop-list.invariant.short l
    (has_from _ l (subst (λ (ls : List (ℕ × List EntryKey)). Contains ls l) (sym (take_lists c.args.lists.now c.loop-list.list-index c.loop-list-test.false)) h))
