use Rattle.std.proofs.Common.{sym, subst, ℕ, ◌<◌, List, length}
use Rattle.std.specs.Prelude.{Contains}
use Rattle.rd_keys.specs.declared.entry.EntryKey.{EntryKey}
use Rattle.rd_graph.specs.Internal.Trimming.{HasMark}
use Rattle.rd_graph.proofs.Lists.Listing.{has_from, contains_from}
use Rattle.rd_graph.proofs.Patches.AskedPlaces.{lists_next, take_lists}
use Rattle.rd_graph.proofs.asking.marks_asked.Goals as goal

pub loop-list-preserved : goal.loop-list-preserved
loop-list-preserved c =
    let marked : 1 < length c.list-item.result.1.items → (k : EntryKey) → Contains c.list-item.result.1.items k → HasMark c.mark_list.new.marks.items k =
    subst (λ (ks : List EntryKey). 1 < length ks → (k : EntryKey) → Contains ks k → HasMark c.mark_list.new.marks.items k) c.deref.ensures c.mark_list.ensures.marked
    in
    record {
      whole = c.mark_list.ensures.whole;
      asked = λ l h. lists_next c.args.lists.now c.loop-list.list-index c.list-item.result c.loop-list.marks.items c.mark_list.new.marks.items c.loop-list-test.true
          (λ m n. c.loop-list.invariant.asked m (contains_from _ m n)) c.mark_list.ensures.kept
          (subst (λ z. 1 < length z.1.items → (k : EntryKey) → Contains z.1.items k → HasMark c.mark_list.new.marks.items k) c.list-item.is marked) l (has_from _ l h);
    }

pub returns : goal.returns
returns c = λ l h. c.loop-list.invariant.asked l
    (subst (λ (ls : List (ℕ × List EntryKey)). Contains ls l) (sym (take_lists c.args.lists.now c.loop-list.list-index c.loop-list-test.false)) h)
