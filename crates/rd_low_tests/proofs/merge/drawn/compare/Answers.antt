use Rattle.std.proofs.Common.{sym, subst, List, []}
use Rattle.rd_keys.specs.declared.entry.EntryKey.{EntryKey}
use Rattle.rd_item.specs.Items.{Made}
use Rattle.rd_list.specs.Kept.{KeptList}
use Rattle.rd_list.specs.Wrappers.{Wrapper}
use Rattle.rd_low_tests.specs.DrawnLevels.{IsHeld, Spot}
use Rattle.rd_low_tests.specs.declared.merge.TheConstants.{INK}
use Rattle.rd_low_tests.proofs.DrawnLevels.{held_empty}
use Rattle.rd_low_tests.proofs.merge.drawn.compare.Goals as goal

pub loop-at-init : goal.loop-at-init
loop-at-init g c = record {
  held = subst (λ (ss : List Spot). IsHeld INK c.empty-kept.result ss) (sym c.new-spots.ensures.items)
      (subst (λ (k : KeptList EntryKey Wrapper Made). IsHeld INK k []) (sym c.empty-kept.ensures) (held_empty INK));
}
