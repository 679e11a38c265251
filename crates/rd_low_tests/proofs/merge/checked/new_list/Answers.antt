use Rattle.rd_list.specs.EntryNames.{new_leaves}
use Rattle.rd_list.specs.NewView.{new_entries}
use Rattle.rd_low_tests.specs.DrawnLevels.{is_of}
use Rattle.rd_low_tests.specs.declared.merge.TheConstants.{INK}
use Rattle.rd_low_tests.proofs.DrawnLevels.{line_next}
use Rattle.rd_low_tests.proofs.merge.checked.new_list.Goals as goal

pub loop-spot-preserved : goal.loop-spot-preserved
loop-spot-preserved g c = record {
  all = line_next INK (is_of c.args.area.now) c.args.spots.now c.loop-spot.spot-index c.spot-item.result (new_leaves (new_entries c.loop-spot.entries.items)) (new_leaves (new_entries c.push_leaf.new.entries.items))
      c.is_among-is_wanted.result c.loop-spot-test.true c.spot-item.is c.loop-spot.invariant.all c.in_ok-push_leaf.ensures c.is_among-is_wanted.ensures;
}
