use Rattle.std.proofs.Common.{◌∙◌, sym, ap}
use Rattle.std.specs.List.{filter}
use Rattle.rd_low_tests.specs.DrawnLevels.{is_not_of}
use Rattle.rd_low_tests.proofs.DrawnLevels.{filter_again}
use Rattle.rd_low_tests.proofs.merge.checked.edited.Goals as goal

pub loop-spot-init : goal.loop-spot-init
loop-spot-init c = record { all = sym (ap (filter (is_not_of c.args.touched.now)) c.in_ok-all.ensures ∙ filter_again (is_not_of c.args.touched.now) c.args.spots.now) }
