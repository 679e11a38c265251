use Rattle.rd_low_tests.proofs.SampleLists.{part_can}
use Rattle.rd_low_tests.proofs.merge.merged_twice.Goals as goal

pub merge-requires : goal.merge-requires
merge-requires g c = part_can c.args.one c.args.other c.args.outside c.args.inside _ c.requires.apart c.begun-kept.result c.part-second.result c.begun-kept.ensures c.part-second.ensures
