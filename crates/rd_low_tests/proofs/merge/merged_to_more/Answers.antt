use Rattle.rd_low_tests.proofs.SampleLists.{more_can}
use Rattle.rd_low_tests.proofs.merge.merged_to_more.Goals as goal

pub merge-requires : goal.merge-requires
merge-requires g c = more_can c.args.one c.args.other c.args.outside c.args.inside _ c.requires.apart c.begun-kept.result c.late-second.result c.begun-kept.ensures c.late-second.ensures
