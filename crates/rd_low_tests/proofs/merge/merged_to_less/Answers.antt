use Rattle.rd_low_tests.proofs.SampleLists.{less_can}
use Rattle.rd_low_tests.proofs.merge.merged_to_less.Goals as goal

pub merge-requires : goal.merge-requires
merge-requires g c = less_can c.args.one c.args.other c.args.outside c.args.inside _ c.requires.apart c.begun-kept.result c.empty.result c.begun-kept.ensures c.empty.ensures
