use Rattle.rd_low_tests.proofs.SampleLists.{first_can, is_first}
use Rattle.rd_low_tests.proofs.merge.first.Goals as goal

pub merge-requires : goal.merge-requires
merge-requires g c = first_can c.args.one c.args.other c.args.outside c.args.inside _ c.requires.apart c.empty.result c.whole-list.result c.empty.ensures c.whole-list.ensures

pub returns-in-Ok : goal.returns-in-Ok
returns-in-Ok g c = is_first c.args.one c.args.other c.args.outside c.args.inside _ c.requires.apart c.empty.result c.in-Ok.kept c.whole-list.result c.empty.ensures c.whole-list.ensures c.in-Ok.ensures.merged
