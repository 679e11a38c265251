use Rattle.std.proofs.Common.{length, arith}
use Rattle.rd_check.proofs.Judged.{few_names, some_below, titles_once, told_twice, pass_twice}
use Rattle.rd_check.proofs.judging.judge.Goals as goal

pub overflow_cast-result : goal.overflow_cast-result
overflow_cast-result c =
    let w = some_below c.in_ok-twice.twice c.in-Some.i (length c.as_slice-names.result.now) c.in_ok-twice.ensures.within c.in-Some.is in
    let k = few_names c.args.entries.now c.in_ok-all.all.items c.as_slice-names.result.now c.in-Some.i c.in_ok-all.ensures c.as_slice-names.ensures.value w c.requires.few in
    omega (arith, k)

pub judge_known-requires-clause-differ : goal.judge_known-requires-clause-differ
judge_known-requires-clause-differ c =
    titles_once c.in_ok-all.all.items c.as_slice-names.result.now c.in_ok-twice.twice c.as_slice-names.ensures.value c.in_ok-twice.ensures.found c.in-None.is

pub returns-in-Some : goal.returns-in-Some
returns-in-Some c =
    told_twice c.args.entries.now c.args.fresh.now c.in_ok-all.all.items c.as_slice-names.result.now c.in_ok-twice.twice c.in-Some.i c.in_ok-all.ensures c.as_slice-names.ensures.value
    c.in_ok-twice.ensures.found c.in-Some.is

pub returns-in-None : goal.returns-in-None
returns-in-None c =
    pass_twice c.args.entries.now c.args.fresh.now c.in_ok-all.all.items c.as_slice-names.result.now c.in_ok-twice.twice c.judge_known.result c.in_ok-all.ensures
    c.as_slice-names.ensures.value c.in_ok-twice.ensures.found c.in-None.is c.judge_known.ensures
