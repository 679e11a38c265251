use Rattle.std.proofs.Common.{take, ◌+◌, sym, ◌∙◌}
use Rattle.std.proofs.lemmas.List.{get_or_default}
use Rattle.rd_graph.specs.Internal.Tables.{at}
use Rattle.rd_graph.proofs.Lists.Entries.{named_one}
use Rattle.rd_check.proofs.Searching.{front_more, twice_here, twice_not, twice_never}
use Rattle.rd_check.proofs.judging.first_twice.Goals as goal

pub returns-then-has-clause-found : goal.returns-then-has-clause-found
returns-then-has-clause-found c =
    twice_here c.args.names.now c.loop-i.i _ c.loop-i.invariant.none c.loop-i-test.true (get_or_default c.args.names.now c.loop-i.i _ _ c.loop-i-test.true)
    (sym (c.loop-i.invariant.known _) ∙ sym c.has.ensures ∙ c.if-has.true)

pub loop-i-preserved : goal.loop-i-preserved
loop-i-preserved c = record {
  known =
      named_one (take c.loop-i.i c.args.names.now) (take (c.loop-i.i + 1) c.args.names.now) _ c.loop-i.i (at c.loop-i.known) (at c.put.new.names)
      c.loop-i.invariant.known c.in_ok-put.ensures (front_more c.args.names.now c.loop-i.i _ c.loop-i-test.true (get_or_default c.args.names.now c.loop-i.i _ _ c.loop-i-test.true));
  none =
      twice_not c.args.names.now c.loop-i.i _ c.loop-i.invariant.none c.loop-i-test.true (get_or_default c.args.names.now c.loop-i.i _ _ c.loop-i-test.true)
      (sym (c.loop-i.invariant.known _) ∙ sym c.has.ensures ∙ c.if-has.false);
}

pub returns-clause-found : goal.returns-clause-found
returns-clause-found c = twice_never c.args.names.now c.loop-i.i c.loop-i.invariant.none c.loop-i-test.false
