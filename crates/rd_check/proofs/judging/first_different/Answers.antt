use Rattle.std.proofs.Common.{sym, ◌∙◌}
use Rattle.rd_check.specs.Internal.Finding as finding
use Rattle.rd_check.specs.Internal.Rounds.{ways_in}
use Rattle.rd_check.specs.Internal.Sights.{sight_of}
use Rattle.rd_check.proofs.Searching.{passed, hit, ended}
use Rattle.rd_check.proofs.judging.first_different.Goals as goal

pub returns-then-is_different-clause-found : goal.returns-then-is_different-clause-found
returns-then-is_different-clause-found c =
    hit (finding.is_different (ways_in c.args.fresh.now)) sight_of c.args.seen.now c.loop-i.i c.index-seen-i.result c.loop-i.invariant c.loop-i-test.true c.index-seen-i.is
    (sym c.is_different.ensures ∙ c.if-is_different.true)

pub loop-i-preserved : goal.loop-i-preserved
loop-i-preserved c =
    passed (finding.is_different (ways_in c.args.fresh.now)) sight_of c.args.seen.now c.loop-i.i c.index-seen-i.result c.loop-i.invariant c.loop-i-test.true c.index-seen-i.is
    (sym c.is_different.ensures ∙ c.if-is_different.false)

pub returns-clause-found : goal.returns-clause-found
returns-clause-found c = ended (finding.is_different (ways_in c.args.fresh.now)) sight_of c.args.seen.now c.loop-i.i c.loop-i.invariant c.loop-i-test.false
