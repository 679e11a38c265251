use Rattle.std.proofs.Common.{sym, ◌∙◌}
use Rattle.rd_check.specs.Internal.Finding as finding
use Rattle.rd_check.specs.Internal.Sights.{sight_of}
use Rattle.rd_check.proofs.Searching.{passed, hit, ended}
use Rattle.rd_check.proofs.judging.first_extra.Goals as goal

pub returns-then-is_extra-clause-found : goal.returns-then-is_extra-clause-found
returns-then-is_extra-clause-found c =
    hit finding.is_extra sight_of c.args.seen.now c.loop-i.i c.index-seen-i.result c.loop-i.invariant c.loop-i-test.true c.index-seen-i.is
    (sym c.is_extra.ensures ∙ c.if-is_extra.true)

pub loop-i-preserved : goal.loop-i-preserved
loop-i-preserved c =
    passed finding.is_extra sight_of c.args.seen.now c.loop-i.i c.index-seen-i.result c.loop-i.invariant c.loop-i-test.true c.index-seen-i.is
    (sym c.is_extra.ensures ∙ c.if-is_extra.false)

pub returns-clause-found : goal.returns-clause-found
returns-clause-found c = ended finding.is_extra sight_of c.args.seen.now c.loop-i.i c.loop-i.invariant c.loop-i-test.false
