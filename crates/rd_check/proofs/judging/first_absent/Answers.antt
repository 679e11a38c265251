use Rattle.std.proofs.Common.{sym, ◌∙◌}
use Rattle.rd_check.specs.Internal.Finding as finding
use Rattle.rd_check.specs.Internal.Sights.{found_name}
use Rattle.rd_check.proofs.Searching.{passed, hit, ended}
use Rattle.rd_check.proofs.judging.first_absent.Goals as goal

pub returns-then-is_absent-clause-found : goal.returns-then-is_absent-clause-found
returns-then-is_absent-clause-found c =
    hit (finding.is_none_of c.args.names.now) found_name c.args.leaves.now c.loop-i.i c.index-leaves-i.result c.loop-i.invariant c.loop-i-test.true c.index-leaves-i.is
    (sym c.is_absent.ensures ∙ c.if-is_absent.true)

pub loop-i-preserved : goal.loop-i-preserved
loop-i-preserved c =
    passed (finding.is_none_of c.args.names.now) found_name c.args.leaves.now c.loop-i.i c.index-leaves-i.result c.loop-i.invariant c.loop-i-test.true c.index-leaves-i.is
    (sym c.is_absent.ensures ∙ c.if-is_absent.false)

pub returns-clause-found : goal.returns-clause-found
returns-clause-found c = ended (finding.is_none_of c.args.names.now) found_name c.args.leaves.now c.loop-i.i c.loop-i.invariant c.loop-i-test.false
