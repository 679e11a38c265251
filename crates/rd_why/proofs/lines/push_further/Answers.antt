use Rattle.std.proofs.Common.{sym, ◌++◌, codes}
use Rattle.std.proofs.lemmas.List.{append-nil}
use Rattle.rd_why.specs.Lines.{place_text}
use Rattle.rd_why.proofs.Growing.{each_next}
use Rattle.rd_why.proofs.lines.push_further.Goals as goal

pub loop-p-init : goal.loop-p-init
loop-p-init g c = sym (append-nil _)

pub loop-p-preserved : goal.loop-p-preserved
loop-p-preserved g c =
    each_next (λ q. codes ", in " ++ place_text c.args.tree.now.boxes q) c.args.ps.now c.loop-p.p-index _ _ _ _
    c.loop-p-test.true c.loop-p.invariant c.in_ok-push_place_further.ensures
