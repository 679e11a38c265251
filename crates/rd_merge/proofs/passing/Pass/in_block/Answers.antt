use Rattle.std.proofs.Common.{◌≡◌, ◌∙◌, ◌+◌, true, ap, arith, ℕ}
use Rattle.std.proofs.lemmas.Result.{IfOk-weaker}
use Rattle.rd_merge.proofs.Looks.{looked_on}
use Rattle.rd_merge.proofs.Quiet.{quiet_chunk}
use Rattle.rd_merge.proofs.passing.Pass.in_block.Goals as goal

pub returns-then-lacks-clause-noted : goal.returns-then-lacks-clause-noted
returns-then-lacks-clause-noted g c =
    let p = c.args.self.now in
    let touched = g.T.Touches.is_touched p.tree.now in
    let es = p.entries.now in
    let b = c.args.block.now in
    let names = p.names.now in
    let still = c.if-stands_still.true in
    record {
      looked = looked_on touched es names c.args.start (c.args.start + b.count) _ _ _ c.requires.noted.looked
          (quiet_chunk touched b.told.keys (c.stands_still.ensures.untouched still) names p.marks.now.pages.pages.items p.marks.now.pages.groups c.requires.pass.pages_marked (c.lacks.ensures c.if-lacks.true) es c.args.start b.count c.requires.pass.names_once c.requires.pass.entries_once c.requires.end
          (c.requires.told (c.stands_still.ensures.open still)).2 b.count (omega arith));
      chained = c.requires.noted.chained;
    }

pub returns : goal.returns
returns g c = record {
  end = IfOk-weaker c.in_chunks.result _ _ (λ n e. e ∙ ap (λ (m : ℕ). c.args.start + m) c.requires.total) c.in_chunks.ensures.end;
  noted = c.in_chunks.ensures.noted;
}
