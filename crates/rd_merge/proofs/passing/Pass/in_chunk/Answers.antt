use Rattle.std.proofs.Common.{◌≡◌, ◌+◌, true, arith}
use Rattle.rd_merge.proofs.Looks.{looked_on}
use Rattle.rd_merge.proofs.Quiet.{quiet_chunk, still_leaves}
use Rattle.rd_merge.proofs.passing.Pass.in_chunk.Goals as goal

pub returns-then-lacks : goal.returns-then-lacks
returns-then-lacks g c =
    let p = c.args.self.now in
    let touched = g.T.Touches.is_touched p.tree.now in
    let es = p.entries.now in
    let b = c.args.chunk.now in
    let names = p.names.now in
    let still : c.stands_still.result ≡ true = c.if-not-stands_still.false in
    record {
      looked = looked_on touched es names c.args.start (c.args.start + b.count) _ _ _ c.requires.noted.looked
          (quiet_chunk touched b.told.keys (c.stands_still.ensures.untouched still) names p.marks.now.pages.pages.items p.marks.now.pages.groups c.requires.pass.pages_marked (c.lacks.ensures c.if-lacks.true) es c.args.start b.count c.requires.pass.names_once c.requires.pass.entries_once c.requires.end
          (c.requires.told (c.stands_still.ensures.open still)).2 b.count (omega arith));
      chained = c.requires.noted.chained;
    }

pub between-requires-clause-still : goal.between-requires-clause-still
between-requires-clause-still g c =
    let p = c.args.self.now in
    let touched = g.T.Touches.is_touched p.tree.now in
    let b = c.args.chunk.now in
    let still : c.stands_still.result ≡ true = c.if-not-stands_still.false in
    λ t. still_leaves touched b.told.keys (c.stands_still.ensures.untouched still) p.entries.now c.args.start b.count c.requires.end (c.requires.told (c.stands_still.ensures.open still)).2
