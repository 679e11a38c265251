use Rattle.std.proofs.Common.{ap, ◌∙◌, sym, ◌-◌, ◌++◌}
use Rattle.rd_graph.specs.Internal.Walks.{staying}
use Rattle.rd_graph.specs.Internal.Ranks.{alike, spread}
use Rattle.rd_graph.specs.Runs.{up_from}
use Rattle.rd_graph.proofs.Lists.Gatherings.{joins_on}
use Rattle.rd_graph.proofs.LinedUp.RunLines.{stretch_run}
use Rattle.rd_graph.proofs.LinedUp.ByRanks.RankedRuns.{alike_parts}
use Rattle.rd_graph.proofs.ranked.push_staying.Goals as goal

pub loop-place-preserved : goal.loop-place-preserved
loop-place-preserved c =
    let stays = c.args.stays.now in
    let rank = c.args.rank in
    let first = c.next_staying-first.result in
    let end = c.next_gone-end.result in
    let f = c.next_staying-first.ensures in
    let e = c.next_gone-end.ensures in
    let now = spread c.loop-place.runs.items in
    record {
      runs = joins_on now (spread c.push_ranked_run.new.runs.items) (alike rank (up_from first (end - first))) (alike rank (staying stays end (c.args.to - end))) _ c.in_ok-push_ranked_run.ensures
          (ap (λ ks. now ++ ks) (sym (ap (alike rank) (stretch_run stays c.loop-place.place first end c.args.to f.after e.after e.within f.before e.before) ∙ alike_parts rank (up_from first (end - first)) (staying stays end (c.args.to - end)))) ∙ c.loop-place.invariant.runs);
    }
