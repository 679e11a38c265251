use Rattle.std.proofs.Common.{subst, List, ℕ}
use Rattle.rd_graph.specs.Internal.Seen.{seen}
use Rattle.rd_graph.specs.Internal.Ranks.{fixed, spread, PutsRanked}
use Rattle.rd_graph.proofs.LinedUp.ByRanks.RankedRuns.{same_spread, sorted_spread, stable_spread}
use Rattle.rd_graph.proofs.ranking.sorted_runs.Goals as goal

pub returns : goal.returns
returns c =
    let all = c.push_nodes.new.runs.items in
    let sorted = c.sort.new.runs.items in
    let by = c.in_ok-sort.ensures in
    record {
      before = spread all;
      put = subst (λ (ps : List (ℕ × ℕ)). PutsRanked (fixed c.args.stays.now c.args.places.now c.args.chain.now) c.args.stays.now (seen c.args.nodes.now) ps (spread all)) c.in_ok-runs.ensures c.in_ok-push_nodes.ensures;
      same = same_spread all sorted by.same by.sorted by.stable;
      sorted = sorted_spread all sorted by.same by.sorted by.stable;
      stable = stable_spread all sorted by.same by.sorted by.stable;
    }
