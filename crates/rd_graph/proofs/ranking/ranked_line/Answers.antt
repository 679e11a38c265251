use Rattle.std.proofs.Common.{ap, ◌∙◌, sym, subst, Some, List, ℕ, map}
use Rattle.std.proofs.lemmas.Result.{IfOk-weaker}
use Rattle.rd_graph.specs.Patches.{IsArranged}
use Rattle.rd_graph.specs.Internal.Seen.{seen}
use Rattle.rd_graph.specs.Internal.Ranks.{spread}
use Rattle.rd_graph.specs.declared.ranked.RankedRun.{RankedRun}
use Rattle.rd_graph.proofs.LinedUp.ByRanks.RankedMerges.{ranked_by, rankable, count_places}
use Rattle.rd_graph.proofs.ranking.ranked_line.Goals as goal

pub sorted_runs-requires-clause-places : goal.sorted_runs-requires-clause-places
sorted_runs-requires-clause-places c =
    count_places c.args.change.removed.now c.args.change.chain.now c.args.change.old_places.now c.args.nodes.now c.requires.can c.requires.sound c.in_ok-stays.stays c.args.places.now c.in_ok-stays.ensures.count
    c.in_ok-stays.ensures.stays c.requires.places

pub sorted_runs-requires-clause-what : goal.sorted_runs-requires-clause-what
sorted_runs-requires-clause-what c =
    rankable c.args.change.removed.now c.args.change.chain.now c.args.change.old_places.now c.args.nodes.now c.requires.can c.requires.sound c.in_ok-stays.stays c.args.places.now c.in_ok-stays.ensures.count
    c.in_ok-stays.ensures.stays c.requires.places

pub returns : goal.returns
returns c =
    IfOk-weaker c.places_alone.result _ _
    (λ v e. subst (λ ps. IsArranged c.args.change.removed.now c.args.change.chain.now c.args.change.old_places.now (seen c.args.nodes.now) (Some ps))
    (sym (e ∙ ap (λ (rs : List RankedRun). map (λ (x : ℕ × ℕ). x.1) (spread rs)) c.deref.ensures.value))
    (ranked_by c.args.change.removed.now c.args.change.chain.now c.args.change.old_places.now c.args.nodes.now c.requires.can c.requires.sound c.in_ok-stays.stays c.args.places.now c.in_ok-stays.ensures.count
    c.in_ok-stays.ensures.stays c.requires.places (spread c.in_ok-runs.runs.items) c.in_ok-runs.ensures))
    c.places_alone.ensures
