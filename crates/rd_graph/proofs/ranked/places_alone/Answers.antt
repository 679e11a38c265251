use Rattle.std.proofs.Common.{◌∙◌, ap, ℕ, List, map}
use Rattle.std.proofs.lemmas.List.{take_all}
use Rattle.rd_graph.specs.Runs.{places_of}
use Rattle.rd_graph.specs.Internal.Ranks.{spread}
use Rattle.rd_graph.specs.declared.ranked.RankedRun.{RankedRun}
use Rattle.rd_graph.specs.declared.runs.Run.{Run}
use Rattle.rd_graph.proofs.LinedUp.ByRanks.RankedRuns.{seconds_more}
use Rattle.rd_graph.proofs.ranked.places_alone.Goals as goal

pub loop-run-init : goal.loop-run-init
loop-run-init c = record { all = ap (λ (rs : List Run). places_of rs) c.new-runs.ensures.items }

pub loop-run-preserved : goal.loop-run-preserved
loop-run-preserved c = record { all = seconds_more c.args.ranked.now c.loop-run.run-index _ (places_of c.loop-run.runs.items) (places_of c.push_places.new.runs.items) c.loop-run-test.true c.loop-run.invariant.all c.in_ok-push_places.ensures }

pub returns : goal.returns
returns c = c.in_ok-set_aside.ensures ∙ c.loop-run.invariant.all ∙ ap (λ (rs : List RankedRun). map (λ (p : ℕ × ℕ). p.1) (spread rs)) (take_all c.loop-run.run-index c.args.ranked.now c.loop-run-test.false)
