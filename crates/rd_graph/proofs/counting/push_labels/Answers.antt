use Rattle.std.proofs.Common.{refl, ap, ◌∙◌, cond, arith, ℕ, [], ◌∷◌, ◌++◌, ◌+◌, ◌-◌}
use Rattle.rd_keys.specs.declared.entry.EntryKey.{EntryKey}
use Rattle.rd_graph.specs.Internal.Tables.{label_in}
use Rattle.rd_graph.specs.Internal.Ranks.{labelled_ranks, spread}
use Rattle.rd_graph.proofs.LinedUp.ByRanks.CountedRanks.{part_next, part_end, labelled_one}
use Rattle.rd_graph.proofs.counting.push_labels.Goals as goal

pub loop-place-init : goal.loop-place-init
loop-place-init c = record { runs = refl }

pub loop-place-preserved : goal.loop-place-preserved
loop-place-preserved c =
    let met = c.args.region.from.met in
    let label : EntryKey → ℕ = label_in c.args.labels.now (c.args.region.to.met - met) in
    let place = c.loop-place.place in
    let l = c.loop-place-test.true in
    let to = c.requires.to in
    let now = spread c.loop-place.runs.items in
    record {
      runs = part_next (labelled_ranks met label c.args.nodes.now) c.args.stays.now c.args.region.to.place place (met + c.label-label.result) now (spread c.push_if.new.runs.items) _ l
          (labelled_one met label c.args.nodes.now place c.label-label.result c.index-nodes-place.result (omega (arith, l, to)) c.label-label.ensures) c.loop-place.invariant.runs
          (c.in_ok-push_if.ensures ∙ ap (λ b. now ++ cond b ((met + c.label-label.result, place) ∷ []) []) c.has.ensures.stays);
    }

pub returns : goal.returns
returns c =
    part_end (labelled_ranks c.args.region.from.met (label_in c.args.labels.now (c.args.region.to.met - c.args.region.from.met)) c.args.nodes.now) c.args.stays.now c.args.region.to.place c.loop-place.place (spread c.loop-place.runs.items) _ refl c.loop-place-test.false
    c.loop-place.invariant.runs
