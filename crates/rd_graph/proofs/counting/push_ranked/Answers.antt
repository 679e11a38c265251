use Rattle.std.proofs.Common.{refl}
use Rattle.std.proofs.lemmas.Result.{on_ok_weaker}
use Rattle.rd_graph.specs.Internal.Ranks.{spread}
use Rattle.rd_graph.proofs.LinedUp.ByRanks.Cuts.{first_cut}
use Rattle.rd_graph.proofs.LinedUp.ByRanks.RankParts.{put_none, put_last}
use Rattle.rd_graph.proofs.counting.push_ranked.Goals as goal

pub loop-cut-init : goal.loop-cut-init
loop-cut-init c = record {
  cut = first_cut c.args.what.places.now _;
  to = put_none c.args.what.places.now c.args.what.names.now c.args.what.stays.now c.args.what.nodes.now c.requires _ (spread c.args.runs.now.items) refl refl;
}

pub returns : goal.returns
returns c =
    on_ok_weaker c.push_staying.result
    (λ h. put_last c.args.what.places.now c.args.what.names.now c.args.what.stays.now c.args.what.nodes.now c.requires c.loop-cut.cut (spread c.args.runs.now.items) (spread c.loop-cut.runs.items) (spread c.push_staying.new.runs.items) c.loop-cut.invariant.cut
    c.loop-cut-test.false c.loop-cut.invariant.to h)
    c.push_staying.ensures
