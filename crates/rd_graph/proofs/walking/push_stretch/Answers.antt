use Rattle.std.proofs.Common.{◌∙◌, ap, sym, ◌-◌, ◌++◌}
use Rattle.rd_graph.specs.Internal.Walks.{staying}
use Rattle.rd_graph.specs.Runs.{places_of, up_from}
use Rattle.rd_graph.proofs.Lists.Gatherings.{joins_on}
use Rattle.rd_graph.proofs.LinedUp.RunLines.{stretch_run}
use Rattle.rd_graph.proofs.walking.push_stretch.Goals as goal

pub loop-place-preserved : goal.loop-place-preserved
loop-place-preserved c =
    let stays = c.args.stays.now in
    let first = c.next_staying-first.result in
    let end = c.next_gone-end.result in
    let f = c.next_staying-first.ensures in
    let e = c.next_gone-end.ensures in
    let now = places_of c.loop-place.line.items in
    record {
      line = joins_on now (places_of c.push_run.new.runs.items) (up_from first (end - first)) (staying stays end (c.args.to - end)) _ c.in_ok-push_run.ensures
          (ap (λ ks. now ++ ks) (sym (stretch_run stays c.loop-place.place first end c.args.to f.after e.after e.within f.before e.before)) ∙ c.loop-place.invariant.line);
    }
