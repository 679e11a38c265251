use Rattle.std.proofs.Common.{◌∙◌, ◌<◌, length, rules}
use Rattle.rd_area.proofs.Spans.{spans_same, room_more}
use Rattle.rd_area.proofs.rows.reserve.Goals as goal

pub returns-in_err-reserve-clause-same : goal.returns-in_err-reserve-clause-same
returns-in_err-reserve-clause-same c =
    let h : c.loop-y.y < length c.loop-y.rows.items = search rules in
    spans_same c.loop-y.rows.items c.loop-y.y c.index_mut.result.now c.reserve.new.self h c.index_mut.ensures.value c.reserve.ensures.items
    ∙ c.loop-y.invariant.same

pub loop-y-preserved : goal.loop-y-preserved
loop-y-preserved c =
    let h : c.loop-y.y < length c.loop-y.rows.items = search rules in
    record {
      size = c.loop-y.invariant.size;
      same = spans_same c.loop-y.rows.items c.loop-y.y c.index_mut.result.now c.reserve.new.self h c.index_mut.ensures.value c.reserve.ensures.items
          ∙ c.loop-y.invariant.same;
      room = room_more c.loop-y.rows.items c.loop-y.y c.reserve.new.self c.args.from h c.in_ok-reserve.ensures.ok c.loop-y.invariant.room;
    }
