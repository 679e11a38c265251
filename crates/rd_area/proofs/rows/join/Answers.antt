use Rattle.std.proofs.Common.{◌<◌, ◌≤◌, inl, inr, length, arith, rules, ⊎_elim}
use Rattle.rd_area.proofs.Spans.{room_left, others_more, joined_more}
use Rattle.rd_area.proofs.rows.join.Goals as goal

pub loop-y-preserved : goal.loop-y-preserved
loop-y-preserved c =
    let h : c.loop-y.y < length c.loop-y.rows.items = search rules in
    let f : c.args.from ≤ c.loop-y.y = search rules in
    record {
      size = c.loop-y.invariant.size;
      joined = joined_more c.args.rows.now.items c.loop-y.rows.items c.loop-y.y c.index_mut.result.now c.join.new.row c.args.from c.args.span h f
          c.index_mut.ensures.value c.join.ensures c.loop-y.invariant.others c.loop-y.invariant.joined;
      others = others_more c.args.rows.now.items c.loop-y.rows.items c.loop-y.y c.join.new.row c.args.from f c.loop-y.invariant.others;
      room = room_left c.loop-y.rows.items c.loop-y.y c.join.new.row c.args.to c.loop-y.invariant.room;
    }

pub returns-clause-others : goal.returns-clause-others
returns-clause-others c = λ y s. ⊎_elim (λ a. c.loop-y.invariant.others y (inl a)) (λ b.
    c.loop-y.invariant.others y (inr (omega (arith, b, c.loop-y.auto.y-end c.requires.order)))) s
