use Rattle.std.proofs.Common.{◌+◌, ◌++◌, ◌∙◌, arith, inr}
use Rattle.std.proofs.lemmas.List.{length-append}
use Rattle.rd_graph.proofs.LinedUp.RunGathering.{run_more, outside_more}
use Rattle.rd_graph.proofs.moving.gather_run.Goals as goal

pub loop-i-preserved : goal.loop-i-preserved
loop-i-preserved g c =
    let inv = c.loop-i.invariant in
    let old = c.args.old.now.ok in
    let new = c.args.made.now.ok in
    let all = length-append c.args.old.now.items c.args.made.now.items in
    let within = c.requires.places c.loop-i.i c.loop-i-test.true in
    let len = c.push_reserved.ensures.len in
    let more = c.push_reserved.ensures.capacity in
    let from = c.args.run.from in
    let i = c.loop-i.i in
    record {
      moved = run_more from i (c.args.old.now.items ++ c.args.made.now.items) c.args.room.now.items c.loop-i.room.items c.push_reserved.new.self.items c.take_one.result (omega (arith, old.0, new.0, all, within))
          (c.take_one.ensures.taken ∙ inv.others.others (from + i) c.take_one.result (inr (omega arith))) inv.moved c.push_reserved.ensures.items;
      others = outside_more from i (c.args.old.now.items ++ c.args.made.now.items) (c.loop-i.old.items ++ c.loop-i.made.items) (c.take_one.new.old.items ++ c.take_one.new.made.items) inv.others c.take_one.ensures.kept;
      old = c.take_one.ensures.old ∙ inv.old;
      made = c.take_one.ensures.made ∙ inv.made;
      filled = omega (arith, len, inv.filled);
      roomy = omega (arith, more, inv.roomy);
    }
