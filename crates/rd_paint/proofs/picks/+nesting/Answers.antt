use Rattle.std.proofs.Common.{◌+◌, length, drop, arith, rules, ap}
use Rattle.std.proofs.lemmas.List.{drop_all}
use Rattle.rd_paint.specs.Internal.Picks.{chosen, picked}
use Rattle.rd_paint.proofs.Depths.{levels_by, join_least}
use Rattle.rd_paint.proofs.Picking.{picked-none, chosen_alone, chosen_within}
use Rattle.rd_paint.proofs.picks.+nesting.Goals as goal

pub depth_of-loop-i-init : goal.depth_of-loop-i-init
depth_of-loop-i-init t c = record { at = omega arith; within = omega arith; deep = λ es m h k. h }

pub depth_of-loop-i-preserved : goal.depth_of-loop-i-preserved
depth_of-loop-i-preserved t c = record {
  at = c.pick_at.ensures.within;
  within = omega (arith, c.depth_at.ensures.within, c.loop-i.invariant.within, c.max-most.ensures);
  deep = λ es m h k.
      let one = c.depth_at.ensures.deep c.pick_at.result.0 es in
      let parts = levels_by _ _ (c.pick_at.ensures.parts es) in
      let both = join_least (chosen c.pick_at.result.1.now c.pick_at.result.0 es) (picked (drop (c.loop-i.i + 1 + length c.pick_at.result.1.now) c.args.picks.now) es) m (omega (arith, one, k, c.max-most.ensures)) h in
      c.loop-i.invariant.deep es m (omega (arith, parts, both)) (omega (arith, k, c.max-most.ensures));
}

pub depth_of-returns-clause-deep : goal.depth_of-returns-clause-deep
depth_of-returns-clause-deep t c = λ es.
    let none = levels_by _ _ (ap (λ qs. picked qs es) (drop_all c.loop-i.i c.args.picks.now c.loop-i-test.false)) in
    let e = levels_by _ _ (picked-none es) in
    c.loop-i.invariant.deep es (c.loop-i.most + 1) (omega (arith, none, e)) (omega arith)

pub depth_at-returns-then-is_empty-clause-deep : goal.depth_at-returns-then-is_empty-clause-deep
depth_at-returns-then-is_empty-clause-deep t c = λ place es. chosen_alone c.args.own.now (search rules) place es

pub depth_at-returns-clause-deep : goal.depth_at-returns-clause-deep
depth_at-returns-clause-deep t c = λ place es. chosen_within c.args.own.now c.depth_of.result c.depth_of.ensures.deep place es
