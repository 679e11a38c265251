use Rattle.std.proofs.Common.{◌≡◌, ◌∙◌, ap, subst, ℕ, List, length, get_or, ◌+◌, ◌-◌, arith}
use Rattle.std.specs.Prelude.{min}
use Rattle.std.proofs.lemmas.List.{get_or-replicate, length-replicate}
use Rattle.rd_graph.proofs.LinedUp.ByRanks.Cuts.{LeastSoFar, least_first, least_put, least_all}
use Rattle.rd_graph.proofs.regions.least_from.Goals as goal

pub loop-i-init : goal.loop-i-init
loop-i-init c =
    let ps = c.args.places.now in
    let items = c.in_ok-least.ensures.items_if_clones_equal (λ y h. h) in
    let e : length ps ≡ length ps - 0 = omega arith in
    record {
      so_far = subst (λ (k : ℕ). LeastSoFar ps c.args.end k c.in_ok-least.least.items) e
          (least_first ps c.args.end c.in_ok-least.least.items (ap (λ (xs : List ℕ). length xs) items ∙ length-replicate (length ps + 1) c.args.end)
          (ap (λ (xs : List ℕ). get_or xs (length ps) 0) items ∙ get_or-replicate (length ps + 1) (length ps) c.args.end 0 (omega arith)));
    }

pub loop-i-preserved : goal.loop-i-preserved
loop-i-preserved c = record { so_far = least_put c.args.places.now c.args.end c.loop-i.i c.loop-i.least.items c.min.result _ c.loop-i-test.true c.loop-i.invariant.so_far (c.min.ensures ∙ ap (λ (n : ℕ). min n (get_or c.args.places.now (length c.args.places.now - 1 - c.loop-i.i) 0)) c.index.ensures) }

pub returns : goal.returns
returns c =
    let l = c.loop-i-test.false in
    let e : length c.args.places.now - c.loop-i.i ≡ 0 = omega (arith, l) in
    least_all c.args.places.now c.args.end c.loop-i.least.items (subst (λ (k : ℕ). LeastSoFar c.args.places.now c.args.end k c.loop-i.least.items) e c.loop-i.invariant.so_far)
