use Rattle.std.proofs.Common.{◌∙◌, ◌/◌, ◌%◌, ◌<◌, ◌==◌, ap, arith, length, sym}
use Rattle.std.specs.Int.{bit_at}
use Rattle.std.proofs.lemmas.Nat.Bits.{shr_and_one}
use Rattle.rd_graph.specs.Internal.Walks.{stays_at}
use Rattle.rd_graph.proofs.LinedUp.StayBits.{stays_by, stays_past}
use Rattle.rd_graph.proofs.Patches.ListsAt.{get_same}
use Rattle.rd_graph.proofs.stays.Stays.has.Goals as goal

pub returns-then-self-place-clause-stays : goal.returns-then-self-place-clause-stays
returns-then-self-place-clause-stays c =
    let l = c.if-self-place.true in
    sym (stays_past c.self.inside.gone.items c.self.inside.count c.args.place (omega (arith, l))) ∙ ap (λ s. stays_at s c.args.place) c.self.view_is

pub returns-clause-stays : goal.returns-clause-stays
returns-clause-stays c =
    let ws = c.self.inside.gone.items in
    let p = c.args.place in
    let v = c.self.invariant in
    let l = c.if-self-place.false in
    let k = c.self.inside.gone.ok.0 in
    let within : p / 64 < length ws = omega (arith, v, l, k) in
    ap (λ b. b == 0) (shr_and_one c.index.result.now (p % 64))
    ∙ ap (λ w. bit_at w (p % 64) == 0) (c.index.ensures ∙ get_same ws (p / 64) _ 0 within)
    ∙ sym (stays_by ws c.self.inside.count p (omega (arith, l)))
    ∙ ap (λ s. stays_at s p) c.self.view_is
