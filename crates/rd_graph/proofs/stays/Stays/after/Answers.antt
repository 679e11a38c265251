use Rattle.std.proofs.Common.{◌≡◌, ◌∙◌, ◌/◌, ◌<◌, ap, arith, length, sym, get_or}
use Rattle.rd_graph.specs.Internal.Walks.{stays_at}
use Rattle.rd_graph.proofs.LinedUp.StayBits.{clear_word, stay_count, stays_by}
use Rattle.rd_graph.proofs.Patches.ListsAt.{get_same}
use Rattle.rd_graph.proofs.stays.Stays.after.Goals as goal

pub index-requires : goal.index-requires
index-requires c =
    let v = c.self.invariant in
    let l = c.requires.place in
    let m = c.requires.end in
    let e = stay_count c.self.inside.gone.items 0 c.self.inside.count in
    let w = ap length c.self.view_is in
    omega (arith, v, l, m, e, w)

pub returns-then-index-eq0-clause-stay : goal.returns-then-index-eq0-clause-stay
returns-then-index-eq0-clause-stay c = λ p a b.
    let ws = c.self.inside.gone.items in
    let at = c.args.place in
    let v = c.self.invariant in
    let l = c.requires.place in
    let m = c.requires.end in
    let e = stay_count ws 0 c.self.inside.count in
    let w = ap length c.self.view_is in
    let k = c.self.inside.gone.ok.0 in
    let t = c.chunk_end.ensures.within in
    let within : at / 64 < length ws = omega (arith, v, l, m, e, w, k) in
    let there : p < c.self.inside.count = omega (arith, b, t, m, e, w) in
    let zero : get_or ws (at / 64) 0 ≡ 0 = sym (c.index.ensures ∙ get_same ws (at / 64) _ 0 within) ∙ c.if-index-eq0.true in
    sym (ap (λ s. stays_at s p) c.self.view_is) ∙ stays_by ws c.self.inside.count p there ∙ clear_word ws p (ap (λ i. get_or ws i 0) (c.chunk_end.ensures.one p a b) ∙ zero)
