use Rattle.std.proofs.Common.{◌∙◌, ◌/◌, ap, arith, length, set, sym}
use Rattle.rd_graph.specs.Internal.Walks.{stays_at}
use Rattle.rd_graph.proofs.LinedUp.StayBits.{set_here, set_other, stay_count, stays_by, stays_other, word_there}
use Rattle.rd_graph.proofs.Patches.ListsAt.{get_same}
use Rattle.rd_graph.proofs.stays.Stays.take.Goals as goal

pub index-requires : goal.index-requires
index-requires c =
    let there = word_there c.self.inside.gone.items c.self.inside.count c.args.place _ c.self.invariant c.self.view_is c.requires in
    let l = there.1 in
    let k = c.self.inside.gone.ok.0 in
    omega (arith, l, k)

pub index_mut-requires : goal.index_mut-requires
index_mut-requires c =
    let there = word_there c.self.inside.gone.items c.self.inside.count c.args.place _ c.self.invariant c.self.view_is c.requires in
    let l = there.1 in
    let k = c.self.inside.gone.ok.0 in
    omega (arith, l, k)

pub returns-clause-len : goal.returns-clause-len
returns-clause-len c =
    let n = c.self.inside.count in
    stay_count (set c.self.inside.gone.items (c.args.place / 64) c.with_bit.result) 0 n ∙ sym (stay_count c.self.inside.gone.items 0 n) ∙ ap length c.self.view_is

pub returns-clause-here : goal.returns-clause-here
returns-clause-here c =
    let ws = c.self.inside.gone.items in
    let p = c.args.place in
    let there = word_there ws c.self.inside.count p _ c.self.invariant c.self.view_is c.requires in
    stays_by (set ws (p / 64) c.with_bit.result) c.self.inside.count p there.0 ∙ set_here ws p c.with_bit.result there.1 c.with_bit.ensures.set

pub returns-clause-others : goal.returns-clause-others
returns-clause-others c = λ p d.
    let ws = c.self.inside.gone.items in
    let q = c.args.place in
    let within = (word_there ws c.self.inside.count q _ c.self.invariant c.self.view_is c.requires).1 in
    stays_other (set ws (q / 64) c.with_bit.result) ws c.self.inside.count p (set_other ws q c.with_bit.result within c.index.result.now (c.index.ensures ∙ get_same ws (q / 64) _ 0 within) c.with_bit.ensures.others p d)
    ∙ ap (λ s. stays_at s p) c.self.view_is
