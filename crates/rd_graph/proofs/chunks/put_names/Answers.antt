use Rattle.std.proofs.Common.{◌∙◌, ◌/◌, ◌<◌, ℕ, arith, length, subst}
use Rattle.rd_graph.specs.Internal.Chunks.{KeepsKinds}
use Rattle.rd_graph.proofs.Patches.Kinds.{names_left, names_put}
use Rattle.rd_graph.proofs.Patches.ListsAt.{get_same}
use Rattle.rd_graph.proofs.chunks.put_names.Goals as goal

pub returns-then-at-len : goal.returns-then-at-len
returns-then-at-len c = λ g told.
    let cs = c.args.chunks.now.items in
    let p = c.args.place in
    let new = c.with_kinds.result in
    let size = c.args.chunks.now.ok.0 in
    let count = c.len.ensures in
    let test = c.if-at-len.true in
    let l : p / 64 < length cs = omega (arith, size, count, test) in
    names_put cs g p c.args.names.now told new l (subst (λ (n : ℕ). KeepsKinds n new) (c.index.ensures ∙ get_same cs (p / 64) _ 0 l) c.with_kinds.ensures.keeps) c.with_kinds.ensures.has

pub returns-else-at-len : goal.returns-else-at-len
returns-else-at-len c = λ g told.
    let size = c.args.chunks.now.ok.0 in
    let count = c.len.ensures in
    let test = c.if-at-len.false in
    names_left c.args.chunks.now.items g c.args.place c.args.names.now told (omega (arith, size, count, test))
