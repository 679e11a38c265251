use Rattle.std.proofs.Common.{◌-◌, arith, length, subst}
use Rattle.rd_graph.specs.Internal.Chunks.{HasKinds}
use Rattle.rd_graph.specs.Internal.Seen.{seen, seen_one}
use Rattle.rd_graph.proofs.Patches.Kinds.{along_one}
use Rattle.rd_graph.proofs.Patches.SeenAt.{seen_at, seen_length}
use Rattle.rd_graph.proofs.chunks.part_at.Goals as goal

pub returns-clause-told : goal.returns-clause-told
returns-clause-told c =
    let ns = c.args.nodes.now in
    let ms = c.args.made.now in
    let n = c.index-made-place.result in
    let p = c.args.place in
    let kinds = c.with_kinds.result in
    let size = seen_length ns in
    let below = c.if-place-nodes.false in
    let some = c.requires.some in
    let within = c.requires.within in
    along_one (seen ns) (seen ms) kinds p (p - length ns) (seen_one n) (omega (arith, size, below)) (seen_at ms (p - length ns) n (omega (arith, below, some, within)) c.index-made-place.is)
    (subst (HasKinds kinds) c.deref.ensures c.with_kinds.ensures.has)
