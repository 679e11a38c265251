use Rattle.std.proofs.Common.{◌∙◌, ◌/◌, ◌<◌, ap, arith, length}
use Rattle.std.specs.Int.Bits.{bit_or}
use Rattle.rd_graph.proofs.Patches.Kinds.{put_there}
use Rattle.rd_graph.proofs.Patches.ListsAt.{get_same}
use Rattle.rd_graph.proofs.chunks.put_kinds.Goals as goal

pub returns-then-at-len : goal.returns-then-at-len
returns-then-at-len c = λ g end one has told.
    let cs = c.args.chunks.now.items in
    let p = c.args.place in
    let size = c.args.chunks.now.ok.0 in
    let count = c.len.ensures in
    let test = c.if-at-len.true in
    let l : p / 64 < length cs = omega (arith, size, count, test) in
    put_there cs g p end c.args.kinds one has told _ l (ap (λ n. bit_or n c.args.kinds) (c.index_mut.ensures.value ∙ get_same cs (p / 64) _ 0 l))
