use Rattle.std.proofs.Common.{arith}
use Rattle.rd_graph.proofs.changing.put_note.Goals as goal

pub index_mut-requires : goal.index_mut-requires
index_mut-requires c = let ok = c.args.notes.now.ok in let l = c.requires in omega (arith, l, ok.0)
