use Rattle.rd_list.specs.Unordered.{unordered}
use Rattle.rd_wire.specs.declared.wire.Wire.{Wire}
use Rattle.rd_wire.proofs.Spelling.{counts_fit}
use Rattle.rd_wire.proofs.writing.encode.Goals as goal

pub push_level-requires-clause-counts : goal.push_level-requires-clause-counts
push_level-requires-clause-counts g c =
    let w : Wire = record { size = c.args.size; list = unordered c.args.list.list.now.entries } in
    rw c.list.ensures (counts_fit w c.requires)
