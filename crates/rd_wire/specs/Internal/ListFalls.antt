-- No group's list is as large as the whole.
use Rattle.std.specs.Prelude.{◌≤◌, List, [], ◌∷◌}
use Rattle.std.proofs.Common.{arith}
use denote.Param.Weighed.{most}
use Rattle.rd_list.specs.Entries.{list_size}
use Rattle.rd_wire.specs.Internal.Listed.{listed}
use Rattle.rd_wire.specs.declared.wire.WireEntry.{WireEntry}
use Rattle.rd_wire.specs.declared.wire.WireEntry.TheVariants.{Leaf, Group}
use Rattle.rd_wire.specs.declared.wire.WireList.TheDeep.{deep-WireEntry}

pub most_le-list_size : (es : List WireEntry) → most deep-WireEntry es ≤ list_size (listed es)
most_le-list_size [] = omega arith
most_le-list_size (Leaf owner part visible shape color hits made ∷ rest) = omega (arith, most_le-list_size rest)
most_le-list_size (Group k o m inner ∷ rest) = omega (arith, most_le-list_size rest)
