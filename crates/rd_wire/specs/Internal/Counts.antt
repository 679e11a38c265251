-- What writing a list rests on.
use Rattle.std.specs.Prelude.{◌<◌, ◌^◌}
use Rattle.rd_item.specs.Items.{Made}
use Rattle.rd_list.specs.Wrappers.{Wrapper}
use Rattle.rd_list.specs.Entries.{Entries}
use Rattle.rd_wire.specs.Wires.{width, EachEntry}

-- the number of entries of each group fits 32 bits
abbrev pub CountsFit : Entries Wrapper Made → Type 0
CountsFit list = EachEntry (λ m. Unit {0}) (λ g inner. width inner < 2 ^ 32) list
