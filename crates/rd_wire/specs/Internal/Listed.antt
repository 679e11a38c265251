-- What a contract sees of the entries of a wire.
use Rattle.std.specs.Prelude.{List, [], ◌∷◌}
use mathlib.Core.Logic.{inl, inr}
use Rattle.rd_item.specs.Items.{Made}
use Rattle.rd_list.specs.Wrappers.{Wrapper}
use Rattle.rd_list.specs.Entries.{Entries, nil}
use Rattle.rd_wire.specs.Internal.Ones.{One, below}
use Rattle.rd_wire.specs.declared.wire.WireEntry.{WireEntry}
use Rattle.rd_wire.specs.declared.wire.WireEntry.TheVariants.{Leaf, Group}

-- one entry
abbrev pub one_of : WireEntry → One
one_of (Leaf owner part visible shape color hits made) =
    inl (record { leaf = record { owner = owner; part = part; visible = visible; shape = shape; color = color; hits = hits }; made_at = made })
one_of (Group key opacity blend inner) = inr (record { key = key; opacity = opacity; blend = blend }, inner)

abbrev pub listed : List WireEntry → Entries Wrapper Made
listed [] = nil
listed (e ∷ rest) = below (one_of e) (listed rest)
