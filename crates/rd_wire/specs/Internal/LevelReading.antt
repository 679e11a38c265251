-- Reading lists and wires from the front of some bytes.
use Rattle.std.specs.Prelude.{ℕ, zero, suc, pos, List, [], ◌∷◌, Option, Some, None, Bool, true, false, ◌&&◌, ◌==◌, nat_le, if◌then◌else◌}
use mathlib.Core.Logic.{inl, inr}
use Rattle.std.specs.Int.{w16, w32}
use Rattle.rd_geom.specs.Plane.{Rectangle}
use Rattle.rd_geom.specs.declared.blend.Blend.{Blend}
use Rattle.rd_geom.specs.Canvas.{canvas_of}
use Rattle.rd_geom.specs.declared.rect.Size.{Size}
use Rattle.rd_keys.specs.Keys.{BoxKey}
use Rattle.rd_item.specs.Items.{Made}
use Rattle.rd_list.specs.Wrappers.{Wrapper}
use Rattle.rd_list.specs.Entries.{Entries, nil, is_empty}
use Rattle.rd_wire.specs.Figures.{max_groups}
use Rattle.rd_wire.specs.declared.wire.Wire.{Wire}
use Rattle.rd_wire.specs.Internal.Reading.{Reader, ◌>>=◌, pair_at, made_at, byte_at, number_at, key_at, mode_at}
use Rattle.rd_wire.specs.Internal.Ones.{One, below}
use Rattle.rd_wire.specs.Internal.LeafReading.{leaf_at}

abbrev pub head_of : BoxKey × (ℕ × Blend) → Wrapper
head_of p = record { key = p.0; opacity = p.1.0; blend = p.1.1 }

unfoldable pub head_at : Reader Wrapper
head_at bytes = made_at (pair_at key_at (pair_at byte_at mode_at)) (λ p. Some (head_of p)) bytes

abbrev pub filled : Entries Wrapper Made → Option (Entries Wrapper Made)
filled list = if is_empty list then None else Some list

unfoldable pub leaf_one_at : Rectangle → Reader One
leaf_one_at canvas bytes = made_at (leaf_at canvas) (λ m. Some (inl m)) bytes

unfoldable pub group_one_at : Reader (Entries Wrapper Made) → Reader One
group_one_at inside bytes = made_at (pair_at head_at inside) (λ g. Some (inr g)) bytes

module _ (canvas : Rectangle) where
  module _ (inside : Reader (Entries Wrapper Made)) where
    -- behind the first byte of an entry
    unfoldable pub one_at : ℕ → Reader One
    one_at zero bytes = None
    one_at (suc zero) bytes = leaf_one_at canvas bytes
    one_at (suc (suc zero)) bytes = group_one_at inside bytes
    one_at (suc (suc (suc n))) bytes = None

    unfoldable pub entry_at : Reader One
    entry_at bytes = byte_at bytes >>= λ t. one_at t.0 t.1

    -- so many entries
    unfoldable pub entries_at : ℕ → Reader (Entries Wrapper Made)
    entries_at zero bytes = Some (nil, bytes)
    entries_at (suc n) bytes = made_at (pair_at entry_at (entries_at n)) (λ p. Some (below p.0 p.1)) bytes

    unfoldable pub level_at : Reader (Entries Wrapper Made)
    level_at bytes = number_at w32 bytes >>= λ n. entries_at n.0 n.1

  -- the list of a group, where so many groups may still stand round it
  unfoldable pub inside_at : ℕ → Reader (Entries Wrapper Made)
  inside_at zero bytes = None
  inside_at (suc groups) bytes = made_at (level_at (inside_at groups)) filled bytes

-- may a canvas be so wide or high?
abbrev pub is_side : ℕ → Bool
is_side n = nat_le 1 n && nat_le n 4096

abbrev pub size_of : ℕ × ℕ → Option Size
size_of p = if is_side p.0 && is_side p.1 then Some (record { w = pos p.0; h = pos p.1 }) else None

unfoldable pub size_at : Reader Size
size_at bytes = made_at (pair_at (number_at w16) (number_at w16)) size_of bytes

-- behind the letters
unfoldable pub letters_at : Reader (Unit {0})
letters_at bytes = made_at (pair_at (pair_at byte_at byte_at) (pair_at byte_at byte_at)) (λ p. if p.0.0 == 82 && p.0.1 == 68 && p.1.0 == 76 && p.1.1 == 49 then Some tt else None) bytes

-- the list of a canvas
unfoldable pub list_at : Size → Reader (Entries Wrapper Made)
list_at s bytes = level_at (canvas_of s) (inside_at (canvas_of s) max_groups) bytes

-- a wire with any names
unfoldable pub wire_at : Reader Wire
wire_at bytes = letters_at bytes >>= λ l. size_at l.1 >>= λ s. list_at s.0 s.1 >>= λ e. Some (record { size = s.0; list = e.0 }, e.1)

abbrev pub is_nil : List ℕ → Bool
is_nil [] = true
is_nil (b ∷ bytes) = false

-- all of the bytes
unfoldable pub whole_wire : List ℕ → Option Wire
whole_wire bytes = wire_at bytes >>= λ w. if is_nil w.1 then Some w.0 else None
