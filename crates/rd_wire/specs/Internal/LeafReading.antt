-- Reading a leaf from the front of some bytes.
use Rattle.std.specs.Prelude.{ℕ, ℤ, pos, Option, Some, None, Bool, true, false, ◌&&◌, int_le, if◌then◌else◌}
use Rattle.std.specs.Int.{w64}
use Rattle.std.specs.Ordering.{int_eq}
use Rattle.rd_geom.specs.Plane.{Rectangle, right, bottom, has_none}
use Rattle.rd_geom.specs.declared.color.Color.{Color}
use Rattle.rd_item.specs.Items.{Made}
use Rattle.rd_keys.specs.Keys.{BoxKey}
use Rattle.rd_keys.specs.declared.entry.Part.{Part}
use Rattle.rd_wire.specs.Internal.Reading.{Reader, pair_at, made_at, number_at, rect_at, key_at, part_at, flag_at, color_at}

-- does a rectangle with a pixel lie in another one?
abbrev pub lies_in : Rectangle → Rectangle → Bool
lies_in a b = int_le b.x a.x && int_le b.y a.y && int_le (right a) (right b) && int_le (bottom a) (bottom b)

abbrev pub both_zero : ℤ → ℤ → Bool
both_zero a b = int_eq a (pos 0) && int_eq b (pos 0)

-- is it the one of four zeros, if it has no pixel?
abbrev pub is_plain : Rectangle → Bool
is_plain r = if has_none r then both_zero r.x r.y && both_zero r.w r.h else true

-- may a leaf be seen so?
abbrev pub is_seen : Rectangle → Rectangle → Rectangle → Rectangle → Bool
is_seen canvas visible outer inner = if has_none visible then false else lies_in visible outer && lies_in visible canvas && is_plain inner

unfoldable pub name_at : Reader (BoxKey × Part)
name_at bytes = pair_at key_at part_at bytes

abbrev pub allowed : Rectangle → Rectangle × (Rectangle × Rectangle) → Option (Rectangle × (Rectangle × Rectangle))
allowed canvas p = if is_seen canvas p.0 p.1.0 p.1.1 then Some p else None

unfoldable pub place_at : Rectangle → Reader (Rectangle × (Rectangle × Rectangle))
place_at canvas bytes = made_at (pair_at rect_at (pair_at rect_at rect_at)) (allowed canvas) bytes

unfoldable pub look_at : Reader (Color × (Bool × ℕ))
look_at bytes = pair_at color_at (pair_at flag_at (number_at w64)) bytes

abbrev pub item_of : (BoxKey × Part) × ((Rectangle × (Rectangle × Rectangle)) × (Color × (Bool × ℕ))) → Made
item_of p = record {
  leaf = record { owner = p.0.0; part = p.0.1; visible = p.1.0.0; shape = record { outer = p.1.0.1.0; inner = p.1.0.1.1 }; color = p.1.1.0; hits = p.1.1.1.0 };
  made_at = p.1.1.1.1;
}

unfoldable pub leaf_at : Rectangle → Reader Made
leaf_at canvas bytes = made_at (pair_at name_at (pair_at (place_at canvas) look_at)) (λ p. Some (item_of p)) bytes
