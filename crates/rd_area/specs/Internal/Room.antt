-- The room of the rows.
use Rattle.std.specs.Prelude.{ℕ, ◌-◌, List, map, get_or, Vec, vec_len, vec_capacity}
use Rattle.std.specs.declared.alloc.Global.{Global}
use Rattle.rd_geom.specs.declared.span.Span.{Span}

-- how many spans more a row can take without memory
abbrev pub room_at : List (Vec Span Global) → ℕ → ℕ
room_at rows y = get_or (map (λ r. vec_capacity r - vec_len r) rows) y 0
