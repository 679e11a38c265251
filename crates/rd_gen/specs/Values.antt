-- The values that a generated script draws. Which they are is this project's own choice.
use Rattle.std.specs.Prelude.{ℕ, ℤ, pos, ◌+◌, ◌==◌, if◌then◌else◌}
use Rattle.rd_geom.specs.Plane.{Rectangle}
use Rattle.rd_geom.specs.declared.color.Color.{Color}
use Rattle.rd_gen.specs.Draws.{Drawing, below, below_less, give, ◌>>=◌}

-- the rectangle draws: x, y, w and h
unfoldable pub rectangle : Drawing Rectangle
rectangle = do
  x ← below_less 288 32
  y ← below_less 288 32
  w ← below 65
  h ← below 65
  give (record { x = x; y = y; w = pos w; h = pos h })

-- the alpha of a colour: opaque three times of four
unfoldable pub alpha : Drawing ℕ
alpha = do
  o ← below 4
  if o == 0 then below 256 else give 255

-- the colour draws: red, green, blue and alpha
unfoldable pub color : Drawing Color
color = do
  red ← below 256
  green ← below 256
  blue ← below 256
  a ← alpha
  give (record { r = red; g = green; b = blue; a = a })

-- a z-index from -2 to 2
abbrev pub z_index : Drawing ℤ
z_index = below_less 5 2

-- an opacity from 64 on, of n
unfoldable pub opacity : ℕ → Drawing ℕ
opacity n = do
  v ← below n
  give (64 + v)
