-- Pictures as Netpbm P6 has them (the ppm format, "plain" P6 with 255 as its greatest value).
use Rattle.std.specs.Prelude.{ℕ, List, [], ◌∷◌, ◌++◌, codes, decimal}
use Rattle.rd_geom.specs.Colors.{Premultiplied}

-- red, green and blue of each pixel; a canvas is opaque, so that premultiplied channels are plain ones
unfoldable pub rgb : List Premultiplied → List ℕ
rgb [] = []
rgb (p ∷ ps) = p.r ∷ p.g ∷ p.b ∷ rgb ps

-- Netpbm P6: the head with width, height and greatest value
unfoldable pub p6_head : ℕ → ℕ → List ℕ
p6_head width height = codes "P6\n" ++ (decimal width ++ (32 ∷ (decimal height ++ codes "\n255\n")))

-- Netpbm P6: the head, and then the pixels row by row from the top
abbrev pub p6_text : ℕ → ℕ → List Premultiplied → List ℕ
p6_text width height pixels = p6_head width height ++ rgb pixels
