-- Lists in which each group has normal mode show what opacity groups alone show.
use Rattle.std.specs.Prelude.{◌≡◌, ℤ}
use Rattle.rd_geom.specs.Colors.{Premultiplied, laid_over, scaled, white, clear}
use Rattle.rd_geom.specs.declared.blend.Blend.TheVariants.{Normal}
use Rattle.rd_item.specs.declared.leaf.Leaf.{Leaf}
use Rattle.rd_list.specs.Wrappers.{Wrapper}
use Rattle.rd_list.specs.Entries.{Entries, nil, leaf, group}
use Rattle.rd_list.specs.Lists.{with_leaf, pixel}

-- this project's own form: each group has normal mode
abbrev pub AreNormal : Entries Wrapper Leaf → Type 0
AreNormal nil = Unit {0}
AreNormal (leaf l rest) = AreNormal rest
AreNormal (group g inner rest) = (g.blend ≡ Normal) × AreNormal inner × AreNormal rest

-- CSS Color 3 section 3.2: the pixel at x, y of a list over a backdrop; a group is composed on its own and then laid over with its opacity
abbrev pub layered : ℤ → ℤ → Premultiplied → Entries Wrapper Leaf → Premultiplied
layered x y d nil = d
layered x y d (leaf l rest) = layered x y (with_leaf x y l d) rest
layered x y d (group g inner rest) = layered x y (laid_over (scaled (layered x y clear inner) g.opacity) d) rest

-- such a list shows at each pixel what it would without blend modes
abbrev pub NormalPixels : Type 0
NormalPixels = (list : Entries Wrapper Leaf) (x y : ℤ) → AreNormal list → pixel list x y ≡ layered x y white list
