-- Where each group has normal mode, groups are laid over.
use Rattle.std.proofs.Common.{◌≡◌, refl, ap, ◌∙◌, ℤ}
use Rattle.rd_geom.specs.Blends.{blended}
use Rattle.rd_geom.specs.Colors.{Premultiplied, laid_over, scaled, white, clear}
use Rattle.rd_geom.specs.declared.blend.Blend.{Blend}
use Rattle.rd_item.specs.declared.leaf.Leaf.{Leaf}
use Rattle.rd_list.specs.Wrappers.{Wrapper}
use Rattle.rd_list.specs.Entries.{Entries, nil, leaf, group}
use Rattle.rd_list.specs.Lists.{with_leaf, composed}
use Rattle.rd_list.specs.NormalModes.{AreNormal, layered, NormalPixels}

composed-layered : (x y : ℤ) (d : Premultiplied) (xs : Entries Wrapper Leaf) → AreNormal xs → composed x y d xs ≡ layered x y d xs
composed-layered x y d nil h = refl
composed-layered x y d (leaf l xs) h = composed-layered x y (with_leaf x y l d) xs h
composed-layered x y d (group g inner xs) h =
    let mode = ap (λ (m : Blend). composed x y (blended m (scaled (composed x y clear inner) g.opacity) d) xs) h.0 in
    let own = ap (λ (c : Premultiplied). composed x y (laid_over (scaled c g.opacity) d) xs) (composed-layered x y clear inner h.1) in
    mode ∙ own ∙ composed-layered x y (laid_over (scaled (layered x y clear inner) g.opacity) d) xs h.2

pub normal_pixels : NormalPixels
normal_pixels = λ list x y h. composed-layered x y white list h
