-- Blend modes: how a colour is put onto its backdrop. How products are rounded is this project's own choice.
use Rattle.std.specs.Prelude.{ℕ, ◌+◌, ◌-◌, ◌==◌, min, max, if◌then◌else◌}
use Rattle.rd_geom.specs.Colors.{Premultiplied, times, laid_over}
use Rattle.rd_geom.specs.declared.blend.Blend.{Blend}
use Rattle.rd_geom.specs.declared.blend.Blend.TheVariants.{Normal, Multiply, Screen, Darken, Lighten}

-- CSS Compositing 1 section 10.1: a channel s of a source and a channel d of a backdrop, at the opacities of both
abbrev pub channel : Blend → ℕ → ℕ → ℕ → ℕ → ℕ
channel Normal s d source backdrop = s + times d (255 - source)
channel Multiply s d source backdrop = times s d + times s (255 - backdrop) + times d (255 - source)
channel Screen s d source backdrop = s + d - times s d
channel Darken s d source backdrop = s + d - max (times s backdrop) (times d source)
channel Lighten s d source backdrop = s + d - min (times s backdrop) (times d source)

-- CSS Compositing 1 section 5.1: the opacity of a source over a backdrop
abbrev pub joint : Premultiplied → Premultiplied → ℕ
joint s d = s.a + times d.a (255 - s.a)

-- CSS Compositing 1 section 10.1: each channel mixed, and at most the opacity
abbrev pub mixed : Blend → Premultiplied → Premultiplied → Premultiplied
mixed Normal s d = laid_over s d
mixed m s d = record {
  r = min (channel m s.r d.r s.a d.a) (joint s d);
  g = min (channel m s.g d.g s.a d.a) (joint s d);
  b = min (channel m s.b d.b s.a d.a) (joint s d);
  a = joint s d;
}

-- CSS Compositing 1 section 10.1: a source put onto a backdrop. One without opacity leaves it, which `mixed` gives too where no channel exceeds its opacity
abbrev pub blended : Blend → Premultiplied → Premultiplied → Premultiplied
blended Normal s d = laid_over s d
blended m s d = if s.a == 0 then d else mixed m s d
