-- The words of answers. The format is this project's own choice.
use Rattle.std.specs.Prelude.{ℕ, List, codes}
use Rattle.rd_geom.specs.declared.blend.Blend.{Blend}
use Rattle.rd_geom.specs.declared.blend.Blend.TheVariants.{Normal, Multiply, Screen, Darken, Lighten}
use Rattle.rd_trace.specs.declared.placing.PaintStep.{PaintStep}
use Rattle.rd_trace.specs.declared.placing.PaintStep.TheVariants.{RootBackground, OwnBackground, NegativeLayers, BlockBackgrounds, Floats, InlineContext, BlockContents, ZeroLayers, PositiveLayers, Outlines}

-- CSS 2.2 Appendix E.2: what a step paints
abbrev pub step_name : PaintStep → List ℕ
step_name RootBackground = codes "background of the root"
step_name OwnBackground = codes "its background and border"
step_name NegativeLayers = codes "layers of negative level"
step_name BlockBackgrounds = codes "backgrounds and borders of blocks"
step_name Floats = codes "floats"
step_name InlineContext = codes "inline box and its line"
step_name BlockContents = codes "contents and lines"
step_name ZeroLayers = codes "layers of level 0"
step_name PositiveLayers = codes "layers of positive level"
step_name Outlines = codes "outlines"

-- CSS Compositing 1 section 10.1: the word of a blend mode
abbrev pub blend_name : Blend → List ℕ
blend_name Normal = codes "normal"
blend_name Multiply = codes "multiply"
blend_name Screen = codes "screen"
blend_name Darken = codes "darken"
blend_name Lighten = codes "lighten"
