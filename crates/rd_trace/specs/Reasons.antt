-- Why of two leaves the one is above the other. The words are this project's own choice.
use Rattle.std.specs.Prelude.{ℕ, nat_eq, Bool, not, if◌then◌else◌, List, [], ◌∷◌, reverse, int_lt, ◌||◌, Option, Some, None}
use Rattle.rd_keys.specs.Keys.{same_key}
use Rattle.rd_trace.specs.declared.placing.PaintStep.{PaintStep}
use Rattle.rd_trace.specs.declared.placing.PaintStep.TheVariants.{RootBackground, OwnBackground, NegativeLayers, BlockBackgrounds, Floats, InlineContext, BlockContents, ZeroLayers, PositiveLayers, Outlines}
use Rattle.rd_trace.specs.declared.placing.Placing.{Placing}
use Rattle.rd_trace.specs.declared.deciding.Reason.{Reason}
use Rattle.rd_trace.specs.declared.deciding.Reason.TheVariants.{Steps, Levels, Boxes, Inlines, Parts}
use Rattle.rd_trace.specs.Ways.{Traced}

-- CSS 2.2 Appendix E.2: the number of a step
abbrev pub number_of : PaintStep → ℕ
number_of RootBackground = 1
number_of OwnBackground = 2
number_of NegativeLayers = 3
number_of BlockBackgrounds = 4
number_of Floats = 5
number_of InlineContext = 6
number_of BlockContents = 7
number_of ZeroLayers = 8
number_of PositiveLayers = 9
number_of Outlines = 10

-- are they the same step?
abbrev pub same_step : Placing → Placing → Bool
same_step u l = nat_eq (number_of u.step) (number_of l.step)

-- is either at a lower level than the other?
abbrev pub differ_in_level : Placing → Placing → Bool
differ_in_level u l = int_lt u.level l.level || int_lt l.level u.level

-- What decides between two places in one box, the upper and the lower one: another step, another level in it, another box by
-- tree order, or another box in the line of one; None where they are the same.
abbrev pub differing : Placing → Placing → Option Reason
differing u l =
    if not (same_step u l) then Some (Steps u l) else
    if differ_in_level u l then Some (Levels u l) else
    if not (same_key u.line l.line) then Some (Boxes u l) else
    if not (same_key u.of l.of) then Some (Inlines u l) else None

-- a reason, or one from further in where there is none
abbrev pub or_further : Option Reason → Reason → Reason
or_further (Some r) further = r
or_further None further = further

-- what decides between two ways from the root inwards: the first place in which they differ; where there is none the
-- leaves are parts of one box
abbrev pub decided : List Placing → List Placing → Reason
decided [] ls = Parts
decided (u ∷ us) [] = Parts
decided (u ∷ us) (l ∷ ls) = or_further (differing u l) (decided us ls)

-- what decides between two leaves, the upper and the lower one
abbrev pub reason_of : Traced → Traced → Reason
reason_of upper lower = decided (reverse upper.way) (reverse lower.way)
