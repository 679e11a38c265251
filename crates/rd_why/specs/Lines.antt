-- The answer in lines, for people. The format is this project's own choice.
use Rattle.std.specs.Prelude.{ℕ, ℤ, Bool, true, false, ◌||◌, if◌then◌else◌, List, [], ◌∷◌, ◌++◌, codes, decimal, flat_map, Option, Some, None}
use Rattle.std.specs.Fmt.{signed_decimal}
use Rattle.rd_keys.specs.Keys.{BoxKey, same_key}
use Rattle.rd_list.specs.Wrappers.{Wrapper}
use Rattle.rd_tree.specs.Document.{BoxForest}
use Rattle.rd_report.specs.Words.{id_text, part_text}
use Rattle.rd_trace.specs.declared.placing.Placing.{Placing}
use Rattle.rd_trace.specs.declared.deciding.Reason.{Reason}
use Rattle.rd_trace.specs.declared.deciding.Reason.TheVariants.{Steps, Levels, Boxes, Inlines, Parts}
use Rattle.rd_trace.specs.Ways.{Traced, takes_hit, hit_of}
use Rattle.rd_trace.specs.Reasons.{number_of, reason_of}
use Rattle.rd_why.specs.Wording.{step_name}

-- which leaf is hit: the first from the top that takes the hit
abbrev pub hit_text : Bool → Bool → List ℕ
hit_text found false = codes "takes no hit"
hit_text false true = codes "is hit"
hit_text true true = codes "would be hit"

module _ (boxes : BoxForest) where
  -- in whose line a box stands, where it is not that box itself
  abbrev pub line_text : Placing → List ℕ
  line_text p = if same_key p.line p.of then [] else codes " in the line of " ++ id_text p.line boxes

  -- a step of a box
  abbrev pub place_text : Placing → List ℕ
  place_text p =
      codes "step " ++ decimal (number_of p.step) ++ codes " (" ++ step_name p.step ++ codes ") of "
      ++ id_text p.context boxes ++ line_text p

  -- the places from the leaf's own box outwards
  abbrev pub way_text : List Placing → List ℕ
  way_text [] = []
  way_text (p ∷ ps) = place_text p ++ flat_map (λ q. codes ", in " ++ place_text q) ps

  -- a group further out
  abbrev pub group_further : Wrapper → List ℕ
  group_further g = codes " in that of " ++ id_text g.key boxes

  -- a group, and those round it
  abbrev pub some_groups : Wrapper → List Wrapper → List ℕ
  some_groups g gs = codes "in the group of " ++ id_text g.key boxes ++ flat_map group_further gs

  -- the groups from the inside out
  abbrev pub groups_text : List Wrapper → List ℕ
  groups_text [] = codes "in no group"
  groups_text (g ∷ gs) = some_groups g gs

  -- a leaf, where a leaf above it was found that takes the hit or not
  abbrev pub leaf_line : Bool → Traced → List ℕ
  leaf_line found t =
      id_text t.leaf.owner boxes ++ codes " " ++ part_text t.leaf.part ++ codes ": " ++ way_text t.way ++ codes "; "
      ++ groups_text t.groups ++ codes "; " ++ hit_text found (takes_hit t) ++ codes "\n"

  -- another step
  abbrev pub steps_text : Placing → Placing → List ℕ
  steps_text u l =
      id_text u.context boxes ++ codes " paints step " ++ decimal (number_of u.step) ++ codes " (" ++ id_text u.of boxes
      ++ codes ") after step " ++ decimal (number_of l.step) ++ codes " (" ++ id_text l.of boxes ++ codes ")"

  -- another level
  abbrev pub levels_text : Placing → Placing → List ℕ
  levels_text u l =
      id_text u.context boxes ++ codes " paints level " ++ signed_decimal u.level ++ codes " (" ++ id_text u.of boxes
      ++ codes ") after level " ++ signed_decimal l.level ++ codes " (" ++ id_text l.of boxes ++ codes ")"

  -- another box
  abbrev pub boxes_text : Placing → Placing → List ℕ
  boxes_text u l =
      id_text u.context boxes ++ codes " paints " ++ id_text u.line boxes ++ codes " after " ++ id_text l.line boxes
      ++ codes " in step " ++ decimal (number_of u.step) ++ codes ", by tree order"

  -- another box in the line of one
  abbrev pub inlines_text : Placing → Placing → List ℕ
  inlines_text u l =
      id_text u.context boxes ++ codes " paints " ++ id_text u.of boxes ++ codes " after " ++ id_text l.of boxes
      ++ codes " in the line of " ++ id_text u.line boxes ++ codes ", by tree order"

  -- why a leaf is above the next
  abbrev pub reason_text : Reason → List ℕ
  reason_text (Steps u l) = steps_text u l
  reason_text (Levels u l) = levels_text u l
  reason_text (Boxes u l) = boxes_text u l
  reason_text (Inlines u l) = inlines_text u l
  reason_text Parts = codes "a box paints its background, then its border, then its content"

  -- the line between a leaf and those below it
  abbrev pub between : Traced → List Traced → List ℕ
  between t [] = []
  between t (u ∷ us) = codes "  above the next: " ++ reason_text (reason_of t u) ++ codes "\n"

  -- the lines of leaves, the topmost first
  abbrev pub leaf_lines : Bool → List Traced → List ℕ
  leaf_lines found [] = []
  leaf_lines found (t ∷ ts) = leaf_line found t ++ between t ts ++ leaf_lines (found || takes_hit t) ts

  -- the id of a box, where there is one
  abbrev pub id_or_none : Option BoxKey → List ℕ
  id_or_none None = codes "none"
  id_or_none (Some k) = id_text k boxes

  -- the whole answer
  abbrev pub why_lines : ℤ → ℤ → List Traced → List ℕ
  why_lines x y ts =
      codes "pixel " ++ signed_decimal x ++ codes " " ++ signed_decimal y ++ codes ": hit " ++ id_or_none (hit_of ts) ++ codes "\n"
      ++ leaf_lines false ts
