-- The answer in JSON, for programs. The format is this project's own choice. Ids have no character that JSON escapes.
use Rattle.std.specs.Prelude.{ℕ, ℤ, Bool, true, false, not, ◌&&◌, ◌||◌, if◌then◌else◌, List, [], ◌∷◌, ◌++◌, codes, decimal, reverse, Option, Some, None}
use Rattle.std.specs.Fmt.{signed_decimal}
use Rattle.rd_keys.specs.Keys.{BoxKey}
use Rattle.rd_item.specs.declared.leaf.Leaf.{Leaf}
use Rattle.rd_list.specs.Wrappers.{Wrapper}
use Rattle.rd_tree.specs.Document.{BoxForest, Document}
use Rattle.rd_report.specs.Words.{id_text, part_text}
use Rattle.rd_trace.specs.declared.placing.Placing.{Placing}
use Rattle.rd_trace.specs.declared.deciding.Reason.{Reason}
use Rattle.rd_trace.specs.declared.deciding.Reason.TheVariants.{Steps, Levels, Boxes, Inlines, Parts}
use Rattle.rd_trace.specs.Ways.{Traced, takes_hit, hit_of}
use Rattle.rd_trace.specs.Traces.{traced}
use Rattle.rd_trace.specs.Reasons.{number_of, reason_of}
use Rattle.rd_why.specs.declared.words.Question.{Question}
use Rattle.rd_why.specs.Wording.{blend_name}
use Rattle.rd_why.specs.Lines.{why_lines}

-- a truth value
abbrev pub bool_text : Bool → List ℕ
bool_text true = codes "true"
bool_text false = codes "false"

-- whether a leaf takes the hit, and whether it is hit, where a leaf above it was found that takes it or not
unfoldable pub leaf_hit : Bool → Bool → List ℕ
leaf_hit found takes = codes ",\"takes_hit\":" ++ bool_text takes ++ codes ",\"hit\":" ++ bool_text (takes && not found)

-- a comma, where something follows
abbrev pub comma : {A : Type 0} → List A → List ℕ
comma [] = []
comma (x ∷ xs) = codes ","

module _ (boxes : BoxForest) where
  -- an id as a string
  abbrev pub quoted : BoxKey → List ℕ
  quoted k = codes "\"" ++ id_text k boxes ++ codes "\""

  -- a place
  unfoldable pub place_json : Placing → List ℕ
  place_json p =
      codes "{\"step\":" ++ decimal (number_of p.step) ++ codes ",\"context\":" ++ quoted p.context
      ++ codes ",\"line\":" ++ quoted p.line ++ codes ",\"box\":" ++ quoted p.of
      ++ (codes ",\"level\":" ++ signed_decimal p.level ++ codes "}")

  -- places
  abbrev pub places_json : List Placing → List ℕ
  places_json [] = []
  places_json (p ∷ ps) = place_json p ++ comma ps ++ places_json ps

  -- a group
  abbrev pub group_json : Wrapper → List ℕ
  group_json g =
      codes "{\"box\":" ++ quoted g.key ++ codes ",\"opacity\":" ++ decimal g.opacity
      ++ codes ",\"blend\":\"" ++ blend_name g.blend ++ codes "\"}"

  -- groups
  abbrev pub groups_json : List Wrapper → List ℕ
  groups_json [] = []
  groups_json (g ∷ gs) = group_json g ++ comma gs ++ groups_json gs

  -- a reason with the two places that differ
  unfoldable pub differing_json : List ℕ → Placing → Placing → List ℕ
  differing_json word u l =
      codes "{\"by\":\"" ++ word ++ codes "\",\"upper\":" ++ place_json u ++ codes ",\"lower\":" ++ place_json l ++ codes "}"

  -- a reason
  abbrev pub reason_json : Reason → List ℕ
  reason_json (Steps u l) = differing_json (codes "step") u l
  reason_json (Levels u l) = differing_json (codes "level") u l
  reason_json (Boxes u l) = differing_json (codes "tree") u l
  reason_json (Inlines u l) = differing_json (codes "line") u l
  reason_json Parts = codes "{\"by\":\"part\"}"

  -- why a leaf is above the next, where there is one
  abbrev pub above_json : Traced → List Traced → List ℕ
  above_json t [] = codes "null"
  above_json t (u ∷ us) = reason_json (reason_of t u)

  -- the box and the part of a leaf
  unfoldable pub leaf_head : Leaf → List ℕ
  leaf_head l = codes "{\"box\":" ++ quoted l.owner ++ codes ",\"part\":\"" ++ part_text l.part ++ codes "\""

  -- its way and its groups
  unfoldable pub leaf_lies : List Placing → List Wrapper → List ℕ
  leaf_lies way groups = codes ",\"way\":[" ++ places_json way ++ codes "],\"groups\":[" ++ groups_json groups ++ codes "]"

  -- a leaf above others, where a leaf above it was found that takes the hit or not
  abbrev pub leaf_json : Bool → Traced → List Traced → List ℕ
  leaf_json found t ts =
      leaf_head t.leaf ++ leaf_lies t.way t.groups ++ leaf_hit found (takes_hit t)
      ++ codes ",\"above_next\":" ++ above_json t ts ++ codes "}"

  -- leaves, the topmost first
  abbrev pub leaves_json : Bool → List Traced → List ℕ
  leaves_json found [] = []
  leaves_json found (t ∷ ts) = leaf_json found t ts ++ comma ts ++ leaves_json (found || takes_hit t) ts

  -- an id as a string, where there is one
  abbrev pub quoted_or_null : Option BoxKey → List ℕ
  quoted_or_null None = codes "null"
  quoted_or_null (Some k) = quoted k

  -- the whole answer
  abbrev pub why_json : ℤ → ℤ → List Traced → List ℕ
  why_json x y ts =
      codes "{\"x\":" ++ signed_decimal x ++ codes ",\"y\":" ++ signed_decimal y ++ codes ",\"hit\":" ++ quoted_or_null (hit_of ts)
      ++ codes ",\"leaves\":[" ++ leaves_json false ts ++ codes "]}\n"

-- the answer to a question about the leaves over its pixel, the topmost first
abbrev pub told : Question → BoxForest → List Traced → List ℕ
told q boxes ts = if q.json then why_json boxes q.x q.y ts else why_lines boxes q.x q.y ts

-- the leaves that cover the pixel of a question, the topmost first, each with its way
abbrev pub from_top : Question → Document → List Traced
from_top q t = reverse (traced q.x q.y t)

-- the answer to a question about a tree
abbrev pub why_text : Question → Document → List ℕ
why_text q t = told q t.boxes (from_top q t)
