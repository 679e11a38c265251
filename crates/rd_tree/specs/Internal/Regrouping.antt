-- Edits before what they regroup is touched, and what the code asks of boxes for that. Touching has the table.
use Rattle.std.specs.Prelude.{Bool, false, not, Option}
use Rattle.std.specs.Option.{option_map_or}
use Rattle.rd_style.specs.declared.styles.StyleChange.{StyleChange}
use Rattle.rd_style.specs.Classes.{real, blended, is_normal}
use Rattle.rd_tree.specs.Document.{Document, BoxKey, Item}
use Rattle.rd_tree.specs.Changes.{Change, after}
use Rattle.rd_tree.specs.Touching.{reached_by, with_marks}
use Rattle.rd_tree.specs.Internal.Links.{Node}

-- the tree after a change, with what the change reaches marked
abbrev pub marked_reached : Change → Document → Document
marked_reached c t = with_marks (reached_by c t) (after c t)

-- Is the box of a node blended?
abbrev pub is_blended_under : Option (Node BoxKey Item) → Bool
is_blended_under o = option_map_or (λ n. blended n.item.style) o false

-- Does the box of a node make a stacking context, where it is not the root?
abbrev pub is_context_under : Option (Node BoxKey Item) → Bool
is_context_under o = option_map_or (λ n. real n.item.style false) o false

-- Does a change of style name a mode other than normal?
abbrev pub names_blended : StyleChange → Bool
names_blended c = option_map_or (λ b. not (is_normal b)) c.blend false
