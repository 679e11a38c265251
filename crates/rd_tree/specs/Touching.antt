-- Which boxes a change touches, and so what a paint looks at anew. The table is this project's own choice.
use Rattle.std.specs.Prelude.{Bool, true, false, ◌&&◌, ◌||◌, if◌then◌else◌}
use Rattle.std.specs.Option.{option_map_or}
use Rattle.rd_style.specs.Classes.{clips, blended}
use Rattle.rd_style.specs.Changes.{whole, names_any, names_class}
use Rattle.rd_keys.specs.Keys.{same_key}
use Rattle.rd_tree.specs.Forest.{map_where, has, children, in_subtree, item_of}
use Rattle.rd_tree.specs.Document.{Document, BoxKey, Item}
use Rattle.rd_tree.specs.Contexts.{context_of, context_round, in_context, holds_blended}
use Rattle.rd_tree.specs.Changes.{Change, insertion, removal, moving, styling, placing, shifting, scrolling, after}

-- Does this hold of the item of a box, where there is one?
abbrev pub holds_of : (Item → Bool) → BoxKey → Document → Bool
holds_of p k t = option_map_or p (item_of same_key k t.boxes) false

-- Is the box j reached by a change of the tree t? A new box is; so are all boxes of a subtree that is taken away, moved or
-- shifted, or whose classes, levels or clips may follow from the change; else the one box of which a member is named.
-- Another scroll offset of a box that clips reaches all boxes below it, but not the box.
abbrev pub reached_by : Change → Document → BoxKey → Bool
reached_by (insertion p before k d) t j = same_key j k
reached_by (removal k) t j = in_subtree same_key j k t.boxes
reached_by (moving k p before) t j = in_subtree same_key j k t.boxes
reached_by (styling k c) t j =
    holds_of (λ d. if whole d.style (same_key k t.root) c then in_subtree same_key j k t.boxes
    else names_any c && same_key j k) k t
reached_by (placing k r) t j =
    holds_of (λ d. if clips d.style (same_key k t.root) then in_subtree same_key j k t.boxes
    else same_key j k) k t
reached_by (shifting k dx dy) t j = in_subtree same_key j k t.boxes
reached_by (scrolling k s) t j =
    holds_of (λ d. clips d.style (same_key k t.root) && has same_key j (children same_key k t.boxes)) k t

-- Does a change regroup the box j? A blended box that comes, goes or changes, or that comes, goes or changes with a box
-- above it, may make the stacking context round it a group, or no group: so the subtrees of the contexts before and after
-- are regrouped. The root is left out, since it is grouped by its own style.
abbrev pub regrouped_by : Change → Document → BoxKey → Bool
regrouped_by (insertion p before k d) t j = blended d.style && in_context (context_of p t) t j
regrouped_by (removal k) t j = holds_blended k t && in_context (context_round k t) t j
regrouped_by (moving k p before) t j =
    holds_blended k t && (in_context (context_round k t) t j || in_context (context_of p t) t j)
regrouped_by (styling k c) t j =
    names_class c && (holds_blended k t || holds_blended k (after (styling k c) t))
    && in_context (context_round k t) t j
regrouped_by (placing k r) t j = false
regrouped_by (shifting k dx dy) t j = false
regrouped_by (scrolling k s) t j = false

-- A change touches the boxes that it reaches and those that it regroups.
abbrev pub touched_by : Change → Document → BoxKey → Bool
touched_by c t j = reached_by c t j || regrouped_by c t j

-- a box that is touched, as it is from a change to the next paint
abbrev pub touch : Item → Item
touch d = record d { touched = true }

-- a box that is touched no more
abbrev pub settled : Item → Item
settled d = record d { touched = false }

-- with these boxes marked as touched
abbrev pub with_marks : (BoxKey → Bool) → Document → Document
with_marks p t = record t { boxes = map_where p touch t.boxes }

-- the tree after a change, with all that the change touches marked
abbrev pub edited : Change → Document → Document
edited c t = with_marks (touched_by c t) (after c t)
