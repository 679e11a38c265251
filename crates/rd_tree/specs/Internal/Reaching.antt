-- How far a change of one box reaches, as the code asks it. Touching has the table.
use Rattle.std.specs.Prelude.{Bool, false, ◌||◌, if◌then◌else◌, Option}
use Rattle.std.specs.Option.{option_map_or}
use Rattle.rd_geom.specs.Plane.{Rectangle}
use Rattle.rd_style.specs.declared.styles.Style.{Style}
use Rattle.rd_style.specs.declared.styles.StyleChange.{StyleChange}
use Rattle.rd_style.specs.Classes.{clips}
use Rattle.rd_style.specs.Changes.{whole, names_any}
use Rattle.rd_keys.specs.Keys.{same_key}
use Rattle.rd_tree.specs.declared.reach.Reach.{Reach}
use Rattle.rd_tree.specs.declared.reach.Reach.TheVariants.{Nothing, Alone, Subtree}
use Rattle.rd_tree.specs.declared.scroll.Scroll.{Scroll}
use Rattle.rd_tree.specs.Forest.{has, children, item_of, at_box, at_subtree, map_where}
use Rattle.rd_tree.specs.Document.{BoxKey, BoxForest}
use Rattle.rd_tree.specs.Changes.{restyle, with_rect, with_scroll, put_elsewhere}
use Rattle.rd_tree.specs.Touching.{touch}

abbrev pub style_reach : Style → Bool → StyleChange → Reach
style_reach s root c = if whole s root c then Subtree else if names_any c then Alone else Nothing

abbrev pub rect_reach : Style → Bool → Reach
rect_reach s root = if clips s root then Subtree else Alone

-- Is j reached from k, with these boxes below it?
abbrev pub reached : Reach → BoxKey → BoxForest → BoxKey → Bool
reached Nothing k below j = false
reached Alone k below j = same_key j k
reached Subtree k below j = same_key j k || has same_key j below

-- with what is reached from k touched
abbrev pub touch_reached : Reach → BoxKey → BoxForest → BoxForest
touch_reached Nothing k f = f
touch_reached Alone k f = at_box same_key k touch f
touch_reached Subtree k f = at_subtree same_key k touch f

-- the boxes once the style of k is changed, below the root given
abbrev pub restyled : BoxKey → BoxKey → StyleChange → BoxForest → BoxForest
restyled root k c f = touch_reached (option_map_or (λ d. style_reach d.style (same_key k root)
    c) (item_of same_key k f) Nothing) k (at_box same_key k (restyle c) f)

-- the boxes once k has another rectangle
abbrev pub replaced : BoxKey → BoxKey → Rectangle → BoxForest → BoxForest
replaced root k r f = touch_reached (option_map_or (λ d. rect_reach d.style (same_key k root))
    (item_of same_key k f) Nothing) k (at_box same_key k (with_rect r) f)

-- the boxes once k is touched with all below it, and then moved with it
abbrev pub moved : BoxKey → BoxKey → Option BoxKey → BoxForest → BoxForest
moved k p before f = put_elsewhere k p before (at_subtree same_key k touch f)

-- the boxes once k has another scroll offset
abbrev pub scrolled : BoxKey → BoxKey → Scroll → BoxForest → BoxForest
scrolled root k s f = if option_map_or (λ d. clips d.style (same_key k root)) (item_of same_key k f) false
    then map_where (λ j. has same_key j (children same_key k f)) touch (at_box same_key k (with_scroll s) f)
    else at_box same_key k (with_scroll s) f
