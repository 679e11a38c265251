-- Changes of boxes leave each key at one place.
use Rattle.std.specs.Option.{option_map_or}
use Rattle.rd_geom.specs.Plane.{Rectangle}
use Rattle.rd_style.specs.declared.styles.StyleChange.{StyleChange}
use Rattle.rd_keys.specs.Keys.{same_key}
use Rattle.rd_tree.specs.declared.reach.Reach.{Reach}
use Rattle.rd_tree.specs.declared.reach.Reach.TheVariants.{Nothing, Alone, Subtree}
use Rattle.rd_tree.specs.Document.{BoxKey, BoxForest}
use Rattle.rd_tree.specs.Forest.{item_of, in_subtree, at_box, IsApart}
use Rattle.rd_tree.specs.Touching.{touch}
use Rattle.rd_tree.specs.Internal.Reaching.{style_reach, rect_reach, touch_reached, restyled, replaced}
use Rattle.rd_tree.specs.Changes.{restyle, with_rect}
use Rattle.rd_tree.proofs.Nodes.Each.{apart_each}

touch_reached-apart : (r : Reach) (k : BoxKey) (f : BoxForest) → IsApart same_key f → IsApart same_key (touch_reached r k f)
touch_reached-apart Nothing k f a = a
touch_reached-apart Alone k f a = apart_each (λ j. same_key j k) touch same_key f a
touch_reached-apart Subtree k f a = apart_each (λ j. in_subtree same_key j k f) touch same_key f a

pub restyled-apart : (root k : BoxKey) (c : StyleChange) (f : BoxForest) → IsApart same_key f → IsApart same_key (restyled root k c f)
restyled-apart root k c f a =
    touch_reached-apart (option_map_or (λ d. style_reach d.style (same_key k root) c) (item_of same_key k f) Nothing) k (at_box same_key k (restyle c) f)
    (apart_each (λ j. same_key j k) (restyle c) same_key f a)

pub replaced-apart : (root k : BoxKey) (r : Rectangle) (f : BoxForest) → IsApart same_key f → IsApart same_key (replaced root k r f)
replaced-apart root k r f a =
    touch_reached-apart (option_map_or (λ d. rect_reach d.style (same_key k root)) (item_of same_key k f) Nothing) k (at_box same_key k (with_rect r) f)
    (apart_each (λ j. same_key j k) (with_rect r) same_key f a)
