-- No box is too deep once boxes change.
use Rattle.std.proofs.Common.{◌≡◌, refl, ap, ◌∙◌, ◌+◌, ◌≤◌, Bool, true, false, arith}
use Rattle.std.specs.Prelude.{Option}
use Rattle.rd_keys.specs.Keys.{same_key}
use Rattle.rd_keys.proofs.Keys.{same_key-sound, same_key-refl}
use Rattle.rd_tree.specs.Figures.{max_depth}
use Rattle.rd_tree.specs.declared.reach.Reach.{Reach}
use Rattle.rd_tree.specs.declared.reach.Reach.TheVariants.{Nothing, Alone, Subtree}
use Rattle.rd_tree.specs.Forest.{empty, tree, has, height, depth, children, without_branch, branch, in_subtree, map_where, IsApart}
use Rattle.rd_tree.specs.Document.{BoxKey, Item, BoxForest, with_child}
use Rattle.rd_tree.specs.Changes.{put_elsewhere}
use Rattle.rd_tree.specs.Touching.{touch}
use Rattle.rd_tree.specs.Internal.Reaching.{touch_reached, moved}
use Rattle.rd_tree.proofs.Linking.Standing.{either}
use Rattle.rd_tree.proofs.Forests.Without.{apart_without, stays}
use Rattle.rd_tree.proofs.Forests.Heights.{height-each, height-without, height-put, depth-without, height-branch}
use Rattle.rd_tree.proofs.Changing.Effects.{elsewhere-each}

pub height-reached : (r : Reach) (k : BoxKey) (f : BoxForest) → height (touch_reached r k f) ≡ height f
height-reached Nothing k f = refl
height-reached Alone k f = height-each (λ j. same_key j k) touch f
height-reached Subtree k f = height-each (λ j. in_subtree same_key j k f) touch f

-- Where items change alone, and how far that reaches is touched.
pub shallow_each : (p : BoxKey → Bool) (g : Item → Item) (r : Reach) (k : BoxKey) (f h e : BoxForest) → h ≡ map_where p g f → e ≡ touch_reached r k h
    → height f ≤ max_depth → height e ≤ max_depth
shallow_each p g r k f h e a b s =
    let n : height e ≡ height f = ap height b ∙ (height-reached r k h ∙ (ap height a ∙ height-each p g f)) in
    omega (arith, n, s)

pub shallow_items : (p : BoxKey → Bool) (g : Item → Item) (f e : BoxForest) → e ≡ map_where p g f → height f ≤ max_depth → height e ≤ max_depth
shallow_items p g f e a s = let n : height e ≡ height f = ap height a ∙ height-each p g f in omega (arith, n, s)

pub shallow_removed : (k : BoxKey) (f e : BoxForest) → e ≡ without_branch same_key k f → height f ≤ max_depth → height e ≤ max_depth
shallow_removed k f e a s =
    let n : height e ≡ height (without_branch same_key k f) = ap height a in
    let w : height (without_branch same_key k f) ≤ height f = height-without same_key k f in
    omega (arith, n, w, s)

pub shallow_child : (p : BoxKey) (before : Option BoxKey) (k : BoxKey) (d : Item) (f e : BoxForest) → e ≡ with_child p before k d f → IsApart same_key f
    → has same_key p f ≡ true →
    height f ≤ max_depth → depth same_key p f + 1 ≤ max_depth → height e ≤ max_depth
shallow_child p before k d f e a apart m s q =
    let w : height (with_child p before k d f) ≤ max_depth = height-put same_key same_key-sound same_key-refl p before (tree k d empty empty) f max_depth
    apart m s (omega (arith, q)) in
    let n : height e ≡ height (with_child p before k d f) = ap height a in
    omega (arith, n, w)

pub shallow_elsewhere : (k p : BoxKey) (before : Option BoxKey) (f : BoxForest) → IsApart same_key f → has same_key k f ≡ true → has same_key p f ≡ true
    → in_subtree same_key p k f ≡ false →
    height f ≤ max_depth → depth same_key p f + (1 + height (children same_key k f)) ≤ max_depth → height (put_elsewhere k p before f) ≤ max_depth
shallow_elsewhere k p before f a m there outside s q =
    let o : (same_key p k ≡ false) × (has same_key p (children same_key k f) ≡ false) = either (same_key p k) (has same_key p (children same_key k f))
    outside in
    let g : BoxForest = without_branch same_key k f in
    let w : height g ≤ height f = height-without same_key k f in
    let d : depth same_key p g ≡ depth same_key p f = depth-without same_key same_key-sound same_key-refl p k f a there o.0 o.1 in
    let b : height (branch same_key k f) ≡ 1 + height (children same_key k f) = height-branch same_key same_key-sound same_key-refl k f a m in
    height-put same_key same_key-sound same_key-refl p before (branch same_key k f) g max_depth (apart_without same_key same_key-sound same_key-refl k f a)
    (stays same_key same_key-sound same_key-refl p k f there o.0 o.1) (omega (arith, w, s)) (omega (arith, d, b, q))

pub shallow_moved : (k p : BoxKey) (before : Option BoxKey) (f e : BoxForest) → e ≡ moved k p before f → IsApart same_key f → has same_key k f ≡ true
    → has same_key p f ≡ true → in_subtree same_key p k f ≡ false →
    height f ≤ max_depth → depth same_key p f + (1 + height (children same_key k f)) ≤ max_depth → height e ≤ max_depth
shallow_moved k p before f e same a m there outside s q =
    let h : height (put_elsewhere k p before f) ≤ max_depth = shallow_elsewhere k p before f a m there outside s q in
    let n : height e ≡ height (put_elsewhere k p before f) = ap height same ∙ (ap height (elsewhere-each (λ j. in_subtree same_key j k f) touch k p before
    f) ∙ height-each (λ j. in_subtree same_key j k f) touch (put_elsewhere k p before f)) in
    omega (arith, n, h)
