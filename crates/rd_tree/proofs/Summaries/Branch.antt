-- What is told of a box, and the sums over its branch.
use Rattle.std.proofs.Common.{◌≡◌, refl, ap, ◌∙◌, sym, ◌+◌, true, cond, arith}
use Rattle.std.specs.Prelude.{Some}
use Rattle.rd_geom.specs.Plane.{no_pixels, hull_of}
use Rattle.rd_keys.specs.Keys.{same_key}
use Rattle.rd_keys.proofs.Keys.{same_key-sound, same_key-refl}
use Rattle.rd_tree.specs.Forest.{empty, tree, top, has, starting_at, children, item_of, without_siblings, branch, IsApart}
use Rattle.rd_tree.specs.Document.{BoxKey, Item, BoxForest}
use Rattle.rd_tree.specs.Hulls.{breadth, extent, hull_in, touched_in}
use Rattle.rd_tree.specs.Internal.Summaries.{summary_first, summary_of}
use Rattle.rd_tree.proofs.Summaries.Hulls.{hull-unit, hull_in-unit}
use Rattle.rd_tree.proofs.Forests.Restoring.{branch_there}

first-alone : (f : BoxForest) → summary_first f ≡ summary_first (without_siblings f)
first-alone empty = refl
first-alone (tree k d below rest) = refl

pub summary-first : (k : BoxKey) (f : BoxForest) → summary_of k f ≡ summary_first (branch same_key k f)
summary-first k f = first-alone (starting_at same_key k f)

-- by its item and what is below it
pub summary-is : (k : BoxKey) (f : BoxForest) → IsApart same_key f → has same_key k f ≡ true →
    (d : Item) × (item_of same_key k f ≡ Some d) × (summary_of k f ≡ record {
      children = breadth (children same_key k f);
      touched = touched_in
          (children same_key k f);
      hull = hull_of (extent d) (hull_in (children same_key k f));
    })
summary-is k f a m =
    let t : (d : Item) × (branch same_key k f ≡ tree k d (children same_key k f) empty) = branch_there same_key same_key-sound same_key-refl k f a m in
    (t.0, top-alone (starting_at same_key k f) ∙ ap top t.1, summary-first k f ∙ ap summary_first t.1) where
      top-alone : (g : BoxForest) → top g ≡ top (without_siblings g)
      top-alone empty = refl
      top-alone (tree j d below rest) = refl

-- The hull of a branch is told of its box.
pub hull-branch : (k : BoxKey) (f : BoxForest) → hull_in (branch same_key k f) ≡ (summary_of k f).hull
hull-branch k f = first (starting_at same_key k f) where
  first : (g : BoxForest) → hull_in (without_siblings g) ≡ (summary_first g).hull
  first empty = refl
  first (tree j d below rest) = hull-unit (extent d) (hull_in below)

-- It is no pixel at all, or has pixels.
pub hull_near-unit : (k : BoxKey) (f : BoxForest) → hull_of (summary_of k f).hull no_pixels ≡ (summary_of k f).hull
hull_near-unit k f = ap (λ r. hull_of r no_pixels) (sym (hull-branch k f)) ∙ (hull_in-unit (branch same_key k f) ∙ hull-branch k f)

-- The touched boxes of a branch are told of its box, but for itself.
pub touched-branch : (k : BoxKey) (d : Item) (f : BoxForest) → item_of same_key k f ≡ Some d → touched_in (branch same_key k f) ≡ cond d.touched 1 0 +
    (summary_of k f).touched
touched-branch k d f h = first (starting_at same_key k f) h where
  first : (g : BoxForest) → top g ≡ Some d → touched_in (without_siblings g) ≡ cond d.touched 1 0 + (summary_first g).touched
  first empty e = cc (e)
  first (tree j c below rest) e =
      let n : c.touched ≡ d.touched = cc (e) in
      rw n (omega arith)
