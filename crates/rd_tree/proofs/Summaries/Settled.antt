-- What is told of each box once all are settled.
use Rattle.std.proofs.Common.{◌≡◌, refl, ap, ◌∙◌, ◌+◌, Bool, true, arith}
use Rattle.rd_geom.specs.Plane.{hull_of}
use Rattle.rd_keys.specs.Keys.{same_key}
use Rattle.rd_tree.specs.declared.table.row.Summary.{Summary}
use Rattle.rd_tree.specs.Forest.{Forest, empty, tree, starting_at, map_where}
use Rattle.rd_tree.specs.Document.{BoxKey, BoxForest}
use Rattle.rd_tree.specs.Touching.{settled}
use Rattle.rd_tree.specs.Hulls.{breadth, extent, hull_in, touched_in}
use Rattle.rd_tree.specs.Internal.Summaries.{summary_first, summary_of}
use Rattle.rd_tree.proofs.Forests.EachBranch.{from-each}

abbrev all_settled : BoxForest → BoxForest
all_settled f = map_where (λ _. true) settled f

pub breadth-each : {K D : Type 0} (t : K → Bool) (h : D → D) (f : Forest K D) → breadth (map_where t h f) ≡ breadth f
breadth-each t h empty = refl
breadth-each t h (tree k d below rest) = ap (λ n. 1 + n) (breadth-each t h rest)

touched-settled : (f : BoxForest) → touched_in (all_settled f) ≡ 0
touched-settled empty = refl
touched-settled (tree k d below rest) = omega (arith, touched-settled below, touched-settled rest)

hull-settled : (f : BoxForest) → hull_in (all_settled f) ≡ hull_in f
hull-settled empty = refl
hull-settled (tree k d below rest) = ap (λ h. hull_of (hull_of (extent d) h) (hull_in (all_settled rest))) (hull-settled below) ∙ ap (hull_of (hull_of
    (extent d) (hull_in below))) (hull-settled rest)

abbrev untouched : Summary → Summary
untouched n = record n { touched = 0 }

first-settled : (f : BoxForest) → summary_first (all_settled f) ≡ untouched (summary_first f)
first-settled empty = refl
first-settled (tree k d below rest) = rw (breadth-each (λ _. true) settled below, touched-settled below, hull-settled below) refl

pub summary-settled : (j : BoxKey) (f : BoxForest) → summary_of j (map_where (λ _. true) settled f) ≡ record (summary_of j f) { touched = 0 }
summary-settled j f = ap summary_first (from-each (λ _. true) settled same_key j f) ∙ first-settled (starting_at same_key j f)
