-- What is told of each box once items change in one branch.
use Rattle.std.proofs.Common.{◌≡◌, ap, ◌∙◌, sym, subst, ℕ, ◌+◌, Bool, true, false, cond}
use Rattle.rd_geom.specs.Plane.{hull_of}
use Rattle.rd_keys.specs.Keys.{same_key}
use Rattle.rd_keys.proofs.Keys.{same_key-sound, same_key-refl}
use Rattle.rd_tree.specs.declared.table.row.Summary.{Summary}
use Rattle.rd_tree.specs.Forest.{has, children, in_subtree, without_branch, branch, map_where, IsApart}
use Rattle.rd_tree.specs.Document.{BoxKey, Item, BoxForest}
use Rattle.rd_tree.specs.Internal.Summaries.{summary_of}
use Rattle.rd_tree.specs.Hulls.{hull_in, touched_in}
use Rattle.rd_tree.proofs.Linking.Standing.{either}
use Rattle.rd_tree.proofs.Forests.Without.{stays}
use Rattle.rd_tree.proofs.Nodes.Each.{has-each, apart_each, children-each}
use Rattle.rd_tree.proofs.Linking.Cutting.{Among}
use Rattle.rd_tree.proofs.Forests.EachBranch.{each_none, among_each, IsWithin, without_branch-within}
use Rattle.rd_tree.proofs.Summaries.Put.{more_near}
use Rattle.rd_tree.proofs.Summaries.Cut.{summary-cut, subtree-cut_above, above_stays}

-- what is told of a box above a branch: how many children it has, and without the branch r is told of it
abbrev pub joined_near : ℕ → Summary → BoxForest → Summary
joined_near c r b = record { children = c; touched = r.touched + touched_in b; hull = hull_of r.hull (hull_in b) }

-- The boxes g are the boxes f but for the branch of k, which stands below the same parent.
pub record Replaced (p k : BoxKey) (f g : BoxForest) : Type 0 where
  pub apart : IsApart same_key g
  pub there : has same_key p g ≡ true
  pub child : Among k (children same_key p g)
  pub same : without_branch same_key k g ≡ without_branch same_key k f

-- Items change in the branch alone.
pub replaced_each : (t : BoxKey → Bool) (h : Item → Item) (p k : BoxKey) (f : BoxForest) → IsApart same_key f → has same_key p f ≡ true
    → Among k (children same_key p f) → IsWithin same_key t k f → Replaced p k f (map_where t h f)
replaced_each t h p k f a m w q = record {
  apart = apart_each t h same_key f a;
  there = has-each t h same_key p f ∙ m;
  child = among_each t h same_key k p f w;
  same = without_branch-within same_key same_key-sound same_key-refl t h k f a q;
}

pub replaced_then : (p k : BoxKey) (f g h : BoxForest) → Replaced p k f g → Replaced p k g h → Replaced p k f h
replaced_then p k f g h r s = record { apart = s.apart; there = s.there; child = s.child; same = s.same ∙ r.same }

-- what is told of a box above the branch of k before and after that
pub record InPlace (j k : BoxKey) (f g : BoxForest) : Type 0 where
  pub count : ℕ
  pub before : summary_of j f ≡ joined_near count (summary_of j (without_branch same_key k f)) (branch same_key k f)
  pub after : summary_of j g ≡ joined_near count (summary_of j (without_branch same_key k f)) (branch same_key k g)

module _ (p k : BoxKey) (f g : BoxForest) (a : IsApart same_key f) (m : has same_key p f ≡ true) (w : Among k (children same_key p f)) (r : Replaced p k f
    g) where
  abbrev less : BoxForest
  less = without_branch same_key k f

  cut_replaced : (j : BoxKey) → has same_key j less ≡ true → summary_of j g ≡ cond (in_subtree same_key p j less) (more_near (same_key p j)
      (branch same_key k g) (summary_of j less)) (summary_of j less)
  cut_replaced j u =
      subst (λ z. summary_of j g ≡ cond (in_subtree same_key p j z) (more_near (same_key p j) (branch same_key k g) (summary_of j z)) (summary_of j z)) r.same
      (summary-cut p k g r.child r.apart r.there j (subst (λ z. has same_key j z ≡ true) (sym r.same) u))

  -- a box above k
  pub in_place : (j : BoxKey) → has same_key j f ≡ true → same_key j k ≡ false → in_subtree same_key k j f ≡ true → InPlace j k f g
  in_place j u n i =
      let s : has same_key j less ≡ true = above_stays p k f w a m j u n i in
      let up : in_subtree same_key p j less ≡ true = sym (subtree-cut_above p k f w a m j s) ∙ i in
      record {
        count = (summary_of j less).children + cond (same_key p j) 1 0;
        before = summary-cut p k f w a m j s ∙ ap (λ b. cond b (more_near (same_key p j) (branch same_key k f) (summary_of j less)) (summary_of j less)) up;
        after = cut_replaced j s ∙ ap (λ b. cond b (more_near (same_key p j) (branch same_key k g) (summary_of j less)) (summary_of j less)) up;
      }

  -- a box that is neither above k nor in its branch
  pub summary-aside : (j : BoxKey) → has same_key j f ≡ true → in_subtree same_key j k f ≡ false → in_subtree same_key k j f ≡ false → summary_of j g
      ≡ summary_of j f
  summary-aside j u n i =
      let o : (same_key j k ≡ false) × (has same_key j (children same_key k f) ≡ false) = either (same_key j k) (has same_key j (children same_key k f)) n in
      let s : has same_key j less ≡ true = stays same_key same_key-sound same_key-refl j k f u o.0 o.1 in
      let off : in_subtree same_key p j less ≡ false = sym (subtree-cut_above p k f w a m j s) ∙ i in
      cut_replaced j s ∙ (ap (λ b. cond b (more_near (same_key p j) (branch same_key k g) (summary_of j less)) (summary_of j less)) off
      ∙ (ap (λ b. cond b (more_near (same_key p j) (branch same_key k f) (summary_of j less)) (summary_of j less)) (sym off) ∙ sym (summary-cut p k f w a m
      j s)))

-- What is below a box stays where the items below it stay.
pub children_kept : (t : BoxKey → Bool) (h : Item → Item) (k : BoxKey) (f : BoxForest) → ((j : BoxKey) → has same_key j (children same_key k f) ≡ true
    → t j ≡ false) → children same_key k (map_where t h f) ≡ children same_key k f
children_kept t h k f o = children-each t h same_key k f ∙ each_none t h same_key same_key-refl (children same_key k f) o
