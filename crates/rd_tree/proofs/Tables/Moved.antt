-- The rows once a box is moved, with all below it.
use Rattle.std.proofs.Common.{◌≡◌, refl, ap, ◌∙◌, sym, subst, ◌≤◌, Bool, true, false, ◌||◌, cond, arith, List, length, inl, inr, ◌⊎◌}
use Rattle.std.specs.Prelude.{Option, Some, None, String, is_some, option_map}
use Rattle.std.specs.HashMap.{HashMap}
use Rattle.rd_keys.specs.Keys.{same_key}
use Rattle.rd_keys.specs.Arena.{Arena}
use Rattle.rd_keys.proofs.Keys.{same_key-sound, same_key-refl}
use Rattle.rd_tree.specs.declared.node.Node as inner
use Rattle.rd_tree.specs.declared.table.row.Summary.{Summary}
use Rattle.rd_tree.specs.declared.table.whole.Whole.{Whole}
use Rattle.rd_tree.specs.declared.reach.Reach.TheVariants.{Subtree}
use Rattle.rd_tree.specs.declared.table.renew.Stale.TheVariants.{Branch}
use Rattle.rd_tree.specs.Forest.{empty, tree, has, children, in_subtree, without_branch, branch, map_where, IsApart, IsPlaceIn}
use Rattle.rd_tree.specs.Internal.Links.{Node, on_each, child_and_sibling, unlinked}
use Rattle.rd_tree.specs.Document.{BoxKey, Item, BoxForest}
use Rattle.rd_tree.specs.Internal.Linked.{linked, marks, Relinks, IsConsistent, seen, seen_from}
use Rattle.rd_tree.specs.Internal.Summaries.{summary_of, summary_at}
use Rattle.rd_tree.specs.Internal.Rows.{IsStanding, IsTabled, IsGaining, IsLosing, IsRight, KeepsOthers, CanClimb, whole_in}
use Rattle.rd_tree.specs.Internal.Renews.{IsRightIn, IsStale, KeepsOutside}
use Rattle.rd_tree.specs.Touching.{touch}
use Rattle.rd_tree.specs.Internal.Reaching.{reached}
use Rattle.rd_tree.specs.Changes.{put_elsewhere}
use Rattle.rd_tree.specs.Internal.Reaching.{moved}
use Rattle.rd_tree.proofs.Linking.Standing.{cases, never, either}
use Rattle.rd_tree.proofs.Forests.Under.{which}
use Rattle.rd_tree.proofs.Linking.Cutting.{in_children}
use Rattle.rd_tree.proofs.Forests.Without.{stays, stays_out, in_without}
use Rattle.rd_tree.proofs.Nodes.Each.{has-each, children-each, place_each}
use Rattle.rd_tree.proofs.Forests.EachBranch.{among_each, without_branch-within, within_subtree}
use Rattle.rd_tree.proofs.Nodes.Editing.{touched_sound, still_has}
use Rattle.rd_tree.proofs.Forests.Restoring.{branch_there, branch_off}
use Rattle.rd_tree.proofs.Nodes.Unlinking.{items_unlinked}
use Rattle.rd_tree.proofs.Tables.Above.{is_live, off_outside}
use Rattle.rd_tree.proofs.Tables.Keeping.{same_slots}
use Rattle.rd_tree.proofs.Summaries.Branch.{hull_near-unit}
use Rattle.rd_tree.proofs.Summaries.Put.{more_near}
use Rattle.rd_tree.proofs.Summaries.Cut.{summary-cut_branch}
use Rattle.rd_tree.proofs.Summaries.Placed.{summary-elsewhere, summary-elsewhere_branch, subtree-elsewhere, has-elsewhere, not_above_elsewhere}
use Rattle.rd_tree.proofs.Tables.Removed.{IsParent, IsLeft, loses, cut_left}
use Rattle.rd_tree.proofs.Tables.TreeRows.{seen_stands, tree_climbs}

-- From the new parent up, the rows lack the branch that came there.
module _ (k q : BoxKey) (before : Option BoxKey) (h : BoxForest) (a : IsApart same_key h) (m : has same_key k h ≡ true) (there : has same_key q h
    ≡ true) (outside : in_subtree same_key q k h ≡ false)
    (place : IsPlaceIn same_key before (children same_key q h)) (other : before ≡ Some k → ⊥) (rows : List Summary) where
  abbrev new : BoxForest
  new = put_elsewhere k q before h

  abbrev g : BoxForest
  g = without_branch same_key k h

  q_stays : has same_key q g ≡ true
  q_stays = let o : (same_key q k ≡ false) × (has same_key q (children same_key k h) ≡ false) = either (same_key q k) (has same_key q (children same_key k
      h)) outside in stays same_key same_key-sound same_key-refl q k h there o.0 o.1

  q_off : has same_key q (branch same_key k h) ≡ false
  q_off = branch_off same_key same_key-sound same_key-refl k h a m q q_stays

  old_or_moved : (j : BoxKey) → has same_key j new ≡ true → (has same_key j g ≡ true) ⊎ (has same_key j (branch same_key k h) ≡ true)
  old_or_moved j i = which (has same_key j g) (has same_key j (branch same_key k h)) (sym (has-elsewhere k q before h a m there outside place other j) ∙ i)

  above_as : (j : BoxKey) → has same_key j g ≡ true → in_subtree same_key q j new ≡ in_subtree same_key q j g
  above_as j i = subtree-elsewhere k q before h a m there outside place other q j i q_off

  told : (j : BoxKey) → has same_key j g ≡ true → (b : Bool) → in_subtree same_key q j new ≡ b → summary_of j new ≡ cond b (more_near (same_key q j)
      (branch same_key k h) (summary_of j g)) (summary_of j g)
  told j i b u = summary-elsewhere k q before h a m there outside place other j i ∙ ap (λ c. cond c (more_near (same_key q j) (branch same_key k h)
      (summary_of j g)) (summary_of j g)) (sym (above_as j i) ∙ u)

  not_above : (j : BoxKey) → has same_key j (branch same_key k h) ≡ true → in_subtree same_key q j new ≡ false
  not_above j i = not_above_elsewhere k q before h a m there outside place other q j i q_stays

  pub parent_there : has same_key q new ≡ true
  parent_there = has-elsewhere k q before h a m there outside place other q ∙ ap (λ b. b || has same_key q (branch same_key k h)) q_stays

  pub moved_gains : IsRight rows g → ((j : BoxKey) → has same_key j (branch same_key k h) ≡ true → summary_at rows j ≡ summary_of j (branch same_key k h))
      → IsGaining rows new q (whole_in (branch same_key k h))
  moved_gains right inner = record {
    rest = λ j. summary_of j g;
    plain = λ j. hull_near-unit j g;
    was = λ j i u. elim (old_or_moved j i) [ inl v ↦ right j v | inr v ↦ absurd (never (in_subtree same_key q j new) u (not_above j v)) ];
    is = λ j i u. elim (old_or_moved j i) [ inl v ↦ told j v true u | inr v ↦ absurd (never (in_subtree same_key q j new) u (not_above j v)) ];
    others = λ j i u. elim (old_or_moved j i) [
      | inl v ↦ right j v ∙ sym (told j v false u)
      | inr v ↦ inner j v ∙ sym (summary-elsewhere_branch k q before h a m there outside place other j v)
    ];
  }

-- a box of a branch is its top or below that
in_branch : (j k : BoxKey) (f : BoxForest) → IsApart same_key f → has same_key k f ≡ true → has same_key j (branch same_key k f) ≡ true
    → in_subtree same_key j k f ≡ true
in_branch j k f a m u =
    let t : (d : Item) × (branch same_key k f ≡ tree k d (children same_key k f) empty) = branch_there same_key same_key-sound same_key-refl k f a m in
    at (same_key j k) (has same_key j (children same_key k f)) (ap (has same_key j) (sym t.1) ∙ u) where
      at : (b c : Bool) → (b || (c || false)) ≡ true → (b || c) ≡ true
      at true c e = refl
      at false true e = refl
      at false false e = e

-- what is cut out stays live
some_item : (o : Option (Node BoxKey Item)) → is_some (option_map (λ n. n.item) o) ≡ is_some o
some_item None = refl
some_item (Some n) = refl

pub still_live : (a b : Arena inner.Node) (k j : BoxKey) → Relinks a b (unlinked same_key k (linked a)) → is_some (linked a j) ≡ true → is_some (linked b
    j) ≡ true
still_live a b k j r u = sym (some_item (linked b j)) ∙ (ap is_some (items_unlinked a b k r j) ∙ (some_item (linked a j) ∙ u))

-- A branch, which is w, came below q, and the table can be set right.
pub record IsLanded (a : Arena inner.Node) (root q : BoxKey) (rows : List Summary) (w : Whole) : Type 0 where
  pub there : has same_key q (seen a root) ≡ true
  pub gains : IsGaining rows (seen a root) q w
  pub climbs : CanClimb a rows q (λ h. IsGaining rows h q w)
  pub table : (final : List Summary) → length final ≡ length rows → IsRight final (seen a root) → IsTabled a final (seen a root)

module _ {Y S : Type 0} (a0 a1 : Arena inner.Node) (root k p : BoxKey) (ids : HashMap (String Y) BoxKey S) (rows : List Summary) (s : IsConsistent a0 root
    ids) (m : has same_key k (seen a0 root) ≡ true) (not_root : same_key k root ≡ false)
    (r0 : Relinks a0 a1 (on_each (reached Subtree k (seen_from a0 (child_and_sibling (linked a0 k)).0)) touch (linked a0))) (table : IsTabled a0 rows
    (seen a0 root)) (up : IsParent p k (seen a0 root)) where
  abbrev f : BoxForest
  f = seen a0 root

  abbrev touched : BoxForest
  touched = seen a1 root

  abbrev stay : BoxForest
  stay = without_branch same_key k touched

  s1 : IsConsistent a1 root ids × (touched ≡ map_where (λ j. in_subtree same_key j k f) touch f)
  s1 = touched_sound a0 a1 root k ids Subtree s m r0

  pub touched_limit : a1.limit ≡ 20000
  touched_limit = s1.0.limit

  pub still_there : has same_key k touched ≡ true
  still_there = still_has (λ j. in_subtree same_key j k f) touch k f touched s1.1 m

  pub touched_stands : IsStanding a1 root touched
  touched_stands = seen_stands a1 root s1.0.tree

  pub touched_rows : length a1.slots ≤ length rows
  touched_rows = let n : length a1.slots ≡ length a0.slots = same_slots a0 a1 r0.same_slots in omega (arith, n, table.all_rows)

  pub touched_climbs : CanClimb a1 rows k (λ h. IsStale Branch rows h k)
  touched_climbs = tree_climbs a1 root k ids rows (λ h. IsStale Branch rows h k) s1.0 touched_rows still_there tt

  pub still_parent : IsParent p k touched
  still_parent = subst (λ h. IsParent p k h) (sym s1.1) (record {
    there = has-each (λ j. in_subtree same_key j k f) touch same_key p f
        ∙ up.there;
    child = among_each (λ j. in_subtree same_key j k f) touch same_key k p f up.child;
  })

  stay_is : stay ≡ without_branch same_key k f
  stay_is = ap (without_branch same_key k) s1.1 ∙ without_branch-within same_key same_key-sound same_key-refl (λ j. in_subtree same_key j k f) touch k f
      (seen_stands a0 root s.tree).apart (within_subtree same_key k f)

  pub still_in : (q : BoxKey) → has same_key q f ≡ true → has same_key q touched ≡ true
  still_in q u = still_has (λ j. in_subtree same_key j k f) touch q f touched s1.1 u

  pub still_outside : (q : BoxKey) → in_subtree same_key q k f ≡ false → in_subtree same_key q k touched ≡ false
  still_outside q outside =
      ap (in_subtree same_key q k) s1.1
      ∙ (ap (λ b. same_key q k || b) (ap (has same_key q) (children-each (λ j. in_subtree same_key j k f) touch same_key k f)
      ∙ has-each (λ j. in_subtree same_key j k f) touch same_key q (children same_key k f)) ∙ outside)

  pub sees_moved : (a4 : Arena inner.Node) (q : BoxKey) (before : Option BoxKey) → seen a4 root ≡ moved k q before f → seen a4 root ≡ put_elsewhere k q
      before touched
  sees_moved a4 q before sees = sees ∙ ap (put_elsewhere k q before) (sym s1.1)

  -- The rows of the branch were worked out anew, and the branch was cut out.
  module _ (a2 : Arena inner.Node) (next : List Summary) (r1 : Relinks a1 a2 (unlinked same_key k (linked a1))) (within : IsRightIn next touched k)
      (outer : KeepsOutside a1 touched rows next k) (same : length next ≡ length rows) where
    next_rows : length a1.slots ≤ length next
    next_rows = omega (arith, touched_rows, same)

    as_before : (j : BoxKey) → has same_key j (without_branch same_key k f) ≡ true → summary_at next j ≡ summary_of j f
    as_before j i =
        let v : has same_key j stay ≡ true = subst (λ h. has same_key j h ≡ true) (sym stay_is) i in
        let o : (same_key j k ≡ false) × (has same_key j (children same_key k touched) ≡ false) = stays_out same_key same_key-sound same_key-refl j k
        touched touched_stands.apart v in
        outer j (is_live a1 root touched touched_stands j (in_without same_key same_key-sound same_key-refl j k touched v)) (ap (λ b. b || has same_key j
        (children same_key k touched)) o.0 ∙ o.1)
        ∙ table.right j (in_without same_key same_key-sound same_key-refl j k f i)

    touched_loses : IsLosing next stay p (whole_in (branch same_key k f))
    touched_loses = subst (λ h. IsLosing next h p (whole_in (branch same_key k f))) (sym stay_is) (loses p k f next (seen_stands a0 root s.tree).apart
        up.there up.child as_before)

    -- The rows above have the branch as it was before.
    pub touched_left : (w : Whole) → w ≡ whole_in (branch same_key k f) → IsLeft a2 root p stay next w
    touched_left w e = cut_left a1 a2 root k p ids next s1.0 still_there not_root r1 next_rows still_parent w (subst (λ v. IsLosing next stay p v)
        (sym e) touched_loses)

    -- The rows of the branch stay right while others lose it.
    branch_kept : has same_key p stay ≡ true → (last : List Summary) → KeepsOthers a2 stay next last (Some p) → (j : BoxKey) → has same_key j
        (branch same_key k touched) ≡ true → summary_at last j ≡ summary_of j (branch same_key k touched)
    branch_kept stay_parent last others j i =
        let u : in_subtree same_key j k touched ≡ true = in_branch j k touched touched_stands.apart still_there i in
        let out : has same_key j stay ≡ false = elim (cases (has same_key j stay)) [
          | inl v ↦ absurd (never (has same_key j (branch same_key k touched)) i
              (branch_off same_key same_key-sound same_key-refl k touched touched_stands.apart still_there j v))
          | inr v ↦ v
        ] in
        let told : summary_of j touched ≡ summary_of j (branch same_key k touched) = summary-cut_branch p k touched still_parent.child touched_stands.apart
        still_parent.there j i in
        others j (live j u) (off_outside (Some p) j stay stay_parent out) ∙ (within j u ∙ told) where
          in_touched : (j : BoxKey) → in_subtree same_key j k touched ≡ true → has same_key j touched ≡ true
          in_touched j u = elim (which (same_key j k) (has same_key j (children same_key k touched)) u) [
            | inl e ↦ subst (λ x. has same_key x touched ≡ true) (sym (same_key-sound j k e)) still_there
            | inr e ↦ in_children same_key same_key-sound same_key-refl j k touched e
          ]

          live : (j : BoxKey) → in_subtree same_key j k touched ≡ true → is_some (linked a2 j) ≡ true
          live j u = still_live a1 a2 k j r1 (is_live a1 root touched touched_stands j (in_touched j u))

    -- The branch came below another box.
    module _ (q : BoxKey) (before : Option BoxKey) (q_in : has same_key q f ≡ true) (outside : in_subtree same_key q k f ≡ false) (place : IsPlaceIn
        same_key before (children same_key q f)) (other : before ≡ Some k → ⊥)
        (a4 : Arena inner.Node) (last : List Summary) (parent_stays : has same_key p stay ≡ true) (right : IsRight last stay) (others : KeepsOthers a2 stay
        next last (Some p)) (length_same : length last ≡ length next) (s4 : IsConsistent a4 root ids) (sees : seen a4 root ≡ moved k q before f)
        (slots : marks a4 ≡ marks a0) where
      q_still : has same_key q touched ≡ true
      q_still = still_in q q_in

      outside_still : in_subtree same_key q k touched ≡ false
      outside_still = still_outside q outside

      place_still : IsPlaceIn same_key before (children same_key q touched)
      place_still = subst (λ h. IsPlaceIn same_key before h) (sym (ap (children same_key q) s1.1 ∙ children-each (λ j. in_subtree same_key j k f) touch
          same_key q f)) (place_each (λ j. in_subtree same_key j k f) touch same_key before (children same_key q f) place)

      sees_touched : seen a4 root ≡ put_elsewhere k q before touched
      sees_touched = sees_moved a4 q before sees

      landed_parent : has same_key q (seen a4 root) ≡ true
      landed_parent = ap (has same_key q) sees_touched ∙ parent_there k q before touched touched_stands.apart still_there q_still outside_still place_still
          other last

      landed_gains : IsGaining last (seen a4 root) q (whole_in (branch same_key k touched))
      landed_gains =
          subst (λ h. IsGaining last h q (whole_in (branch same_key k touched))) (sym sees_touched)
          (moved_gains k q before touched touched_stands.apart still_there q_still outside_still place_still other last right (branch_kept parent_stays
          last others))

      landed_rows : length a4.slots ≤ length last
      landed_rows = let n : length a4.slots ≡ length a0.slots = same_slots a0 a4 slots in omega (arith, n, table.all_rows, same, length_same)

      pub landed : (w : Whole) → w ≡ whole_in (branch same_key k touched) → IsLanded a4 root q last w
      landed w e =
          let gains : IsGaining last (seen a4 root) q w = subst (λ v. IsGaining last (seen a4 root) q v) (sym e) landed_gains in
          record {
            there = landed_parent;
            gains = gains;
            climbs = tree_climbs a4 root q ids last (λ h. IsGaining last h q w) s4 landed_rows landed_parent gains;
            table = λ final same_final done. record { all_rows = omega (arith, landed_rows, same_final); right = done };
          }
