-- The moving of hulls from a box up.
use Rattle.std.proofs.Common.{◌≡◌, refl, ap, ◌∙◌, sym, subst, ℕ, ◌<◌, true, false, ◌||◌, cond, List, length, arith, inl, inr}
use Rattle.std.specs.Prelude.{◌==◌, Option, Some, None, is_some}
use Rattle.rd_geom.specs.Plane.{Rectangle, hull_of}
use Rattle.rd_keys.specs.Keys.{same_key}
use Rattle.rd_keys.specs.Arena.{Arena}
use Rattle.rd_keys.proofs.Keys.{same_key-sound}
use Rattle.rd_tree.specs.declared.node.Node as inner
use Rattle.rd_tree.specs.declared.table.row.Summary.{Summary}
use Rattle.rd_tree.specs.Internal.Links.{parent_of, child_and_sibling}
use Rattle.rd_tree.specs.Document.{BoxKey, BoxForest}
use Rattle.rd_tree.specs.Internal.Linked.{linked, IsRead, seen_from}
use Rattle.rd_tree.specs.Internal.Summaries.{summary_at, summary_of, is_above}
use Rattle.rd_tree.specs.Internal.Rows.{IsStanding, IsIn, IsFitAt, HasRows, CanMove, IsMoving, HasHulls, KeepsCounts, KeepsOthers, Puts, with_hull, hull_anew_of}
use Rattle.rd_tree.proofs.Linking.Standing.{cases, never, from_right}
use Rattle.rd_tree.proofs.Tables.Above.{puts_at, is_live, above_up, off_above, above_self, in_up}
use Rattle.rd_tree.proofs.Summaries.Nearby.{fit_at, below_read, below_rows, anew_is}

-- The hulls are moved from the one box up to the other, this one not.
pub record MovedTo (a : Arena inner.Node) (f : BoxForest) (old new : List Summary) (from at : Option BoxKey) (lost gained : Rectangle) : Type 0 where
  pub there : IsIn at f
  pub above : (k : BoxKey) → is_above at k f ≡ true → is_above from k f ≡ true
  pub others : KeepsOthers a f old new from
  pub moving : IsMoving old f from lost gained → IsMoving new f at lost gained

pub record Hulling (a : Arena inner.Node) (old new : List Summary) (from at : Option BoxKey) (lost gained : Rectangle) : Type 0 where
  pub each : (root : BoxKey) (f : BoxForest) → IsStanding a root f → IsIn from f → MovedTo a f old new from at lost gained
  pub counts : KeepsCounts old new
  pub same_length : length new ≡ length old

pub hulling_begun : (a : Arena inner.Node) (old : List Summary) (from : Option BoxKey) (lost gained : Rectangle) → Hulling a old old from from lost gained
hulling_begun a old from lost gained = record {
  each = λ root f is i. record { there = i; above = λ k u. u; others = λ k u v. refl; moving = λ m. m };
  counts = λ k. refl;
  same_length = refl;
}

pub hulling_ended : (a : Arena inner.Node) (old new : List Summary) (from : Option BoxKey) (lost gained : Rectangle) → Hulling a old new from None lost gained →
    (root : BoxKey) (f : BoxForest) → IsStanding a root f → IsIn from f → IsMoving old f from lost gained → HasHulls new f
hulling_ended a old new from lost gained w root f is i m k u = ((w.each root f is i).moving m).others k u refl

-- What is asked before a box's hull is moved.
pub record HereHull (a : Arena inner.Node) (rows : List Summary) (k : BoxKey) : Type 0 where
  pub here : k.slot < length rows
  pub fits : IsFitAt (linked a k)
  pub read : IsRead a (child_and_sibling (linked a k)).0
  pub has_rows : HasRows rows (seen_from a (child_and_sibling (linked a k)).0)

module _ (a : Arena inner.Node) (old new : List Summary) (from : Option BoxKey) (k : BoxKey) (lost gained : Rectangle) (w : Hulling a old new from
    (Some k) lost gained) where
  pub here_hull : CanMove a old from → HereHull a new k
  here_hull c =
      let t : MovedTo a c.boxes old new from (Some k) lost gained = w.each c.root c.boxes c.is c.there in
      let all : HasRows new c.boxes = λ j u. omega (arith, c.has_rows j u, w.same_length) in
      record {
        here = all k t.there;
        fits = fit_at a c.root c.boxes c.is k t.there c.fits;
        read = below_read a c.root c.boxes c.is k t.there;
        has_rows =
            below_rows a c.root c.boxes c.is k t.there new all;
      }

  pub hulling_next : (new2 : List Summary) (r : Rectangle) → ((rest : Rectangle) → (summary_at new k).hull ≡ hull_of rest lost → hull_of rest gained
      ≡ hull_anew_of a new k → r ≡ hull_of rest gained) →
      Puts new new2 k (with_hull r (summary_at new k)) → length new2 ≡ length new → Hulling a old new2 from (parent_of (linked a k)) lost gained
  hulling_next new2 r right p l = record {
    each = λ root f is i.
        let t : MovedTo a f old new from (Some k) lost gained = w.each root f is i in
        let up : (j : BoxKey) → is_above (Some k) j f ≡ (same_key k j || is_above (parent_of (linked a k)) j f) = above_up a root f is k t.there in
        let live : is_some (linked a k) ≡ true = is_live a root f is k t.there in
        let wrote : (j : BoxKey) → is_some (linked a j) ≡ true → summary_at new2 j ≡ cond (same_key k j) (with_hull r (summary_at new k)) (summary_at new
        j) = puts_at a new new2 k (with_hull r (summary_at new k)) p live in
        let same : (j : BoxKey) → is_some (linked a j) ≡ true → same_key k j ≡ false → summary_at new2 j ≡ summary_at new j = λ j u e. wrote j u
        ∙ ap (λ b. cond b (with_hull r (summary_at new k)) (summary_at new j)) e in
        -- no box above it is the box itself
        let apart : (j : BoxKey) → is_above (parent_of (linked a k)) j f ≡ true → same_key k j ≡ false = λ j u.
        elim (cases (same_key k j)) [
          | inl e ↦ absurd (never (is_above (parent_of (linked a k)) j f) u (subst (λ x. is_above (parent_of (linked a k)) x f
              ≡ false) (same_key-sound k j e) (off_above a root f is k t.there)))
          | inr e ↦ e
        ] in
        let higher : (j : BoxKey) → is_above (parent_of (linked a k)) j f ≡ true → is_above (Some k) j f ≡ true = λ j u. up j ∙ from_right (same_key k j)
        (is_above (parent_of (linked a k)) j f) u in
        record {
          there = in_up a root f is k t.there;
          above = λ j u. t.above j (higher j u);
          others = λ j u v.
              let e : same_key k j ≡ false = elim (cases (same_key k j)) [
                | inl e ↦ absurd (never (is_above from j f) (t.above j (up j
                    ∙ ap (λ b. b || is_above (parent_of (linked a k)) j f) e)) v)
                | inr e ↦ e
              ] in
              same j u e ∙ t.others j u v;
          moving = λ m0.
              let m : IsMoving new f (Some k) lost gained = t.moving m0 in
              record {
                rest = m.rest;
                was = λ j u v. ap (λ x. x.hull) (same j (is_live a root f is j u) (apart j v)) ∙ m.was j u (higher j v);
                is = λ j u v. m.is j u (higher j v);
                others = λ j u v. elim (cases (same_key k j)) [
                  | inl e ↦
                      let self : is_above (Some k) k f ≡ true = above_self a root f is k t.there in
                      let new_hull : r ≡ hull_of (m.rest k) gained = right (m.rest k) (m.was k t.there self) (sym (m.is k t.there self)
                      ∙ sym (anew_is a root f is k t.there new m.others)) in
                      ap (λ x. x.hull) (wrote j (is_live a root f is j u) ∙ ap (λ b. cond b (with_hull r (summary_at new k)) (summary_at new j)) e)
                      ∙ (new_hull ∙ (sym (m.is k t.there self) ∙ ap (λ x. (summary_of x f).hull) (same_key-sound k j e)))
                  | inr e ↦ ap (λ x. x.hull) (same j (is_live a root f is j u) e) ∙ m.others j u (up j ∙ (ap (λ b. b || is_above (parent_of (linked a k)) j
                      f) e ∙ v))
                ];
              };
        };
    counts = λ j. elim (cases (j.slot == k.slot)) [
      | inl e ↦
          let n : summary_at new2 j ≡ with_hull r (summary_at new k) = p j ∙ ap (λ b. cond b (with_hull r (summary_at new k)) (summary_at new j)) e in
          let s : summary_at new k ≡ summary_at new j = at_slot j (equal j.slot k.slot e) in
          let o : summary_at new2 j ≡ with_hull r (summary_at old j) = n ∙ (ap (with_hull r) s ∙ ap (with_hull r) (w.counts j)) in
          o ∙ ap (λ x. with_hull x.hull (summary_at old j)) (sym o)
      | inr e ↦
          let n : summary_at new2 j ≡ summary_at new j = p j ∙ ap (λ b. cond b (with_hull r (summary_at new k)) (summary_at new j)) e in
          n ∙ (w.counts j ∙ ap (λ x. with_hull x.hull (summary_at old j)) (sym n))
    ];
    same_length = l ∙ w.same_length;
  } where
    equal : (s t : ℕ) → (s == t) ≡ true → s ≡ t
    equal s t e = grind arith

    at_slot : (j : BoxKey) → j.slot ≡ k.slot → summary_at new k ≡ summary_at new j
    at_slot j e = rw e refl
