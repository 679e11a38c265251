-- The marking of rows from a box up.
use Rattle.std.proofs.Common.{◌≡◌, refl, ap, ◌∙◌, sym, subst, ℕ, ◌<◌, Bool, true, false, ◌||◌, ◌&&◌, not, cond, List, length, arith, inl, inr}
use Rattle.std.specs.Prelude.{Option, Some, None, is_some}
use Rattle.rd_keys.specs.Keys.{same_key}
use Rattle.rd_keys.specs.Arena.{Arena}
use Rattle.rd_keys.proofs.Keys.{same_key-sound}
use Rattle.rd_tree.specs.declared.node.Node as inner
use Rattle.rd_tree.specs.declared.table.row.Summary.{Summary}
use Rattle.rd_tree.specs.Internal.Links.{parent_of}
use Rattle.rd_tree.specs.Document.{BoxKey, BoxForest}
use Rattle.rd_tree.specs.Internal.Linked.{linked}
use Rattle.rd_tree.specs.Internal.Summaries.{summary_at, is_above}
use Rattle.rd_tree.specs.Internal.Rows.{IsStanding, IsIn, IsMarkable, CanMark, MarksUp, Puts, marked}
use Rattle.rd_tree.proofs.Linking.Standing.{cases, from_right}
use Rattle.rd_tree.proofs.Tables.Above.{puts_at, is_live, above_up, off_above, above_self, in_up}

-- The rows are marked from the one box up to the other, this one not.
pub record MarkedTo (a : Arena inner.Node) (f : BoxForest) (old new : List Summary) (from at : Option BoxKey) (less more : ℕ) : Type 0 where
  pub there : IsIn at f
  pub above : (k : BoxKey) → is_above at k f ≡ true → is_above from k f ≡ true
  pub rows : (k : BoxKey) → is_some (linked a k) ≡ true → summary_at new k ≡ cond (is_above from k f && not (is_above at k f)) (marked less more
      (summary_at old k)) (summary_at old k)

pub record Marking (a : Arena inner.Node) (old new : List Summary) (from at : Option BoxKey) (less more : ℕ) : Type 0 where
  pub each : (root : BoxKey) (f : BoxForest) → IsStanding a root f → IsIn from f → MarkedTo a f old new from at less more
  pub same_length : length new ≡ length old

pub marking_begun : (a : Arena inner.Node) (old : List Summary) (from : Option BoxKey) (less more : ℕ) → Marking a old old from from less more
marking_begun a old from less more = record {
  each = λ root f is i. record { there = i; above = λ k u. u; rows = λ k u. none (is_above from k f) (marked less more (summary_at old k)) (summary_at old k) };
  same_length = refl;
} where
  none : {A : Type 0} (b : Bool) (x y : A) → y ≡ cond (b && not b) x y
  none true x y = refl
  none false x y = refl

pub marking_ended : (a : Arena inner.Node) (old new : List Summary) (from : Option BoxKey) (less more : ℕ) → Marking a old new from None less more →
    (root : BoxKey) (f : BoxForest) → IsStanding a root f → IsIn from f → MarksUp a f old new from less more
marking_ended a old new from less more w root f is i k u = (w.each root f is i).rows k u ∙ all (is_above from k f) (marked less more (summary_at old k))
    (summary_at old k) where
      all : {A : Type 0} (b : Bool) (x y : A) → cond (b && not false) x y ≡ cond b x y
      all true x y = refl
      all false x y = refl

module _ (a : Arena inner.Node) (old new : List Summary) (from : Option BoxKey) (k : BoxKey) (less more : ℕ) (w : Marking a old new from (Some k) less
    more) where
  -- the row of the next box is as it was
  row_still : (root : BoxKey) (f : BoxForest) → IsStanding a root f → IsIn from f → summary_at new k ≡ summary_at old k
  row_still root f is i =
      let t : MarkedTo a f old new from (Some k) less more = w.each root f is i in
      t.rows k (is_live a root f is k t.there) ∙ ap (λ b. cond (is_above from k f && not b) (marked less more (summary_at old k)) (summary_at old k))
      (above_self a root f is k t.there) ∙ none (is_above from k f) (marked less more (summary_at old k)) (summary_at old k) where
        none : {A : Type 0} (b : Bool) (x y : A) → cond (b && not true) x y ≡ y
        none true x y = refl
        none false x y = refl

  pub here_row : CanMark a old from less more → k.slot < length new
  here_row c = let t : MarkedTo a c.boxes old new from (Some k) less more = w.each c.root c.boxes c.is c.there in omega (
    arith,
    c.has_rows k t.there,
    w.same_length,
  )

  pub here_markable : CanMark a old from less more → IsMarkable less more (summary_at new k)
  here_markable c =
      let t : MarkedTo a c.boxes old new from (Some k) less more = w.each c.root c.boxes c.is c.there in
      subst (λ r. IsMarkable less more r) (sym (row_still c.root c.boxes c.is c.there)) (c.markable k (t.above k (above_self a c.root c.boxes c.is k t.there)))

  pub marking_next : (new2 : List Summary) → Puts new new2 k (marked less more (summary_at new k)) → length new2 ≡ length new → Marking a old new2 from
      (parent_of (linked a k)) less more
  marking_next new2 p l = record {
    each = λ root f is i.
        let t : MarkedTo a f old new from (Some k) less more = w.each root f is i in
        let up : (j : BoxKey) → is_above (Some k) j f ≡ (same_key k j || is_above (parent_of (linked a k)) j f) = above_up a root f is k t.there in
        let live : is_some (linked a k) ≡ true = is_live a root f is k t.there in
        record {
          there = in_up a root f is k t.there;
          above = λ j u. t.above j (up j ∙ from_right (same_key k j) (is_above (parent_of (linked a k)) j f) u);
          rows = λ j u. puts_at a new new2 k (marked less more (summary_at new k)) p live j u ∙ (ap (λ r. cond (same_key k j) (marked less more r)
              (summary_at new j)) (row_still root f is i)
              ∙ (ap (λ r. cond (same_key k j) (marked less more (summary_at old k)) r) (t.rows j u)
              ∙ elim (cases (same_key k j)) [
                | inl e ↦
                    let n : k ≡ j = same_key-sound k j e in
                    let from_j : is_above from j f ≡ true = t.above j (up j ∙ ap (λ b. b || is_above (parent_of (linked a k)) j f) e) in
                    let off : is_above (parent_of (linked a k)) j f ≡ false = subst (λ x. is_above (parent_of (linked a k)) x f ≡ false) n (off_above a
                    root f is k t.there) in
                    rw (e, from_j, off) (ap (λ x. marked less more (summary_at old x)) n)
                | inr e ↦
                    let same : is_above (Some k) j f ≡ is_above (parent_of (linked a k)) j f = up j ∙ ap (λ b. b || is_above (parent_of (linked a k)) j f) e in
                    ap (λ b. cond b (marked less more (summary_at old k)) (cond (is_above from j f && not (is_above (Some k) j f)) (marked less more
                    (summary_at old j)) (summary_at old j))) e
                    ∙ ap (λ b. cond (is_above from j f && not b) (marked less more (summary_at old j)) (summary_at old j)) same
              ]));
        };
    same_length = l ∙ w.same_length;
  }
