-- Counts are set right from a box up.
use Rattle.std.proofs.Common.{◌≡◌, refl, ap, ◌∙◌, sym, subst, ℕ, ◌+◌, ◌-◌, ◌<◌, ◌≤◌, true, false, cond, arith, List, length, ◌⊎◌, inl, inr}
use Rattle.std.specs.Prelude.{Option, Some, None, is_some}
use Rattle.rd_keys.specs.Keys.{same_key}
use Rattle.rd_keys.specs.Arena.{Arena}
use Rattle.rd_keys.proofs.Keys.{same_key-sound, same_key-refl}
use Rattle.rd_tree.specs.declared.node.Node as inner
use Rattle.rd_tree.specs.Forest.{empty, tree, size, has, IsApart}
use Rattle.rd_tree.specs.Document.{BoxKey, Item, BoxForest}
use Rattle.rd_tree.specs.Internal.Links.{Node, parent_of}
use Rattle.rd_tree.specs.Internal.Linked.{linked}
use Rattle.rd_tree.specs.Internal.Rows.{IsStanding, IsIn}
use Rattle.rd_tree.specs.Internal.Blending.{given_in, closes, open_parent, AreCounts, Owes, count_at, PutsCount, CanRecount, KeepsCountsOff}
use Rattle.rd_tree.proofs.Linking.Standing.{cases, never, differs}
use Rattle.rd_tree.proofs.Forests.Under.{which}
use Rattle.rd_tree.proofs.Tables.Above.{puts_by, is_live, in_up, from_up, from_up_none, fewer_up}
use Rattle.rd_tree.proofs.Blending.Counts.{few_given, off_owes, owes_none, owes_ended}
use Rattle.rd_tree.proofs.Blending.Shifting.{shift_count}

-- What the box that owes has, and what it is to have.
pub record Owing (n more less : ℕ) (most : ℕ) : Type 0 where
  pub right : ℕ
  pub is : n + more ≡ right + less
  pub few : right ≤ most

pub owing : (n : BoxKey → ℕ) (less more : ℕ) (k : BoxKey) (f : BoxForest) → IsApart same_key f → has same_key k f ≡ true → Owes (Some k) less more n f
    → Owing (n k) more less (size f)
owing n less more k empty a m w = absurd (never false m refl)
owing n less more k (tree j d below rest) a m w =
    elim (cases (same_key k j)) [
      | inl e ↦
          let is : k ≡ j = same_key-sound k j e in
          let t : n j + more ≡ given_in n below + less = rw e at w.0 in
          let o : has same_key k below ≡ false = subst (λ z. has same_key z below ≡ false) (sym is) a.0 in
          let l : given_in n below ≤ size below = few_given n below (off_owes n (Some k) less more below (λ i q. let z : k ≡ i = cc in subst (λ y. has
          same_key y below ≡ false) z o) w.1) in
          record { right = given_in n below; is = subst (λ z. n z + more ≡ given_in n below + less) (sym is) t; few = omega (arith, l) }
      | inr e ↦ elim (which (has same_key k below) (has same_key k rest) (rw e at m)) [
        | inl u ↦
            let t = owing n less more k below a.3 u w.1 in
            record { right = t.right; is = t.is; few = let l = t.few in omega (arith, l) }
        | inr u ↦
            let t = owing n less more k rest a.4 u w.2 in
            record { right = t.right; is = t.is; few = let l = t.few in omega (arith, l) }
      ]
    ]

open_or_none : (o : Option (Node BoxKey Item)) → (open_parent o ≡ parent_of o) ⊎ (open_parent o ≡ None)
open_or_none None = inr refl
open_or_none (Some x) = elim (cases (closes x.item.style)) [ inl e ↦ inr (rw e refl) | inr e ↦ inl (rw e refl) ]

some_node : (o : Option (Node BoxKey Item)) → is_some o ≡ true → (x : Node BoxKey Item) × (o ≡ Some x)
some_node None h = absurd (never false h refl)
some_node (Some x) h = (x, refl)

-- The counts are right up to this box, which passes on what is owed.
pub record Climbed (a : Arena inner.Node) (f : BoxForest) (old new : List ℕ) (from at : Option BoxKey) (less more : ℕ) : Type 0 where
  pub there : IsIn at f
  pub kept : KeepsCountsOff a f old new
  pub owes : Owes from less more (count_at old) f → Owes at less more (count_at new) f

pub record Recounting (a : Arena inner.Node) (old new : List ℕ) (from at : Option BoxKey) (less more : ℕ) : Type 0 where
  pub each : (root : BoxKey) (f : BoxForest) → IsStanding a root f → IsIn from f → Climbed a f old new from at less more
  pub same_length : length new ≡ length old

pub recount_begun : (a : Arena inner.Node) (old : List ℕ) (from : Option BoxKey) (less more : ℕ) → Recounting a old old from from less more
recount_begun a old from less more = record {
  each = λ root f is i. record { there = i; kept = λ k u o. refl; owes = λ w. w };
  same_length = refl;
}

module _ (a : Arena inner.Node) (old new : List ℕ) (from : Option BoxKey) (k : BoxKey) (less more : ℕ) (w : Recounting a old new from (Some k) less
    more) where
  pub recount_here : CanRecount a old from less more → k.slot < length new
  recount_here c = let t = w.each c.root c.boxes c.is c.there in omega (arith, c.has_rows k t.there, w.same_length)

  pub recount_owing : (c : CanRecount a old from less more) → Owing (count_at new k) more less (size c.boxes)
  recount_owing c = let t = w.each c.root c.boxes c.is c.there in owing (count_at new) less more k c.boxes c.is.apart t.there (t.owes c.owes)

  pub recount_enough : CanRecount a old from less more → less ≤ count_at new k + more
  recount_enough c = let t = recount_owing c in omega (arith, t.is)

  pub recount_few : CanRecount a old from less more → count_at new k + more < 4294967296
  recount_few c = let t = recount_owing c in omega (arith, t.is, t.few, c.is.small, c.limit, c.few)

  pub recount_smaller : CanRecount a old from less more → from_up a.limit (linked a) (open_parent (linked a k)) < from_up a.limit (linked a) (Some k)
  recount_smaller c =
      let t = w.each c.root c.boxes c.is c.there in
      let l : from_up a.limit (linked a) (parent_of (linked a k)) < from_up a.limit (linked a) (Some k) = fewer_up a c.root c.boxes c.is k t.there in
      elim (open_or_none (linked a k)) [
        | inl e ↦ subst (λ o. from_up a.limit (linked a) o < from_up a.limit (linked a) (Some k)) (sym e) l
        | inr e ↦
            let z : from_up a.limit (linked a) (open_parent (linked a k)) ≡ 0 = ap (from_up a.limit (linked a)) e ∙ from_up_none a.limit (linked a) in
            omega (arith, z, l)
      ]

  pub recount_next : (new2 : List ℕ) → PutsCount new new2 k (count_at new k + more - less) → length new2 ≡ length new → Recounting a old new2 from
      (open_parent (linked a k)) less more
  recount_next new2 p l = record {
    each = λ root f is i.
        let t = w.each root f is i in
        let live : is_some (linked a k) ≡ true = is_live a root f is k t.there in
        let put = puts_by a (count_at new) (count_at new2) k (count_at new k + more - less) p live in
        record {
          there = elim (open_or_none (linked a k)) [
            | inl e ↦ subst (λ o. IsIn o f) (sym e) (in_up a root f is k t.there)
            | inr e ↦ subst (λ o. IsIn o f) (sym e) tt
          ];
          kept = λ j u o. put j u ∙ (ap (λ b. cond b (count_at new k + more - less) (count_at new j)) (differs same_key same_key-sound same_key-refl f k j
              t.there o) ∙ t.kept j u o);
          owes = λ q.
              let x = some_node (linked a k) live in
              let r = t.owes q in
              let g = owing (count_at new) less more k f is.apart t.there r in
              let moved : count_at new k + more - less + less ≡ count_at new k + more = omega (arith, g.is) in
              let s = shift_count (linked a) k x.0 x.1 less more (count_at new) (count_at new2) (count_at new k + more - less) moved None None f (Some root)
              (Some root) None is.apart is.stands (λ j e. cc) t.there (λ j h. put j (is_live a root f is j h)) r in
              subst (λ o. Owes (open_parent o) less more (count_at new2) f) (sym x.1) s.owes;
        };
    same_length = l ∙ w.same_length;
  }

-- The counts are right once no box is left that owes, or where nothing is owed.
pub recount_ended : (a : Arena inner.Node) (old new : List ℕ) (from : Option BoxKey) (less more : ℕ) → Recounting a old new from None less more → (root :
    BoxKey) (f : BoxForest) → IsStanding a root f → IsIn from f → Owes from less more (count_at old) f → AreCounts (count_at new) f
recount_ended a old new from less more w root f is i q = owes_ended (count_at new) less more f ((w.each root f is i).owes q)

pub nothing_owed : (rows : List ℕ) (from : Option BoxKey) (less more : ℕ) (f : BoxForest) → less ≡ more → Owes from less more (count_at rows) f → AreCounts
    (count_at rows) f
nothing_owed rows from less more f e w = owes_none (count_at rows) from more f (subst (λ z. Owes from z more (count_at rows) f) e w)
