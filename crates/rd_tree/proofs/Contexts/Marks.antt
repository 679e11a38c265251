-- Marks that are put on in steps.
use Rattle.std.proofs.Common.{◌≡◌, refl, ap, ◌∙◌, sym, subst, Bool, true, false, ◌||◌, ◌&&◌, cond}
use Rattle.std.specs.Prelude.{Option, Some, None, IfSome}
use Rattle.rd_keys.specs.Keys.{same_key}
use Rattle.rd_keys.proofs.Keys.{same_key-refl}
use Rattle.rd_tree.specs.Forest.{empty, tree, map_where, in_subtree, IsApart}
use Rattle.rd_tree.specs.Document.{Document, BoxKey, BoxForest, contains, IsRooted}
use Rattle.rd_tree.specs.Changes.{Change, after}
use Rattle.rd_tree.specs.Contexts.{in_context}
use Rattle.rd_tree.specs.Touching.{reached_by, regrouped_by, touch, with_marks, edited}
use Rattle.rd_tree.specs.Internal.Regrouping.{marked_reached}
use Rattle.rd_tree.proofs.Linking.Standing.{never}
use Rattle.rd_tree.proofs.Nodes.Each.{has-each, each_same}
use Rattle.rd_tree.proofs.Changing.Effects.{no-each, subtree-each}

touch-twice : (p q : BoxKey → Bool) (f : BoxForest) → map_where p touch (map_where q touch f) ≡ map_where (λ j. q j || p j) touch f
touch-twice p q empty = refl
touch-twice p q (tree k d below rest) =
    λ i. tree k (one (q k) (p k) i) (touch-twice p q below i) (touch-twice p q rest i) where
      one : (b c : Bool) → cond c (touch (cond b (touch d) d)) (cond b (touch d) d) ≡ cond (b || c) (touch d) d
      one true true = refl
      one true false = refl
      one false c = refl

-- Marks on some boxes and then on others,
pub marks_then : (p q : BoxKey → Bool) (t : Document) → with_marks p (with_marks q t) ≡ with_marks (λ j. q j || p j) t
marks_then p q t = ap (λ f. record t { boxes = f }) (touch-twice p q t.boxes)

-- and on the same boxes of the tree.
pub marks_same : (p q : BoxKey → Bool) (t : Document) → ((j : BoxKey) → contains t j ≡ true → p j ≡ q j) → with_marks p t ≡ with_marks q t
marks_same p q t h = ap (λ f. record t { boxes = f }) (each_same same_key same_key-refl p q touch t.boxes h)

-- Marks leave which boxes are in a context.
context_marked : (o : Option BoxKey) (p : BoxKey → Bool) (t : Document) (j : BoxKey) → in_context o (with_marks p t) j ≡ in_context o t j
context_marked None p t j = refl
context_marked (Some e) p t j = subtree-each p touch j e t.boxes

-- a context that is marked in a tree with marks
pub marks_on : (o : Option BoxKey) (p : BoxKey → Bool) (t : Document) → with_marks (in_context o (with_marks p t)) (with_marks p t) ≡ with_marks (λ j. p j || in_context o t j) t
marks_on o p t =
    marks_then (in_context o (with_marks p t)) p t
    ∙ marks_same (λ j. p j || in_context o (with_marks p t) j) (λ j. p j || in_context o t j) t (λ j u. ap (λ b. p j || b) (context_marked o p t j))

-- What a change leaves of a stacking context: it is there, and holds the boxes that it held, but for those that the change reaches.
pub record IsLeft (c : Change) (t : Document) (e : BoxKey) : Type 0 where
  pub there : contains (after c t) e ≡ true
  pub holds : (j : BoxKey) → contains (after c t) j ≡ true → (reached_by c t j || in_subtree same_key j e (after c t).boxes) ≡ (reached_by c t j || in_subtree same_key j e t.boxes)

-- It leaves it so where it regroups.
abbrev pub Leaves : Change → Document → Bool → Option BoxKey → Type 0
Leaves c t b o = (e : BoxKey) → b ≡ true → o ≡ Some e → IsLeft c t e

-- the context to touch, where there is one
abbrev pub chosen : Bool → Option BoxKey → Option BoxKey
chosen b o = cond b o None

-- It is still there once the change is made.
pub chosen_there : (c : Change) (t : Document) (b : Bool) (o : Option BoxKey) → Leaves c t b o → IfSome (chosen b o) (λ e. contains (marked_reached c t) e ≡ true)
chosen_there c t false o h = tt
chosen_there c t true None h = tt
chosen_there c t true (Some e) h = has-each (reached_by c t) touch same_key e (after c t).boxes ∙ (h e refl refl).there

-- What it holds after the change is what it held.
chosen_holds : (c : Change) (t : Document) (b : Bool) (o : Option BoxKey) → Leaves c t b o → (j : BoxKey) → contains (after c t) j ≡ true
    → (reached_by c t j || in_context (chosen b o) (after c t) j) ≡ (reached_by c t j || (b && in_context o t j))
chosen_holds c t false o h j u = refl
chosen_holds c t true None h j u = refl
chosen_holds c t true (Some e) h j u = (h e refl refl).holds j u

-- A change with one context round it, and then marks on that: all that the change touches is marked.
pub one_context : (c : Change) (t : Document) (b : Bool) (o : Option BoxKey) → Leaves c t b o → ((j : BoxKey) → regrouped_by c t j ≡ (b && in_context o t j))
    → with_marks (in_context (chosen b o) (marked_reached c t)) (marked_reached c t) ≡ edited c t
one_context c t b o h r =
    marks_on (chosen b o) (reached_by c t) (after c t)
    ∙ marks_same (λ j. reached_by c t j || in_context (chosen b o) (after c t) j) (λ j. reached_by c t j || regrouped_by c t j) (after c t)
    (λ j u. chosen_holds c t b o h j u ∙ ap (λ x. reached_by c t j || x) (sym (r j)))

-- The same with two.
pub two_contexts : (c : Change) (t : Document) (b : Bool) (o q : Option BoxKey) → Leaves c t b o → Leaves c t b q
    → ((j : BoxKey) → regrouped_by c t j ≡ (b && (in_context o t j || in_context q t j)))
    → let u : Document = with_marks (in_context (chosen b o) (marked_reached c t)) (marked_reached c t) in with_marks (in_context (chosen b q) u) u ≡ edited c t
two_contexts c t b o q h g r =
    let p : BoxKey → Bool = λ j. reached_by c t j || in_context (chosen b o) (after c t) j in
    let e : with_marks (in_context (chosen b o) (marked_reached c t)) (marked_reached c t) ≡ with_marks p (after c t) = marks_on (chosen b o) (reached_by c t) (after c t) in
    ap (λ u. with_marks (in_context (chosen b q) u) u) e
    ∙ (marks_on (chosen b q) p (after c t)
    ∙ marks_same (λ j. p j || in_context (chosen b q) (after c t) j) (λ j. reached_by c t j || regrouped_by c t j) (after c t)
    (λ j u. both (reached_by c t j) (in_context (chosen b o) (after c t) j) (in_context (chosen b q) (after c t) j) b (in_context o t j) (in_context q t j) (chosen_holds c t b o h j u) (chosen_holds c t b q g j u)
    ∙ ap (λ x. reached_by c t j || x) (sym (r j)))) where
      both : (x y z b m n : Bool) → (x || y) ≡ (x || (b && m)) → (x || z) ≡ (x || (b && n)) → ((x || y) || z) ≡ (x || (b && (m || n)))
      both true y z b m n v w = refl
      both false y z true m n v w = λ i. v i || w i
      both false y z false m n v w = λ i. v i || w i

-- Without a context nothing is marked.
pub no_context : (o : Option BoxKey) (t : Document) → o ≡ None → t ≡ with_marks (in_context o t) t
no_context None t e = ap (λ f. record t { boxes = f }) (sym (no-each touch t.boxes))
no_context (Some k) t e = cc (e)

-- The context that the code has found is the one to touch; where there is one to look for, the tree was found in order.
pub record IsChosen (b : Bool) (o : Option BoxKey) (t : Document) (r : Option BoxKey) : Type 0 where
  pub is : r ≡ chosen b o
  pub known : b ≡ true → IsRooted t × IsApart same_key t.boxes

pub found_one : (b x : Bool) (o : Option BoxKey) (t : Document) (r q : Option BoxKey) → x ≡ b → x ≡ true → r ≡ q → q ≡ o → IsRooted t → IsApart same_key t.boxes → IsChosen b o t r
found_one b x o t r q e u s h n a = record { is = s ∙ (h ∙ sym (ap (λ y. chosen y o) (sym e ∙ u))); known = λ v. (n, a) }

pub found_none : (b x : Bool) (o : Option BoxKey) (t : Document) (r : Option BoxKey) → x ≡ b → x ≡ false → r ≡ None → IsChosen b o t r
found_none b x o t r e u s = record { is = s ∙ sym (ap (λ y. chosen y o) (sym e ∙ u)); known = λ v. absurd (never b v (sym e ∙ u)) }

module _ (c : Change) (t u : Document) (b : Bool) (o r : Option BoxKey) (is : u ≡ marked_reached c t) (w : IsChosen b o t r)
    (leaves : IsRooted t → IsApart same_key t.boxes → Leaves c t b o) where
  left : Leaves c t b o
  left e on h = let k : IsRooted t × IsApart same_key t.boxes = w.known on in leaves k.0 k.1 e on h

  -- The context can be touched once the change is made,
  pub touch_ready : IfSome r (λ e. contains u e ≡ true)
  touch_ready = subst (λ x. IfSome r (λ e. contains x e ≡ true)) (sym is)
      (subst (λ x. IfSome x (λ e. contains (marked_reached c t) e ≡ true)) (sym w.is) (chosen_there c t b o left))

  -- and then all that the change touches is.
  pub all_touched : (v : Document) → v ≡ with_marks (in_context r u) u → ((j : BoxKey) → regrouped_by c t j ≡ (b && in_context o t j)) → v ≡ edited c t
  all_touched v h g =
      h ∙ (ap (λ x. with_marks (in_context r x) x) is
      ∙ (ap (λ x. with_marks (in_context x (marked_reached c t)) (marked_reached c t)) w.is ∙ one_context c t b o left g))

  -- The same where there is a second context,
  module _ (q s : Option BoxKey) (v : Document) (then : v ≡ with_marks (in_context r u) u) (z : IsChosen b q t s) (more : IsRooted t → IsApart same_key t.boxes → Leaves c t b q) where
    left_too : Leaves c t b q
    left_too e on h = let k : IsRooted t × IsApart same_key t.boxes = w.known on in more k.0 k.1 e on h

    pub touch_second : IfSome s (λ e. contains v e ≡ true)
    touch_second = subst (λ x. IfSome s (λ e. contains x e ≡ true)) (sym then)
        (still s (subst (λ x. IfSome s (λ e. contains x e ≡ true)) (sym is)
        (subst (λ x. IfSome x (λ e. contains (marked_reached c t) e ≡ true)) (sym z.is) (chosen_there c t b q left_too)))) where
          still : (x : Option BoxKey) → IfSome x (λ e. contains u e ≡ true) → IfSome x (λ e. contains (with_marks (in_context r u) u) e ≡ true)
          still None h = tt
          still (Some e) h = has-each (in_context r u) touch same_key e u.boxes ∙ h

    -- which is touched after the first.
    pub both_touched : (d : Document) → d ≡ with_marks (in_context s v) v → ((j : BoxKey) → regrouped_by c t j ≡ (b && (in_context o t j || in_context q t j))) → d ≡ edited c t
    both_touched d h g =
        let m : Document = marked_reached c t in
        let e : v ≡ with_marks (in_context (chosen b o) m) m =
        then ∙ (ap (λ x. with_marks (in_context r x) x) is ∙ ap (λ x. with_marks (in_context x m) m) w.is) in
        h ∙ (ap (λ x. with_marks (in_context s x) x) e
        ∙ (ap (λ x. with_marks (in_context x (with_marks (in_context (chosen b o) m) m)) (with_marks (in_context (chosen b o) m) m)) z.is ∙ two_contexts c t b o q left left_too g))
