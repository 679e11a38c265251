-- One sibling more.
use Rattle.std.proofs.Common.{◌≡◌, refl, ap, ◌∙◌, sym, subst, Bool, true, false, cond, append_assoc, ℕ, ◌+◌, ◌≤◌, arith}
use Rattle.std.specs.Prelude.{Option, Some, None, IsTrue}
use Rattle.std.proofs.lemmas.List.{append-nil}
use Rattle.rd_geom.specs.Plane.{Rectangle, IsWithin}
use Rattle.rd_keys.specs.Keys.{BoxKey, same_key}
use Rattle.rd_keys.specs.declared.entry.Part.TheVariants.{Back, Border, Content, Outline}
use Rattle.rd_item.specs.Items.{Made}
use Rattle.rd_list.proofs.Joins.{join-nil, join_assoc}
use Rattle.rd_tree.specs.Forest.{empty, tree, starting_at, from_some, size, head}
use Rattle.rd_tree.specs.Document.{BoxForest}
use Rattle.rd_tree.specs.Contexts.{blends_in}
use Rattle.rd_tree.specs.declared.node.Item.{Item}
use Rattle.rd_tree.specs.Hulls.{extent, hull_in}
use Rattle.rd_stack.specs.Paths.{BoxData}
use Rattle.rd_stack.specs.Fresh.{box_data}
use Rattle.rd_partial.specs.Internal.Pass.{box_lists, is_one, order_of}
use Rattle.rd_partial.specs.Internal.Inherited.{Inherited}
use Rattle.rd_partial.specs.Internal.ContextLists.{ContextLists, no_lists, ◌⊕◌}
use Rattle.rd_partial.specs.Internal.Inherited.{below}
use Rattle.rd_partial.specs.Internal.Given.{gives}
use Rattle.rd_partial.specs.Internal.Work.{passes, cost, boxed, own_cost}
use Rattle.rd_partial.specs.Internal.Counting.{visits, given}
use Rattle.rd_partial.specs.Internal.BoxLook.{Onward}
use Rattle.rd_partial.proofs.Pass.Pruned.{GiveNone, pass-none, no_box}
use Rattle.rd_partial.proofs.Pass.Reach.{give_none, none_of, hull_left, hull_right}
use Rattle.rd_partial.specs.Looks.{hull_at}

none_given : (wants : Rectangle → Bool) (n : ℕ) (s : Inherited) (f : BoxForest) → GiveNone below (gives wants n) s f → given below (gives wants n) s f ≡ 0
none_given wants n s empty h = refl
none_given wants n s (tree k d ch nx) h = rw (h.0 Back, h.0 Border, h.0 Content, h.0 Outline, none_given wants n (below s (box_data k d)) ch h.1, none_given wants n s nx h.2) (omega arith)

pub plus_assoc : (a b c : ContextLists Made) → (a ⊕ b) ⊕ c ≡ a ⊕ (b ⊕ c)
plus_assoc a b c =
    rw (
      append_assoc a.negatives b.negatives c.negatives,
      append_assoc a.positives b.positives c.positives,
      join_assoc a.backgrounds b.backgrounds c.backgrounds,
      join_assoc a.floats b.floats c.floats,
      join_assoc a.line b.line c.line,
      join_assoc a.contents b.contents c.contents,
      join_assoc a.zeros b.zeros c.zeros,
      join_assoc a.outlines b.outlines c.outlines,
    ) refl

pub plus_none : (a : ContextLists Made) → a ⊕ no_lists ≡ a
plus_none a =
    rw (append-nil a.negatives, append-nil a.positives, join-nil a.backgrounds, join-nil a.floats, join-nil a.line, join-nil a.contents, join-nil a.zeros, join-nil a.outlines) refl

module _ (wants : Rectangle → Bool) (n : ℕ) (s : Inherited) where
  pub passes_empty : passes wants n s empty ≡ no_lists
  unfolding passes
  passes_empty = refl

  pub cost_empty : cost wants n s empty ≡ 0
  unfolding cost
  cost_empty = refl

  pub passes_of_none : (o : Option BoxKey) (f : BoxForest) → o ≡ None → passes wants n s (from_some same_key o f) ≡ no_lists
  passes_of_none o f e = ap (λ z. passes wants n s (from_some same_key z f)) e ∙ passes_empty

  pub cost_of_none : (o : Option BoxKey) (f : BoxForest) → o ≡ None → cost wants n s (from_some same_key o f) ≡ 0
  cost_of_none o f e = ap (λ z. cost wants n s (from_some same_key z f)) e ∙ cost_empty

  -- where there are none, nothing is dropped
  pub passes_none : (o : Option BoxKey) (f : BoxForest) (a : ContextLists Made) → o ≡ None → a ≡ a ⊕ passes wants n s (from_some same_key o f)
  passes_none o f a e = sym (ap (λ z. a ⊕ passes wants n s (from_some same_key z f)) e ∙ ap (λ z. a ⊕ z) passes_empty ∙ plus_none a)

  pub cost_none_below : (o : Option BoxKey) (f : BoxForest) (made : ℕ) → o ≡ None → made ≡ made + cost wants n s (from_some same_key o f)
  cost_none_below o f made e = let h : cost wants n s (from_some same_key o f) ≡ 0 = cost_of_none o f e in omega (arith, h)

  module _ (f : BoxForest) (k : BoxKey) (here : BoxData) (c nx : Option BoxKey) (hull : Rectangle) (w : Onward f k here c nx hull) where
    pub passes_more : passes wants n s (starting_at same_key k f) ≡ boxed wants n s here (is_one false (blends_in (from_some same_key c f)) here) (passes wants n (below s here) (from_some same_key c f)) ⊕ passes wants n s (from_some same_key nx f)
    unfolding passes
    passes_more = rw (w.is, w.data_is, w.child, w.next) refl

    pub cost_more : cost wants n s (starting_at same_key k f) ≡ own_cost wants n s here + cost wants n (below s here) (from_some same_key c f) + cost wants n s (from_some same_key nx f)
    unfolding cost
    cost_more = rw (w.is, w.data_is, w.child, w.next) refl

    pub visits_more : visits wants (starting_at same_key k f) ≡ 1 + cond (wants hull) (visits wants (from_some same_key c f)) 0 + visits wants (from_some same_key nx f)
    visits_more = rw (w.is, w.child, w.next, w.hull_is) refl

    pub size_more : size (starting_at same_key k f) ≡ 1 + (size (from_some same_key c f) + size (from_some same_key nx f))
    size_more = rw (w.is, w.child, w.next) refl

    -- what is dropped where its hull is not wanted
    none_there : (grows : (a b : Rectangle) → IsWithin a b → IsTrue (wants a) → IsTrue (wants b)) → s.root ≡ false → wants hull ≡ false → GiveNone below (gives wants n) s (tree k w.item w.below empty)
    none_there grows r h =
        let e : wants (hull_at w.item w.below) ≡ false = subst (λ z. wants z ≡ false) w.hull_is h in
        let b = box_data k w.item in (
          none_of wants n grows (hull_at w.item w.below) e s b r (hull_left (extent w.item) (hull_in w.below)),
          give_none wants n grows (hull_at w.item w.below) e (below s b) w.below refl (hull_right (extent w.item) (hull_in w.below)),
          tt,
        )

    pub boxed_none : (grows : (a b : Rectangle) → IsWithin a b → IsTrue (wants a) → IsTrue (wants b)) → s.root ≡ false → wants hull ≡ false → (grouped : Bool) → boxed wants n s here grouped (passes wants n (below s here) (from_some same_key c f)) ≡ no_lists
    unfolding passes
    boxed_none grows r h grouped =
        let x = none_there grows r h in
        rw (w.data_is, w.child)
        (ap (λ z. box_lists below (gives wants n) s (box_data k w.item) grouped (order_of below (gives wants n) false s (box_data k w.item) z) z) (pass-none below (gives wants n) (below s (box_data k w.item)) w.below x.1)
        ∙ no_box below (gives wants n) s (box_data k w.item) grouped x.0)

    pub cost_none : (grows : (a b : Rectangle) → IsWithin a b → IsTrue (wants a) → IsTrue (wants b)) → s.root ≡ false → wants hull ≡ false → own_cost wants n s here + cost wants n (below s here) (from_some same_key c f) ≡ 0
    unfolding cost
    cost_none grows r h =
        let x = none_there grows r h in
        rw (w.data_is, w.child, x.0 Back, x.0 Border, x.0 Content, x.0 Outline, none_given wants n (below s (box_data k w.item)) w.below x.1) (omega arith)

-- what the loop over siblings keeps
pub record Kept (wants : Rectangle → Bool) (n : ℕ) (s : Inherited) (f first next : BoxForest) (before now : ContextLists Made) (made0 made looks0 looks : ℕ) : Type 0 where
  pub fewer : size next ≤ size first
  pub list : now ⊕ passes wants n s next ≡ before ⊕ passes wants n s first
  pub made_is : made + cost wants n s next ≡ made0 + cost wants n s first
  pub looks_is : looks + visits wants next ≤ looks0 + visits wants first

module _ (wants : Rectangle → Bool) (n : ℕ) (s : Inherited) (f first : BoxForest) (k : BoxKey) (here : BoxData) (c nx : Option BoxKey) (hull : Rectangle) (w : Onward f k here c nx hull) (before now : ContextLists Made) (made0 made looks0 looks : ℕ) where
  abbrev inner : ContextLists Made
  inner = passes wants n (below s here) (from_some same_key c f)

  abbrev one : Bool
  one = is_one false (blends_in (from_some same_key c f)) here

  pub kept_one : (o : Option BoxKey) (then : ContextLists Made) (made2 looks1 looks2 : ℕ) → o ≡ Some k → Kept wants n s f first (from_some same_key o f) before now made0 made looks0 looks → wants hull ≡ true
      → then ≡ now ⊕ boxed wants n s here one inner → made2 ≡ made + (own_cost wants n s here + cost wants n (below s here) (from_some same_key c f)) → looks1 ≡ looks + 1 → looks2 ≤ looks1 + visits wants (from_some same_key c f)
      → Kept wants n s f first (from_some same_key nx f) before then made0 made2 looks0 looks2
  kept_one o then made2 looks1 looks2 e i h t m l v =
      let j : Kept wants n s f first (starting_at same_key k f) before now made0 made looks0 looks = subst (λ x. Kept wants n s f first (from_some same_key x f) before now made0 made looks0 looks) e i in
      let sm = size_more wants n s f k here c nx hull w in
      let vm : visits wants (starting_at same_key k f) ≡ 1 + visits wants (from_some same_key c f) + visits wants (from_some same_key nx f) = visits_more wants n s f k here c nx hull w ∙ rw h refl in
      let cm = cost_more wants n s f k here c nx hull w in
      record {
        fewer = omega (arith, sm, j.fewer);
        list = rw t (plus_assoc now (boxed wants n s here one inner) (passes wants n s (from_some same_key nx f)) ∙ ap (λ z. now ⊕ z) (sym (passes_more wants n s f k here c nx hull w)) ∙ j.list);
        made_is = omega (arith, cm, j.made_is, m);
        looks_is = omega (arith, vm, j.looks_is, l, v);
      }

  pub kept_none : (o : Option BoxKey) (looks1 : ℕ) → o ≡ Some k → Kept wants n s f first (from_some same_key o f) before now made0 made looks0 looks → wants hull ≡ false → (grows : (a b : Rectangle) → IsWithin a b → IsTrue (wants a) → IsTrue (wants b)) → s.root ≡ false → looks1 ≡ looks + 1
      → Kept wants n s f first (from_some same_key nx f) before now made0 made looks0 looks1
  kept_none o looks1 e i h grows r l =
      let j : Kept wants n s f first (starting_at same_key k f) before now made0 made looks0 looks = subst (λ x. Kept wants n s f first (from_some same_key x f) before now made0 made looks0 looks) e i in
      let sm = size_more wants n s f k here c nx hull w in
      let vm : visits wants (starting_at same_key k f) ≡ 1 + 0 + visits wants (from_some same_key nx f) = visits_more wants n s f k here c nx hull w ∙ rw h refl in
      let cm = cost_more wants n s f k here c nx hull w in
      let cn = cost_none wants n s f k here c nx hull w grows r h in
      let bn = boxed_none wants n s f k here c nx hull w grows r h one in
      record {
        fewer = omega (arith, sm, j.fewer);
        list = ap (λ z. now ⊕ z) (sym (passes_more wants n s f k here c nx hull w ∙ ap (λ z. z ⊕ passes wants n s (from_some same_key nx f)) bn)) ∙ j.list;
        made_is = omega (arith, cm, j.made_is, cn);
        looks_is = omega (arith, vm, j.looks_is, l);
      }

pub kept_end : (wants : Rectangle → Bool) (n : ℕ) (s : Inherited) (f first next : BoxForest) (before now : ContextLists Made) (made0 made looks0 looks : ℕ) → next ≡ empty → Kept wants n s f first next before now made0 made looks0 looks
    → (now ≡ before ⊕ passes wants n s first) × (made ≡ made0 + cost wants n s first) × (looks ≤ looks0 + visits wants first)
kept_end wants n s f first next before now made0 made looks0 looks e i =
    let j : Kept wants n s f first empty before now made0 made looks0 looks = subst (λ x. Kept wants n s f first x before now made0 made looks0 looks) e i in
    let ce = cost_empty wants n s in
    (sym (plus_none now) ∙ ap (λ z. now ⊕ z) (sym (passes_empty wants n s)) ∙ j.list, omega (arith, j.made_is, ce), omega (arith, j.looks_is))

pub kept_most : (wants : Rectangle → Bool) (n : ℕ) (s : Inherited) (f first : BoxForest) (k : BoxKey) (here : BoxData) (c nx : Option BoxKey) (hull : Rectangle) (w : Onward f k here c nx hull) (before now : ContextLists Made) (made0 made looks0 looks : ℕ) (o : Option BoxKey) (made2 : ℕ)
    → o ≡ Some k → Kept wants n s f first (from_some same_key o f) before now made0 made looks0 looks → made2 ≤ made + (own_cost wants n s here + cost wants n (below s here) (from_some same_key c f)) → made2 ≤ made0 + cost wants n s first
kept_most wants n s f first k here c nx hull w before now made0 made looks0 looks o made2 e i m =
    let j : Kept wants n s f first (starting_at same_key k f) before now made0 made looks0 looks = subst (λ x. Kept wants n s f first (from_some same_key x f) before now made0 made looks0 looks) e i in
    let cm = cost_more wants n s f k here c nx hull w in
    omega (arith, cm, j.made_is, m)

-- the first child is that of the boxes from it on
pub live_child : (f : BoxForest) (k : BoxKey) (here : BoxData) (c nx : Option BoxKey) (hull : Rectangle) → Onward f k here c nx hull → c ≡ head (from_some same_key c f)
live_child f k here c nx hull w = w.child_first ∙ ap head (sym w.child)

pub live_next : (f : BoxForest) (k : BoxKey) (here : BoxData) (c nx : Option BoxKey) (hull : Rectangle) → Onward f k here c nx hull → nx ≡ head (from_some same_key nx f)
live_next f k here c nx hull w = w.next_first ∙ ap head (sym w.next)

-- what a look tells of a box it tells of what is made of it
pub onward_as : {f : BoxForest} {k : BoxKey} {here b : BoxData} {c nx : Option BoxKey} {hull : Rectangle} → b ≡ here → Onward f k here c nx hull → Onward f k b c nx hull
onward_as e w = record { item = w.item; below = w.below; rest = w.rest; is = w.is; data_is = e ∙ w.data_is; child = w.child; next = w.next; child_first = w.child_first; next_first = w.next_first; hull_is = w.hull_is }

-- so a look at it finds it
pub dead_end : (f : BoxForest) (k : BoxKey) (o : Option BoxKey) → o ≡ Some k → o ≡ head (from_some same_key o f) → starting_at same_key k f ≡ empty → ⊥
dead_end f k o e h n = let m : Some k ≡ head (from_some same_key (Some k) f) = subst (λ x. x ≡ head (from_some same_key x f)) e h in let q : Some k ≡ head {K = BoxKey} {D = Item} empty = m ∙ ap head n in cc
