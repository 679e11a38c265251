-- What a look at a box tells of the walk over a tree.
use Rattle.std.proofs.Common.{◌≡◌, refl, ap, ◌∙◌, sym, subst, ℕ, ◌+◌, ◌<◌, ◌≤◌, arith, List, ◌∷◌, ◌++◌, append_assoc}
use Rattle.std.specs.Prelude.{Option, Some, None}
use Rattle.rd_geom.specs.Plane.{Rectangle, IsPlaced, outset}
use Rattle.rd_style.specs.declared.styles.Style.{Style}
use Rattle.rd_style.specs.Limits.{Fits}
use Rattle.rd_tree.specs.Limits.{IsNear}
use Rattle.rd_tree.specs.Drawn.{AllNear}
use Rattle.rd_keys.specs.Keys.{BoxKey, same_key}
use Rattle.rd_tree.specs.Forest.{empty, tree, head, starting_at, from_some, size, IsApart}
use Rattle.rd_tree.specs.declared.node.Item.{Item}
use Rattle.rd_tree.specs.Document.{BoxForest}
use Rattle.rd_tree.specs.Shown.{Shown, shown}
use Rattle.rd_tree.proofs.Summaries.Extents.{extent_is_placed}
use Rattle.rd_tree.proofs.Nodes.Looking as looking
use Rattle.rd_tree.proofs.Nodes.Looking.{fit_from}
use Rattle.rd_stack.specs.Paths.{BoxData}
use Rattle.rd_stack.specs.Fresh.{box_data, grouping, painted, with_below}
use Rattle.rd_stack.specs.Painting.{Painted}
use Rattle.rd_stack.specs.Looks.{Onward}

placed_as : (q : Rectangle) (s : Style) (r : Rectangle) (t : Style) → q ≡ r → s ≡ t → IsNear r → Fits t → IsPlaced (outset q s.outline_width)
placed_as q s r t e h f g = rw (e, h) (extent_is_placed r t f g)

-- the box that is looked at has room for its outline
pub placed : (root : BoxKey) (f : BoxForest) (k : BoxKey) (v : Shown) → IsApart same_key f → AllNear f → Some v ≡ shown root (starting_at same_key k f) → IsPlaced (outset v.at v.style.outline_width)
placed root f k v a l h =
    let w = looking.onward root f k v a h in
    let fits : AllNear (tree k w.item w.below w.rest) = subst AllNear w.is (fit_from k f l) in
    placed_as v.at v.style w.item.rect w.item.style w.at w.style fits.0 fits.1

pub onward : (root : BoxKey) (f : BoxForest) (k : BoxKey) (v : Shown) (here : BoxData) → IsApart same_key f → Some v ≡ shown root (starting_at same_key k f) → here ≡ record { key = v.key; rect = v.at; style = v.style }
    → Onward f k here v.first_child v.next_sibling
onward root f k v here a h e =
    let w = looking.onward root f k v a h in
    record {
      item = w.item;
      below = w.below;
      rest = w.rest;
      is = w.is;
      data_is = e ∙ data_of v w.item k w.key w.at w.style;
      child = w.child;
      next = w.next;
      child_first = first_is w.item w.below w.rest (shown_is w.item w.below w.rest w.is);
      next_first = next_is w.item w.below w.rest (shown_is w.item w.below w.rest w.is);
    }
  where
    first_is : (d : Item) (below rest : BoxForest) → Some v ≡ shown root (tree k d below rest) → v.first_child ≡ head below
    first_is d below rest e = cc (e)

    next_is : (d : Item) (below rest : BoxForest) → Some v ≡ shown root (tree k d below rest) → v.next_sibling ≡ head rest
    next_is d below rest e = cc (e)

    shown_is : (d : Item) (below rest : BoxForest) → starting_at same_key k f ≡ tree k d below rest → Some v ≡ shown root (tree k d below rest)
    shown_is d below rest i = h ∙ ap (shown root) i

    data_of : (v : Shown) (d : Item) (k : BoxKey) → v.key ≡ k → v.at ≡ d.rect → v.style ≡ d.style → record { key = v.key; rect = v.at; style = v.style } ≡ box_data k d
    data_of v d k p q r =
        let mk : BoxKey → Rectangle → Style → BoxData = λ x y z. record { key = x; rect = y; style = z } in
        ap (λ x. mk x v.at v.style) p ∙ (ap (λ y. mk k y v.style) q ∙ ap (mk k d.rect) r)

pub smaller_next : (f : BoxForest) (k : BoxKey) (here : BoxData) (c n : Option BoxKey) → Onward f k here c n → size (from_some same_key n f) < size (starting_at same_key k f)
smaller_next f k here c n w = rw (w.is, w.next) (omega arith)

module _ (canvas : Rectangle) where
  -- one sibling more is painted
  pub painted_more : (f : BoxForest) (above : List BoxData) (k : BoxKey) (here : BoxData) (c n : Option BoxKey) (before after one whole : List Painted) → Onward f k here c n
      → before ++ painted grouping canvas above (starting_at same_key k f) ≡ whole → one ≡ with_below grouping canvas above here (painted grouping canvas (here ∷ above) (from_some same_key c f)) → after ≡ before ++ one
      → after ++ painted grouping canvas above (from_some same_key n f) ≡ whole
  painted_more f above k here c n before after one whole w b o e =
      let all : painted grouping canvas above (starting_at same_key k f) ≡ one ++ painted grouping canvas above (from_some same_key n f) = rw (w.is, o, w.data_is, w.child, w.next) refl in
      rw (e, ← b, all) (append_assoc before one (painted grouping canvas above (from_some same_key n f)))

  -- what the loop over siblings keeps
  pub go_on : (f : BoxForest) (above : List BoxData) (o : Option BoxKey) (k : BoxKey) (here : BoxData) (c n : Option BoxKey) (m : ℕ) (before after one whole : List Painted) → Onward f k here c n → o ≡ Some k
      → (size (from_some same_key o f) ≤ m) × (before ++ painted grouping canvas above (from_some same_key o f) ≡ whole)
      → one ≡ with_below grouping canvas above here (painted grouping canvas (here ∷ above) (from_some same_key c f)) → after ≡ before ++ one
      → (size (from_some same_key n f) ≤ m) × (after ++ painted grouping canvas above (from_some same_key n f) ≡ whole)
  go_on f above o k here c n m before after one whole w e i p q =
      let here_is = subst (λ x. (size (from_some same_key x f) ≤ m) × (before ++ painted grouping canvas above (from_some same_key x f) ≡ whole)) e i in
      (omega (arith, smaller_next f k here c n w, here_is.0), painted_more f above k here c n before after one whole w here_is.1 p q)

-- a child, or a sibling, that is told of is there
pub first_child_is : (f : BoxForest) (k : BoxKey) (here : BoxData) (c n : Option BoxKey) → Onward f k here c n → c ≡ head (from_some same_key c f)
first_child_is f k here c n w = w.child_first ∙ ap head (sym w.child)

pub next_sibling_is : (f : BoxForest) (k : BoxKey) (here : BoxData) (c n : Option BoxKey) → Onward f k here c n → n ≡ head (from_some same_key n f)
next_sibling_is f k here c n w = w.next_first ∙ ap head (sym w.next)

-- how many boxes are left
pub sizes : (f : BoxForest) (o : Option BoxKey) (k : BoxKey) (here : BoxData) (c n : Option BoxKey) → Onward f k here c n → o ≡ Some k → size (from_some same_key o f) ≡ 1 + (size (from_some same_key c f) + size (from_some same_key n f))
sizes f o k here c n w e = rw (e, w.is, w.child, w.next) refl

-- what is there is found
pub found : (f : BoxForest) (o : Option BoxKey) (k : BoxKey) → o ≡ Some k → o ≡ head (from_some same_key o f) → starting_at same_key k f ≡ empty → ⊥
found f o k e h n = let x : Some k ≡ None = sym e ∙ (h ∙ (rw (e, n) refl)) in cc
