-- The area of touched boxes, from the list that was painted and from the tree.
use Rattle.std.proofs.Common.{◌≡◌, refl, ap, ◌∙◌, sym, subst, Bool, true, false, cond, ◌&&◌, ◌||◌, ℤ, ℕ, ◌+◌, ◌≤◌, arith}
use Rattle.std.specs.Prelude.{Option, Some}
use Rattle.rd_geom.specs.Plane.{Rectangle, holds_pixel}
use Rattle.rd_geom.specs.Canvas.{canvas_of}
use Rattle.rd_geom.specs.Areas.{Region, in_area}
use Rattle.rd_keys.specs.Keys.{BoxKey, same_key}
use Rattle.rd_keys.proofs.Keys.{same_key-refl}
use Rattle.rd_item.specs.declared.leaf.Leaf.{Leaf}
use Rattle.rd_list.specs.Wrappers.{Wrapper}
use Rattle.rd_list.specs.Entries.{Entries}
use Rattle.rd_tree.specs.Forest.{empty, tree, from_some, starting_at, head, IsApart}
use Rattle.rd_tree.specs.declared.node.Item.{Item}
use Rattle.rd_tree.specs.Document.{BoxForest, Document, IsRooted}
use Rattle.rd_tree.specs.Hulls.{any_touched, breadth}
use Rattle.rd_stack.specs.Paths.{BoxData}
use Rattle.rd_partial.specs.Looks.{looks_in, looks_bound, holds_touched}
use Rattle.rd_stack.specs.Fresh.{drawn_list}
use Rattle.rd_partial.specs.Invalid.{any_shows}
use Rattle.rd_partial.specs.Internal.Counting.{looks_below}
use Rattle.rd_partial.specs.Internal.BoxLook.{Onward}
use Rattle.rd_partial.specs.Internal.Inherited.{Inherited, at_root}
use Rattle.rd_partial.specs.Internal.Touched.{Joins, touched_shows, leads_to_touched}
use Rattle.rd_partial.proofs.Marked.{fresh_shows}
use Rattle.rd_partial.proofs.Visits.{visits_bound, looks}

module _ (t : Document) (r : IsRooted t) where
  at_tree : (k : BoxKey) (d : Item) (ch : BoxForest) → starting_at same_key k (tree k d ch empty) ≡ tree k d ch empty
  at_tree k d ch = rw (same_key-refl k) refl

  -- from the root on are all boxes
  pub from_root : (k : BoxKey) → k ≡ t.root → from_some same_key (Some k) t.boxes ≡ t.boxes
  from_root k e = ap (λ z. starting_at same_key z t.boxes) e ∙ subst (λ f. starting_at same_key t.root f ≡ f) (sym r.2) (at_tree t.root r.0 r.1)

  pub root_first : (k : BoxKey) → k ≡ t.root → Some k ≡ head (from_some same_key (Some k) t.boxes)
  root_first k e = ap Some e ∙ sym (ap head (from_root k e) ∙ ap head r.2)

  -- no box comes after it
  pub root_last : (k : BoxKey) → k ≡ t.root → (here : BoxData) (c nx : Option BoxKey) (hull : Rectangle) → Onward t.boxes k here c nx hull
      → from_some same_key nx t.boxes ≡ empty
  root_last k e here c nx hull w =
      let all : tree k w.item w.below w.rest ≡ tree t.root r.0 r.1 empty = sym w.is ∙ from_root k e ∙ r.2 in
      let none : w.rest ≡ empty = cc (all) in
      w.next ∙ none

  of_tree : (k : BoxKey) (d : Item) (ch : BoxForest) → looks_below leads_to_touched (tree k d ch empty) ≤ looks_bound holds_touched (tree k d ch empty)
  of_tree k d ch = by (any_touched ch) (visits_bound leads_to_touched ch) (looks leads_to_touched holds_touched (λ e below h. or_true e.touched (any_touched below) h) (tree k d ch empty))
    where
      or_true : (a b : Bool) → b ≡ true → (a || b) ≡ true
      or_true true b h = refl
      or_true false b h = h

      by : (u : Bool) → looks_below leads_to_touched ch ≤ breadth ch + looks_in leads_to_touched ch → looks_bound leads_to_touched (tree k d ch empty) ≤ looks_bound holds_touched (tree k d ch empty)
          → 1 + cond u (looks_below leads_to_touched ch) 0 + 0 ≤ looks_bound holds_touched (tree k d ch empty)
      by true h i = omega (arith, h, i)
      by false h i = omega (arith, h, i)

  pub looks_are : (k : BoxKey) → k ≡ t.root → (before now : ℕ) → now ≤ before + looks_below leads_to_touched (from_some same_key (Some k) t.boxes) → now ≤ before + looks_bound holds_touched t.boxes
  looks_are k e before now h =
      let i : looks_below leads_to_touched t.boxes ≤ looks_bound holds_touched t.boxes = subst (λ f. looks_below leads_to_touched f ≤ looks_bound holds_touched f) (sym r.2) (of_tree t.root r.0 r.1) in
      let j : now ≤ before + looks_below leads_to_touched t.boxes = subst (λ f. now ≤ before + looks_below leads_to_touched f) (from_root k e) h in
      omega (arith, i, j)

both : (h a b : Bool) → ((b && h) || ((a && h) || false)) ≡ (h && (a || b))
both true true true = refl
both true true false = refl
both true false true = refl
both true false false = refl
both false true true = refl
both false true false = refl
both false false true = refl
both false false false = refl

pub invalid_is : (t : Document) → IsRooted t → IsApart same_key t.boxes → (k : BoxKey) → k ≡ t.root → (s : Inherited) → s ≡ at_root (canvas_of t.canvas) → (list : Entries Wrapper Leaf) (a b c : Region) → a.size ≡ t.canvas → ((x y : ℤ) → in_area a x y ≡ false)
    → Joins (any_shows t list) a b → Joins (touched_shows s (from_some same_key (Some k) t.boxes)) b c → (x y : ℤ) → in_area c x y ≡ (holds_pixel (canvas_of t.canvas) x y && (any_shows t list x y || any_shows t (drawn_list t) x y))
invalid_is t r a k e s begun list none one two size off h i x y =
    i.pixels x y
    ∙ ap (λ z. (touched_shows s (from_some same_key (Some k) t.boxes) x y && holds_pixel (canvas_of z) x y) || in_area one x y) (h.size ∙ size)
    ∙ ap (λ z. (touched_shows s (from_some same_key (Some k) t.boxes) x y && holds_pixel (canvas_of t.canvas) x y) || z) (h.pixels x y ∙ ap (λ z. (any_shows t list x y && holds_pixel (canvas_of z) x y) || in_area none x y) size ∙ ap (λ z. (any_shows t list x y && holds_pixel (canvas_of t.canvas) x y) || z) (off x y))
    ∙ both (holds_pixel (canvas_of t.canvas) x y) (any_shows t list x y) (touched_shows s (from_some same_key (Some k) t.boxes) x y)
    ∙ ap (λ z. holds_pixel (canvas_of t.canvas) x y && (any_shows t list x y || z))
    (ap (λ z. touched_shows z (from_some same_key (Some k) t.boxes) x y) begun ∙ ap (λ f. touched_shows (at_root (canvas_of t.canvas)) f x y) (from_root t r k e) ∙ sym (fresh_shows t r a x y))
