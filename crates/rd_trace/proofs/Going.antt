-- What a look at a box tells of the walk over a tree, and what its first box paints.
use Rattle.std.proofs.Common.{◌≡◌, refl, ap, ◌∙◌, sym, subst, ℕ, ℤ, ◌≤◌, arith, List, [], ◌∷◌, ◌++◌, append_assoc}
use Rattle.std.specs.Prelude.{Option, Some}
use Rattle.rd_geom.specs.Plane.{Rectangle}
use Rattle.rd_geom.specs.Canvas.{canvas_of}
use Rattle.rd_keys.specs.Keys.{BoxKey, same_key}
use Rattle.rd_keys.proofs.Keys.{same_key-refl}
use Rattle.rd_tree.specs.Forest.{empty, tree, starting_at, from_some, size}
use Rattle.rd_tree.specs.declared.node.Item.{Item}
use Rattle.rd_tree.specs.Document.{BoxForest, Document, IsRooted}
use Rattle.rd_stack.specs.Paths.{BoxData}
use Rattle.rd_stack.specs.Looks.{Onward}
use Rattle.rd_stack.proofs.Walk.Going.{smaller_next}
use Rattle.rd_trace.specs.declared.placing.Sight.{Sight}
use Rattle.rd_trace.specs.Ways.{Traced, TracedBox}
use Rattle.rd_trace.specs.Traces.{traced_below, with_below, root_traces, sight}
use Rattle.rd_trace.specs.Internal.Looks.{first_entry, traced_from}

module _ (s : Sight) where
  -- one sibling more is traced
  traced_more : (f : BoxForest) (above : List BoxData) (k : BoxKey) (here : BoxData) (c n : Option BoxKey) (before after one whole : List TracedBox) → Onward f k here c n
      → before ++ traced_below s above (starting_at same_key k f) ≡ whole → one ≡ with_below s above here (traced_below s (here ∷ above) (from_some same_key c f)) → after ≡ before ++ one
      → after ++ traced_below s above (from_some same_key n f) ≡ whole
  traced_more f above k here c n before after one whole w b o e =
      let all : traced_below s above (starting_at same_key k f) ≡ one ++ traced_below s above (from_some same_key n f) = rw (w.is, o, w.data_is, w.child, w.next) refl in
      rw (e, ← b, all) (append_assoc before one (traced_below s above (from_some same_key n f)))

  -- what the loop over siblings keeps
  pub go_on : (f : BoxForest) (above : List BoxData) (o : Option BoxKey) (k : BoxKey) (here : BoxData) (c n : Option BoxKey) (m : ℕ) (before after one whole : List TracedBox) → Onward f k here c n → o ≡ Some k
      → (size (from_some same_key o f) ≤ m) × (before ++ traced_below s above (from_some same_key o f) ≡ whole)
      → one ≡ with_below s above here (traced_below s (here ∷ above) (from_some same_key c f)) → after ≡ before ++ one
      → (size (from_some same_key n f) ≤ m) × (after ++ traced_below s above (from_some same_key n f) ≡ whole)
  go_on f above o k here c n m before after one whole w e i p q =
      let here_is = subst (λ x. (size (from_some same_key x f) ≤ m) × (before ++ traced_below s above (from_some same_key x f) ≡ whole)) e i in
      (omega (arith, smaller_next f k here c n w, here_is.0), traced_more f above k here c n before after one whole w here_is.1 p q)

first_traced : (s : Sight) (f : BoxForest) → first_entry (traced_below s [] f) ≡ root_traces s f
first_traced s empty = refl
first_traced s (tree k d below rest) = refl

from_root : (k : BoxKey) (d : Item) (below : BoxForest) → from_some same_key (Some k) (tree k d below empty) ≡ tree k d below empty
from_root k d below = rw (same_key-refl k) refl

-- what the first of the boxes from the root on paints
pub root_entry : (s seen : Sight) (t : Document) (k : BoxKey) (boxes : List TracedBox) (leaves : List Traced) → seen ≡ s → IsRooted t → k ≡ t.root
    → boxes ≡ traced_from seen [] (Some k) t → leaves ≡ first_entry boxes → leaves ≡ root_traces s t.boxes
root_entry s seen t k boxes leaves n r e b l =
    let all : from_some same_key (Some k) t.boxes ≡ t.boxes = ap (λ z. starting_at same_key z t.boxes) e ∙ subst (λ f. starting_at same_key t.root f ≡ f) (sym r.2) (from_root t.root r.0 r.1) in
    l ∙ (ap first_entry b ∙ (ap (λ f. first_entry (traced_below seen [] f)) all ∙ (ap (λ z. first_entry (traced_below z [] t.boxes)) n ∙ first_traced s t.boxes)))

-- a pixel of the canvas of a tree
pub sight_is : (canvas : Rectangle) (a b x y : ℤ) (t : Document) → canvas ≡ canvas_of t.canvas → a ≡ x → b ≡ y → record { canvas = canvas; x = a; y = b } ≡ sight x y t
sight_is canvas a b x y t p q r = rw (p, q, r) refl
