-- In the whole canvas nothing of a fresh list is left out.
use Rattle.std.proofs.Common.{◌≡◌, refl, ap, ◌∙◌, Bool, true, not, ◌&&◌, List, [], ◌∷◌, ◌++◌}
use Rattle.std.specs.Prelude.{All, IsTrue}
use Rattle.std.proofs.lemmas.List.Elements.{All-nil, All-cons, All-head, All-tail, All-weaker}
use Rattle.rd_geom.specs.Plane.{Rectangle, meets}
use Rattle.rd_geom.specs.Canvas.{canvas_of}
use Rattle.rd_geom.proofs.Pixels.{left_of, right_of}
use Rattle.rd_keys.specs.Keys.{same_key}
use Rattle.rd_item.specs.declared.leaf.Leaf.{Leaf}
use Rattle.rd_list.specs.Wrappers.{Wrapper}
use Rattle.rd_list.specs.Entries.{Entries, nil, leaf, group, flat, only, grouped_if_any, is_empty, no_group_is_empty}
use Rattle.rd_tree.specs.Forest.{IsApart}
use Rattle.rd_tree.specs.Document.{Document}
use Rattle.rd_stack.specs.Fresh.{fresh_list}
use Rattle.rd_stack.specs.Laws.{IsOnCanvas}
use Rattle.rd_stack.proofs.Promises.{stands_for_itself, shows_on_canvas}

module _ (p : Leaf → Bool) where
  abbrev Passes : Leaf → Type 0
  Passes l = p l ≡ true

  all_first : (xs ys : List Leaf) → All Passes (xs ++ ys) → All Passes xs
  all_first [] ys h = All-nil Passes
  all_first (x ∷ xs) ys h = All-cons Passes x xs (All-head Passes x (xs ++ ys) h) (all_first xs ys (All-tail Passes x (xs ++ ys) h))

  all_second : (xs ys : List Leaf) → All Passes (xs ++ ys) → All Passes ys
  all_second [] ys h = h
  all_second (x ∷ xs) ys h = all_second xs ys (All-tail Passes x (xs ++ ys) h)

  some_group : (g : Wrapper) (inner rest : Entries Wrapper Leaf) → IsTrue (not (is_empty inner)) → grouped_if_any g inner rest ≡ group g inner rest
  some_group g nil rest h = cc
  some_group g (leaf l xs) rest h = refl
  some_group g (group v i xs) rest h = refl

  -- where all leaves pass and no group is empty
  none_left_out : (xs : Entries Wrapper Leaf) → IsTrue (no_group_is_empty xs) → All Passes (flat xs) → only p xs ≡ xs
  none_left_out nil h k = refl
  none_left_out (leaf l rest) h k = rw (All-head Passes l (flat rest) k) (ap (leaf l) (none_left_out rest h (All-tail Passes l (flat rest) k)))
  none_left_out (group g inner rest) h k =
      let more : IsTrue (not (is_empty inner) && no_group_is_empty inner) = left_of (not (is_empty inner) && no_group_is_empty inner) (no_group_is_empty rest) h in
      ap (λ z. grouped_if_any g z (only p rest)) (none_left_out inner (right_of (not (is_empty inner)) (no_group_is_empty inner) more) (all_first (flat inner) (flat rest) k))
      ∙ ap (grouped_if_any g inner) (none_left_out rest (right_of (not (is_empty inner) && no_group_is_empty inner) (no_group_is_empty rest) h) (all_second (flat inner) (flat rest) k))
      ∙ some_group g inner rest (left_of (not (is_empty inner)) (no_group_is_empty inner) more)

pub all_wanted : (t : Document) → IsApart same_key t.boxes → (q : Rectangle) → q ≡ canvas_of t.canvas → only (λ x. meets q x.visible) (fresh_list t) ≡ fresh_list t
all_wanted t a q e =
    ap (λ z. only (λ x. meets z x.visible) (fresh_list t)) e
    ∙ none_left_out (λ x. meets (canvas_of t.canvas) x.visible) (fresh_list t) (stands_for_itself t a).filled
    (All-weaker (IsOnCanvas (canvas_of t.canvas)) (λ l. meets (canvas_of t.canvas) l.visible ≡ true) (λ l h. h.meets) (flat (fresh_list t)) (shows_on_canvas t a))
