-- What undoes an edit. It is this project's own choice.
use Rattle.std.specs.Prelude.{ℕ, pos, Bool, ◌&&◌, if◌then◌else◌, List, ◌∷◌, ◌++◌, Option, None, option_map, neg_ℤ, []}
use Rattle.std.specs.Option.{option_map_or}
use Rattle.std.specs.Ordering.{int_eq}
use Rattle.std.specs.Str.{bytes_eq}
use Rattle.rd_style.specs.declared.styles.Style.{Style}
use Rattle.rd_style.specs.declared.styles.StyleChange.{StyleChange}
use Rattle.rd_tree.specs.declared.scroll.Scroll.{Scroll as Offset}
use Rattle.rd_tree.specs.Forest.{empty, tree, size, branch, item_of}
use Rattle.rd_tree.specs.Document.{Document}
use Rattle.rd_tree.specs.Places.{parent_of, next_of}
use Rattle.rd_tree.specs.ByIds.{IdForest, named_tree}
use Rattle.rd_edits.specs.declared.edit.Edit.{Edit}
use Rattle.rd_edits.specs.declared.edit.Edit.TheVariants.{Insert, Remove, Move, SetStyle, SetRect, Shift, Scroll}

-- the change that names the same members with the values of a style
abbrev pub previous : Style → StyleChange → StyleChange
previous s c = record {
  position = option_map (λ _. s.position) c.position;
  z = option_map (λ _. s.z) c.z;
  opacity = option_map (λ _. s.opacity) c.opacity;
  overflow = option_map (λ _. s.overflow) c.overflow;
  display = option_map (λ _. s.display) c.display;
  float = option_map (λ _. s.float) c.float;
  background = option_map (λ _. s.background) c.background;
  border_width = option_map (λ _. s.border_width) c.border_width;
  border_color = option_map (λ _. s.border_color) c.border_color;
  content = option_map (λ _. s.content) c.content;
  outline_width = option_map (λ _. s.outline_width) c.outline_width;
  outline_color = option_map (λ _. s.outline_color) c.outline_color;
  visibility = option_map (λ _. s.visibility) c.visibility;
  pointer = option_map (λ _. s.pointer) c.pointer;
  blend = option_map (λ _. s.blend) c.blend;
  isolation = option_map (λ _. s.isolation) c.isolation;
}

-- Siblings with all below them, in tree order: each as the last child of its parent at that point.
abbrev pub insertions : List ℕ → IdForest → List Edit
insertions parent empty = []
insertions parent (tree i d below rest) =
    Insert i parent None d.rect d.style ∷ insertions i below ++ insertions parent rest

-- A box with all below it: the box before a sibling or last, the others each as the last child.
abbrev pub reinsertions : List ℕ → Option (List ℕ) → IdForest → List Edit
reinsertions parent before empty = []
reinsertions parent before (tree i d below rest) = Insert i parent before d.rect d.style ∷ insertions i below

-- Is a box not scrolled?
abbrev pub is_unscrolled : Offset → Bool
is_unscrolled s = int_eq s.x (pos 0) && int_eq s.y (pos 0)

-- the offset of a box that comes back, where it was scrolled
abbrev pub rescrolling : List ℕ → Offset → List Edit
rescrolling i s = if is_unscrolled s then [] else Scroll i s.x s.y ∷ []

-- The same of siblings with all below them, in tree order.
abbrev pub rescrollings : IdForest → List Edit
rescrollings empty = []
rescrollings (tree i d below rest) = rescrolling i d.scroll ++ (rescrollings below ++ rescrollings rest)

-- a box with all below it that comes back, and then the offsets of those that were scrolled
abbrev pub restoration : List ℕ → Option (List ℕ) → IdForest → List Edit
restoration parent before f = reinsertions parent before f ++ rescrollings f

-- what undoes an edit of a tree by ids that accepts it
abbrev pub inverse_in : IdForest → Edit → List Edit
inverse_in f (Insert i parent before rect style) = Remove i ∷ []
inverse_in f (Remove i) =
    option_map_or (λ p. restoration p (next_of bytes_eq i f) (branch bytes_eq i f)) (parent_of bytes_eq i f) []
inverse_in f (Move i parent before) =
    option_map_or (λ p. Move i p (next_of bytes_eq i f) ∷ []) (parent_of bytes_eq i f) []
inverse_in f (SetStyle i change) = option_map_or (λ d. SetStyle i (previous d.style change) ∷ []) (item_of bytes_eq i f) []
inverse_in f (SetRect i rect) = option_map_or (λ d. SetRect i d.rect ∷ []) (item_of bytes_eq i f) []
inverse_in f (Shift i dx dy) = Shift i (neg_ℤ dx) (neg_ℤ dy) ∷ []
inverse_in f (Scroll i x y) = option_map_or (λ d. Scroll i d.scroll.x d.scroll.y ∷ []) (item_of bytes_eq i f) []

-- what undoes an edit of a tree that accepts it
abbrev pub inverse : Document → Edit → List Edit
inverse t e = inverse_in (named_tree t) e

-- how many boxes are looked at to tell it: at most the box of the edit and all below it, and none for an insertion
abbrev pub boxes_of : Document → Edit → ℕ
boxes_of t (Insert i parent before rect style) = 0
boxes_of t (Remove i) = size (branch bytes_eq i (named_tree t))
boxes_of t (Move i parent before) = size (branch bytes_eq i (named_tree t))
boxes_of t (SetStyle i change) = size (branch bytes_eq i (named_tree t))
boxes_of t (SetRect i rect) = size (branch bytes_eq i (named_tree t))
boxes_of t (Shift i dx dy) = size (branch bytes_eq i (named_tree t))
boxes_of t (Scroll i x y) = size (branch bytes_eq i (named_tree t))
