-- A tree by the ids of its boxes, without their keys and their marks. It is this project's own choice.
use Rattle.std.specs.Prelude.{ℕ, List}
use Rattle.std.specs.Str.{bytes_eq}
use Rattle.rd_geom.specs.Plane.{Rectangle}
use Rattle.rd_style.specs.declared.styles.Style.{Style}
use Rattle.rd_tree.specs.declared.scroll.Scroll.{Scroll}
use Rattle.rd_tree.specs.Forest.{Forest, empty, tree, IsApart}
use Rattle.rd_tree.specs.Document.{Document, Item, BoxForest}

-- what a box is, but for its id, its place and its mark
pub record Looks : Type 0 where
  pub rect : Rectangle
  pub style : Style
  pub scroll : Scroll

abbrev pub looks_of : Item → Looks
looks_of d = record { rect = d.rect; style = d.style; scroll = d.scroll }

-- ids in tree order, each with what its box is
abbrev pub IdForest : Type 0
IdForest = Forest (List ℕ) Looks

abbrev pub by_ids : BoxForest → IdForest
by_ids empty = empty
by_ids (tree k d below rest) = tree d.id (looks_of d) (by_ids below) (by_ids rest)

-- the tree by ids: for each id its parent, its place among its siblings, its rectangle, its style and its scroll offset
abbrev pub named_tree : Document → IdForest
named_tree t = by_ids t.boxes

-- No id comes twice.
abbrev pub HasDistinctIds : BoxForest → Type 0
HasDistinctIds f = IsApart bytes_eq (by_ids f)
