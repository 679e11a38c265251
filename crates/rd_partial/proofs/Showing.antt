-- Boxes are touched where they are drawn as they are where they are laid out.
use Rattle.std.proofs.Common.{◌≡◌, ℤ, []}
use Rattle.std.specs.List.{list_any}
use Rattle.rd_item.specs.declared.leaf.Leaf.{Leaf}
use Rattle.rd_list.specs.Wrappers.{Wrapper}
use Rattle.rd_list.specs.Entries.{Entries, flat}
use Rattle.rd_tree.specs.Document.{Document}
use Rattle.rd_tree.specs.Drawn.{drawn}
use Rattle.rd_tree.proofs.DrawnBoxes.{is_touched-drawn}
use Rattle.rd_partial.specs.Invalid.{shows_touched, any_shows}

pub shows_drawn : (t : Document) (list : Entries Wrapper Leaf) → any_shows (drawn t) list ≡ any_shows t list
shows_drawn t list = λ i x y. list_any (shows_touched (λ k. is_touched-drawn k [] t.boxes i) x y) (flat list)
