-- The tree after an edit. It is this project's own choice.
use Rattle.std.specs.Prelude.{◌≡◌, ℕ, List, Option, Some, option_and_then}
use Rattle.rd_tree.specs.Document.{Document, BoxKey, BoxForest, IsNext, named}
use Rattle.rd_tree.specs.Changes.{Change, insertion, removal, moving, styling, placing, shifting, scrolling, new_item}
use Rattle.rd_tree.specs.Touching.{edited}
use Rattle.rd_edits.specs.declared.edit.Edit.{Edit}
use Rattle.rd_edits.specs.declared.edit.Edit.TheVariants.{Insert, Remove, Move, SetStyle, SetRect, Shift, Scroll}

-- the box to stand before, where one is given
abbrev pub place_of : Option (List ℕ) → BoxForest → Option BoxKey
place_of before f = option_and_then (λ b. named b f) before

-- The edit makes this change of a tree: its ids name the boxes of the change, and a new box gets the next key of a slot.
abbrev pub IsNamed : Edit → Document → Change → Type 0
IsNamed (Insert i parent before rect style) t c =
    (p : BoxKey) × (k : BoxKey) × (named parent t.boxes ≡ Some p) × IsNext t k
    × (c ≡ insertion p (place_of before t.boxes) k (new_item i rect style))
IsNamed (Remove i) t c = (k : BoxKey) × (named i t.boxes ≡ Some k) × (c ≡ removal k)
IsNamed (Move i parent before) t c =
    (k : BoxKey) × (p : BoxKey) × (named i t.boxes ≡ Some k) × (named parent t.boxes ≡ Some p)
    × (c ≡ moving k p (place_of before t.boxes))
IsNamed (SetStyle i change) t c = (k : BoxKey) × (named i t.boxes ≡ Some k) × (c ≡ styling k change)
IsNamed (SetRect i rect) t c = (k : BoxKey) × (named i t.boxes ≡ Some k) × (c ≡ placing k rect)
IsNamed (Shift i dx dy) t c = (k : BoxKey) × (named i t.boxes ≡ Some k) × (c ≡ shifting k dx dy)
IsNamed (Scroll i x y) t c = (k : BoxKey) × (named i t.boxes ≡ Some k) × (c ≡ scrolling k (record { x = x; y = y }))

-- The new tree is the old one after the change that the edit makes, with what the change touches marked.
abbrev pub IsEdited : Edit → Document → Document → Type 0
IsEdited e old new = (c : Change) × IsNamed e old c × (new ≡ edited c old)

-- Is it an edit that makes a box?
abbrev pub IsInsert : Edit → Type 0
IsInsert (Insert i parent before rect style) = Unit {0}
IsInsert (Remove i) = ⊥
IsInsert (Move i parent before) = ⊥
IsInsert (SetStyle i change) = ⊥
IsInsert (SetRect i rect) = ⊥
IsInsert (Shift i dx dy) = ⊥
IsInsert (Scroll i x y) = ⊥
