-- The edits that the arguments of a call spell. All of it is this project's own choice.
use Rattle.std.specs.Prelude.{◌≡◌, ℕ, List, [], ◌∷◌, Option, Some, None}
use Rattle.rd_edits.specs.declared.edit.Edit.{Edit}
use Rattle.rd_edits.specs.declared.edit.Edit.TheVariants.{Insert, Remove, Move, SetStyle, SetRect, Shift, Scroll}
use Rattle.rd_c.specs.Held.{IsDone, IsRefusedBy}
use Rattle.rd_c.specs.Spelled.{IsStyle, IsChange, rectangle_of}
use Rattle.rd_c.specs.Turns.{InTurn, IsFirst}
use Rattle.rd_c.specs.declared.painter.Painter.{Painter}
use Rattle.rd_c.specs.declared.values.RdRect.{RdRect}
use Rattle.rd_c.specs.declared.values.RdStyle.{RdStyle}

-- an id, or none where the text is empty
abbrev pub or_none : List ℕ → Option (List ℕ)
or_none [] = None
or_none (c ∷ cs) = Some (c ∷ cs)

-- a box with this id, rectangle and style, below the parent, before one of its children or last
abbrev pub IsInsertion : List ℕ → List ℕ → List ℕ → RdRect → RdStyle → Edit → Type 0
IsInsertion name parent before place look (Insert i p b r s) =
    (i ≡ name) × (p ≡ parent) × (b ≡ or_none before) × (r ≡ rectangle_of place) × IsStyle look s
IsInsertion name parent before place look (Remove i) = ⊥
IsInsertion name parent before place look (Move i p b) = ⊥
IsInsertion name parent before place look (SetStyle i c) = ⊥
IsInsertion name parent before place look (SetRect i r) = ⊥
IsInsertion name parent before place look (Shift i dx dy) = ⊥
IsInsertion name parent before place look (Scroll i x y) = ⊥

-- other values for the named members of the style of the box with this id
abbrev pub IsStyling : List ℕ → RdStyle → ℕ → Edit → Type 0
IsStyling name look names (Insert i p b r s) = ⊥
IsStyling name look names (Remove i) = ⊥
IsStyling name look names (Move i p b) = ⊥
IsStyling name look names (SetStyle i c) = (i ≡ name) × IsChange look names c
IsStyling name look names (SetRect i r) = ⊥
IsStyling name look names (Shift i dx dy) = ⊥
IsStyling name look names (Scroll i x y) = ⊥

-- An edit of which this holds was done.
pub record DoneBy (Is : Edit → Type 0) (old new : Painter) : Type 0 where
  pub edit : Edit
  pub is : Is edit
  pub done : IsDone edit old new

-- An edit of which this holds is refused, by a fault with this number.
pub record RefusedBy (Is : Edit → Type 0) (n : ℕ) (p : Painter) : Type 0 where
  pub edit : Edit
  pub is : Is edit
  pub refused : IsRefusedBy n edit p

-- Each of these spells an edit, and they were done one after another.
abbrev pub AreDone : {X : Type 0} → (X → Edit → Type 0) → List X → Painter → Painter → Type 0
AreDone Spells xs old new = InTurn (λ x. DoneBy (Spells x)) xs old new

-- The first of these spells an edit, which is refused, by a fault with this number.
abbrev pub IsFirstRefused : {X : Type 0} → (X → Edit → Type 0) → List X → ℕ → Painter → Type 0
IsFirstRefused Spells xs n p = IsFirst (λ x. RefusedBy (Spells x) n p) xs
