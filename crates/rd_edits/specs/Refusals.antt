-- Which edits are refused. The tests, their numbers and their order are this project's own choice.
use Rattle.std.specs.Prelude.{◌≡◌, ℕ, ◌+◌, nat_le, nat_lt, Bool, false, ◌||◌, not, if◌then◌else◌, List, [], ◌∷◌, Option, Some, None, is_some, is_none}
use Rattle.std.specs.Option.{option_map_or}
use Rattle.rd_style.specs.Limits.{fits_rect, fits}
use Rattle.rd_keys.specs.Keys.{same_key}
use Rattle.rd_tree.specs.Figures.{max_boxes, max_depth}
use Rattle.rd_tree.specs.Forest.{children, depth, height, in_subtree, is_among}
use Rattle.rd_tree.specs.Document.{Document, BoxKey, named, taken}
use Rattle.rd_tree.specs.Limits.{fits_scroll}
use Rattle.rd_tree.specs.Changes.{fits_shift}
use Rattle.rd_edits.specs.Edited.{place_of, IsInsert}
use Rattle.rd_edits.specs.Ranges.{fits_change}
use Rattle.rd_edits.specs.declared.edit.Edit.{Edit}
use Rattle.rd_edits.specs.declared.edit.Edit.TheVariants.{Insert, Remove, Move, SetStyle, SetRect, Shift, Scroll}
use Rattle.rd_edits.specs.declared.fault.EditFault.{EditFault}
use Rattle.rd_edits.specs.declared.fault.EditFault.TheVariants.{UnknownId, UnknownParent, IsRoot, IntoItself, NotAChild, DuplicateId, TooDeep, TooMany, OutOfRange, NoMemory}

-- the faults in the order in which they are looked for, and want of memory
abbrev pub number_of : EditFault → ℕ
number_of UnknownId = 1
number_of UnknownParent = 2
number_of IsRoot = 3
number_of IntoItself = 4
number_of NotAChild = 5
number_of DuplicateId = 6
number_of TooDeep = 7
number_of TooMany = 8
number_of OutOfRange = 9
number_of NoMemory = 10

-- Faults with their tests, the first in order first: the fault of the first test that holds.
abbrev pub first_that : List (EditFault × Bool) → Option EditFault
first_that [] = None
first_that (t ∷ tests) = if t.1 then Some t.0 else first_that tests

-- Has no box this id?
abbrev pub is_unknown : List ℕ → Document → Bool
is_unknown i t = is_none (named i t.boxes)

-- Has a box this id?
abbrev pub is_known : List ℕ → Document → Bool
is_known i t = is_some (named i t.boxes)

-- Has a box this id, and does this hold of it?
abbrev pub is_one : (BoxKey → Bool) → List ℕ → Document → Bool
is_one p i t = option_map_or p (named i t.boxes) false

-- Have two boxes these ids, and does this hold of them?
abbrev pub is_pair : (BoxKey → BoxKey → Bool) → List ℕ → List ℕ → Document → Bool
is_pair p i j t = is_one (λ k. is_one (p k) j t) i t

-- Is it the root?
abbrev pub is_root : BoxKey → Document → Bool
is_root k t = same_key k t.root

-- Is there a box given to stand before, and is it no child of the parent?
abbrev pub is_not_a_child : Option (List ℕ) → BoxKey → Document → Bool
is_not_a_child None parent t = false
is_not_a_child (Some b) parent t = not (is_one (λ k. is_among same_key k (children same_key
    parent t.boxes)) b t)

-- Is it the place before the box itself?
abbrev pub is_before_itself : BoxKey → Option BoxKey → Bool
is_before_itself k at = option_map_or (λ b. same_key b k) at false

-- how many levels a box and all below it have
abbrev pub levels_of : BoxKey → Document → ℕ
levels_of k t = 1 + height (children same_key k t.boxes)

-- Would so many levels below the parent go too deep?
abbrev pub is_too_deep : ℕ → BoxKey → Document → Bool
is_too_deep levels parent t = nat_lt max_depth (depth same_key parent t.boxes + levels)

-- Are as many slots taken by boxes, or retired, as there may be boxes?
abbrev pub is_full : Document → Bool
is_full t = nat_le max_boxes (taken t)

-- the fault that refuses the edit, if one does
abbrev pub refusal_of : Document → Edit → Option EditFault
refusal_of t (Insert i parent before rect style) =
    first_that ((UnknownParent, is_unknown parent t) ∷ (
      NotAChild,
      is_one (λ p. is_not_a_child
          before p t) parent t,
    )
    ∷ (DuplicateId, is_known i t) ∷ (TooDeep, is_one (λ p. is_too_deep 1 p t) parent t) ∷
    (TooMany, is_full t)
    ∷ (OutOfRange, not (fits_rect rect) || not (fits style)) ∷ [])
refusal_of t (Remove i) = first_that ((UnknownId, is_unknown i t) ∷ (
  IsRoot,
  is_one
      (λ k. is_root k t) i t,
) ∷ [])
refusal_of t (Move i parent before) =
    first_that ((UnknownId, is_unknown i t) ∷ (UnknownParent, is_unknown parent t) ∷
    (IsRoot, is_one (λ k. is_root k t) i t)
    ∷ (IntoItself, is_pair (λ k p. in_subtree same_key p k t.boxes) i parent t)
    ∷ (
      NotAChild,
      is_pair (λ k p. is_not_a_child before p t || is_before_itself k
          (place_of before t.boxes)) i parent t,
    )
    ∷ (TooDeep, is_pair (λ k p. is_too_deep (levels_of k t) p t) i parent t) ∷ [])
refusal_of t (SetStyle i change) = first_that ((UnknownId, is_unknown i t) ∷ (
  OutOfRange,
  not
      (fits_change change),
) ∷ [])
refusal_of t (SetRect i rect) = first_that ((UnknownId, is_unknown i t) ∷ (
  OutOfRange,
  not
      (fits_rect rect),
) ∷ [])
refusal_of t (Shift i dx dy) =
    first_that ((UnknownId, is_unknown i t) ∷ (
      OutOfRange,
      is_one (λ k. not (fits_shift dx dy k
          t.boxes)) i t,
    ) ∷ [])
refusal_of t (Scroll i x y) = first_that ((UnknownId, is_unknown i t) ∷ (OutOfRange, not (fits_scroll (record { x = x; y = y }))) ∷ [])

-- Want of memory comes only where nothing refuses the edit and it makes a box; any other answer is the fault that does.
abbrev pub IsRefused : Document → Edit → EditFault → Type 0
IsRefused t e NoMemory = (refusal_of t e ≡ None) × IsInsert e
IsRefused t e f = refusal_of t e ≡ Some f
