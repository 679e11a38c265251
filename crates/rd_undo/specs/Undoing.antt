-- Edits that undo an edit.
use Rattle.std.specs.Prelude.{◌≡◌, ◌+◌, List, ◌∷◌, None, []}
use Rattle.rd_tree.specs.Forest.{size}
use Rattle.rd_tree.specs.Document.{Document, taken}
use Rattle.rd_tree.specs.ByIds.{named_tree}
use Rattle.rd_tree.specs.Proper.{IsProper}
use Rattle.rd_edits.specs.declared.edit.Edit.{Edit}
use Rattle.rd_edits.specs.Edited.{IsEdited}
use Rattle.rd_edits.specs.Refusals.{refusal_of}
use Rattle.rd_undo.specs.Inverse.{inverse}

-- Edits are done one after another.
abbrev pub AreDone : List Edit → Document → Document → Type 0
AreDone [] old new = new ≡ old
AreDone (e ∷ es) old new = (mid : Document) × IsEdited e old mid × IsProper mid × AreDone es mid new

-- Each of the edits is accepted in its turn, whatever keys new boxes get.
abbrev pub AreAccepted : List Edit → Document → Type 0
AreAccepted [] t = Unit {0}
AreAccepted (e ∷ es) t =
    (refusal_of t e ≡ None) × ((next : Document) → IsEdited e t next → IsProper next → AreAccepted es next)

-- As many slots are retired in one tree as in the other: those that are taken by no box.
abbrev pub SameRetired : Document → Document → Type 0
SameRetired t u = taken u + size t.boxes ≡ taken t + size u.boxes

-- These edits undo an edit of t: in any tree that is by ids the one after the edit, and has no slot retired since, each is
-- accepted in its turn, and after all of them the tree is by ids as before the edit.
abbrev pub Undoes : List Edit → Edit → Document → Type 0
Undoes es e t =
    (next now : Document) → IsEdited e t next → named_tree now ≡ named_tree next → SameRetired t now → IsProper now
    → AreAccepted es now × ((last : Document) → AreDone es now last → named_tree last ≡ named_tree t)

-- So does the inverse of each edit that is accepted.
abbrev pub InverseLaw : Type 0
InverseLaw = (e : Edit) (t : Document) → IsProper t → refusal_of t e ≡ None → Undoes (inverse t e) e t
