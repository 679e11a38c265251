-- Edits with the list of what undoes them, and undos.
use Rattle.std.specs.Prelude.{◌≡◌, ℕ, zero, suc, ◌≤◌, List, ◌∷◌, ◌++◌, length, None, []}
use Rattle.circular_buffer.specs.Buffer.{keep_last}
use Rattle.rd_tree.specs.Document.{Document}
use Rattle.rd_tree.specs.ByIds.{named_tree}
use Rattle.rd_tree.specs.Proper.{IsProper}
use Rattle.rd_edits.specs.declared.edit.Edit.{Edit}
use Rattle.rd_edits.specs.Edited.{IsEdited}
use Rattle.rd_edits.specs.Refusals.{refusal_of}
use Rattle.rd_undo.specs.Inverse.{inverse}
use Rattle.rd_undo.specs.Undoing.{AreDone, SameRetired}

-- Edits are accepted one after another, and retire no slot. Of what undoes them, the newest last, at most the last n are kept.
abbrev pub AreNoted : ℕ → List Edit → Document → List (List Edit) → Document → List (List Edit) → Type 0
AreNoted n [] t us t1 us1 = (t1 ≡ t) × (us1 ≡ us)
AreNoted n (e ∷ es) t us t1 us1 =
    (mid : Document) × (refusal_of t e ≡ None) × IsEdited e t mid × SameRetired t mid × IsProper mid
    × AreNoted n es mid (keep_last n (us ++ inverse t e ∷ [])) t1 us1

-- So many undos: each takes the newest out and does its edits, which retire no slot.
abbrev pub AreUndone : ℕ → List (List Edit) → Document → List (List Edit) → Document → Type 0
AreUndone zero us t us1 t1 = (us1 ≡ us) × (t1 ≡ t)
AreUndone (suc k) us t us1 t1 =
    (rest : List (List Edit)) × (es : List Edit) × (mid : Document) × (us ≡ rest ++ es ∷ [])
    × AreDone es t mid × SameRetired t mid × IsProper mid × AreUndone k rest mid us1 t1

-- After some edits, at most as many as are kept, as many undos give the first tree by ids.
abbrev pub HistoryLaw : Type 0
HistoryLaw =
    (n : ℕ) (es : List Edit) (t t1 t2 : Document) (us us1 us2 : List (List Edit)) → IsProper t
    → length us ≤ n → length es ≤ n → AreNoted n es t us t1 us1 → AreUndone (length es) us1 t1 us2 t2
    → named_tree t2 ≡ named_tree t
