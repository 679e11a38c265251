-- The inverse of an accepted edit undoes it.
use Rattle.std.proofs.Common.{◌≡◌, refl, ap, ◌∙◌, sym, subst, ℕ, ◌+◌, ◌≤◌, arith, List, ◌∷◌, ◌⊎◌, inl, inr, bytes_eq, []}
use Rattle.rd_tree.specs.Figures.{max_boxes, max_depth}
use Rattle.rd_tree.specs.Forest.{tree, empty, size, AreApart}
use Rattle.rd_tree.specs.Document.{Document, taken, with_taken}
use Rattle.rd_tree.specs.ByIds.{IdForest, by_ids}
use Rattle.rd_tree.specs.Proper.{IsProper}
use Rattle.rd_tree.specs.Changes.{after}
use Rattle.rd_tree.proofs.Linking.Standing.{differs}
use Rattle.rd_tree.proofs.Nodes.Naming.{bytes_same, bytes_refl}
use Rattle.rd_tree.proofs.Changing.NextKeys.{taken-next, count}
use Rattle.rd_edits.specs.Edited.{IsEdited}
use Rattle.rd_edits.specs.declared.edit.Edit.{Edit}
use Rattle.rd_edits.specs.declared.edit.Edit.TheVariants.{Insert, Remove, Move, SetStyle, SetRect, Shift, Scroll}
use Rattle.rd_undo.specs.Inverse.{inverse}
use Rattle.rd_undo.specs.Undoing.{AreDone, AreAccepted, InverseLaw}
use Rattle.rd_undo.proofs.Putting.{size-put}
use Rattle.rd_undo.proofs.Items.{size-change}
use Rattle.rd_undo.proofs.Names.{size-ids, height-ids}
use Rattle.rd_undo.proofs.Found.{fit-ids}
use Rattle.rd_undo.proofs.Acting.{new_looks, scroll_looks, acted, IsAdmitted, HasRoom, accepted, admitted, acted-ids}
use Rattle.rd_undo.proofs.Leading.{Leads, StaysRoomy}
use Rattle.rd_undo.proofs.EachKind.{IsSound, leads_back}

room_after : (n : ℕ) (e : Edit) (es : List Edit) (u next : Document) → IsProper u → IsAdmitted n e (by_ids u.boxes) → HasRoom n u → IsEdited e u next → StaysRoomy e es → HasRoom n next ⊎ (es ≡ [])
room_after n (Insert i parent before rect style) es u next w a room h s =
    let f : IdForest = by_ids u.boxes in
    let one : IdForest = tree i (new_looks rect style) empty empty in
    let slots : next.slots ≡ with_taken u.slots h.1.1 = ap (λ (d : Document). d.slots) h.2 ∙ ap (λ c. (after c u).slots) h.1.4 in
    let more : taken next ≡ taken u + 1 = ap count slots ∙ taken-next u h.1.1 h.1.3 in
    let grown : by_ids next.boxes ≡ acted (Insert i parent before rect style) f = acted-ids n (Insert i parent before rect style) u next w a h in
    let off : AreApart bytes_eq f one = λ j m. rw (differs bytes_eq bytes_same bytes_refl f j i m a.2) refl in
    let larger : size (acted (Insert i parent before rect style) f) ≡ size f + size one = size-put bytes_eq bytes_same bytes_refl parent before one f w.distinct (refl, refl, (λ j m. refl), tt, tt) off a.0 in
    let sizes : size (by_ids next.boxes) ≡ size f + size one = ap size grown ∙ larger in
    inl (omega (arith, more, sizes, size-ids next.boxes, size-ids u.boxes, room))
room_after n (Remove i) es u next w a room h s = inr s
room_after n (Move i parent before) es u next w a room h s = inr s
room_after n (SetStyle i c) es u next w a room h s = inr s
room_after n (SetRect i r) es u next w a room h s = inr s
room_after n (Shift i dx dy) es u next w a room h s = inr s
room_after n (Scroll i x y) es u next w a room h s =
    let f : IdForest = by_ids u.boxes in
    let slots : next.slots ≡ u.slots = ap (λ (d : Document). d.slots) h.2 ∙ ap (λ c. (after c u).slots) h.1.2 in
    let same : taken next ≡ taken u = ap count slots in
    let moved : by_ids next.boxes ≡ acted (Scroll i x y) f = acted-ids n (Scroll i x y) u next w a h in
    let sizes : size (by_ids next.boxes) ≡ size f = ap size moved ∙ size-change bytes_eq i (scroll_looks (record { x = x; y = y })) f in
    inl (omega (arith, same, sizes, size-ids next.boxes, size-ids u.boxes, room))

-- Edits that lead from one tree by ids to another.
run : (n : ℕ) (es : List Edit) (f g : IdForest) (u : Document) → IsProper u → by_ids u.boxes ≡ f → HasRoom n u ⊎ (es ≡ []) → Leads n es f g
    → AreAccepted es u × ((last : Document) → AreDone es u last → by_ids last.boxes ≡ g)
run n [] f g u w e room l = (tt, λ last h. ap (λ (x : Document). by_ids x.boxes) h ∙ (e ∙ l))
run n (x ∷ es) f g u w e (inr none) l = absurd (let no : x ∷ es ≡ [] = none in cc)
run n (x ∷ es) f g u w e (inl room) l =
    let a : IsAdmitted n x (by_ids u.boxes) = subst (IsAdmitted n x) (sym e) l.0 in
    let on : (next : Document) → IsEdited x u next → IsProper next → AreAccepted es next × ((last : Document) → AreDone es next last → by_ids last.boxes ≡ g) =
    λ next h p. run n es (acted x f) g next p (acted-ids n x u next w a h ∙ ap (acted x) e) (room_after n x es u next w a room h l.1) l.2 in
    ((accepted n x u w a room, λ next h p. (on next h p).0), λ last h. (on h.0 h.1 h.2).1 last h.3)

pub inverse_undoes : InverseLaw
inverse_undoes e t w r next now h same retired p =
    let f : IdForest = by_ids t.boxes in
    let a : IsAdmitted (1 + size f) e f = admitted e t w r in
    let s : IsSound f = record { apart = w.distinct; fit = fit-ids t.boxes w.limits; shallow = subst (λ x. x ≤ max_depth) (sym (height-ids t.boxes)) w.shallow } in
    let at : by_ids now.boxes ≡ acted e f = same ∙ acted-ids (1 + size f) e t next w a h in
    let most : taken t ≤ max_boxes = w.room in
    let room : HasRoom (size f) now = omega (arith, retired, most, size-ids t.boxes) in
    run (size f) (inverse t e) (acted e f) f now p at (inl room) (leads_back e f s a)
