use Rattle.std.proofs.Common.{◌≡◌, ◌∙◌, ap, subst, arith, ℕ, ℤ, List, ◌∷◌, IfOk, to_z, of_z, w32, []}
use Rattle.std.specs.Prelude.{pos, neg_ℤ, ◌-ℤ◌}
use Rattle.rd_edits.specs.declared.edit.Edit.TheVariants.{Shift}
use Rattle.std.proofs.lemmas.Int.{ints, to_z-of_z}
use Rattle.rd_undo.proofs.Visiting.{shift_near, zero_less}
use Rattle.rd_undo.proofs.inverse.of_shift.Goals as goal

pub overflow_sub-dx : goal.overflow_sub-dx
overflow_sub-dx g c =
    let n = shift_near c.args.id.now c.args.dx c.args.dy c.args.tree.now c.requires.proper c.requires.accepted in
    omega (arith, ints, n.0.low, n.0.high, c.ranges.dx)

pub overflow_sub-dy : goal.overflow_sub-dy
overflow_sub-dy g c =
    let n = shift_near c.args.id.now c.args.dx c.args.dy c.args.tree.now c.requires.proper c.requires.accepted in
    omega (arith, ints, n.1.low, n.1.high, c.ranges.dy)

pub returns : goal.returns
returns g c =
    let n = shift_near c.args.id.now c.args.dx c.args.dy c.args.tree.now c.requires.proper c.requires.accepted in
    let at : List ℕ → ℤ → ℤ → Type 0 = λ i x y. IfOk c.only.result (λ v. v.items ≡ Shift i x y ∷ []) in
    let from : ℤ → ℤ = λ z. to_z w32 (of_z w32 (pos 0 -ℤ z)) in
    let right : from (to_z w32 (of_z w32 c.args.dx)) ≡ neg_ℤ c.args.dx = ap from (to_z-of_z w32 c.args.dx c.ranges.dx) ∙ zero_less c.args.dx n.0 in
    let down : from (to_z w32 (of_z w32 c.args.dy)) ≡ neg_ℤ c.args.dy = ap from (to_z-of_z w32 c.args.dy c.ranges.dy) ∙ zero_less c.args.dy n.1 in
    subst (λ i. at i (neg_ℤ c.args.dx) (neg_ℤ c.args.dy)) c.in_ok-id.ensures
    (subst (λ y. at c.in_ok-id.id (neg_ℤ c.args.dx) y) down
    (subst (λ x. at c.in_ok-id.id x (from (to_z w32 (of_z w32 c.args.dy)))) right c.only.ensures))
