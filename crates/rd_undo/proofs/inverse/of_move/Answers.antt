use Rattle.std.proofs.Common.{◌≡◌, ◌∙◌, ap, sym, subst, arith, ◌∷◌, IfOk, Some, []}
use Rattle.rd_edits.specs.declared.edit.Edit.TheVariants.{Move}
use Rattle.rd_undo.proofs.Acting.{admitted}
use Rattle.rd_undo.proofs.Visiting.{branch_size, move_told}
use Rattle.rd_undo.proofs.inverse.of_move.Goals as goal

pub stand_of-stand-requires-clause-known : goal.stand_of-stand-requires-clause-known
stand_of-stand-requires-clause-known g c = (admitted (Move c.args.id.now c.args.parent.now c.args.before.now) c.args.tree.now c.requires.proper c.requires.accepted).0

pub stand_of-stand-requires-clause-below : goal.stand_of-stand-requires-clause-below
stand_of-stand-requires-clause-below g c = (admitted (Move c.args.id.now c.args.parent.now c.args.before.now) c.args.tree.now c.requires.proper c.requires.accepted).2

pub returns-in_err-before-clause-looks : goal.returns-in_err-before-clause-looks
returns-in_err-before-clause-looks g c =
    let s = c.stand_of-stand.ensures.stands in
    let b = branch_size c.args.id.now s.key c.args.tree.now c.requires.proper s.named_is c.stand_of-stand.result.visit s.visited in
    omega (arith, b, c.stand_of-stand.ensures.looks)

pub returns-in_err-id-clause-looks : goal.returns-in_err-id-clause-looks
returns-in_err-id-clause-looks g c =
    let s = c.stand_of-stand.ensures.stands in
    let b = branch_size c.args.id.now s.key c.args.tree.now c.requires.proper s.named_is c.stand_of-stand.result.visit s.visited in
    omega (arith, b, c.stand_of-stand.ensures.looks)

pub returns-in_err-parent-clause-looks : goal.returns-in_err-parent-clause-looks
returns-in_err-parent-clause-looks g c =
    let s = c.stand_of-stand.ensures.stands in
    let b = branch_size c.args.id.now s.key c.args.tree.now c.requires.proper s.named_is c.stand_of-stand.result.visit s.visited in
    omega (arith, b, c.stand_of-stand.ensures.looks)

pub returns-clause-looks : goal.returns-clause-looks
returns-clause-looks g c =
    let s = c.stand_of-stand.ensures.stands in
    let b = branch_size c.args.id.now s.key c.args.tree.now c.requires.proper s.named_is c.stand_of-stand.result.visit s.visited in
    omega (arith, b, c.stand_of-stand.ensures.looks)

pub returns-clause-inverse : goal.returns-clause-inverse
returns-clause-inverse g c =
    let s = c.stand_of-stand.ensures.stands in
    let told = move_told c.args.id.now s.key c.args.tree.now c.requires.proper s.named_is c.stand_of-stand.result.visit s.visited c.args.parent.now c.in_ok-parent.parent c.args.before.now
    c.in_ok-before.before (s.parent_is ∙ ap Some (sym c.in_ok-parent.ensures)) c.in_ok-before.ensures in
    subst (λ z. IfOk c.only.result (λ v. v.items ≡ z)) (ap (λ x. Move x c.in_ok-parent.parent c.in_ok-before.before ∷ []) c.in_ok-id.ensures ∙ sym told) c.only.ensures
