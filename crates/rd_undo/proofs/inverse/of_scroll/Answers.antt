use Rattle.std.proofs.Common.{◌≡◌, ◌∙◌, ap, sym, subst, arith, ◌∷◌, IfOk, []}
use Rattle.rd_edits.specs.declared.edit.Edit.TheVariants.{Scroll}
use Rattle.rd_undo.proofs.Acting.{admitted}
use Rattle.rd_undo.proofs.Visiting.{branch_size, scroll_told}
use Rattle.rd_undo.proofs.inverse.of_scroll.Goals as goal

pub visit_named-seen-requires-clause-known : goal.visit_named-seen-requires-clause-known
visit_named-seen-requires-clause-known g c = (admitted (Scroll c.args.id.now c.args.x c.args.y) c.args.tree.now c.requires.proper c.requires.accepted).0

pub returns-in_err-id-clause-looks : goal.returns-in_err-id-clause-looks
returns-in_err-id-clause-looks g c =
    let s = c.visit_named-seen.ensures.seen in
    let b = branch_size c.args.id.now s.0 c.args.tree.now c.requires.proper s.1 c.visit_named-seen.result s.2 in
    omega (arith, b, c.visit_named-seen.ensures.looks)

pub returns-clause-looks : goal.returns-clause-looks
returns-clause-looks g c =
    let s = c.visit_named-seen.ensures.seen in
    let b = branch_size c.args.id.now s.0 c.args.tree.now c.requires.proper s.1 c.visit_named-seen.result s.2 in
    omega (arith, b, c.visit_named-seen.ensures.looks)

pub returns-clause-inverse : goal.returns-clause-inverse
returns-clause-inverse g c =
    let s = c.visit_named-seen.ensures.seen in
    let told = scroll_told c.args.id.now s.0 c.args.tree.now c.requires.proper s.1 c.visit_named-seen.result s.2 c.args.x c.args.y in
    subst (λ z. IfOk c.only.result (λ v. v.items ≡ z))
    (ap (λ z. z ∷ []) (c.scrolling.ensures ∙ ap (λ x. Scroll x c.visit_named-seen.result.scroll.x c.visit_named-seen.result.scroll.y) c.in_ok-id.ensures) ∙ sym told) c.only.ensures
