use Rattle.std.proofs.Common.{arith, refl}
use Rattle.rd_edits.specs.declared.edit.Edit.TheVariants.{Remove}
use Rattle.rd_undo.proofs.Acting.{admitted}
use Rattle.rd_undo.proofs.Visiting.{child_there, branch_size, removal_told}
use Rattle.rd_undo.proofs.inverse.of_removal.Goals as goal

pub stand_of-stand-requires-clause-known : goal.stand_of-stand-requires-clause-known
stand_of-stand-requires-clause-known g c = (admitted (Remove c.args.id.now) c.args.tree.now c.requires.proper c.requires.accepted).0

pub stand_of-stand-requires-clause-below : goal.stand_of-stand-requires-clause-below
stand_of-stand-requires-clause-below g c = (admitted (Remove c.args.id.now) c.args.tree.now c.requires.proper c.requires.accepted).1

pub push_insertions-requires : goal.push_insertions-requires
push_insertions-requires g c =
    let s = c.stand_of-stand.ensures.stands in
    child_there c.args.tree.now.boxes s.key c.stand_of-stand.result.visit s.visited

pub returns-in_err-before-clause-looks : goal.returns-in_err-before-clause-looks
returns-in_err-before-clause-looks g c =
    let s = c.stand_of-stand.ensures.stands in
    let b = branch_size c.args.id.now s.key c.args.tree.now c.requires.proper s.named_is c.stand_of-stand.result.visit s.visited in
    omega (arith, b, c.stand_of-stand.ensures.looks)

pub returns-in_err-push_insertion-clause-looks : goal.returns-in_err-push_insertion-clause-looks
returns-in_err-push_insertion-clause-looks g c =
    let s = c.stand_of-stand.ensures.stands in
    let b = branch_size c.args.id.now s.key c.args.tree.now c.requires.proper s.named_is c.stand_of-stand.result.visit s.visited in
    omega (arith, b, c.stand_of-stand.ensures.looks)

pub returns-in_err-push_insertions-clause-looks : goal.returns-in_err-push_insertions-clause-looks
returns-in_err-push_insertions-clause-looks g c =
    let s = c.stand_of-stand.ensures.stands in
    let b = branch_size c.args.id.now s.key c.args.tree.now c.requires.proper s.named_is c.stand_of-stand.result.visit s.visited in
    omega (arith, b, c.stand_of-stand.ensures.looks, c.push_insertions.ensures.looks)

pub returns-in_err-push_scrolling-clause-looks : goal.returns-in_err-push_scrolling-clause-looks
returns-in_err-push_scrolling-clause-looks g c =
    let s = c.stand_of-stand.ensures.stands in
    let b = branch_size c.args.id.now s.key c.args.tree.now c.requires.proper s.named_is c.stand_of-stand.result.visit s.visited in
    omega (arith, b, c.stand_of-stand.ensures.looks)

pub returns-in_err-append-clause-looks : goal.returns-in_err-append-clause-looks
returns-in_err-append-clause-looks g c =
    let s = c.stand_of-stand.ensures.stands in
    let b = branch_size c.args.id.now s.key c.args.tree.now c.requires.proper s.named_is c.stand_of-stand.result.visit s.visited in
    omega (arith, b, c.stand_of-stand.ensures.looks, c.push_insertions.ensures.looks)

pub returns-clause-looks : goal.returns-clause-looks
returns-clause-looks g c =
    let s = c.stand_of-stand.ensures.stands in
    let b = branch_size c.args.id.now s.key c.args.tree.now c.requires.proper s.named_is c.stand_of-stand.result.visit s.visited in
    omega (arith, b, c.stand_of-stand.ensures.looks, c.push_insertions.ensures.looks)

pub returns-clause-inverse : goal.returns-clause-inverse
returns-clause-inverse g c =
    let s = c.stand_of-stand.ensures.stands in
    let told = removal_told c.args.id.now s.key c.args.tree.now c.requires.proper s.named_is c.stand_of-stand.result.visit s.visited c.stand_of-stand.result.parent.now
    c.in_ok-before.before s.parent_is c.in_ok-before.ensures in
    rw (
      c.in_ok-append.ensures.items,
      c.in_ok-push_insertions.ensures.pushed,
      c.in_ok-push_insertions.ensures.scrolled,
      c.in_ok-push_insertion.ensures,
      c.in_ok-push_scrolling.ensures,
      c.new-edits.ensures.items,
      c.new-scrolls.ensures.items,
      told,
    ) refl
