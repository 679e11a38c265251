use Rattle.std.proofs.Common.{◌≡◌, ◌∙◌, ap, sym, false, get_or}
use Rattle.rd_merge.specs.Internal.Marks.{box_mark, box_marks, box_of}
use Rattle.rd_merge.proofs.Chained.{named_at}
use Rattle.rd_merge.proofs.Marked.{mark_small, unmarked}
use Rattle.rd_merge.proofs.sought.Finder.find_from.Goals as goal

pub returns-then-is_same-clause-place : goal.returns-then-is_same-clause-place
returns-then-is_same-clause-place c = sym (named_at c.args.names.now c.args.name c.args.first _ c.requires.once c.if-first-names.true (sym c.is_same.ensures ∙ c.if-is_same.true))

pub returns-then-not-has-clause-place : goal.returns-then-not-has-clause-place
returns-then-not-has-clause-place c =
    let m = c.args.marks.now in
    let unset : get_or m.marks.items (box_mark m.is_wide (box_of c.args.name)) false ≡ false = ap (λ k. get_or m.marks.items (box_mark m.is_wide k) false) (sym c.box_of.ensures) ∙ sym c.has.ensures ∙ c.if-not-has.true in
    sym (unmarked (box_mark m.is_wide) (box_marks m.is_wide) (mark_small m.is_wide) c.args.names.now m.marks.items c.requires.marks c.args.name unset)
