use Rattle.std.proofs.Common.{◌∙◌, ap, length-set}
use Rattle.rd_merge.specs.Internal.Marks.{box_mark, box_marks}
use Rattle.rd_merge.proofs.Marked.{mark_next, mark_small, page_next}
use Rattle.rd_merge.proofs.marks.Marks.new.Goals as goal

pub loop-name-preserved : goal.loop-name-preserved
loop-name-preserved c =
    let inv = c.loop-name.invariant in
    let wide = c.args.is_wide in
    let owner = c.box_of-owner.ensures in
    record {
      size = length-set _ _ _ ∙ inv.size;
      marked = mark_next (box_mark wide) (box_marks wide) (mark_small wide) c.args.names.now c.loop-name.name-index _ c.mark_of-mark.result c.loop-name.marks.items c.loop-name-test.true (c.mark_of-mark.ensures.value ∙ ap (box_mark wide) owner) inv.size inv.marked;
      pages = c.mark.ensures.are;
      pages_marked = page_next c.args.names.now c.loop-name.name-index _ c.box_of-owner.result c.loop-name.pages.pages.items c.mark.new.self.pages.items c.loop-name-test.true owner inv.pages_marked c.mark.ensures.kept c.mark.ensures.set;
    }
