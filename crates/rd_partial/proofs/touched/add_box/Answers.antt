use Rattle.rd_partial.proofs.Adding.{joins_box}
use Rattle.rd_partial.proofs.touched.add_box.Goals as goal

pub returns : goal.returns
returns c =
    joins_box c.args.s.now c.args.b.now c.args.area.now c.add_part.new.area c.add_part-2.new.area c.add_part-3.new.area c.add_part-4.new.area
    c.in_ok-add_part.ensures c.in_ok-add_part-2.ensures c.in_ok-add_part-3.ensures c.in_ok-add_part-4.ensures
