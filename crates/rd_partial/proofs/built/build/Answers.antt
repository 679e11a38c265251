use Rattle.std.proofs.Common.{arith}
use Rattle.rd_geom.specs.Areas.{meets_area}
use Rattle.rd_tree.specs.Drawn.{drawn}
use Rattle.rd_partial.proofs.Visits.{root_bound}
use Rattle.rd_partial.proofs.built.build.Goals as goal

pub returns-clause-looks : goal.returns-clause-looks
returns-clause-looks g c =
    let h = root_bound (meets_area c.args.area.now) (drawn c.args.tree.now).boxes in
    let k = c.build_wanted.ensures.looks in
    omega (arith, h, k)
