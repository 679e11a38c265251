use Rattle.std.proofs.Common.{arith}
use Rattle.std.proofs.lemmas.Int.{ints}
use Rattle.rd_tree.proofs.links.walk.side_fits.Goals as goal

pub overflow_add-sum : goal.overflow_add-sum
overflow_add-sum c = omega (arith, ints, c.from.ensures, c.from-2.ensures, c.ranges.at, c.ranges.by)

pub overflow_sub-most : goal.overflow_sub-most
overflow_sub-most c = omega (arith, ints, c.from-most.ensures)

pub returns-then-most-sum-clause-low : goal.returns-then-most-sum-clause-low
returns-then-most-sum-clause-low c u = omega (arith, ints, c.from.ensures, c.from-2.ensures, c.ranges.at, c.ranges.by, c.from-most.ensures, c.if-most-sum.true)

pub returns-then-most-sum-clause-high : goal.returns-then-most-sum-clause-high
returns-then-most-sum-clause-high c u = omega (arith, ints, c.from.ensures, c.from-2.ensures, c.ranges.at, c.ranges.by, c.from-most.ensures, u)

pub returns-then-most-sum-clause-fits : goal.returns-then-most-sum-clause-fits
returns-then-most-sum-clause-fits c l h = grind (arith, ints, c.from.ensures, c.from-2.ensures, c.ranges.at, c.ranges.by, c.from-most.ensures, h)

pub returns-else-most-sum-clause-low : goal.returns-else-most-sum-clause-low
returns-else-most-sum-clause-low c u = omega (arith, ints, c.if-most-sum.false, u)

pub returns-else-most-sum-clause-high : goal.returns-else-most-sum-clause-high
returns-else-most-sum-clause-high c u = omega (arith, ints, c.if-most-sum.false, u)

pub returns-else-most-sum-clause-fits : goal.returns-else-most-sum-clause-fits
returns-else-most-sum-clause-fits c l h = absurd (omega (arith, ints, c.from.ensures, c.from-2.ensures, c.ranges.at, c.ranges.by, c.from-most.ensures, l, c.if-most-sum.false))
