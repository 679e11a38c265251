use Rattle.std.proofs.Common.{arith}
use Rattle.std.proofs.lemmas.Int.{ints}
use Rattle.rd_tree.proofs.handed.farther.Goals as goal

pub sum-requires-clause-low : goal.sum-requires-clause-low
sum-requires-clause-low c = omega (arith, ints, c.requires.a.left, c.requires.b.left)

pub sum-requires-clause-high : goal.sum-requires-clause-high
sum-requires-clause-high c = omega (arith, ints, c.requires.a.right, c.requires.b.right)

pub sum-requires-2-clause-low : goal.sum-requires-2-clause-low
sum-requires-2-clause-low c = omega (arith, ints, c.requires.a.up, c.requires.b.up)

pub sum-requires-2-clause-high : goal.sum-requires-2-clause-high
sum-requires-2-clause-high c = omega (arith, ints, c.requires.a.down, c.requires.b.down)
