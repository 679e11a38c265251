-- What the values of the plain program stand for.
use Rattle.std.specs.Borrow.{Bor}
use Rattle.rd_stack.specs.Painting.{Painted}

-- a painted box behind a reference
abbrev pub now : Bor Painted → Painted
now p = p.now
