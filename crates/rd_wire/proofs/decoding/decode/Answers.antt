use Rattle.std.proofs.Common.{arith}
use Rattle.rd_wire.proofs.Whole.{found, only_one, none_there, twice_named}
use Rattle.rd_wire.proofs.decoding.decode.Goals as goal

pub returns-in-Err-clause-form : goal.returns-in-Err-clause-form
returns-in-Err-clause-form c = λ f w h e. none_there c.args.bytes.now c.in-Err.fault c.in-Err.ensures f w h e

pub returns-then-branch-clause-found : goal.returns-then-branch-clause-found
returns-then-branch-clause-found c = found c.args.bytes.now _ (λ i. omega (arith, c.type_inv.bytes i)) c.in-Ok.ensures (c.in_ok-names_differ.ensures.once c.if-branch.true)

pub returns-then-branch-clause-only : goal.returns-then-branch-clause-only
returns-then-branch-clause-only c = λ w h e. only_one c.args.bytes.now _ c.in-Ok.ensures w h e

pub returns-else-branch-clause-form : goal.returns-else-branch-clause-form
returns-else-branch-clause-form c = λ f w h e. twice_named c.args.bytes.now _ c.in-Ok.ensures (c.in_ok-names_differ.ensures.twice c.if-branch.false) w h e
