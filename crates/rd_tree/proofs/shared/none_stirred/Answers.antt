use Rattle.std.proofs.Common.{◌*◌, ◌/◌, refl, arith, inl, inr}
use Rattle.std.proofs.lemmas.Bool.{cases_lt}
use Rattle.rd_tree.specs.Internal.Glances.{known_of}
use Rattle.rd_tree.proofs.Nodes.Shared.{group_calm}
use Rattle.rd_tree.proofs.shared.none_stirred.Goals as goal

pub loop-group-preserved : goal.loop-group-preserved
loop-group-preserved c = λ b low high bit. elim (cases_lt (b / 64) c.loop-group.group) [
  | inl l ↦ c.loop-group.invariant b low l bit
  | inr m ↦ group_calm c.args.shared.now c.args.bits c.loop-group.group (known_of c.args.shared.now (c.loop-group.group * 64)) refl c.if-shared-group-ne0.false b
      (omega (arith, high, m)) bit
]
