use Rattle.std.proofs.Common.{◌≡◌, ℕ, ◌/◌, ◌%◌, ◌<◌, ◌≤◌}
use Rattle.std.specs.Int.{bit_at}
use Rattle.rd_tree.specs.Internal.Glances.{is_stirred}
use Rattle.rd_tree.proofs.shared.none_stirred.Given as goal

abbrev pub invariant-loop-group : goal.invariant-loop-group
invariant-loop-group l = (b : ℕ) → l.from ≤ b → b / 64 < l.group → bit_at l.bits (b % 64) ≡ 1 → is_stirred l.shared b ≡ 0
