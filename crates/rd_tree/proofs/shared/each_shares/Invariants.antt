use Rattle.std.proofs.Common.{◌≡◌, ℕ, ◌%◌, ◌<◌, ◌≤◌}
use Rattle.std.specs.Int.{bit_at}
use Rattle.rd_tree.specs.Internal.Glances.{HasWord, known_of}
use Rattle.rd_tree.proofs.shared.each_shares.Given as goal

abbrev pub invariant-loop-page : goal.invariant-loop-page
invariant-loop-page l = (b : ℕ) → l.from ≤ b → b < l.page → bit_at l.keys.pages (b % 64) ≡ 1 → HasWord (known_of l.shared b) l.keys.slots l.word
