use Rattle.std.proofs.Common.{◌∙◌, sym}
use Rattle.rd_keys.specs.Keys.{same_key}
use Rattle.rd_keys.proofs.Keys.{same_key-sound, same_key-refl}
use Rattle.rd_graph.proofs.Reaching.Joining.{in_at, in_next}
use Rattle.rd_low_tests.proofs.merge.checked.is_among.Goals as goal

pub returns-then-is : goal.returns-then-is
returns-then-is c = sym (in_at same_key same_key-sound same_key-refl c.args.keys.now c.loop-other.other-index _ c.args.key c.loop-other-test.true (sym c.is.ensures ∙ c.if-is.true))

pub loop-other-preserved : goal.loop-other-preserved
loop-other-preserved c = record { none = in_next same_key same_key-sound same_key-refl c.args.keys.now c.loop-other.other-index _ c.args.key c.loop-other-test.true c.loop-other.invariant.none (sym c.is.ensures ∙ c.if-is.false) }
