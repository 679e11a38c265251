use Rattle.std.proofs.Common.{◌∙◌, sym}
use Rattle.rd_graph.specs.Names.{same_entry}
use Rattle.rd_graph.proofs.Lists.Entries.{same_entry-sound, same_entry-refl}
use Rattle.rd_graph.proofs.Reaching.Joining.{in_at, in_next}
use Rattle.rd_low_tests.proofs.graph.checked.is_among.Goals as goal

pub returns-then-is_same : goal.returns-then-is_same
returns-then-is_same c = sym (in_at same_entry same_entry-sound same_entry-refl c.args.names.now c.loop-other.other-index _ c.args.name.now c.loop-other-test.true (sym c.is_same.ensures ∙ c.if-is_same.true))

pub loop-other-preserved : goal.loop-other-preserved
loop-other-preserved c = record { none = in_next same_entry same_entry-sound same_entry-refl c.args.names.now c.loop-other.other-index _ c.args.name.now c.loop-other-test.true c.loop-other.invariant.none (sym c.is_same.ensures ∙ c.if-is_same.false) }
