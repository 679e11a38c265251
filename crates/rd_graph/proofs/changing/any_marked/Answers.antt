use Rattle.std.proofs.Common.{◌∙◌, ap, sym}
use Rattle.rd_keys.specs.declared.entry.EntryKey.{EntryKey}
use Rattle.rd_graph.specs.Internal.Relisting.{has_mark}
use Rattle.rd_graph.proofs.Patches.Marks.{some_at, some_next}
use Rattle.rd_graph.proofs.changing.any_marked.Goals as goal

pub loop-name-preserved : goal.loop-name-preserved
loop-name-preserved c = record { none = some_next (has_mark c.args.marks.now) c.args.names.now c.loop-name.name-index _ c.loop-name-test.true c.loop-name.invariant.none (ap (λ (k : EntryKey). has_mark c.args.marks.now k) (sym c.name-item.is) ∙ sym c.is_marked.ensures ∙ c.if-is_marked.false) }

pub returns-then-is_marked : goal.returns-then-is_marked
returns-then-is_marked c = sym (some_at (has_mark c.args.marks.now) c.args.names.now c.loop-name.name-index _ c.loop-name-test.true (ap (λ (k : EntryKey). has_mark c.args.marks.now k) (sym c.name-item.is) ∙ sym c.is_marked.ensures ∙ c.if-is_marked.true))
