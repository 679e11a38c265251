use Rattle.std.proofs.Common.{◌∙◌, subst, List}
use Rattle.rd_keys.specs.declared.entry.EntryKey.{EntryKey}
use Rattle.rd_graph.specs.Internal.Thinning.{Leaves, MayLeave}
use Rattle.rd_graph.proofs.Patches.Thinned.Climbings.{leaves_next}
use Rattle.rd_graph.proofs.Patches.Marks.{take_whole}
use Rattle.rd_graph.proofs.thinning.without.Goals as goal

pub loop-key-preserved : goal.loop-key-preserved
loop-key-preserved c = record { leaves = leaves_next c.args.names.now c.args.list.now c.loop-key.left.items _ c.loop-key.key-index _ c.loop-key-test.true c.loop-key.invariant.leaves (subst (λ (k : EntryKey). MayLeave c.args.names.now k c.loop-key.left.items c.leave_one.new.left.items) (c.key.view_is ∙ c.key-item.is) c.in_ok-leave_one.ensures) }

pub returns : goal.returns
returns c = subst (λ (xs : List EntryKey). Leaves c.args.names.now xs c.loop-key.left.items) (take_whole c.args.list.now c.loop-key.key-index c.loop-key-test.false) c.loop-key.invariant.leaves
