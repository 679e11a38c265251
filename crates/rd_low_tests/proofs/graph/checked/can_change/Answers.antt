use Rattle.std.proofs.Common.{◌∙◌, ap, subst, List}
use Rattle.rd_keys.specs.declared.entry.EntryKey.{EntryKey}
use Rattle.rd_graph.specs.Gathered.{gathered}
use Rattle.rd_graph.specs.Graphs.{Drops}
use Rattle.rd_graph.specs.Names.{is_in, same_entry}
use Rattle.rd_low_tests.proofs.Graphs.{can_drop}
use Rattle.rd_low_tests.proofs.graph.checked.can_change.Goals as goal

pub returns : goal.returns
returns c = λ t.
    can_drop c.args.gone.now c.args.chain.now c.in_ok-order.order.items c.in_ok-names.names.items c.args.graph.now c.in_ok-left.left c.in_ok-order.ensures.nodes
    (c.in_ok-names.ensures ∙ ap (λ (zs : List EntryKey). gathered c.args.gone.now zs) c.deref.ensures.value)
    (subst (λ (zs : List EntryKey). Drops (is_in same_entry zs) c.args.graph.now c.in_ok-left.left) c.deref-2.ensures.value c.in_ok-left.ensures.drops)
    (c.in_ok-fits.ensures t)
