use Rattle.std.proofs.Common.{List, subst, sym}
use Rattle.rd_graph.specs.Orders.{Once}
use Rattle.rd_keys.specs.declared.entry.EntryKey.{EntryKey}
use Rattle.rd_check.proofs.judging.places_of.Goals as goal

pub new-requires : goal.new-requires
new-requires c = subst (λ (z : List EntryKey). Once z) (sym c.in_ok-names.ensures) c.requires
