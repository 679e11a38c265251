-- A new list as a kept one.
use Rattle.rd_list.specs.Entries.{Entries, nil, leaf, group}
use Rattle.rd_graph.specs.Graphs.{chain_graph}
use Rattle.rd_list.specs.Levels.{Names, keys}
use Rattle.rd_list.specs.Kept.{Ordered, KeptList, bare_new}

module _ {E G M L : Type 0} (n : Names E G L) (leaf_of : M → L) where
  -- its entries, each group's graph a chain
  abbrev pub linear : Entries G M → Entries (Ordered E G) M
  linear nil = nil
  linear (leaf m rest) = leaf m (linear rest)
  linear (group g inner rest) = group (record { of = g; graph = chain_graph (keys n (bare_new n leaf_of inner)) }) (linear inner) (linear rest)

  -- all of it, the graph of its own level a chain too
  abbrev pub lined : Entries G M → KeptList E G M
  lined xs = record { graph = chain_graph (keys n (bare_new n leaf_of xs)); entries = linear xs }
