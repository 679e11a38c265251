-- What a contract sees of patches.
use Rattle.std.specs.Prelude.{ℕ, List, map, Option, option_map}
use Rattle.std.specs.declared.vec.Vec.{Vec}
use Rattle.smallvec.specs.SmallVec.{SmallVec}
use Rattle.rd_keys.specs.declared.entry.EntryKey.{EntryKey}
use Rattle.rd_graph.specs.Runs.{HasLineRoom, places_of}
use Rattle.rd_graph.specs.declared.graph.Node.{Node}
use Rattle.rd_graph.specs.declared.runs.Run.{Run}

-- lists of predecessors with their places
abbrev pub lists_seen : List (ℕ × SmallVec EntryKey) → List (ℕ × List EntryKey)
lists_seen ls = map (λ l. (l.0, l.1.items)) ls

-- where there is a line, there is empty room for as many nodes
abbrev pub HasRoom : {A B : Type 0} → Option (Vec Run A) → Vec Node B → Type 0
HasRoom line room = HasLineRoom (option_map (λ l. places_of l.items) line) room
