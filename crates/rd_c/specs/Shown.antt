-- What is shown at a pixel. The form is this project's own choice.
use Rattle.std.specs.Prelude.{ℕ, ℤ, List, Option, option_and_then}
use Rattle.rd_keys.specs.Keys.{BoxKey}
use Rattle.rd_list.specs.Lists.{hit}
use Rattle.rd_stack.specs.Fresh.{fresh_list}
use Rattle.rd_tree.specs.Document.{Document, id_of}

-- the id of the box of the topmost leaf that is hit in column x and row y, for a tree as it is
abbrev pub hit_id : Document → ℤ → ℤ → Option (List ℕ)
hit_id t x y = option_and_then (λ k. id_of k t.boxes) (hit (fresh_list t) x y)

-- the key with this slot and this generation
abbrev pub box_key : ℕ → ℕ → BoxKey
box_key slot generation = record { slot = slot; generation = generation; mark = record {} }
