-- Nodes that a merge makes: of the names of a chain that are not found, each after the name before it in the chain.
use Rattle.std.specs.Prelude.{ℕ, List, [], ◌∷◌, Option, Some, None}
use Rattle.rd_graph.specs.Graphs.{Graph}
use Rattle.rd_graph.specs.Internal.Chains.{before_place}

module _ {E : Type 0} where
  -- the node of a name, if the name is not found
  abbrev pub made_one : List E → E → Option ℕ → Graph E
  made_one ps k None = (k, ps) ∷ []
  made_one ps k (Some i) = []

  -- the node of the name at a place of a chain
  abbrev pub made_at : List E → ℕ → E → Option ℕ → Graph E
  made_at chain i k o = made_one (before_place chain (Some i)) k o

  -- those of a chain, of which the first has these before it
  abbrev pub made_after : List E → List E → List (Option ℕ) → Graph E
  made_after ps [] found = []
  made_after ps (k ∷ ks) [] = (k, ps) ∷ made_after (k ∷ []) ks []
  made_after ps (k ∷ ks) (None ∷ found) = (k, ps) ∷ made_after (k ∷ []) ks found
  made_after ps (k ∷ ks) (Some i ∷ found) = made_after (k ∷ []) ks found
