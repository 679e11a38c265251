-- Laws of the calls of a graph, by its edges.
use Rattle.std.specs.Prelude.{◌≡◌, ℕ, ◌<◌, Bool, false, ◌⊎◌, ◌↔◌, List}
use Rattle.rd_graph.specs.Orders.{Before, Chain, Once}
use Rattle.rd_graph.specs.Graphs.{Graph, Precedes, Reaches, Next, Stitch, chain_graph}

module _ {E : Type 0} where
  -- the edges that a merge of a level makes, before implied ones go
  abbrev pub Full : Graph E → (E → Bool) → List E → E → E → Type 0
  Full old gone chain a b = Stitch (Precedes old) gone a b ⊎ Next chain a b

  -- the steps of a merge of a level: between two that stay as before, and along the chain
  abbrev pub Steps : Graph E → (E → Bool) → List E → E → E → Type 0
  Steps old gone chain a b = (Reaches old a b × (gone a ≡ false) × (gone b ≡ false)) ⊎ Before chain a b

-- A graph whose edges are the stitches has reaching exactly kept among the nodes that stay.
abbrev pub Stitching : Type 0 → Type 0
Stitching E = (old new : Graph E) (gone : E → Bool) → ((a b : E) → Precedes new a b ↔ Stitch (Precedes old) gone a b)
    → (a b : E) → Reaches new a b ↔ (Reaches old a b × (gone a ≡ false) × (gone b ≡ false))

-- A graph that has the neighbours of a chain as edges besides reaches along old edges and the chain's.
abbrev pub Linking : Type 0 → Type 0
Linking E = (old new : Graph E) (chain : List E) → Once chain → ((a b : E) → Precedes new a b ↔ (Precedes old a b ⊎ Next chain a b))
    → (a b : E) → Reaches new a b ↔ Chain (λ a b. Reaches old a b ⊎ Before chain a b) a b

-- Edges that others imply may go, all at once, where each node has a place and a predecessor's is lower.
abbrev pub Pruning : Type 0 → Type 0
Pruning E = (old new : Graph E) (place : E → ℕ) → ((a b : E) → Precedes old a b → place a < place b)
    → ((a b : E) → Precedes new a b → Precedes old a b)
    → ((a b : E) → Precedes old a b → Precedes new a b ⊎ ((c : E) × Reaches old a c × Reaches old c b))
    → (a b : E) → Reaches new a b ↔ Reaches old a b

-- The graph of a chain reaches along the chain.
abbrev pub Lining : Type 0 → Type 0
Lining E = (chain : List E) → Once chain → (a b : E) → Reaches (chain_graph chain) a b ↔ Before chain a b

-- A merge of a level in place, by new lists of direct predecessors. Of the stitches and the chain's neighbours one may leave out what others
-- imply, and put in what they reach, where each node has a place and a predecessor's is lower; then reaching is along the steps.
abbrev pub Patching : Type 0 → Type 0
Patching E = (old new : Graph E) (gone : E → Bool) (chain : List E) (place : E → ℕ) → Once chain
    → ((a b : E) → Full old gone chain a b → place a < place b)
    → ((a b : E) → Precedes new a b → Chain (Full old gone chain) a b)
    → ((a b : E) → Full old gone chain a b → Precedes new a b ⊎ ((c : E) × Chain (Full old gone chain) a c × Chain (Full old gone chain) c b))
    → (a b : E) → Reaches new a b ↔ Chain (Steps old gone chain) a b
