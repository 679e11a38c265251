-- Chains that are added to a graph, and labels of its nodes by which they are sorted again.
use Rattle.std.specs.Prelude.{◌≡◌, ℕ, zero, suc, ◌<◌, ◌≤◌, Bool, if◌then◌else◌, ◌⊎◌, Option, Some, None, List, [], ◌∷◌, ◌++◌, map, take, drop, length, slice_index_or, Contains}
use Rattle.rd_graph.specs.Orders.{Before}
use Rattle.rd_graph.specs.Graphs.{Graph, nodes, Precedes, Reaches}
use Rattle.rd_graph.specs.Names.{is_in, place_of}

module _ {E : Type 0} where
  -- no edge goes back in the list of the nodes
  abbrev pub NoneGoesBack : Graph E → Type 0
  NoneGoesBack g = (a b : E) → Precedes g a b → Before (nodes g) b a → ⊥

  -- Labels of nodes: the least place in the chain of what a node is or reaches, or the length of the chain.
  pub record AreLabels (g : Graph E) (chain : List E) (label : E → ℕ) : Type 0 where
    pub rises : (a b : E) → Precedes g a b → label a ≤ label b
    pub from : (k : E) → (label k ≡ length chain) ⊎ ((j : ℕ) × (j < length chain) × (label k ≡ j) × ((d : E) → (slice_index_or chain j d ≡ k) ⊎ Reaches g k (slice_index_or chain j d)))
    pub own : (i : ℕ) (d : E) → i < length chain → label (slice_index_or chain i d) ≤ i

  -- Labels after those of some nodes fell to one.
  pub record Lowers (before : List E) (l : ℕ) (old new : E → ℕ) : Type 0 where
    pub falls : (k : E) → new k ≤ old k
    pub low : (k : E) → Contains before k → new k ≤ l
    pub only : (k : E) → (new k ≡ old k) ⊎ (Contains before k × (new k ≡ l))

-- what comes right before a place of a list
abbrev pub before_place : {E : Type 0} → List E → Option ℕ → List E
before_place chain None = []
before_place chain (Some zero) = []
before_place chain (Some (suc i)) = take 1 (drop i chain)

module _ {E : Type 0} (same : E → E → Bool) where
  abbrev pub just_before : List E → E → List E
  just_before chain k = before_place chain (place_of same chain k)

  -- a graph with the edges of a chain
  abbrev pub old_part : List E → Graph E → Graph E
  old_part chain g = map (λ x. (x.0, x.1 ++ just_before chain x.0)) g

  -- of some nodes of a chain those that do not stand yet
  abbrev pub new_among : (E → Bool) → List E → List E → Graph E
  new_among stands chain [] = []
  new_among stands chain (k ∷ ks) = (if stands k then [] else (k, just_before chain k) ∷ []) ++ new_among stands chain ks

  abbrev pub new_part : List E → Graph E → Graph E
  new_part chain g = new_among (is_in same (nodes g)) chain chain
