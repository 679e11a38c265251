-- Patches of a graph of orders: what a merge of a level changes in it, by the places of its nodes.
-- All of it is this project's own choice.
use Rattle.std.specs.Prelude.{◌≡◌, ℕ, ◌<◌, ◌+◌, Bool, false, ◌⊎◌, ◌↔◌, List, [], ◌∷◌, ◌++◌, length, map, Contains, Option, Some, None, zero, suc, slice_index_or}
use Rattle.rd_keys.specs.declared.entry.EntryKey.{EntryKey}
use Rattle.rd_graph.specs.Orders.{Once}
use Rattle.rd_graph.specs.Graphs.{Graph, nodes, Precedes, GoesForward, GoTogether, IsInOrder, Drops, AddsChain}
use Rattle.rd_graph.specs.Gathered.{gathered, arranged, IsLine}
use Rattle.rd_graph.specs.Laws.{Full}
use Rattle.rd_graph.specs.Names.{is_in, place_of, same_entry}

-- new lists of predecessors by place; nodes that are made; and the line: the places of the result's nodes, old and made ones counted through,
-- or none where every node stays at its place
abbrev pub PatchOf : Type 0 → Type 0
PatchOf E = List (ℕ × List E) × (Graph E × Option (List ℕ))

module _ {E : Type 0} where
  abbrev pub lists_of : PatchOf E → List (ℕ × List E)
  lists_of p = p.0

  abbrev pub made_of : PatchOf E → Graph E
  made_of p = p.1.0

  abbrev pub line_of : PatchOf E → Option (List ℕ)
  line_of p = p.1.1

  -- a graph whose node at a place has these predecessors
  abbrev pub with_list : ℕ → List E → Graph E → Graph E
  with_list i ps [] = []
  with_list zero ps (x ∷ xs) = (x.0, ps) ∷ xs
  with_list (suc i) ps (x ∷ xs) = x ∷ with_list i ps xs

  -- the same for each of these places
  abbrev pub with_lists : List (ℕ × List E) → Graph E → Graph E
  with_lists [] g = g
  with_lists (l ∷ ls) g = with_lists ls (with_list l.0 l.1 g)

  -- A graph with its patch.
  abbrev pub patched : PatchOf E → Graph E → Graph E
  patched p g = arranged (line_of p) (with_lists (lists_of p) g ++ made_of p)

  -- each place is one of the graph's
  abbrev pub AreWithin : List (ℕ × List E) → Graph E → Type 0
  AreWithin ls g = (l : ℕ × List E) → Contains ls l → l.0 < length g

  -- where there is no line, nothing is made
  abbrev pub IsStill : Option (List ℕ) → Graph E → Type 0
  IsStill None made = made ≡ []
  IsStill (Some line) made = Unit {0}

  -- A patch that a graph can take: its places are the graph's, and what it gives is in order.
  pub record FitsPatch (p : PatchOf E) (g : Graph E) : Type 0 where
    pub lists : AreWithin (lists_of p) g
    pub line : IsLine (line_of p) (length g + length (made_of p))
    pub still : IsStill (line_of p) (made_of p)
    pub sound : IsInOrder (patched p g)

  -- the names of a chain that are not found
  abbrev pub not_found : List E → List (Option ℕ) → List E
  not_found [] found = []
  not_found (k ∷ ks) [] = k ∷ not_found ks []
  not_found (k ∷ ks) (None ∷ found) = k ∷ not_found ks found
  not_found (k ∷ ks) (Some i ∷ found) = not_found ks found

-- each place is greater than the one before
abbrev pub AreRising : List ℕ → Type 0
AreRising ps = (j k : ℕ) → j < k → k < length ps → slice_index_or ps j 0 < slice_index_or ps k 0

-- is it one of the nodes at these places?
abbrev pub is_gone : List ℕ → Graph EntryKey → EntryKey → Bool
is_gone gone g k = is_in same_entry (gathered gone (nodes g)) k

-- the places of the names of a chain in a graph
abbrev pub found_in : List EntryKey → Graph EntryKey → List (Option ℕ)
found_in chain g = map (λ k. place_of same_entry (nodes g) k) chain

-- What a merge of a level asks: places of nodes that go, in rising order; a chain of names that differ, and their places; and what stays and the
-- chain go forward in one list.
pub record CanBePatched (gone : List ℕ) (chain : List EntryKey) (found : List (Option ℕ)) (g : Graph EntryKey) : Type 0 where
  pub rising : AreRising gone
  pub within : (k : ℕ) → k < length gone → slice_index_or gone k 0 < length g
  pub once : Once chain
  pub found_are : found ≡ found_in chain g
  pub forward : (dropped : Graph EntryKey) → Drops (is_gone gone g) g dropped → GoTogether chain dropped

-- New lists of predecessors: each node that is in the result has those that the merge gives it.
pub record IsRelisted (gone : List ℕ) (chain : List EntryKey) (g : Graph EntryKey) (lists : List (ℕ × List EntryKey)) : Type 0 where
  pub within : AreWithin lists g
  pub edges : (a b : EntryKey) → Contains (nodes g) b → (is_gone gone g b ≡ false) ⊎ Contains chain b
      → Precedes (with_lists lists g) a b ↔ Full g (is_gone gone g) chain a b

-- A line: every name that stays or is in the chain once, and each edge of the merge goes forward.
pub record IsArranged (gone : List ℕ) (chain : List EntryKey) (found : List (Option ℕ)) (g : Graph EntryKey) (line : Option (List ℕ)) : Type 0 where
  pub places : IsLine line (length g + length (not_found chain found))
  pub still : IsStill line (map (λ k. (k, [])) (not_found chain found))
  pub once : Once (arranged line (nodes g ++ not_found chain found))
  pub names : (a : EntryKey) → Contains (arranged line (nodes g ++ not_found chain found)) a ↔ ((Contains (nodes g) a × (is_gone gone g a ≡ false)) ⊎ Contains chain a)
  pub forward : GoesForward (Full g (is_gone gone g) chain) (arranged line (nodes g ++ not_found chain found))

-- What a patch of a merge gives: the graph without what goes and with the chain.
pub record IsPatched (gone : List ℕ) (chain : List EntryKey) (found : List (Option ℕ)) (g : Graph EntryKey) (p : PatchOf EntryKey) : Type 0 where
  pub made_are : nodes (made_of p) ≡ not_found chain found
  pub dropped : Graph EntryKey
  pub drops : Drops (is_gone gone g) g dropped
  pub adds : AddsChain chain dropped (patched p g)
