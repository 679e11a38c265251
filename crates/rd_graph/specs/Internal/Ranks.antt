-- Ranks of the nodes of a merge, by which they are sorted: their places among the names of the chain that stay.
use Rattle.std.specs.Prelude.{◌≡◌, ℕ, ◌+◌, ◌-◌, ◌<◌, ◌≤◌, ◌⊎◌, nat_lt, slice_index_or, slice_range, Bool, if◌then◌else◌, List, [], ◌∷◌, ◌++◌, length, map, take, drop, Option, Some}
use Rattle.std.specs.List.{prefix_len, sum_by}
use Rattle.std.specs.declared.vec.Vec.{Vec}
use Rattle.rd_keys.specs.declared.entry.EntryKey.{EntryKey}
use Rattle.rd_graph.specs.Graphs.{Graph, IsInOrder, nodes, Precedes, Reaches}
use Rattle.rd_graph.specs.Orders.{Before, Once}
use Rattle.rd_graph.specs.Patches.{IsArranged}
use Rattle.rd_graph.specs.Internal.Seen.{seen}
use Rattle.rd_graph.specs.Runs.{places_of, up_from}
use Rattle.rd_graph.specs.declared.graph.Node.{Node}
use Rattle.rd_graph.specs.declared.ranked.RankedRun.{RankedRun}
use Rattle.rd_graph.specs.declared.regions.Cut.{Cut}
use Rattle.rd_graph.specs.declared.regions.Region.{Region}
use Rattle.rd_graph.specs.declared.runs.Run.{Run}
use Rattle.rd_graph.specs.Internal.Chains.{AreLabels}
use Rattle.rd_graph.specs.Internal.Walks.{stays_at, staying}

-- of the names of a chain, those that stay
abbrev pub fixed : {E : Type 0} → List Bool → List ℕ → List E → List E
fixed stays [] ks = []
fixed stays (p ∷ ps) [] = []
fixed stays (p ∷ ps) (k ∷ ks) = (if stays_at stays p then k ∷ [] else []) ++ fixed stays ps ks

-- how many of the chain that stay stand before the next one
abbrev pub rank_after : List Bool → ℕ → ℕ → ℕ
rank_after stays rank p = if stays_at stays p then rank + 1 else rank

-- a place of the chain with its rank, unless it stays
abbrev pub loose_one : List Bool → ℕ → ℕ → List (ℕ × ℕ)
loose_one stays rank p = if stays_at stays p then [] else (rank, p) ∷ []

abbrev pub loose : List Bool → ℕ → List ℕ → List (ℕ × ℕ)
loose stays rank [] = []
loose stays rank (p ∷ ps) = loose_one stays rank p ++ loose stays (rank_after stays rank p) ps

-- places with the ranks of their names
abbrev pub ranked : {E : Type 0} → (E → ℕ) → List E → List ℕ → List (ℕ × ℕ)
ranked rank names [] = []
ranked rank names (p ∷ ps) = map (λ k. (rank k, p)) (take 1 (drop p names)) ++ ranked rank names ps

-- how many of the first of some places are lower than a place
abbrev pub passed : ℕ → List ℕ → ℕ
passed p ps = prefix_len (λ q. nat_lt q p) ps

-- places of one rank
abbrev pub alike : ℕ → List ℕ → List (ℕ × ℕ)
alike rank ps = map (λ p. (rank, p)) ps

-- the places of runs with their ranks, one run after another
abbrev pub spread : List RankedRun → List (ℕ × ℕ)
spread [] = []
spread (r ∷ rs) = alike r.rank (up_from r.from r.count) ++ spread rs

-- places with their ranks
abbrev pub at_ranks : (ℕ → ℕ) → List ℕ → List (ℕ × ℕ)
at_ranks rank ps = map (λ p. (rank p, p)) ps

-- places with ranks that begin at the least and are one higher after each of some places
abbrev pub counted_ranks : ℕ → List ℕ → List ℕ → List (ℕ × ℕ)
counted_ranks least some ps = at_ranks (λ p. least + passed p some) ps

-- places with ranks that are higher than the least by the labels of their nodes
abbrev pub labelled_ranks : ℕ → (EntryKey → ℕ) → List Node → List ℕ → List (ℕ × ℕ)
labelled_ranks least label ns ps = ranked (λ k. least + label k) (nodes (seen ns)) ps

-- some names are those at some places
pub record AreNamesAt (places : List ℕ) (names : List EntryKey) (g : Graph EntryKey) : Type 0 where
  pub count : length places ≡ length names
  pub within : (i : ℕ) → i < length places → slice_index_or places i 0 < length g
  pub at : (i : ℕ) (d : EntryKey) → i < length places → slice_index_or names i d ≡ slice_index_or (nodes g) (slice_index_or places i 0) d

-- Ranks of nodes among some names: they do not fall along an edge, and that of a name is its place, unless it reaches an earlier one.
pub record AreRanks (g : Graph EntryKey) (names : List EntryKey) (rank : EntryKey → ℕ) : Type 0 where
  pub rises : (a b : EntryKey) → Precedes g a b → rank a ≤ rank b
  pub own : (i : ℕ) (d : EntryKey) → i < length names
      → (rank (slice_index_or names i d) ≡ i) ⊎ ((j : ℕ) × (j < i) × Reaches g (slice_index_or names i d) (slice_index_or names j d))

-- nodes, which of them stay, and names that stand at some places
pub record AreRankable (ns : List Node) (stays : List Bool) (places : List ℕ) (names : List EntryKey) : Type 0 where
  pub sound : IsInOrder (seen ns)
  pub count : length stays ≡ length ns
  pub once : Once names
  pub at : AreNamesAt places names (seen ns)

-- those places of a region come after that stay, with ranks by labels of the region's nodes among the names that lie in it
pub record PutsWithin (r : Region) (names : List EntryKey) (stays : List Bool) (ns : List Node) (old new : List (ℕ × ℕ)) : Type 0 where
  pub label : EntryKey → ℕ
  pub labels : AreLabels (seen (slice_range ns r.from.place r.to.place)) (slice_range names r.from.met r.to.met) label
  pub pairs : new ≡ old ++ labelled_ranks r.from.met label ns (staying stays r.from.place (r.to.place - r.from.place))

-- those places come after that stay and lie before a cut, with ranks among the names that lie there
pub record PutsTo (c : Cut) (places : List ℕ) (names : List EntryKey) (stays : List Bool) (ns : List Node) (old new : List (ℕ × ℕ)) : Type 0 where
  pub rank : ℕ → ℕ
  pub rises : (i j : ℕ) (d : EntryKey) → i < j → j < c.place → Precedes (seen ns) (slice_index_or (nodes (seen ns)) i d) (slice_index_or (nodes (seen ns)) j d) → rank i ≤ rank j
  pub few : (i : ℕ) → i < c.place → rank i ≤ c.met
  pub own : (i : ℕ) (d : EntryKey) → i < c.met
      → (rank (slice_index_or places i 0) ≡ i) ⊎ ((j : ℕ) × (j < i) × Reaches (seen ns) (slice_index_or names i d) (slice_index_or names j d))
  pub pairs : new ≡ old ++ at_ranks rank (staying stays 0 c.place)

-- those places come after that stay, with ranks of their names among some names
pub record PutsRanked (names : List EntryKey) (stays : List Bool) (g : Graph EntryKey) (old new : List (ℕ × ℕ)) : Type 0 where
  pub rank : EntryKey → ℕ
  pub ranks : AreRanks g names rank
  pub pairs : new ≡ old ++ ranked rank (nodes g) (staying stays 0 (length stays))

-- The places with their ranks: those of the chain that do not stay, and after them those that stay, are sorted by ranks. They are the
-- same ones, each as often, and those of one rank stand as they stood.
pub record AreByRank (stays : List Bool) (places : List ℕ) (chain : List EntryKey) (g : Graph EntryKey) (pairs : List (ℕ × ℕ)) : Type 0 where
  pub before : List (ℕ × ℕ)
  pub put : PutsRanked (fixed stays places chain) stays g (loose stays 0 places) before
  pub same : (n : ℕ × ℕ → ℕ) → sum_by n pairs ≡ sum_by n before
  pub sorted : (x y : ℕ × ℕ) → Before pairs x y → x.0 ≤ y.0
  pub stable : (x y : ℕ × ℕ) → Before before x y → x.0 ≡ y.0 → Before pairs x y

-- a line of places is one of the merge
abbrev pub IsLineOf : {A : Type 0} → List ℕ → List EntryKey → List (Option ℕ) → Graph EntryKey → Vec Run A → Type 0
IsLineOf gone chain found g runs = IsArranged gone chain found g (Some (places_of runs.items))
