-- Lists of predecessors that change, by the places of their nodes.
use Rattle.std.specs.Prelude.{◌≡◌, ℕ, ◌<◌, ◌≤◌, ◌==◌, ◌%◌, Bool, true, false, if◌then◌else◌, ◌↔◌, List, [], ◌∷◌, ◌++◌, length, slice_index_or, Contains, Option, Some, None}
use Rattle.indexmap.specs.IndexMap.{IndexMap}
use Rattle.rd_keys.specs.declared.entry.EntryKey.{EntryKey}
use Rattle.rd_keys.specs.declared.entry.EntryKey.TheVariants as key
use Rattle.rd_graph.specs.Graphs.{Graph, Precedes, Stitch}
use Rattle.rd_graph.specs.Names.{is_in}
use Rattle.rd_graph.specs.Patches.{AreWithin}
use Rattle.rd_graph.specs.Internal.Chains.{just_before}
use Rattle.rd_graph.specs.Internal.Tables.{at, has_it}

-- where a name has its mark, which other names may share
abbrev pub mark_of : EntryKey → ℕ
mark_of (key.Leaf k p) = k.slot % 2048
mark_of (key.Group k) = k.slot % 2048

-- has a name its mark?
abbrev pub has_mark : List Bool → EntryKey → Bool
has_mark marks k = slice_index_or marks (mark_of k) false

-- each name of a table has its mark
abbrev pub AreMarked : {S : Type 0} → List Bool → IndexMap EntryKey ℕ S → Type 0
AreMarked marks names = (k : EntryKey) → has_it names k ≡ true → has_mark marks k ≡ true

-- each name of a table has a number of its own below a count
abbrev pub AreNumbered : {S : Type 0} → IndexMap EntryKey ℕ S → ℕ → Type 0
AreNumbered names count = (k : EntryKey) (i : ℕ) → at names k ≡ Some i → (i < count) × ((j : EntryKey) → at names j ≡ Some i → k ≡ j)

module _ {E : Type 0} where
  -- the list at a place, after new lists
  abbrev pub list_at : List (ℕ × List E) → ℕ → List E → List E
  list_at [] k ps = ps
  list_at (l ∷ ls) k ps = list_at ls k (if l.0 == k then l.1 else ps)

  -- a name, if there is one
  abbrev pub listed : Option E → List E
  listed None = []
  listed (Some k) = k ∷ []

  -- a graph's node at a place
  abbrev pub IsAt : Graph E → ℕ → E × List E → Type 0
  IsAt g k x = (k < length g) × (slice_index_or g k x ≡ x)

  module _ (same : E → E → Bool) where
    -- does a list have all of these?
    abbrev pub has_all : List E → List E → Bool
    has_all xs [] = true
    has_all xs (k ∷ ks) = if is_in same xs k then has_all xs ks else false

    -- a list with these at its end, unless it has all of them
    abbrev pub joined : List E → List E → List E
    joined xs ks = if has_all xs ks then xs else xs ++ ks

  module _ (gone : E → Bool) where
    -- does one of these go?
    abbrev pub some_gone : List E → Bool
    some_gone [] = false
    some_gone (p ∷ ps) = if gone p then true else some_gone ps

    -- does the node stay, and a predecessor go?
    abbrev pub is_late : E × List E → Bool
    is_late x = if gone x.0 then false else some_gone x.1

    -- no predecessor of the nodes on a stretch of places is one of these
    abbrev pub AreQuiet : Graph E → ℕ → ℕ → Type 0
    AreQuiet g from to = (k : ℕ) (x : E × List E) → IsAt g k x → from ≤ k → k < to → some_gone x.1 ≡ false

    -- New lists of the nodes that stay, and of which a predecessor goes: those have the stitches.
    pub record Relists (g : Graph E) (lists : List (ℕ × List E)) : Type 0 where
      pub within : AreWithin lists g
      pub kept : (k : ℕ) (x : E × List E) → IsAt g k x → is_late x ≡ false → list_at lists k x.1 ≡ x.1
      pub new : (k : ℕ) (x : E × List E) → IsAt g k x → is_late x ≡ true → (a : E) → Contains (list_at lists k x.1) a ↔ Stitch (Precedes g) gone a x.0

    module _ (resolves : List E → List E) where
      -- With what is noted, predecessors of a node that stays are resolved to its stitches.
      abbrev pub AreNoted : Graph E → Type 0
      AreNoted g = (k : ℕ) (x : E × List E) → IsAt g k x → gone x.0 ≡ false → (a : E) → Contains (resolves x.1) a ↔ Stitch (Precedes g) gone a x.0

      -- what a node of the chain has before the edge of the chain: nothing where it goes
      abbrev pub own : E × List E → List E
      own x = if gone x.0 then [] else (if some_gone x.1 then resolves x.1 else x.1)

    module _ (same : E → E → Bool) where
      -- does a node of the chain keep its list? It stays with all its predecessors, and has the edge of the chain.
      abbrev pub keeps : List E → E × List E → Bool
      keeps edge x = if gone x.0 then false else (if some_gone x.1 then false else has_all same x.1 edge)

      module _ (resolves : List E → List E) where
        -- a new list: what the node has, and the edge of the chain
        abbrev pub relinked : List E → E × List E → List E
        relinked edge x = joined same (own resolves x) edge

        -- one more list, of this node of the chain at this place, unless it keeps the one that it has
        abbrev pub AddsAlong : List E → ℕ → E × List E → List (ℕ × List E) → List (ℕ × List E) → Type 0
        AddsAlong edge p x old new = new ≡ old ++ (if keeps edge x then [] else (p, relinked edge x) ∷ [])

        -- the same of the node at a place, if there is one
        abbrev pub GoesAlongAt : List E → Option ℕ → Graph E → List (ℕ × List E) → List (ℕ × List E) → Type 0
        GoesAlongAt edge None g old new = new ≡ old
        GoesAlongAt edge (Some p) g old new = (x : E × List E) × IsAt g p x × AddsAlong edge p x old new

        module _ (chain : List E) where
          -- the list of a node of the chain
          abbrev pub on_chain : E × List E → List E → List E
          on_chain x ps = if keeps (just_before same chain x.0) x then ps else relinked (just_before same chain x.0) x

          -- the same of each node of some part of the chain
          abbrev pub along : List E → E × List E → List E → List E
          along part x ps = if is_in same part x.0 then on_chain x ps else ps

          -- lists after those of some part of the chain
          pub record GoesAlong (part : List E) (g : Graph E) (old new : List (ℕ × List E)) : Type 0 where
            pub within : AreWithin old g → AreWithin new g
            pub lists : (k : ℕ) (x : E × List E) → IsAt g k x → list_at new k x.1 ≡ along part x (list_at old k x.1)
