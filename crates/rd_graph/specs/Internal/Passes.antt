-- One pass over the nodes of a graph that drops some of them.
use Rattle.std.specs.Prelude.{Bool, if◌then◌else◌, List, [], ◌∷◌, ◌++◌, Contains}
use Rattle.rd_graph.specs.Graphs.{Graph}
use Rattle.rd_graph.specs.Names.{is_in}

-- ---- lists without doubles

module _ {E : Type 0} (same : E → E → Bool) where
  -- with an element at the end, if it was not there
  abbrev pub pushed : List E → E → List E
  pushed xs k = if is_in same xs k then xs else xs ++ k ∷ []

  abbrev pub all_pushed : List E → List E → List E
  all_pushed xs [] = xs
  all_pushed xs (k ∷ ks) = all_pushed (pushed xs k) ks

-- ---- one pass of stitching

module _ {E : Type 0} (same : E → E → Bool) (gone : E → Bool) where
  -- what the pass noted of a node that goes: the nodes that stay from which a hop leads to it
  abbrev pub noted : Graph E → E → List E
  noted [] p = []
  noted (x ∷ xs) p = if same x.0 p then x.1 else noted xs p

  -- predecessors, with what was noted in the place of those that go
  abbrev pub resolved : (E → List E) → List E → List E
  resolved notes [] = []
  resolved notes (p ∷ ps) = (if gone p then notes p else p ∷ []) ++ resolved notes ps

  -- the same without doubles
  abbrev pub distinct : Graph E → List E → List E
  distinct through ps = all_pushed same [] (resolved (noted through) ps)

  -- The pass goes over the nodes in an order in which predecessors come first.
  abbrev pub stitch_pass : Graph E → Graph E → Graph E
  stitch_pass through [] = []
  stitch_pass through (x ∷ xs) =
      if gone x.0 then stitch_pass ((x.0, distinct through x.1) ∷ through) xs
      else (x.0, distinct through x.1) ∷ stitch_pass through xs

  -- each node once, and its predecessors before it
  abbrev pub IsSorted : List E → Graph E → Type 0
  IsSorted before [] = Unit {0}
  IsSorted before (x ∷ xs) = (Contains before x.0 → ⊥) × ((p : E) → Contains x.1 p → Contains before p) × IsSorted (x.0 ∷ before) xs
