-- Lists of predecessors without what others of the same list imply.
use Rattle.std.specs.Prelude.{◌≡◌, ◌⊎◌, ℕ, List, [], ◌∷◌, ◌++◌, Contains}
use Rattle.rd_graph.specs.Graphs.{Graph, Precedes, Reaches}
use Rattle.rd_graph.specs.Patches.{with_lists, AreWithin}

module _ {E : Type 0} where
  -- ---- what is put at the end of a list

  -- this element, or nothing
  abbrev pub MayAdd : E → List E → List E → Type 0
  MayAdd k old new = (new ≡ old) ⊎ (new ≡ old ++ k ∷ [])

  -- elements of this list
  abbrev pub AddsOf : List E → List E → List E → Type 0
  AddsOf ks old new = (k : E) → Contains new k → Contains old k ⊎ Contains ks k

  -- direct predecessors of a node
  abbrev pub AddsBefore : Graph E → E → List E → List E → Type 0
  AddsBefore g b old new = (k : E) → Contains new k → Contains old k ⊎ Precedes g k b

  -- this element, unless it is one of some names
  abbrev pub MayLeave : List E → E → List E → List E → Type 0
  MayLeave names k old new = ((new ≡ old) × Contains names k) ⊎ (new ≡ old ++ k ∷ [])

  -- a list without names: it has no others than before, and what it lost is one of the names
  pub record Leaves (names old new : List E) : Type 0 where
    pub fewer : (a : E) → Contains new a → Contains old a
    pub others : (a : E) → Contains old a → Contains new a ⊎ Contains names a

  -- ---- what others imply

  -- an element reaches one of a list
  abbrev pub ReachesOne : Graph E → List E → E → Type 0
  ReachesOne g list a = (c : E) × Contains list c × Reaches g a c

  -- each of these does
  abbrev pub AreImplied : Graph E → List E → List E → Type 0
  AreImplied g list names = (a : E) → Contains names a → ReachesOne g list a

  -- a list without some that reach another one of it
  pub record IsThinner (g : Graph E) (new old : List E) : Type 0 where
    pub fewer : (a : E) → Contains new a → Contains old a
    pub implied : (a : E) → Contains old a → Contains new a ⊎ ReachesOne g old a

  -- the same nodes, each with such a list
  abbrev pub AreThinner : Graph E → Graph E → Graph E → Type 0
  AreThinner g [] [] = Unit {0}
  AreThinner g [] (y ∷ ys) = ⊥
  AreThinner g (x ∷ xs) [] = ⊥
  AreThinner g (x ∷ xs) (y ∷ ys) = (x.0 ≡ y.0) × IsThinner g x.1 y.1 × AreThinner g xs ys

  -- one node more: its list is the one that it had, or a new one, which is put with the others
  pub record ThinsOne (g : Graph E) (place : ℕ) (x : E × List E) (old new : Graph E) (lists more : List (ℕ × List E)) : Type 0 where
    pub before : List E
    pub thinner : IsThinner g before x.1
    pub put : new ≡ old ++ (x.0, before) ∷ []
    pub listed : ((before ≡ x.1) × (more ≡ lists)) ⊎ (more ≡ lists ++ (place, before) ∷ [])

  -- thinner nodes, and those lists that are new
  pub record IsThinned (g new : Graph E) (lists : List (ℕ × List E)) : Type 0 where
    pub thinner : AreThinner g new g
    pub within : AreWithin lists g
    pub put : new ≡ with_lists lists g
