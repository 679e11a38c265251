-- What a search among siblings passes over, and where it stops.
use Rattle.std.specs.Prelude.{◌≡◌, ℕ, ℤ, ◌+◌, ◌≤◌, Bool, true, false, Option, Some}
use Rattle.rd_geom.specs.Plane.{Rectangle}
use Rattle.rd_keys.specs.Keys.{BoxKey, same_key}
use Rattle.rd_tree.specs.Forest.{size, starting_at, from_some}
use Rattle.rd_tree.specs.Document.{Document}
use Rattle.rd_stack.specs.Paths.{OutlineFits}
use Rattle.rd_partial.specs.declared.look.BoxLook.{BoxLook}
use Rattle.rd_partial.specs.Internal.BoxLook.{Onward, here_of}
use Rattle.rd_partial.specs.Internal.Inherited.{Inherited}
use Rattle.rd_partial.specs.Internal.Touched.{HasMarks, shows_from, marks_from, touched_looks}
use Rattle.rd_partial.specs.Internal.Work.{blends_from, passes_from, siblings_cost, visits_from}

-- So many boxes there are from one on.
abbrev pub size_from : Option BoxKey → Document → ℕ
size_from first t = size (from_some same_key first t.boxes)

-- None of the siblings from first up to at is touched, nor is a box below it.
pub record PassesMarks (t : Document) (first at : Option BoxKey) (looks0 looks : ℕ) : Type 0 where
  pub fewer : size_from at t ≤ size_from first t
  pub shows : (s : Inherited) (x y : ℤ) → shows_from s at t x y ≡ shows_from s first t x y
  pub marks : marks_from at t ≡ marks_from first t
  pub looks_is : looks + touched_looks at t ≤ looks0 + touched_looks first t

-- A look at the next one that is touched, or has a touched box below it.
pub record IsNextMarked (t : Document) (first : Option BoxKey) (v : BoxLook) (looks0 looks : ℕ) : Type 0 where
  pub key : BoxKey
  pub before : ℕ
  pub passed : PassesMarks t first (Some key) looks0 before
  pub told : Onward t.boxes key (here_of v) v.first_child v.next_sibling v.hull
  pub marks : HasMarks (starting_at same_key key t.boxes) v.touched v.touched_below
  pub fits : OutlineFits (here_of v)
  pub cost : looks ≡ before + 1

module _ (wants : Rectangle → Bool) where
  -- Nothing is wanted in the hulls of the siblings from first up to at.
  pub record PassesWanted (t : Document) (first at : Option BoxKey) (looks0 looks : ℕ) : Type 0 where
    pub fewer : size_from at t ≤ size_from first t
    pub gives : (n : ℕ) (s : Inherited) → s.root ≡ false → passes_from wants n s at t ≡ passes_from wants n s first t
    pub made : (n : ℕ) (s : Inherited) → s.root ≡ false → siblings_cost wants n s at t ≡ siblings_cost wants n s first t
    pub looks_is : looks + visits_from wants at t ≤ looks0 + visits_from wants first t

  -- A look at the next one in whose hull something may be wanted.
  pub record IsNextNear (t : Document) (first : Option BoxKey) (v : BoxLook) (looks0 looks : ℕ) : Type 0 where
    pub key : BoxKey
    pub before : ℕ
    pub passed : PassesWanted t first (Some key) looks0 before
    pub told : Onward t.boxes key (here_of v) v.first_child v.next_sibling v.hull
    pub fits : OutlineFits (here_of v)
    pub low : v.blend_below ≡ blends_from v.first_child t
    pub cost : looks ≡ before + 1

  -- A look at the next one in whose hull something is wanted.
  pub record IsNextWanted (t : Document) (first : Option BoxKey) (v : BoxLook) (looks0 looks : ℕ) : Type 0 where
    pub key : BoxKey
    pub before : ℕ
    pub passed : PassesWanted t first (Some key) looks0 before
    pub told : Onward t.boxes key (here_of v) v.first_child v.next_sibling v.hull
    pub fits : OutlineFits (here_of v)
    pub low : v.blend_below ≡ blends_from v.first_child t
    pub wanted : wants v.hull ≡ true
    pub cost : looks ≡ before + 1
