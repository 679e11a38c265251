-- The parts of an engine, and what a paint takes before it changes them.
use Rattle.std.specs.Prelude.{◌≡◌, ℤ, ◌+◌, ◌<◌, length}
use Rattle.rd_geom.specs.Areas.{Region, in_area}
use Rattle.rd_item.specs.Items.{Made}
use Rattle.rd_list.specs.Wrappers.{Wrapper}
use Rattle.rd_list.specs.Entries.{Entries, flat}
use Rattle.rd_tree.specs.Document.{is_touched}
use Rattle.rd_tree.specs.Figures.{max_depth}
use Rattle.rd_merge.specs.Merging.{MergedInto}
use Rattle.rd_merge.specs.Plans.{PlanList, PlacesFit, filled}
use Rattle.rd_partial.specs.Numbered.{numbered}
use Rattle.rd_engine.specs.State.{EngineState}
use Rattle.rd_engine.specs.Invalid.{invalid_area}
use Rattle.rd_engine.specs.Painted.{remade}
use Rattle.rd_engine.specs.declared.prepared.Prepared.{Prepared}

-- the area of a paint has the canvas's size and the pixels of the invalid area
pub record IsInvalidArea (s : EngineState) (area : Region) : Type 0 where
  pub size : area.size ≡ s.tree.canvas
  pub pixels : (x y : ℤ) → in_area area x y ≡ in_area (invalid_area s) x y

-- what a paint makes anew, few enough to be counted
pub record IsRemade (s : EngineState) (new : Entries Wrapper Made) : Type 0 where
  pub is : new ≡ numbered (s.paints + 1) (remade s)
  pub few : length (flat new) < 4294967296

-- a plan whose places fit, and that is a merge when it is filled
pub record IsPlanned (s : EngineState) (new : Entries Wrapper Made) (plan : PlanList) : Type 0 where
  pub fits : PlacesFit plan s.kept new
  pub merged : MergedInto (λ k. is_touched k s.tree.boxes) s.kept new (filled plan s.kept new)

-- what a paint has made ready
pub record IsPrepared {A : Type 0} (s : EngineState) (p : Prepared A) : Type 0 where
  pub area : IsInvalidArea s p.area
  pub new : IsRemade s p.new
  pub plan : IsPlanned s p.new p.plan
  pub buffers : p.buffers ≡ record { size = s.tree.canvas; rows = max_depth }
  pub built : p.built ≡ length (flat p.new)
