-- What tiles show of an engine, and what was told of its paints.
use Rattle.std.specs.Prelude.{◌≡◌, ℕ, ℤ, pos, ◌+◌, ◌*◌, ◌<◌, ◌≤◌, nat_lt, if◌then◌else◌, IsTrue, List, [], ◌++◌, Some, string_bytes, length}
use Rattle.rd_geom.specs.Areas.{Region}
use Rattle.rd_geom.specs.Canvas.{canvas_of}
use Rattle.rd_geom.specs.Colors.{white}
use Rattle.rd_geom.specs.Plane.{holds_pixel}
use Rattle.rd_geom.specs.declared.rect.Size.{Size}
use Rattle.rd_list.specs.EntryNames.{kept_leaves}
use Rattle.rd_paint.specs.Pictures.{Picture, size_of, pixel_at}
use Rattle.rd_engine.specs.State.{EngineState}
use Rattle.rd_engine.specs.Invalid as engine
use Rattle.rd_report.specs.Tiles.{tiles_line}
use Rattle.rd_scene.specs.Scripts.{Script}
use Rattle.rd_scene.specs.declared.script.Command.{Command}
use Rattle.rd_tree.specs.Figures.{max_depth}
use Rattle.rd_tiles.specs.Tiling.{Tiling, pixel_in, tiles_met, IsRetiled}
use Rattle.rd_run.specs.Endings.{Counter}
use Rattle.rd_run.specs.Machine.{State, Counts}
use Rattle.rd_run.specs.Tiled.{tiles_in, tiled_line, TiledRun, IsScriptTiles}
use Rattle.rd_run.specs.Internal.Session.{SessionState, Shows, AreCounted}
use Rattle.rd_run.specs.declared.tiling.Follower.{Follower}

-- white tiles of a canvas of this size, with rows for the groups, and no line
pub record IsBlankOn (s : Size) (t : Follower) : Type 0 where
  pub size : t.canvas.size ≡ s
  pub rows : t.buffers ≡ record { size = s; rows = max_depth }
  pub pixels : (x y : ℤ) → IsTrue (holds_pixel (canvas_of s) x y) → pixel_in t.canvas x y ≡ Some white
  pub text : string_bytes t.text ≡ []

-- the tiles are of this size, with rows for as many groups as may stand round a leaf
pub record AreOf (s : Size) (t : Follower) : Type 0 where
  pub size : t.canvas.size ≡ s
  pub rows : t.buffers ≡ record { size = s; rows = max_depth }

-- the tiles are of the size of a canvas, and show what it shows
pub record Show (t : Follower) (c : Picture) : Type 0 where
  pub of : AreOf (size_of c) t
  pub pixels : (x y : ℕ) → x < c.width → y < c.height → pixel_in t.canvas (pos x) (pos y) ≡ pixel_at c (pos x) (pos y)

-- the tiles were repainted in an area, as the last paint of an engine, and the line of that was put at the end of the text
pub record IsRepaintedBy (e : EngineState) (area : Region) (old new : Follower) : Type 0 where
  pub canvas : IsRetiled (kept_leaves e.kept.entries) area e.paints old.canvas new.canvas
  pub buffers : new.buffers ≡ old.buffers
  pub text : string_bytes new.text
      ≡ string_bytes old.text ++ tiles_line e.paints (tiles_met area) (tiles_in (size_of e.canvas))

-- the line of a paint of this number with this area, where there was one
abbrev pub line_by : ℕ → ℕ → Region → Size → List ℕ
line_by before now area s = if nat_lt before now then tiles_line now (tiles_met area) (tiles_in s) else []

-- what is told where an engine goes from old to new
abbrev pub engine_line : EngineState → EngineState → List ℕ
engine_line old new = line_by old.paints new.paints (engine.invalid_area old) old.tree.canvas

-- tiles that show the canvas of an engine follow it to another state
pub record Follow (old new : EngineState) (before now : Follower) : Type 0 where
  pub shows : Show now new.canvas
  pub text : string_bytes now.text ≡ string_bytes before.text ++ engine_line old new

-- From s, the machine may go on by this step to what is shown now, and the tiles have the line of its paint.
abbrev pub GoesOnTiles : (State → List ℕ → State → Type 0) → Counter → Counter → State → Follower → SessionState → Follower → Type 0
GoesOnTiles step made looks s before now after =
    (text : List ℕ) × (next : State) × step s text next × Shows now next × AreCounted s next made looks
    × (string_bytes after.text ≡ string_bytes before.text ++ tiled_line s next)

module _ (made looks : Counter) where
  -- these commands are done, and these lines told
  abbrev pub PerformsOnTiles : State → List Command → List ℕ → SessionState → Type 0
  PerformsOnTiles s cs lines now = (t : State) × TiledRun s cs lines t × AreCounted s t made looks × Shows now t

  -- this text is the whole answer to a script
  abbrev pub AnswersOnTiles : Script → List ℕ → Type 0
  AnswersOnTiles s text =
      (counts : Counts) × IsScriptTiles s text counts
      × (made.now ≡ made.was + counts.built) × (looks.now ≤ looks.was + counts.looks)

-- a picture has the size and the pixels of tiles
pub record IsCopyOf (t : Tiling) (c : Picture) : Type 0 where
  pub size : size_of c ≡ t.size
  pub count : length c.pixels ≡ c.height * c.width
  pub pixels : (x y : ℤ) → pixel_at c x y ≡ pixel_in t x y
