-- The depths of the boxes so far, by number.
use Rattle.std.specs.Prelude.{◌≡◌, ℕ, ◌<◌, List, length, slice_index}
use Rattle.rd_scene.specs.declared.script.SceneBox.{SceneBox}
use Rattle.rd_gen.specs.Boxes.{depth_at}

-- Each is that of the box with its number.
abbrev pub HasDepths : List SceneBox → List ℕ → Type 0
HasDepths before depths = (k : ℕ) → k < length depths → depth_at before k ≡ slice_index depths k
