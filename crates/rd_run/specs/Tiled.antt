-- What is told of the tiles that the paints of a script repaint. It is this project's own choice.
use Rattle.std.specs.Prelude.{◌≡◌, ℕ, ◌*◌, nat_lt, if◌then◌else◌, List, ◌∷◌, ◌++◌, []}
use Rattle.sha2.specs.Sha256.{sha256}
use Rattle.rd_geom.specs.declared.rect.Size.{Size}
use Rattle.rd_report.specs.Summaries.{final_line}
use Rattle.rd_report.specs.Tiles.{tiles_line}
use Rattle.rd_scene.specs.Scripts.{Script}
use Rattle.rd_scene.specs.declared.script.Command.{Command}
use Rattle.rd_scene.specs.Planting.{Plants}
use Rattle.rd_tiles.specs.Tiling.{columns_of, rows_of, tiles_met}
use Rattle.rd_tree.specs.Document.{Document}
use Rattle.rd_run.specs.Machine.{State, Counts, start, Step, PaintsIf, invalid_area}
use Rattle.rd_run.specs.Pictures.{picture}

-- how many tiles a canvas of this size has
abbrev pub tiles_in : Size → ℕ
tiles_in s = columns_of s * rows_of s

-- what is told where the machine goes from old to new: if it painted, the number of the paint, and how many of all tiles
-- have a pixel in its area
abbrev pub tiled_line : State → State → List ℕ
tiled_line old new =
    if nat_lt old.paints new.paints
    then tiles_line new.paints (tiles_met (invalid_area old)) (tiles_in old.tree.canvas) else []

-- The machine may do these commands, one after another, and these lines are told of its paints.
abbrev pub TiledRun : State → List Command → List ℕ → State → Type 0
TiledRun old [] lines new = (lines ≡ []) × (new ≡ old)
TiledRun old (c ∷ cs) lines new =
    (text : List ℕ) × (rest : List ℕ) × (mid : State)
    × Step c old text mid × TiledRun mid cs rest new × (lines ≡ tiled_line old mid ++ rest)

-- the lines of the paints of a script, with a paint at its end if the list is pending then, and last the digest of the
-- picture; and what the machine counts then
abbrev pub IsScriptTiles : Script → List ℕ → Counts → Type 0
IsScriptTiles s text counts =
    (t : Document) × (lines : List ℕ) × (line : List ℕ) × (mid : State) × (end : State)
    × Plants s t × TiledRun (start s.version t) s.commands lines mid × PaintsIf mid.pending mid line end
    × (text ≡ lines ++ (tiled_line mid end ++ final_line (sha256 (picture end.tree))))
    × (counts ≡ end.counts)
