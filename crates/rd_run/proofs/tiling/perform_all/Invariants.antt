use Rattle.std.proofs.Common.{take, string_bytes}
use Rattle.rd_run.specs.Endings.{counter}
use Rattle.rd_run.specs.Machine.{State}
use Rattle.rd_run.specs.Internal.OnTiles.{PerformsOnTiles, Show}
use Rattle.rd_run.specs.Internal.Session.{Shows, IsFew}
use Rattle.rd_run.proofs.tiling.perform_all.Given as goal

-- the commands so far are done and told, and the tiles show the canvas
abbrev pub invariant-loop-command : goal.invariant-loop-command
invariant-loop-command g l = record {
  so_far : (s : State) → Shows l.fn.session s
      → PerformsOnTiles (counter l.fn.made l.made) (counter l.fn.looks l.looks) s (take l.command-index l.commands)
      (string_bytes l.tiles.text) l.session;
  shows : Show l.tiles l.session.engine.canvas;
  few : IsFew l.session l.command-index;
}
