use Rattle.rd_run.proofs.program.serve_form.Goals as goal

pub returns-in-Replay : goal.returns-in-Replay
returns-in-Replay g c = rw c.in-Replay.is c.serve_replay.ensures

pub returns-in-Render : goal.returns-in-Render
returns-in-Render g c = rw c.in-Render.is c.serve_render.ensures

pub returns-in-Tiles : goal.returns-in-Tiles
returns-in-Tiles g c = rw c.in-Tiles.is c.serve_tiles.ensures

pub returns-in-Wire : goal.returns-in-Wire
returns-in-Wire g c = rw c.in-Wire.is c.serve_wire.ensures

pub returns-in-Compose : goal.returns-in-Compose
returns-in-Compose g c = rw c.in-Compose.is (c.compose.ensures c.args.made.now c.args.looks.now)

pub returns-in-Check : goal.returns-in-Check
returns-in-Check g c = rw c.in-Check.is c.check_input.ensures
