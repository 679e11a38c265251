use Rattle.std.proofs.Common.{ap, sym, ◌∙◌}
use Rattle.rd_tiles.specs.Tiling.{Tiling}
use Rattle.rd_tiles.proofs.Copies.{copied_of}
use Rattle.rd_tiles.proofs.canvas.TileCanvas.copy_to.Goals as goal

pub returns-clause-pixels : goal.returns-clause-pixels
returns-clause-pixels c =
    let t : Tiling = record { size = c.self.inside.size; tiles = c.self.inside.tiles.items } in
    rw (← c.self.view_is) (copied_of t c.deref.result.now c.args.canvas.now c.copy_all.new.canvas c.self.invariant
    (c.requires ∙ sym (ap (λ (t : Tiling). t.size) c.self.view_is)) c.deref.ensures.value c.copy_all.ensures)
