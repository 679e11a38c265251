use Rattle.std.proofs.Common.{ap, subst, ◌∙◌, FitsSigned, w32, rules}
use Rattle.std.specs.Prelude.{is_some}
use Rattle.std.proofs.lemmas.Int.{to_z-of_z}
use Rattle.rd_tiles.specs.Internal.Changing.{IsTiled}
use Rattle.rd_tiles.proofs.Copies.{pixel_where}
use Rattle.rd_tiles.proofs.canvas.TileCanvas.pixel.Goals as goal

pub returns-clause-some : goal.returns-clause-some
returns-clause-some c =
    let fx : FitsSigned w32 c.args.x = search rules in
    let fy : FitsSigned w32 c.args.y = search rules in
    let e = simp to_z-of_z at c.pixel_of_tile.ensures in
    ap is_some e ∙ pixel_where c.args.self.now c.args.x c.args.y (subst IsTiled c.self.view_is c.self.invariant)
