use Rattle.std.proofs.Common.{arith, FitsSigned, w32}
use Rattle.std.specs.Prelude.{unsigned_abs}
use Rattle.std.proofs.lemmas.Int.{ints, to_z-of_z}
use Rattle.rd_tiles.proofs.Placing.{place_made, place_placed, side_fits, tile_is}
use Rattle.rd_tiles.proofs.places.place_of.Goals as goal

pub returns-in-Some : goal.returns-in-Some
returns-in-Some c =
    let p = tile_is c.args.size c.args.column c.args.row c.requires.tile in
    let a = p.column in
    let b = p.row in
    let fw : FitsSigned w32 c.args.size.w = omega (arith, ints) in
    let fh : FitsSigned w32 c.args.size.h = omega (arith, ints) in
    let ew = simp to_z-of_z at c.side_of-w.ensures in
    let eh = simp to_z-of_z at c.side_of-h.ensures in
    let mw = (side_fits (unsigned_abs c.args.size.w) c.args.column a).most in
    let mh = (side_fits (unsigned_abs c.args.size.h) c.args.row b).most in
    place_made c.args.size c.args.column c.args.row _ _ _ _ c.in-Some.place c.in-Some.ensures.made
    (omega (arith, ints, a)) (omega (arith, ints, b)) (omega (arith, ints, ew, mw)) (omega (arith, ints, eh, mh))

pub returns-in-None : goal.returns-in-None
returns-in-None c =
    let p = tile_is c.args.size c.args.column c.args.row c.requires.tile in
    let a = p.column in
    let b = p.row in
    let fw : FitsSigned w32 c.args.size.w = omega (arith, ints) in
    let fh : FitsSigned w32 c.args.size.h = omega (arith, ints) in
    let ew = simp to_z-of_z at c.side_of-w.ensures in
    let eh = simp to_z-of_z at c.side_of-h.ensures in
    let mw = (side_fits (unsigned_abs c.args.size.w) c.args.column a).most in
    let mh = (side_fits (unsigned_abs c.args.size.h) c.args.row b).most in
    absurd (c.in-None.ensures.none (place_placed c.args.size c.args.column c.args.row _ _ _ _ c.requires.canvas p
    (omega (arith, ints, a)) (omega (arith, ints, b)) (omega (arith, ints, ew, mw)) (omega (arith, ints, eh, mh))))
