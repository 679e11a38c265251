use Rattle.std.proofs.Common.{arith}
use Rattle.std.proofs.lemmas.Int.{ints}
use Rattle.rd_c.proofs.Tiling.{square_placed, tile_made}
use Rattle.rd_c.proofs.tiles.tile.Goals as goal

pub returns-in-Some : goal.returns-in-Some
returns-in-Some c =
    let w = c.requires.canvas.wide in let h = c.requires.canvas.high in let a = c.requires.column in let b = c.requires.row in let s = c.requires.side in
    tile_made c.args.side c.args.size c.args.column c.args.row _ _ _ _ c.in-Some.square c.rect.result c.meet.result c.in-Some.ensures.made
    (omega (arith, ints, a, w)) (omega (arith, ints, b, h)) (omega (arith, ints, s)) (omega (arith, ints, s)) c.rect.ensures c.meet.ensures.value

pub returns-in-None : goal.returns-in-None
returns-in-None c =
    let w = c.requires.canvas.wide in let h = c.requires.canvas.high in let a = c.requires.column in let b = c.requires.row in let s = c.requires.side in
    absurd (c.in-None.ensures.none (square_placed c.args.side c.args.size c.args.column c.args.row _ _ _ _ c.requires.canvas s a b
    (omega (arith, ints, a, w)) (omega (arith, ints, b, h)) (omega (arith, ints, s)) (omega (arith, ints, s))))
