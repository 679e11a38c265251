use Rattle.std.proofs.Common.{◌≡◌, pos, ap, arith}
use Rattle.std.proofs.lemmas.Int.{ints}
use Rattle.rd_geom.specs.declared.rect.Size.{Size}
use Rattle.rd_c.proofs.Answering.{lies}
use Rattle.rd_c.proofs.copying.part_of.Goals as goal

pub returns-clause-lies : goal.returns-clause-lies
returns-clause-lies c =
    let wide : c.size-size.result.w ≡ pos c.args.canvas.now.width = ap (λ (s : Size). s.w) c.size-size.ensures.value in
    let high : c.size-size.result.h ≡ pos c.args.canvas.now.height = ap (λ (s : Size). s.h) c.size-size.ensures.value in
    lies c.args.place.now c.args.canvas.now (omega (arith, ints)) (omega (arith, ints)) (omega (arith, ints)) (omega (arith, ints)) (omega (arith, ints)) (omega (arith, ints))
