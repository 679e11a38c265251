use Rattle.std.proofs.Common.{◌≡◌, false, true, arith, FitsSigned, w32, rules}
use Rattle.std.proofs.lemmas.Int.{ints, to_z-of_z}
use Rattle.rd_geom.proofs.Pixels.{edges_within}
use Rattle.rd_tiles.proofs.Lids.{edges_of_within, le_true, true_le}
use Rattle.rd_tiles.proofs.covering.has_all.Goals as goal

never : {P : Type 0} → false ≡ true → P
never h = absurd (let no : false ≡ true = h in cc)

pub returns-then-x : goal.returns-then-x
returns-then-x c = (λ h. never h, λ w. let e = (edges_of_within c.args.tile c.args.r c.requires w).0 in absurd (omega (arith, ints, e)))

pub returns-then-y : goal.returns-then-y
returns-then-y c = (λ h. never h, λ w. let e = (edges_of_within c.args.tile c.args.r c.requires w).1 in absurd (omega (arith, ints, e)))

pub returns-then-right : goal.returns-then-right
returns-then-right c = (λ h. never h, λ w. let e = (edges_of_within c.args.tile c.args.r c.requires w).2 in absurd (omega (arith, ints, e)))

pub returns : goal.returns
returns c =
    let f : FitsSigned w32 c.bottom.result = search rules in
    let g : FitsSigned w32 c.bottom-2.result = search rules in (
      λ h.
          let t = true_le c.bottom.result c.bottom-2.result (simp to_z-of_z at h) in
          edges_within c.args.tile c.args.r (omega (arith, ints)) (omega (arith, ints)) (omega (arith, ints)) (omega (arith, ints, t)),
      λ w.
          let e = (edges_of_within c.args.tile c.args.r c.requires w).3 in
          simp to_z-of_z (le_true c.bottom.result c.bottom-2.result (omega (arith, ints, e))),
    )
