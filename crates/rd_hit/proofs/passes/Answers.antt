use Rattle.std.proofs.Common.{FitsSigned, w32, rules, sym, None}
use Rattle.std.proofs.lemmas.Int.{to_z-of_z}
use Rattle.rd_hit.proofs.Downward.{hit_down}
use Rattle.rd_hit.proofs.passes.Goals as goal

pub returns : goal.returns
returns g c = λ t n.
    let fx : FitsSigned w32 c.args.x = search rules in
    let fy : FitsSigned w32 c.args.y = search rules in
    let e = simp to_z-of_z at c.is_passed.ensures in
    hit_down c.args.x c.args.y c.args.entries.now c.args.place c.index-entries-place.result None c.requires c.index-entries-place.is (sym (e t)) n
