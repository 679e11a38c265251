use Rattle.std.proofs.Common.{◌∙◌, FitsSigned, w32, rules}
use Rattle.std.proofs.lemmas.Int.{to_z-of_z}
use Rattle.rd_list.specs.Lists as lists
use Rattle.rd_list.proofs.LastOwner.{last_owner-last}
use Rattle.rd_wire.proofs.shows.hit.Goals as goal

pub returns : goal.returns
returns c =
    let fx : FitsSigned w32 c.args.x = search rules in
    let fy : FitsSigned w32 c.args.y = search rules in
    let e = simp to_z-of_z at c.hit_in.ensures in
    e ∙ last_owner-last (lists.is_hit c.args.x c.args.y) _
