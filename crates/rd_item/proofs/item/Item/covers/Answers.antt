use Rattle.std.proofs.Common.{◌≡◌, FitsSigned, w32, rules}
use Rattle.std.proofs.lemmas.Int.{to_z-of_z}
use Rattle.rd_item.specs.Leaves as leaves
use Rattle.rd_item.proofs.item.Item.covers.Goals as goal

pub returns : goal.returns
returns g c =
    let fx : FitsSigned w32 c.args.x = search rules in
    let fy : FitsSigned w32 c.args.y = search rules in
    let e : c.covers.result ≡ leaves.covers c.self.inside.leaf c.args.x c.args.y = simp to_z-of_z at c.covers.ensures in
    rw (← c.self.view_is) e
