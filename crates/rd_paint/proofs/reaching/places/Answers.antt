use Rattle.std.proofs.Common.{◌≡◌, ap, ◌∙◌, FitsSigned, w32, rules}
use Rattle.std.proofs.lemmas.Int.{to_z-of_z}
use Rattle.rd_list.specs.Displayed.{shown}
use Rattle.rd_list.specs.EntryNames.{kept_leaves}
use Rattle.rd_paint.specs.Internal.Picks.{picked}
use Rattle.rd_paint.proofs.Shown.Seen.{off_places, all_places}
use Rattle.rd_paint.proofs.reaching.places.Goals as goal

pub returns-in-Some-clause-unseen : goal.returns-in-Some-clause-unseen
returns-in-Some-clause-unseen g c =
    let fx : FitsSigned w32 c.args.x0 = search rules in
    let fy : FitsSigned w32 c.args.y = search rules in
    let at = simp to_z-of_z at c.clipped.ensures.places in
    let unseen = simp to_z-of_z at c.in-Some.ensures in
    let e : shown c.entries.result.now ≡ kept_leaves c.args.inner.now.entries = ap kept_leaves (c.entries.ensures) in
    off_places c.in-Some.seen c.args.y c.args.x0 c.args.count c.clipped.result.0 c.clipped.result.1 _ (picked c.args.own.now (kept_leaves c.args.inner.now.entries)) (ap (picked c.args.own.now) e) unseen at

pub returns-in-None-clause-unseen : goal.returns-in-None-clause-unseen
returns-in-None-clause-unseen g c = all_places c.args.y c.args.x0 c.args.count (picked c.args.own.now (kept_leaves c.args.inner.now.entries))
