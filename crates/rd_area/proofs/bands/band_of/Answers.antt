use Rattle.std.proofs.Common.{◌≡◌, ◌<◌, ◌≢◌, length, get_or, rules}
use Rattle.rd_area.proofs.Banded.{EndsBefore, band_here, band_there}
use Rattle.rd_area.proofs.bands.band_of.Goals as goal
use Rattle.rd_area.proofs.bands.band_of.Goals.{else-i-ends-via-then-i-ends+else-ends-i, else-i-ends-via-else-i-ends}

pub returns-then-ends-i : goal.returns-then-ends-i
returns-then-ends-i c =
    let e : EndsBefore c.args.ends.now c.args.y c.ends_before-i.result = record { before = c.ends_before-i.ensures.before; rest = c.ends_before-i.ensures.rest } in
    let h : c.ends_before-i.result < length c.args.ends.now = search rules in
    let at : get_or c.args.ends.now c.ends_before-i.result 0 ≡ c.args.y = search rules in
    band_here c.args.ends.now c.args.y c.ends_before-i.result c.requires h e at

pub returns : goal.returns
returns c =
    let e : EndsBefore c.args.ends.now c.args.y c.ends_before-i.result = record { before = c.ends_before-i.ensures.before; rest = c.ends_before-i.ensures.rest } in
    band_there c.args.ends.now c.args.y c.ends_before-i.result c.ends_before-i.ensures.within e
    (elim c.else-i-ends.branch [
      | else-i-ends-via-then-i-ends+else-ends-i w ↦ λ h. let n : get_or c.args.ends.now c.ends_before-i.result 0 ≢ c.args.y = search rules in n
      | else-i-ends-via-else-i-ends w ↦ λ h. absurd (search rules)
    ])
