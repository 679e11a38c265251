use Rattle.std.proofs.Common.{◌≡◌}
use Rattle.rd_area.specs.Internal.Joining.{with_span}
use Rattle.rd_area.proofs.Merging.{joined_joins}
use Rattle.rd_area.proofs.row.join.Goals as goal

pub returns : goal.returns
returns c =
    let e : c.put.new.row.items ≡ with_span c.args.span c.args.row.now.items = cc in
    rw e (joined_joins c.args.span c.args.row.now.items c.requires.some)
