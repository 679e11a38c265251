use Rattle.std.proofs.Common.{◌∙◌, ap, sym}
use Rattle.rd_list.specs.Entries.{is_empty}
use Rattle.rd_list.proofs.Covering.{with_key}
use Rattle.rd_list.proofs.told.group_told.Goals as goal

pub returns : goal.returns
returns g c = with_key c.in_ok-told.told c.joined.result c.args.key c.args.list.now.entries c.joined.ensures.first (c.joined.ensures.second c.args.key c.one.ensures) (sym (ap is_empty c.entries.ensures) ∙ sym c.has_none.ensures ∙ c.if-has_none.false) c.in_ok-told.ensures
