use Rattle.std.proofs.Common.{◌∙◌}
use Rattle.rd_list.proofs.Covering.{none_is_empty}
use Rattle.rd_list.proofs.told.has_none.Goals as goal

pub returns : goal.returns
returns g c = c.is_empty.ensures ∙ none_is_empty c.args.entries.now
