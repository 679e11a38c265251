use Rattle.std.proofs.Common.{◌∙◌}
use Rattle.rd_merge.proofs.Leaving.{none_is_empty}
use Rattle.rd_merge.proofs.inner.has_none.Goals as goal

pub returns : goal.returns
returns g c = c.is_empty.ensures ∙ none_is_empty c.args.entries.now
