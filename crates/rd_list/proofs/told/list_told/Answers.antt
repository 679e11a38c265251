use Rattle.std.proofs.lemmas.Option.{IfSome_then}
use Rattle.rd_list.proofs.Covering.{told_list}
use Rattle.rd_list.proofs.told.list_told.Goals as goal

pub returns : goal.returns
returns g c = IfSome_then c.level_told.result c.level_told.ensures (λ t h. told_list t c.blocked.result.entries.now c.args.list.now.entries c.blocked.ensures.entries h)
