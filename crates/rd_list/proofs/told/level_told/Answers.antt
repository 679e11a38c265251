use Rattle.std.proofs.Common.{◌∙◌, ap, sym, length, arith}
use Rattle.std.proofs.lemmas.List.{take_all}
use Rattle.std.proofs.lemmas.Option.{IfSome_then}
use Rattle.rd_list.specs.Chunks.{total}
use Rattle.rd_list.proofs.Blocking.{told_parts}
use Rattle.rd_list.proofs.told.level_told.Goals as goal

pub rest-requires-clause-at : goal.rest-requires-clause-at
rest-requires-clause-at g c =
    let bs = c.args.level.blocks.now in
    (omega arith, c.sum_of-blocks.ensures.count ∙ ap total (sym (take_all (length bs) bs (omega arith))))

pub returns : goal.returns
returns g c =
    IfSome_then c.joined.result c.joined.ensures
    (λ t j. told_parts c.sum_of-blocks.result.told c.in_ok-rest.rest t c.args.level.entries.now c.sum_of-blocks.result.count c.sum_of-blocks.ensures.within (c.sum_of-blocks.ensures.told c.if-blocks.false) c.in_ok-rest.ensures j)
