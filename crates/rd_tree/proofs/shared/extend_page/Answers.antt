use Rattle.std.proofs.Common.{[], ◌∷◌, ◌++◌, length, arith}
use Rattle.std.proofs.lemmas.List.{length-append}
use Rattle.rd_tree.proofs.Nodes.Shared.{row_odd, same_after}
use Rattle.rd_tree.proofs.shared.extend_page.Goals as goal

pub returns : goal.returns
returns c = λ w. row_odd c.args.words.now (c.args.words.now ++ w ∷ []) c.args.shared.now c.stir.new.shared c.put_odd.new.shared (length c.args.words.now)
    c.with_bit-odd.result c.requires.shared c.stir.ensures c.put_odd.ensures c.with_bit-odd.ensures.set c.with_bit-odd.ensures.others
    (omega (arith, length-append c.args.words.now (w ∷ []), c.requires.shared.all, c.requires.page)) (same_after c.args.words.now w)
