use Rattle.std.proofs.Common.{ap}
use Rattle.std.specs.Prelude.{slice_set}
use Rattle.std.proofs.lemmas.List.{length-set}
use Rattle.rd_tree.specs.Internal.Glances.{pages}
use Rattle.rd_tree.proofs.Nodes.Shared.{row_odd, same_set}
use Rattle.rd_tree.proofs.shared.forget.Goals as goal

pub returns : goal.returns
returns c = λ w. row_odd c.args.words.now (slice_set c.args.words.now c.args.slot w) c.args.shared.now c.stir.new.shared c.put_odd.new.shared c.args.slot
    c.with_bit-odd.result c.requires.shared c.stir.ensures c.put_odd.ensures c.with_bit-odd.ensures.set c.with_bit-odd.ensures.others
    (ap pages (length-set c.args.words.now c.args.slot w)) (same_set c.args.words.now c.args.slot w c.requires.slot)
