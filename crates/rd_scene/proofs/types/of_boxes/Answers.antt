use Rattle.std.proofs.Common.{length, arith}
use Rattle.std.proofs.lemmas.List.Elements.{All-from_all_within, AllWithin-more, AllWithin-upto, at_read}
use Rattle.rd_scene.specs.Canonical.{IsBox}
use Rattle.rd_scene.proofs.types.of_boxes.Goals as goal

pub loop-b-preserved : goal.loop-b-preserved
loop-b-preserved c =
    AllWithin-more IsBox c.args.boxes.now 0 c.loop-b.b-index c.loop-b.invariant
    (at_read c.args.boxes.now IsBox c.loop-b.b-index c.b-item.result (omega arith) c.b-item.is c.of_box.ensures)

pub returns : goal.returns
returns c =
    All-from_all_within IsBox c.args.boxes.now
    (AllWithin-upto IsBox c.args.boxes.now 0 c.loop-b.b-index (length c.args.boxes.now) (omega arith) c.loop-b.invariant)
