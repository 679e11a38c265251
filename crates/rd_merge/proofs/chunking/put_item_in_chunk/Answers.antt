use Rattle.std.proofs.Common.{arith}
use Rattle.rd_merge.proofs.InPlace.{leaf_changes}
use Rattle.rd_merge.proofs.chunking.put_item_in_chunk.Goals as goal

pub returns-clause-covers : goal.returns-clause-covers
returns-clause-covers g c =
    let old = c.args.entries.now in
    let ok = old.ok in
    let within = c.requires.place in
    c.replace_entry-seek.ensures.covers old.items c.put_item_at.new.entries.items c.requires.covers
    (leaf_changes c.args.place c.told_for_leaf-told.result c.args.item old.items c.put_item_at.new.entries.items c.index.result.now (omega (arith, ok.0, within)) c.index.ensures c.put_item_at.ensures.put c.told_for_leaf-told.ensures)
