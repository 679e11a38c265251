use Rattle.rd_merge.proofs.InPlace.{puts_changes}
use Rattle.rd_merge.proofs.chunking.put_in_chunk.Goals as goal

pub returns-clause-covers : goal.returns-clause-covers
returns-clause-covers g c =
    c.clear-seek.ensures.covers c.args.entries.now.items c.put.new.entries.items c.requires.covers (puts_changes c.args.place c.args.entry c.args.entries.now.items c.put.new.entries.items c.put.ensures.there)
