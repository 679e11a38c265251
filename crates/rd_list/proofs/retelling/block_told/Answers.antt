use Rattle.std.proofs.Common.{rules}
use Rattle.rd_list.proofs.Blocking.{start_within}
use Rattle.rd_list.proofs.retelling.block_told.Goals as goal

pub offset_bounds-entries-start : goal.offset_bounds-entries-start
offset_bounds-entries-start g c =
    let l = start_within c.args.level.now.blocks.items c.args.entries.now c.args.block c.args.start c.requires.some c.requires.covers.blocks c.requires.at in
    search rules

pub slice_bounds-sum_of-count : goal.slice_bounds-sum_of-count
slice_bounds-sum_of-count g c = start_within c.args.level.now.blocks.items c.args.entries.now c.args.block c.args.start c.requires.some c.requires.covers.blocks c.requires.at

pub slice_bounds-sum_of-start : goal.slice_bounds-sum_of-start
slice_bounds-sum_of-start g c =
    let l = start_within c.args.level.now.blocks.items c.args.entries.now c.args.block c.args.start c.requires.some c.requires.covers.blocks c.requires.at in
    search rules
