use Rattle.std.proofs.Common.{ap, subst, arith}
use Rattle.rd_item.specs.Items.{Made}
use Rattle.rd_keys.specs.declared.entry.EntryKey.{EntryKey}
use Rattle.rd_list.specs.Displayed.{shown}
use Rattle.rd_list.specs.Entries.{Entries}
use Rattle.rd_list.specs.EntryNames.{kept_leaves}
use Rattle.rd_list.specs.Kept.{Ordered}
use Rattle.rd_list.specs.Wrappers.{Wrapper}
use Rattle.rd_paint.specs.Parts.{entry_count}
use Rattle.rd_paint.proofs.Depths.{entry_count-shown}
use Rattle.rd_tiles.specs.Covering.{IsCover}
use Rattle.rd_tiles.proofs.Lids.{lid_shows}
use Rattle.rd_tiles.proofs.covering.cover.Goals as goal

pub returns-clause-cover : goal.returns-clause-cover
returns-clause-cover g c =
    let k : IsCover c.args.tile (shown c.entries.result.now) c.topmost.result = record { at = c.topmost.ensures.at; greatest = λ i h p. c.topmost.ensures.greatest i (omega arith) h p } in
    subst (λ (xs : Entries (Ordered EntryKey Wrapper) Made). IsCover c.args.tile (kept_leaves xs) c.topmost.result) c.entries.ensures k

pub returns-clause-within : goal.returns-clause-within
returns-clause-within g c =
    let e = entry_count-shown c.entries.result.now in
    let n = ap entry_count c.entries.ensures in
    let w = c.topmost.ensures.within in
    omega (arith, e, n, w)

pub returns-clause-shows : goal.returns-clause-shows
returns-clause-shows g c = λ x y h.
    let k : IsCover c.args.tile (shown c.entries.result.now) c.topmost.result = record { at = c.topmost.ensures.at; greatest = λ i h p. c.topmost.ensures.greatest i (omega arith) h p } in
    let q = subst (λ (xs : Entries (Ordered EntryKey Wrapper) Made). IsCover c.args.tile (kept_leaves xs) c.topmost.result) c.entries.ensures k in
    lid_shows c.args.tile (kept_leaves c.args.list.list.now.entries) c.topmost.result q.at x y h
