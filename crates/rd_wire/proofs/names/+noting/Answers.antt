use Rattle.std.proofs.Common.{arith}
use Rattle.rd_wire.proofs.Naming.{names_more, once_so_far, group_once, size_at}
use Rattle.rd_wire.proofs.names.+noting.Goals as goal

pub note_all-note_entry-requires : goal.note_all-note_entry-requires
note_all-note_entry-requires t c = (omega (arith, size_at c.args.entries.now c.loop-entry.entry-index c.entry-item.result c.loop-entry-test.true c.entry-item.is, c.decreases), tt)

pub note_all-returns-then-not-fresh-clause-twice : goal.note_all-returns-then-not-fresh-clause-twice
note_all-returns-then-not-fresh-clause-twice t c = λ f once. c.in_ok-fresh.ensures.twice c.if-not-fresh.true
    (once_so_far c.args.entries.now c.loop-entry.entry-index c.entry-item.result c.args.seen.now.keys c.loop-entry.seen.keys c.loop-entry-test.true c.entry-item.is
    c.loop-entry.invariant.noted once)

pub note_all-loop-entry-preserved : goal.note_all-loop-entry-preserved
note_all-loop-entry-preserved t c = record {
  noted = names_more c.args.entries.now c.loop-entry.entry-index c.entry-item.result c.args.seen.now.keys c.loop-entry.seen.keys c.note_entry.new.seen.keys c.loop-entry-test.true
      c.entry-item.is c.loop-entry.invariant.noted (c.in_ok-fresh.ensures.noted c.if-not-fresh.false);
  once = λ o. c.in_ok-fresh.ensures.once c.if-not-fresh.false (c.loop-entry.invariant.once o);
}

pub note_entry-returns-then-not-fresh-clause-twice : goal.note_entry-returns-then-not-fresh-clause-twice
note_entry-returns-then-not-fresh-clause-twice t c = λ f once.
    let o = rw c.in-Group.is at once in
    c.in_ok-fresh-in-Group.ensures.twice c.if-not-fresh.true (group_once c.args.seen.now.keys _ _ o)
