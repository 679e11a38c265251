use Rattle.std.proofs.Common.{◌≡◌, ◌+◌, ◌-◌, List, sym, subst}
use Rattle.rd_wire.specs.declared.wire.WireEntry.{WireEntry}
use Rattle.rd_wire.specs.Internal.Listed.{listed}
use Rattle.rd_wire.specs.Internal.LevelReading.{inside_at, entries_at}
use Rattle.rd_wire.proofs.Going.{with_front, goes_on, ends, is_done}
use Rattle.rd_wire.proofs.reading.+reading.Goals as goal

pub entries-returns-in-Err : goal.entries-returns-in-Err
entries-returns-in-Err t c =
    ends c.args.canvas (inside_at c.args.canvas c.args.groups) c.in-Err.fault c.loop.entries.items c.args.count c.loop.counter c.loop.rest.now _ c.loop-test.true c.in-Err.ensures c.loop.invariant

pub entries-loop-preserved : goal.entries-loop-preserved
entries-loop-preserved t c =
    subst (λ (es : List WireEntry). with_front (listed es) (entries_at c.args.canvas (inside_at c.args.canvas c.args.groups) (c.args.count - (c.loop.counter + 1)) c.in-Ok.after.now) ≡ entries_at c.args.canvas (inside_at c.args.canvas c.args.groups) c.args.count c.args.bytes.now)
    (sym c.in_ok-push-in-Ok.ensures.items)
    (goes_on c.args.canvas (inside_at c.args.canvas c.args.groups) c.loop.entries.items c.args.count c.loop.counter c.loop.rest.now c.in-Ok.entry c.in-Ok.after.now _ c.loop-test.true c.in-Ok.ensures c.loop.invariant)

pub entries-returns : goal.entries-returns
entries-returns t c =
    is_done c.args.canvas (inside_at c.args.canvas c.args.groups) c.loop.entries.items c.args.count c.loop.counter c.loop.rest.now _ c.loop-test.false c.loop.invariant
