use Rattle.std.proofs.Common.{arith}
use Rattle.rd_engine.proofs.NewLeaves.{size_at, size_more, count_more, count_within, count_front, run_size, run_size_more, run_count_more, run_count_within}
use Rattle.rd_engine.proofs.counting.+counting.Goals as goal

pub counts_among-loop-i-preserved : goal.counts_among-loop-i-preserved
counts_among-loop-i-preserved g t c =
    let m = count_more c.args.entries.now c.loop-i.i c.index-entries-i.result c.loop-i-test.true c.index-entries-i.is in
    let s = size_more c.args.entries.now c.loop-i.i c.index-entries-i.result c.loop-i-test.true c.index-entries-i.is in
    let i = c.loop-i.invariant.count in
    let e = c.counts_at.ensures in
    let n = c.next_group-next.ensures.leaves in
    let j = c.joined-counts.ensures in
    let k = c.joined-counts-in-loop-i.ensures in
    let l = c.leaves.ensures in
    record {
      within = c.next_group-next.ensures.within;
      count = record {
        leaves = omega (arith, m, i.leaves, e.leaves, n.leaves, n.order, j.leaves, k.leaves, l.leaves);
        entries = omega (arith, s, i.entries, e.entries, n.entries, n.order, j.entries, k.entries, l.entries);
      };
    }

pub counts_among-counts_at-requires : goal.counts_among-counts_at-requires
counts_among-counts_at-requires g t c κs within =
    let s = size_at c.args.entries.now c.loop-i.i c.index-entries-i.result c.loop-i-test.true c.index-entries-i.is in
    let n = count_within c.args.entries.now c.loop-i.i c.index-entries-i.result c.loop-i-test.true c.index-entries-i.is in
    (omega (arith, s, c.decreases), (within, omega (arith, n, c.requires)))

pub counts_among-joined-counts-requires : goal.counts_among-joined-counts-requires
counts_among-joined-counts-requires g t c =
    let n = count_within c.args.entries.now c.loop-i.i c.index-entries-i.result c.loop-i-test.true c.index-entries-i.is in
    let i = c.loop-i.invariant.count.leaves in
    let e = c.counts_at.ensures.leaves in
    omega (arith, n, i, e, c.requires)

pub counts_among-joined-counts-requires-in-loop-i : goal.counts_among-joined-counts-requires-in-loop-i
counts_among-joined-counts-requires-in-loop-i g t c =
    let m = count_more c.args.entries.now c.loop-i.i c.index-entries-i.result c.loop-i-test.true c.index-entries-i.is in
    let f = count_front c.args.entries.now c.next_group-next.result in
    let i = c.loop-i.invariant.count.leaves in
    let e = c.counts_at.ensures.leaves in
    let j = c.joined-counts.ensures.leaves in
    let n = c.next_group-next.ensures.leaves in
    let l = c.leaves.ensures.leaves in
    omega (arith, m, f, i, e, j, l, n.leaves, n.order, c.requires)

pub counts_in-loop-run-preserved : goal.counts_in-loop-run-preserved
counts_in-loop-run-preserved g t c =
    let m = run_count_more c.args.runs.now c.loop-run.run-index c.run-item.result c.deref.result.now c.loop-run-test.true c.run-item.is c.deref.ensures.value in
    let s = run_size_more c.args.runs.now c.loop-run.run-index c.run-item.result c.deref.result.now c.loop-run-test.true c.run-item.is c.deref.ensures.value in
    let i = c.loop-run.invariant in
    let e = c.counts_among.ensures in
    let j = c.joined-counts.ensures in
    record { leaves = omega (arith, m, i.leaves, e.leaves, j.leaves); entries = omega (arith, s, i.entries, e.entries, j.entries) }

pub counts_in-counts_among-requires : goal.counts_in-counts_among-requires
counts_in-counts_among-requires g t c κs within =
    let s = run_size c.args.runs.now c.loop-run.run-index c.run-item.result c.deref.result.now c.loop-run-test.true c.run-item.is c.deref.ensures.value in
    let n = run_count_within c.args.runs.now c.loop-run.run-index c.run-item.result c.deref.result.now c.loop-run-test.true c.run-item.is c.deref.ensures.value in
    (omega (arith, s, c.decreases), (within, omega (arith, n, c.requires)))

pub counts_in-joined-counts-requires : goal.counts_in-joined-counts-requires
counts_in-joined-counts-requires g t c =
    let n = run_count_within c.args.runs.now c.loop-run.run-index c.run-item.result c.deref.result.now c.loop-run-test.true c.run-item.is c.deref.ensures.value in
    let i = c.loop-run.invariant.leaves in
    let e = c.counts_among.ensures.leaves in
    omega (arith, n, i, e, c.requires)
