use Rattle.std.proofs.Common.{false, get_or, arith}
use Rattle.rd_graph.specs.declared.runs.Run.{Run}
use Rattle.rd_graph.proofs.Patches.ListsAt.{get_same}
use Rattle.rd_merge.proofs.Parts.{line_next, line_same, line_full, line_part}
use Rattle.rd_merge.proofs.chunking.push_line.Goals as goal
use Rattle.rd_merge.proofs.chunking.push_line.Goals.{then-run-gt0+in-Some-push_parts, else-run-gt0}

pub returns-in_default : goal.returns-in_default
returns-in_default g c = line_part c.loop-run.chunks.items c.loop-run.run-index c.args.runs.now _ c.loop-run.invariant.all.0

pub returns-in-None : goal.returns-in-None
returns-in-None g c =
    let runs = c.args.runs.now in
    let i = c.loop-run.run-index in
    let r : Run = get_or runs i (record { from = 0; count = 0; aside = false }) in
    line_full runs i r c.args.entries.now c.args.made.now c.loop-run-test.true (get_same runs i _ r c.loop-run-test.true) c.requires.places c.loop-run.chunks.items c.push_parts.new.chunks.items c.in-Some.end c.in-Some.ensures.1 c.if-run-gt0.true
    c.loop-run.invariant.all c.push_parts.ensures.parts

pub loop-run-preserved : goal.loop-run-preserved
loop-run-preserved g c =
    let runs = c.args.runs.now in
    let i = c.loop-run.run-index in
    let r : Run = get_or runs i (record { from = 0; count = 0; aside = false }) in
    let l = c.loop-run-test.true in
    let is = get_same runs i _ r l in
    record {
      at = elim c.if-run-gt0.branch [ then-run-gt0+in-Some-push_parts w ↦ rw w.seek-is w.in-Some-push_parts.ensures.at | else-run-gt0 w ↦ rw w.seek-is c.loop-run.invariant.at ];
      all = elim c.if-run-gt0.branch [
        | then-run-gt0+in-Some-push_parts w ↦
            rw w.chunks-is (line_next runs i r c.args.entries.now c.args.made.now l is c.requires.places c.loop-run.chunks.items w.push_parts.new.chunks.items c.in-Some.end c.in-Some.ensures.1 w.if-run-gt0.true c.loop-run.invariant.all w.in-Some-push_parts.ensures.all)
        | else-run-gt0 w ↦ let none = w.if-run-gt0.false in rw w.chunks-is (line_same runs i r c.args.entries.now c.args.made.now l is c.requires.places c.loop-run.chunks.items (omega (arith, none)) c.loop-run.invariant.all)
      ];
    }
