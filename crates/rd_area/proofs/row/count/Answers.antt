use Rattle.std.proofs.Common.{◌≡◌, pos, take, take_all, get_or, arith, rules, add-one, ap, ◌∙◌}
use Rattle.std.proofs.lemmas.Int.{ints}
use Rattle.rd_geom.specs.declared.span.Span.{Span}
use Rattle.rd_area.proofs.Counting.{IsSpan, rising_at, widths, widths_more, widths_bound, columns_widths}
use Rattle.rd_area.proofs.row.count.Goals as goal

abbrev none : Span
none = record { x0 = pos 0; x1 = pos 0 }

pub width-count-requires-clause-from : goal.width-count-requires-clause-from
width-count-requires-clause-from c = (rising_at (pos 0) (pos 4096) c.args.row.now c.loop-s.s-index none (search rules) c.requires).from

pub width-count-requires-clause-some : goal.width-count-requires-clause-some
width-count-requires-clause-some c = (rising_at (pos 0) (pos 4096) c.args.row.now c.loop-s.s-index none (search rules) c.requires).some

pub width-count-requires-clause-to : goal.width-count-requires-clause-to
width-count-requires-clause-to c = (rising_at (pos 0) (pos 4096) c.args.row.now c.loop-s.s-index none (search rules) c.requires).to

pub overflow_add-count : goal.overflow_add-count
overflow_add-count c =
    let b = widths_bound (pos 0) (pos 4096) c.args.row.now c.loop-s.s-index (omega (arith, ints)) c.requires in
    let k : IsSpan (pos 0) (pos 4096) (get_or c.args.row.now c.loop-s.s-index none) = rising_at (pos 0) (pos 4096) c.args.row.now c.loop-s.s-index none
    (search rules) c.requires in
    omega (arith, ints, b, c.loop-s.invariant, c.width-count.ensures)

pub loop-s-preserved : goal.loop-s-preserved
loop-s-preserved c =
    let m = widths_more c.args.row.now c.loop-s.s-index none (search rules) in
    rw add-one (omega (arith, ints, m, c.loop-s.invariant, c.width-count.ensures))

pub returns-clause-value : goal.returns-clause-value
returns-clause-value c = λ n r.
    let all : take c.loop-s.s-index c.args.row.now ≡ c.args.row.now = take_all c.loop-s.s-index c.args.row.now (search rules) in
    let e : pos c.loop-s.count ≡ widths c.args.row.now = c.loop-s.invariant ∙ ap widths all in
    let w = columns_widths (pos 0) n c.args.row.now (omega (arith, ints)) r in
    omega (arith, ints, e, w)

pub returns-clause-at_most : goal.returns-clause-at_most
returns-clause-at_most c =
    let b = widths_bound (pos 0) (pos 4096) c.args.row.now c.loop-s.s-index (omega (arith, ints)) c.requires in
    omega (arith, ints, b, c.loop-s.invariant)
