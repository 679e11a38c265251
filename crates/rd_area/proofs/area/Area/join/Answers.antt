use Rattle.std.proofs.Common.{◌≡◌, refl, sym, ap, ◌∙◌, List}
use Rattle.std.specs.Prelude.{unsigned_abs, Result, Ok, Err, OnErr}
use Rattle.rd_geom.specs.Areas.{Region}
use Rattle.rd_geom.specs.declared.rect.Size.{Size}
use Rattle.rd_geom.specs.declared.span.Span.{Span}
use Rattle.rd_geom.specs.Plane.{right}
use Rattle.rd_area.specs.Internal.Normal.{spans_of}
use Rattle.rd_area.specs.Internal.Bands.{row_at, rows_of}
use Rattle.rd_area.proofs.Banded.{table_same}
use Rattle.rd_area.proofs.Pixels.{HasEdges, IsBand, IsGrown, band_top, grown_rows, grown_sound, grown_filled, grown_pixels, larger_filled, same_edges, some_edges}
use Rattle.rd_area.proofs.area.Area.join.Goals as goal

abbrev region : Size → List (List Span) → Region
region size rows = record { size = size; rows = rows }

pub invariant_of-self : goal.invariant_of-self
invariant_of-self c =
    let h = unsigned_abs c.self.inside.size.h in
    let k : IsBand c.args.seen c.rows_of-from.result.0 c.rows_of-from.result.1 (record { x0 = c.args.seen.x; x1 = right c.args.seen }) =
    record { first = c.rows_of-from.ensures.first; last = c.rows_of-from.ensures.last; columns = refl } in
    let top = band_top c.args.seen c.rows_of-from.result.0 c.rows_of-from.result.1 _ c.self.inside.size k c.self.invariant.0.canvas (rw (← c.self.view_is) at c.requires.on) in
    let same : rows_of h c.prepare.new.ends.items (spans_of c.prepare.new.bands.items) ≡ rows_of h c.self.inside.ends.items (spans_of c.self.inside.bands.items) =
    table_same h (row_at c.prepare.new.ends.items (spans_of c.prepare.new.bands.items)) (row_at c.self.inside.ends.items (spans_of c.self.inside.bands.items))
    c.prepare.ensures.same in
    (rw same c.self.invariant.0, c.prepare.ensures.banded h top c.self.invariant.1, rw same c.self.invariant.2, c.self.invariant.3, rw same c.self.invariant.4)

pub invariant_of-self-2 : goal.invariant_of-self-2
invariant_of-self-2 c =
    let h = unsigned_abs c.self.inside.size.h in
    let k : IsBand c.args.seen c.rows_of-from.result.0 c.rows_of-from.result.1 c.columns.result =
    record { first = c.rows_of-from.ensures.first; last = c.rows_of-from.ensures.last; columns = c.columns.ensures } in
    let top = band_top c.args.seen c.rows_of-from.result.0 c.rows_of-from.result.1 c.columns.result c.self.inside.size k c.self.invariant.0.canvas (rw (← c.self.view_is) at c.requires.on) in
    let g : IsGrown c.args.seen c.rows_of-from.result.0 c.rows_of-from.result.1 c.columns.result
    (rows_of h c.self.inside.ends.items (spans_of c.self.inside.bands.items)) (rows_of h c.prepare.new.ends.items (spans_of c.join.new.rows.items)) =
    grown_rows c.args.seen h c.rows_of-from.result.0 c.rows_of-from.result.1 c.in_ok-first.first c.in_ok-first.last c.columns.result c.self.inside.ends.items
    c.prepare.new.ends.items (spans_of c.self.inside.bands.items) (spans_of c.prepare.new.bands.items) (spans_of c.join.new.rows.items) k top
    c.prepare.ensures.same c.in_ok-first.ensures.between c.join.ensures.joined c.join.ensures.others in
    let filled = larger_filled c.args.seen c.self.inside.full c.larger-self-inside.result c.rows_of-from.result.0 c.rows_of-from.result.1 c.columns.result
    (rows_of h c.self.inside.ends.items (spans_of c.self.inside.bands.items)) (rows_of h c.prepare.new.ends.items (spans_of c.join.new.rows.items))
    c.self.inside.size g c.self.invariant.0.rising (rw (← c.self.view_is) at c.requires.on) c.self.invariant.3 c.self.invariant.4 c.larger-self-inside.ensures in (
      grown_sound c.args.seen c.self.inside.used c.hull-self-inside.result c.rows_of-from.result.0 c.rows_of-from.result.1 c.columns.result
          (rows_of h c.self.inside.ends.items (spans_of c.self.inside.bands.items)) (rows_of h c.prepare.new.ends.items (spans_of c.join.new.rows.items))
          c.self.inside.size g (rw (← c.self.view_is) at c.requires.on) c.self.invariant.0 c.hull-self-inside.ensures.value c.hull-self-inside.ensures.first c.hull-self-inside.ensures.second,
      rw c.join.ensures.len (c.prepare.ensures.banded h top c.self.invariant.1),
      λ t.
          let edges : HasEdges c.hull-self-inside.result c.args.seen = same_edges c.hull-self-inside.result c.args.seen (sym c.eq-self-inside.ensures ∙ t) in (
            some_edges c.hull-self-inside.result c.args.seen edges c.requires.some,
            grown_filled c.args.seen c.hull-self-inside.result c.rows_of-from.result.0 c.rows_of-from.result.1 c.columns.result
                (rows_of h c.self.inside.ends.items (spans_of c.self.inside.bands.items)) (rows_of h c.prepare.new.ends.items (spans_of c.join.new.rows.items))
                c.self.inside.size.w g c.self.invariant.0.rising edges,
          ),
      filled.0,
      filled.1,
    )

on_err : {A E P : Type 0} (r : Result A E) → P → OnErr r P
on_err (Ok a) p = tt
on_err (Err e) p = p

pub returns-in_err-first-clause-refused : goal.returns-in_err-first-clause-refused
returns-in_err-first-clause-refused c =
    let h = unsigned_abs c.self.inside.size.h in
    let same : rows_of h c.prepare.new.ends.items (spans_of c.prepare.new.bands.items) ≡ rows_of h c.self.inside.ends.items (spans_of c.self.inside.bands.items) =
    table_same h (row_at c.prepare.new.ends.items (spans_of c.prepare.new.bands.items)) (row_at c.self.inside.ends.items (spans_of c.self.inside.bands.items))
    c.prepare.ensures.same in
    on_err c.from_residual.result (ap (λ (rows : List (List Span)). region c.self.inside.size rows) same ∙ c.self.view_is)

pub returns-clause-pixels : goal.returns-clause-pixels
returns-clause-pixels c =
    let h = unsigned_abs c.self.inside.size.h in
    let k : IsBand c.args.seen c.rows_of-from.result.0 c.rows_of-from.result.1 c.columns.result =
    record { first = c.rows_of-from.ensures.first; last = c.rows_of-from.ensures.last; columns = c.columns.ensures } in
    let top = band_top c.args.seen c.rows_of-from.result.0 c.rows_of-from.result.1 c.columns.result c.self.inside.size k c.self.invariant.0.canvas (rw (← c.self.view_is) at c.requires.on) in
    let g : IsGrown c.args.seen c.rows_of-from.result.0 c.rows_of-from.result.1 c.columns.result
    (rows_of h c.self.inside.ends.items (spans_of c.self.inside.bands.items)) (rows_of h c.prepare.new.ends.items (spans_of c.join.new.rows.items)) =
    grown_rows c.args.seen h c.rows_of-from.result.0 c.rows_of-from.result.1 c.in_ok-first.first c.in_ok-first.last c.columns.result c.self.inside.ends.items
    c.prepare.new.ends.items (spans_of c.self.inside.bands.items) (spans_of c.prepare.new.bands.items) (spans_of c.join.new.rows.items) k top
    c.prepare.ensures.same c.in_ok-first.ensures.between c.join.ensures.joined c.join.ensures.others in
    rw (← c.self.view_is) (grown_pixels c.args.seen c.rows_of-from.result.0 c.rows_of-from.result.1 c.columns.result
    (rows_of h c.self.inside.ends.items (spans_of c.self.inside.bands.items)) (rows_of h c.prepare.new.ends.items (spans_of c.join.new.rows.items))
    c.self.inside.size.w g c.self.invariant.0.rising)
