use Rattle.std.proofs.Common.{arith}
use Rattle.std.proofs.lemmas.Int.{ints}
use Rattle.std.specs.Prelude.{◌+ℤ◌}
use Rattle.rd_style.proofs.Bounds.{RectBounds, fits_rect-open, fits_rect-close}
use Rattle.rd_tree.specs.Changes.{shifted}
use Rattle.rd_tree.proofs.links.walk.shift_fits.Goals as goal

pub sum-x-requires-clause-low : goal.sum-x-requires-clause-low
sum-x-requires-clause-low c =
    let f : RectBounds (record c.args.r.now { x = c.args.r.now.x +ℤ c.args.far.x; y = c.args.r.now.y +ℤ c.args.far.y }) = fits_rect-open (record c.args.r.now { x = c.args.r.now.x +ℤ c.args.far.x; y = c.args.r.now.y +ℤ c.args.far.y }) c.requires in
    omega (arith, ints, c.x.ensures.value, f.x.from)

pub sum-x-requires-clause-high : goal.sum-x-requires-clause-high
sum-x-requires-clause-high c =
    let f : RectBounds (record c.args.r.now { x = c.args.r.now.x +ℤ c.args.far.x; y = c.args.r.now.y +ℤ c.args.far.y }) = fits_rect-open (record c.args.r.now { x = c.args.r.now.x +ℤ c.args.far.x; y = c.args.r.now.y +ℤ c.args.far.y }) c.requires in
    omega (arith, ints, c.x.ensures.value, f.x.to)

pub sum-y-requires-clause-low : goal.sum-y-requires-clause-low
sum-y-requires-clause-low c =
    let f : RectBounds (record c.args.r.now { x = c.args.r.now.x +ℤ c.args.far.x; y = c.args.r.now.y +ℤ c.args.far.y }) = fits_rect-open (record c.args.r.now { x = c.args.r.now.x +ℤ c.args.far.x; y = c.args.r.now.y +ℤ c.args.far.y }) c.requires in
    omega (arith, ints, c.y.ensures.value, f.y.from)

pub sum-y-requires-clause-high : goal.sum-y-requires-clause-high
sum-y-requires-clause-high c =
    let f : RectBounds (record c.args.r.now { x = c.args.r.now.x +ℤ c.args.far.x; y = c.args.r.now.y +ℤ c.args.far.y }) = fits_rect-open (record c.args.r.now { x = c.args.r.now.x +ℤ c.args.far.x; y = c.args.r.now.y +ℤ c.args.far.y }) c.requires in
    omega (arith, ints, c.y.ensures.value, f.y.to)

pub returns-then-across : goal.returns-then-across
returns-then-across c =
    let f : RectBounds (record c.args.r.now { x = c.args.r.now.x +ℤ c.args.far.x; y = c.args.r.now.y +ℤ c.args.far.y }) = fits_rect-open (record c.args.r.now { x = c.args.r.now.x +ℤ c.args.far.x; y = c.args.r.now.y +ℤ c.args.far.y }) c.requires in (
      (λ u. fits_rect-close _ (record {
        x = record {
          from = omega (arith, ints, c.x.ensures.value, c.sum-x.ensures, c.side_fits-across.ensures.low c.if-across.true);
          to = omega (arith, ints, c.x.ensures.value, c.sum-x.ensures, c.side_fits-across.ensures.high c.if-across.true);
        };
        y = record {
          from = omega (arith, ints, c.y.ensures.value, c.sum-y.ensures, c.side_fits-down.ensures.low u);
          to = omega (arith, ints, c.y.ensures.value, c.sum-y.ensures, c.side_fits-down.ensures.high u);
        };
        w = f.w;
        h = f.h;
      })),
      (λ v. let b : RectBounds (shifted c.args.by.now.dx c.args.by.now.dy (record c.args.r.now { x = c.args.r.now.x +ℤ c.args.far.x; y = c.args.r.now.y +ℤ c.args.far.y })) = fits_rect-open _ v in c.side_fits-down.ensures.fits (omega
          (arith, ints, c.y.ensures.value, c.sum-y.ensures, b.y.from)) (omega (arith, ints, c.y.ensures.value, c.sum-y.ensures, b.y.to))),
    )

pub returns-else-across : goal.returns-else-across
returns-else-across c = (
  (λ u. absurd (cc (u, c.if-across.false))),
  (λ v. let b : RectBounds (shifted c.args.by.now.dx c.args.by.now.dy (record c.args.r.now { x = c.args.r.now.x +ℤ c.args.far.x; y = c.args.r.now.y +ℤ c.args.far.y })) = fits_rect-open _ v in c.side_fits-across.ensures.fits (omega
      (arith, ints, c.x.ensures.value, c.sum-x.ensures, b.x.from)) (omega (arith, ints, c.x.ensures.value, c.sum-x.ensures, b.x.to))),
)
