use Rattle.std.proofs.Common.{◌≡◌, ◌||◌}
use Rattle.rd_geom.specs.Plane.{meet, holds_pixel}
use Rattle.rd_geom.specs.Canvas.{canvas_of}
use Rattle.rd_geom.specs.Areas.{in_area}
use Rattle.rd_area.proofs.Pixels.{whole_pixels}
use Rattle.rd_area.proofs.area.Area.whole.Goals as goal

pub returns-clause-pixels : goal.returns-clause-pixels
returns-clause-pixels c = λ x y.
    let e : in_area c.add.new.self x y ≡ (holds_pixel (meet (canvas_of c.args.size) (canvas_of c.args.size)) x y || in_area c.in_ok-area.area x y) =
    rw (c.rect.ensures, c.in_ok-area.ensures.size) at c.in_ok-add.ensures.pixels x y in
    whole_pixels (canvas_of c.args.size) x y (in_area c.add.new.self x y) (in_area c.in_ok-area.area x y) e (c.in_ok-area.ensures.pixels x y)
