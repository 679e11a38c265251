use Rattle.std.proofs.Common.{◌≡◌, false, refl, sym, ◌∙◌}
use Rattle.rd_geom.specs.Areas.{meets_area}
use Rattle.rd_list.specs.EntryNames.{kept_leaves}
use Rattle.rd_paint.specs.Changed.{in_part, list_at}
use Rattle.rd_paint.proofs.Changes.{unchanged}
use Rattle.rd_paint.proofs.Cutting.{part_none}
use Rattle.rd_tiles.proofs.painting.repaint_tile.Goals as goal

pub returns-then-not-meets-clause-painted : goal.returns-then-not-meets-clause-painted
returns-then-not-meets-clause-painted g c =
    let m : meets_area c.args.area.now c.args.tile.now.place ≡ false = sym c.meets.ensures ∙ c.if-not-meets.true in
    record {
      place = refl;
      stamp = rw m refl;
      canvas = unchanged (list_at (kept_leaves c.args.list.list.now.entries) c.args.tile.now.place) (in_part c.args.tile.now.place c.args.area.now) c.args.tile.now.canvas
          (λ x y a b. part_none c.args.area.now c.args.tile.now.place c.args.tile.now.canvas x y c.requires.fits m a b);
    }
