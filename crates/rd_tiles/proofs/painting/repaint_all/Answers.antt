use Rattle.std.proofs.Common.{◌≡◌, ◌∙◌, get_or, sym, ap, arith}
use Rattle.rd_geom.specs.Areas.{meets_area}
use Rattle.rd_list.specs.EntryNames.{kept_leaves}
use Rattle.rd_tiles.specs.Internal.Changing.{place_at}
use Rattle.rd_tiles.specs.declared.tile.Tile.{Tile}
use Rattle.rd_tiles.proofs.Placing.{few_tiles}
use Rattle.rd_tiles.proofs.Tilings.{count_met, count_unmet, left_more, met_most, repaint_more}
use Rattle.rd_tiles.proofs.painting.repaint_all.Goals as goal
use Rattle.rd_tiles.proofs.painting.repaint_all.Goals.{then-repaint_tile, else-repaint_tile}

pub overflow_add-count : goal.overflow_add-count
overflow_add-count g c =
    let m = met_most c.args.area.now c.args.area.now.size c.loop-i.i in
    let f = few_tiles c.args.area.now.size c.requires.tiled.canvas in
    let n = c.requires.tiled.count in
    let e = c.loop-i.invariant.count in
    omega (arith, m, f, n, e)

pub loop-i-preserved : goal.loop-i-preserved
loop-i-preserved g c =
    let i = c.loop-i.i in
    let e : Tile = c.index-tiles-i.result in
    let inv = c.loop-i.invariant in
    let l = c.loop-i-test.true in
    let size = c.args.area.now.size in
    let place : (get_or c.loop-i.tiles i e).place ≡ place_at size i = ap (λ (t : Tile). t.place) (inv.left i (omega arith) e) ∙ (c.requires.tiled.tiles i l e).place in
    record {
      painted = repaint_more (kept_leaves c.args.list.list.now.entries) c.args.area.now c.args.number c.args.tiles.now c.loop-i.tiles i e c.repaint_tile.new.tile c.loop-i.auto.tiles l inv.painted inv.left c.repaint_tile.ensures.painted;
      left = left_more c.args.tiles.now c.loop-i.tiles i c.repaint_tile.new.tile inv.left;
      count = elim c.if-repaint_tile.branch [
        | then-repaint_tile w ↦
            w.count-is
            ∙ count_met c.args.area.now size i c.loop-i.count (sym (c.repaint_tile.ensures.met ∙ ap (meets_area c.args.area.now) place) ∙ w.if-repaint_tile.true) inv.count
        | else-repaint_tile w ↦
            w.count-is
            ∙ count_unmet c.args.area.now size i c.loop-i.count (sym (c.repaint_tile.ensures.met ∙ ap (meets_area c.args.area.now) place) ∙ w.if-repaint_tile.false) inv.count
      ];
      same = c.repaint_tile.ensures.same ∙ inv.same;
    }
