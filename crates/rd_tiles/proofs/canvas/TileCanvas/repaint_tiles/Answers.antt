use Rattle.std.proofs.Common.{◌≡◌, List, length, ap, refl, sym, subst, ◌∙◌}
use Rattle.std.specs.Vec.{with_items}
use Rattle.std.proofs.lemmas.List.{with_items_is}
use Rattle.rd_list.specs.EntryNames.{kept_leaves}
use Rattle.rd_tiles.specs.Internal.Changing.{AreTiles}
use Rattle.rd_tiles.specs.Tiling.{IsRetiled, Tiling}
use Rattle.rd_tiles.specs.declared.tile.Tile.{Tile}
use Rattle.rd_tiles.proofs.Tilings.{retiled, still_tiles}
use Rattle.rd_tiles.proofs.canvas.TileCanvas.repaint_tiles.Goals as goal

pub invariant_of-self : goal.invariant_of-self
invariant_of-self g c =
    let each = rw c.deref_mut.ensures.value at c.repaint_all.ensures.painted in
    let len : length c.repaint_all.new.tiles ≡ length c.self.inside.tiles.items = c.repaint_all.auto.tiles ∙ ap length c.deref_mut.ensures.value in
    let is : (with_items c.self.inside.tiles c.repaint_all.new.tiles).items ≡ c.repaint_all.new.tiles = with_items_is c.self.inside.tiles c.repaint_all.new.tiles (len ∙ sym c.self.inside.tiles.ok.0) in
    record {
      canvas = c.self.invariant.canvas;
      count = ap length is ∙ len ∙ c.self.invariant.count;
      tiles = subst (λ (ts : List Tile). AreTiles c.self.inside.size ts) (sym is)
          (still_tiles (kept_leaves c.args.list.list.now.entries) c.args.area.now c.args.number c.self.inside.size c.self.inside.tiles.items c.repaint_all.new.tiles len each c.self.invariant.tiles);
    }

pub returns-clause-painted : goal.returns-clause-painted
returns-clause-painted g c =
    let old : Tiling = record { size = c.self.inside.size; tiles = c.self.inside.tiles.items } in
    let new : Tiling = record { size = c.self.inside.size; tiles = c.repaint_all.new.tiles } in
    let each = rw c.deref_mut.ensures.value at c.repaint_all.ensures.painted in
    let len : length c.repaint_all.new.tiles ≡ length c.self.inside.tiles.items = c.repaint_all.auto.tiles ∙ ap length c.deref_mut.ensures.value in
    let is : (with_items c.self.inside.tiles c.repaint_all.new.tiles).items ≡ c.repaint_all.new.tiles = with_items_is c.self.inside.tiles c.repaint_all.new.tiles (len ∙ sym c.self.inside.tiles.ok.0) in
    rw (← c.self.view_is)
    (subst (λ (ts : List Tile). IsRetiled (kept_leaves c.args.list.list.now.entries) c.args.area.now c.args.number old (record { size = c.self.inside.size; tiles = ts })) (sym is)
    (retiled (kept_leaves c.args.list.list.now.entries) c.args.area.now c.args.number old new c.self.invariant refl len each))
