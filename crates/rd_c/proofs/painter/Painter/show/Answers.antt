use Rattle.std.proofs.Common.{◌≡◌, ◌∙◌, ap, subst, ◌*◌, ◌++◌, List, length, drop}
use Rattle.std.specs.Prelude.{flat_map}
use Rattle.rd_geom.specs.Colors.{Premultiplied}
use Rattle.rd_keys.specs.Keys.{same_key}
use Rattle.rd_tree.specs.Document.{Document}
use Rattle.rd_tree.specs.Forest.{IsApart}
use Rattle.rd_paint.specs.Pictures.{Picture}
use Rattle.rd_c.specs.Copied.{quad}
use Rattle.rd_c.proofs.Rendering.{shows_tree}
use Rattle.rd_c.proofs.painter.Painter.show.Goals as goal

pub returns-clause-shown : goal.returns-clause-shown
returns-clause-shown c =
    let old = c.args.self.now.engine in let new = c.paint.new.self.engine in
    let apart : IsApart same_key old.tree.boxes = subst (λ (t : Document). IsApart same_key t.boxes) c.tree.ensures c.root-root.ensures.apart in
    let are : c.pixels-pixels.result.now ≡ new.canvas.pixels = c.pixels-pixels.ensures.value ∙ ap (λ (p : Picture). p.pixels) c.canvas.ensures.canvas in
    record {
      painted = c.paint.new.self;
      is = c.in_ok-paint.ensures.done;
      shows = shows_tree old new apart c.view-state.ensures.state c.in_ok-paint.ensures.done.stands c.in_ok-paint.ensures.done.settled;
      bytes = subst (λ (ps : List Premultiplied). c.put_all.new.out ≡ flat_map (quad 0) ps ++ drop (4 * length ps) c.args.out.now) are c.put_all.ensures;
    }
