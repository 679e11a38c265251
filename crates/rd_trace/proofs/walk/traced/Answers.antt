use Rattle.std.proofs.Common.{◌∙◌, ap, w32}
use Rattle.std.proofs.lemmas.Int.{to_z-of_z}
use Rattle.rd_geom.specs.Canvas.{canvas_of}
use Rattle.rd_tree.specs.Drawn.{drawn}
use Rattle.rd_trace.specs.Traces.{sight}
use Rattle.rd_trace.specs.Internal.Looks.{first_entry}
use Rattle.rd_trace.proofs.Going.{root_entry, sight_is}
use Rattle.rd_trace.proofs.walk.traced.Goals as goal

pub returns-clause-traced : goal.returns-clause-traced
returns-clause-traced g c =
    let t = drawn c.args.tree.now in
    root_entry (sight c.args.x c.args.y t) _ t _ _ _
    (sight_is _ _ _ c.args.x c.args.y t (c.rect-canvas.ensures ∙ ap canvas_of c.canvas.ensures.size) (to_z-of_z w32 c.args.x c.ranges.x) (to_z-of_z w32 c.args.y c.ranges.y))
    c.root_of.ensures.rooted c.root_of.ensures.root c.in_ok-boxes.ensures.traced (c.in_ok-leaves.ensures ∙ ap first_entry c.deref.ensures.value)
