use Rattle.std.proofs.Common.{◌∙◌, ap, arith}
use Rattle.rd_geom.specs.Plane.{holds_pixel}
use Rattle.rd_geom.specs.Canvas.{canvas_of}
use Rattle.rd_list.specs.EntryNames.{kept_leaves}
use Rattle.rd_partial.specs.Invalid.{is_invalid}
use Rattle.rd_engine.specs.State.{EngineState}
use Rattle.rd_engine.proofs.Due.{first_area, later_area, touched_looks}
use Rattle.rd_engine.proofs.engine.Engine.invalid_area.Goals as goal

pub returns-then-self-eq0-clause-area : goal.returns-then-self-eq0-clause-area
returns-then-self-eq0-clause-area g c =
    let s : EngineState = record { tree = c.self.inside.tree; kept = c.self.inside.list; canvas = c.self.inside.canvas; pending = c.self.inside.pending; paints = c.self.inside.paints; area = c.self.inside.area } in
    rw (← c.self.view_is)
    (first_area s c.canvas-size.ensures.limits c.in_ok-area.area c.if-self-eq0.true (c.in_ok-area.ensures.size ∙ c.canvas-size.ensures.size)
    (λ x y. c.in_ok-area.ensures.pixels x y ∙ ap (λ z. holds_pixel (canvas_of z) x y) c.canvas-size.ensures.size))

pub returns-clause-area : goal.returns-clause-area
returns-clause-area g c =
    let s : EngineState = record { tree = c.self.inside.tree; kept = c.self.inside.list; canvas = c.self.inside.canvas; pending = c.self.inside.pending; paints = c.self.inside.paints; area = c.self.inside.area } in
    rw (← c.self.view_is)
    (later_area s c.canvas-size.ensures.limits c.in_ok-area-2.area c.if-self-eq0.false c.in_ok-area-2.ensures.canvas
    (λ x y. c.in_ok-area-2.ensures.area x y ∙ ap (λ k. is_invalid s.tree (kept_leaves k.entries) x y) c.view.ensures))

pub returns-in_err-area-2-clause-looks : goal.returns-in_err-area-2-clause-looks
returns-in_err-area-2-clause-looks g c =
    let s : EngineState = record { tree = c.self.inside.tree; kept = c.self.inside.list; canvas = c.self.inside.canvas; pending = c.self.inside.pending; paints = c.self.inside.paints; area = c.self.inside.area } in
    rw (← c.self.view_is) (let m = touched_looks s in let n = c.touched_area.ensures.looks in omega (arith, m, n))

pub returns-clause-looks : goal.returns-clause-looks
returns-clause-looks g c =
    let s : EngineState = record { tree = c.self.inside.tree; kept = c.self.inside.list; canvas = c.self.inside.canvas; pending = c.self.inside.pending; paints = c.self.inside.paints; area = c.self.inside.area } in
    rw (← c.self.view_is) (let m = touched_looks s in let n = c.touched_area.ensures.looks in omega (arith, m, n))
