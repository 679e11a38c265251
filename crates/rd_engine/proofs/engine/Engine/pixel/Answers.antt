use Rattle.std.proofs.Common.{◌≡◌, ◌∙◌, ap, sym, Some, to_z, of_z, w32, ℤ}
use Rattle.std.proofs.lemmas.Int.{to_z-of_z}
use Rattle.rd_paint.specs.Pictures.{pixel_at}
use Rattle.rd_engine.specs.State.{EngineState}
use Rattle.rd_engine.proofs.Keeping.{shown_pixel, shown_none}
use Rattle.rd_engine.proofs.engine.Engine.pixel.Goals as goal

pub returns-in-Some : goal.returns-in-Some
returns-in-Some g c =
    let s : EngineState = record { tree = c.self.inside.tree; kept = c.self.inside.list; canvas = c.self.inside.canvas; pending = c.self.inside.pending; paints = c.self.inside.paints; area = c.self.inside.area } in
    let now = rw (← c.self.view_is) at c.requires in
    let x : ℤ = to_z w32 (of_z w32 c.args.x) in
    let y : ℤ = to_z w32 (of_z w32 c.args.y) in
    let right : x ≡ c.args.x = to_z-of_z w32 c.args.x c.ranges.x in
    let down : y ≡ c.args.y = to_z-of_z w32 c.args.y c.ranges.y in
    let at = c.pixel.ensures ∙ ap (λ z. pixel_at s.canvas z y) right ∙ ap (λ z. pixel_at s.canvas c.args.x z) down in
    rw (← c.self.view_is)
    (ap Some c.opaque.ensures ∙ shown_pixel s c.self.invariant c.root-root.ensures.apart now c.args.x c.args.y c.in-Some.px (sym at ∙ c.in-Some.is))

pub returns-in-None : goal.returns-in-None
returns-in-None g c =
    let s : EngineState = record { tree = c.self.inside.tree; kept = c.self.inside.list; canvas = c.self.inside.canvas; pending = c.self.inside.pending; paints = c.self.inside.paints; area = c.self.inside.area } in
    let now = rw (← c.self.view_is) at c.requires in
    let x : ℤ = to_z w32 (of_z w32 c.args.x) in
    let y : ℤ = to_z w32 (of_z w32 c.args.y) in
    let right : x ≡ c.args.x = to_z-of_z w32 c.args.x c.ranges.x in
    let down : y ≡ c.args.y = to_z-of_z w32 c.args.y c.ranges.y in
    let at = c.pixel.ensures ∙ ap (λ z. pixel_at s.canvas z y) right ∙ ap (λ z. pixel_at s.canvas c.args.x z) down in
    rw (← c.self.view_is)
    (shown_none s c.self.invariant c.root-root.ensures.apart now c.args.x c.args.y (sym at ∙ c.in-None.is))
