use Rattle.std.proofs.Common.{◌≡◌, ◌∙◌, ap, to_z, of_z, w32, ℤ}
use Rattle.std.proofs.lemmas.Int.{to_z-of_z}
use Rattle.rd_list.specs.EntryNames.{kept_leaves}
use Rattle.rd_list.specs.Lists.{hit}
use Rattle.rd_stack.specs.Fresh.{fresh_list}
use Rattle.rd_engine.specs.State.{EngineState}
use Rattle.rd_engine.proofs.Keeping.{same_hit}
use Rattle.rd_engine.proofs.engine.Engine.hit.Goals as goal

pub returns : goal.returns
returns g c =
    let s : EngineState = record { tree = c.self.inside.tree; kept = c.self.inside.list; canvas = c.self.inside.canvas; pending = c.self.inside.pending; paints = c.self.inside.paints; area = c.self.inside.area } in
    let now = rw (← c.self.view_is) at c.requires in
    let x : ℤ = to_z w32 (of_z w32 c.args.x) in
    let y : ℤ = to_z w32 (of_z w32 c.args.y) in
    let right : x ≡ c.args.x = to_z-of_z w32 c.args.x c.ranges.x in
    let down : y ≡ c.args.y = to_z-of_z w32 c.args.y c.ranges.y in
    rw (← c.self.view_is)
    (c.hit.ensures ∙ ap (λ k. hit (kept_leaves k.entries) x y) c.view.ensures ∙ same_hit s c.self.invariant c.root-root.ensures.apart now x y
    ∙ ap (λ z. hit (fresh_list s.tree) z y) right ∙ ap (λ z. hit (fresh_list s.tree) c.args.x z) down)
