use Rattle.std.proofs.Common.{◌≡◌, subst, arith, length, ◌+◌, ◌≤◌}
use Rattle.std.specs.Prelude.{IfOk, OnOk}
use Rattle.rd_item.specs.declared.leaf.Leaf.{Leaf}
use Rattle.rd_list.specs.Wrappers.{Wrapper}
use Rattle.rd_list.specs.Entries.{Entries, flat}
use Rattle.rd_engine.specs.State.{EngineState}
use Rattle.std.proofs.lemmas.Result.{IfOk-weaker}
use Rattle.rd_tree.specs.Forest.{size}
use Rattle.rd_partial.specs.Numbered.{numbered}
use Rattle.rd_engine.specs.Painted.{remade}
use Rattle.rd_engine.specs.Internal.Parts.{IsRemade}
use Rattle.rd_engine.proofs.Due.{same_remade, near_looks}
use Rattle.rd_engine.proofs.Remaking.{remade_is}
use Rattle.rd_engine.proofs.engine.Engine.renewed.Goals as goal

pub returns-clause-new : goal.returns-clause-new
returns-clause-new g c =
    let s : EngineState = record { tree = c.self.inside.tree; kept = c.self.inside.list; canvas = c.self.inside.canvas; pending = c.self.inside.pending; paints = c.self.inside.paints; area = c.self.inside.area } in
    let is = rw (← c.self.view_is) at c.requires.area in
    let few : size s.tree.boxes ≤ 20000 = omega (arith, c.boxes-boxes.ensures.count, c.boxes-boxes.ensures.most) in
    rw (← c.self.view_is)
    (IfOk-weaker c.build.result (λ l. l ≡ numbered (s.paints + 1) (remade s)) (IsRemade s) (λ l e. remade_is s c.root-root.ensures.apart l few e)
    (subst (λ (z : Entries Wrapper Leaf). IfOk c.build.result (λ l. l ≡ numbered (s.paints + 1) z)) (same_remade s c.args.area.now is) c.build.ensures.list))

pub returns-clause-made : goal.returns-clause-made
returns-clause-made g c =
    let s : EngineState = record { tree = c.self.inside.tree; kept = c.self.inside.list; canvas = c.self.inside.canvas; pending = c.self.inside.pending; paints = c.self.inside.paints; area = c.self.inside.area } in
    let is = rw (← c.self.view_is) at c.requires.area in
    rw (← c.self.view_is) (subst (λ (z : Entries Wrapper Leaf). OnOk c.build.result (c.build.new.made ≡ c.args.made.now + length (flat z))) (same_remade s c.args.area.now is) c.build.ensures.made)

pub returns-clause-most : goal.returns-clause-most
returns-clause-most g c =
    let s : EngineState = record { tree = c.self.inside.tree; kept = c.self.inside.list; canvas = c.self.inside.canvas; pending = c.self.inside.pending; paints = c.self.inside.paints; area = c.self.inside.area } in
    let is = rw (← c.self.view_is) at c.requires.area in
    rw (← c.self.view_is) (subst (λ (z : Entries Wrapper Leaf). c.build.new.made ≤ c.args.made.now + length (flat z)) (same_remade s c.args.area.now is) c.build.ensures.most)

pub returns-clause-looks : goal.returns-clause-looks
returns-clause-looks g c =
    let s : EngineState = record { tree = c.self.inside.tree; kept = c.self.inside.list; canvas = c.self.inside.canvas; pending = c.self.inside.pending; paints = c.self.inside.paints; area = c.self.inside.area } in
    let is = rw (← c.self.view_is) at c.requires.area in
    rw (← c.self.view_is) (let m = near_looks s c.args.area.now is in let n = c.build.ensures.looks in omega (arith, m, n))
