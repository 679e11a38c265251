use Rattle.std.proofs.Common.{◌≡◌, ◌∙◌, ap, sym, subst}
use Rattle.std.proofs.lemmas.Result.{IfOk-weaker}
use Rattle.rd_geom.specs.Canvas.{IsCanvas}
use Rattle.rd_geom.specs.declared.rect.Size.{Size}
use Rattle.rd_item.specs.Items.{Made}
use Rattle.rd_keys.specs.Keys.{same_key}
use Rattle.rd_keys.specs.declared.entry.EntryKey.{EntryKey}
use Rattle.rd_list.specs.Kept.{KeptList}
use Rattle.rd_list.specs.Unordered.{unordered}
use Rattle.rd_list.specs.Wrappers.{Wrapper}
use Rattle.rd_tree.specs.Forest.{IsApart}
use Rattle.rd_tree.specs.Document.{Document, IsRooted}
use Rattle.rd_engine.specs.State.{EngineState}
use Rattle.rd_wire.specs.Wires.{spelled, KeepsRules}
use Rattle.rd_run.proofs.Wiring.{engine_keeps}
use Rattle.rd_run.proofs.session.Session.wire.Goals as goal

pub encode-requires : goal.encode-requires
encode-requires g c =
    let e : EngineState = c.self.inside.engine in
    let now = rw (← c.self.view_is) at c.requires in
    let apart = subst (λ (d : Document). IsApart same_key d.boxes) c.tree-tree.ensures c.root-root.ensures.apart in
    let rooted = subst IsRooted c.tree-tree.ensures c.root-root.ensures.rooted in
    let limits = subst (λ (d : Document). IsCanvas d.canvas) c.tree-tree.ensures c.canvas-size.ensures.limits in
    let keeps = engine_keeps e c.view-list.ensures.state now apart rooted limits in
    let size : c.canvas-size.result ≡ e.tree.canvas = c.canvas-size.ensures.size ∙ ap (λ (d : Document). d.canvas) c.tree-tree.ensures in
    subst (λ (s : Size). KeepsRules (record { size = s; list = unordered c.view-list.result.list.now.entries })) (sym size)
    (subst (λ (k : KeptList EntryKey Wrapper Made). KeepsRules (record { size = e.tree.canvas; list = unordered k.entries })) (sym c.view-list.ensures.list) keeps)

pub returns : goal.returns
returns g c =
    let e : EngineState = c.self.inside.engine in
    let size : c.canvas-size.result ≡ e.tree.canvas = c.canvas-size.ensures.size ∙ ap (λ (d : Document). d.canvas) c.tree-tree.ensures in
    rw (← c.self.view_is)
    (IfOk-weaker c.encode.result _ (λ bytes. bytes.items ≡ spelled (record { size = e.tree.canvas; list = unordered e.kept.entries }))
    (λ bytes w. w
    ∙ ap (λ (s : Size). spelled (record { size = s; list = unordered c.view-list.result.list.now.entries })) size
    ∙ ap (λ (k : KeptList EntryKey Wrapper Made). spelled (record { size = e.tree.canvas; list = unordered k.entries })) c.view-list.ensures.list)
    c.encode.ensures.spelled)
