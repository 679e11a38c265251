use Rattle.std.proofs.Common.{◌≡◌, ◌∙◌, ap, sym, subst, ◌*◌, length}
use Rattle.std.proofs.lemmas.Result.{IfOk-weaker}
use Rattle.rd_keys.specs.Keys.{same_key}
use Rattle.rd_tree.specs.Forest.{IsApart}
use Rattle.rd_tree.specs.Document.{Document}
use Rattle.rd_engine.specs.State.{EngineState}
use Rattle.rd_paint.specs.Pictures.{Picture}
use Rattle.rd_report.specs.Pictures.{p6_text}
use Rattle.rd_run.specs.Pictures.{picture}
use Rattle.rd_run.proofs.Showing.{picture_is}
use Rattle.rd_run.proofs.session.Session.picture.Goals as goal

pub returns : goal.returns
returns g c =
    let e : EngineState = c.self.inside.engine in
    let now = rw (← c.self.view_is) at c.requires in
    let apart = subst (λ (d : Document). IsApart same_key d.boxes) c.tree.ensures c.root-root.ensures.apart in
    let count = subst (λ (p : Picture). length p.pixels ≡ p.height * p.width) c.canvas-canvas.ensures.canvas (ap length (sym c.pixels-pixels.ensures.value) ∙ c.pixels-pixels.ensures.count) in
    rw (← c.self.view_is)
    (IfOk-weaker c.p6.result _ (λ bytes. bytes.items ≡ picture e.tree) (λ bytes w. w ∙ ap (λ p. p6_text p.width p.height p.pixels) c.canvas-canvas.ensures.canvas ∙ picture_is e c.view-list.ensures.state apart now count)
    c.p6.ensures)
