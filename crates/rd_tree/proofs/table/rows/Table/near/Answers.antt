use Rattle.std.proofs.Common.{◌≡◌, ◌/◌, ◌<◌, ◌∙◌, ap, length, subst, sym, true, arith}
use Rattle.std.proofs.lemmas.List.{get_or_default}
use Rattle.rd_tree.specs.Seeking.{reaches}
use Rattle.rd_tree.specs.Internal.Cells.{IsReached, TableRows, cells_at}
use Rattle.rd_tree.specs.Internal.Summaries.{row_at}
use Rattle.rd_tree.proofs.table.rows.Table.near.Goals as goal

pub returns : goal.returns
returns c = λ s l at e.
    let rows = c.self.inside.rows.items in
    let cells = c.self.inside.cells.items in
    let told = c.self.invariant s (subst (λ (t : TableRows). s < length t.rows) (sym c.self.view_is) l) in
    let within = told.0 in
    let is : cells_at cells (s / 64) ≡ c.index.result.now = ap (cells_at cells) at ∙ (get_or_default cells c.args.page _ c.index.result.now (omega (arith, within, at)) ∙ sym c.index.ensures) in
    c.near.ensures s (row_at rows s).hull c.args.rect.now (subst (λ cs. IsReached cs s (row_at rows s).hull) is told.1) c.requires.reach
    (subst (λ (t : TableRows). reaches c.args.rect.now (row_at t.rows s).hull ≡ true) (sym c.self.view_is) e)
