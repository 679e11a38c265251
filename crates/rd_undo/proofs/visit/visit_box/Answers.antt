use Rattle.std.proofs.Common.{refl, ◌∙◌, []}
use Rattle.rd_tree.specs.Drawn.{drawn}
use Rattle.rd_tree.specs.Shown.{told}
use Rattle.rd_tree.proofs.Drawing.{has-drawn}
use Rattle.rd_undo.proofs.Visiting.{look_there, visited}
use Rattle.rd_undo.proofs.visit.visit_box.Goals as goal

pub unreachable-requires : goal.unreachable-requires
unreachable-requires g c = look_there c.args.tree.now.root c.args.key (drawn c.args.tree.now).boxes (has-drawn [] c.args.key c.args.tree.now.boxes ∙ c.requires) c.in-None.ensures.seen

pub returns-clause-seen : goal.returns-clause-seen
returns-clause-seen g c = visited c.args.tree.now.root c.args.key c.args.tree.now.boxes (told c.in-Some.view) c.id_at-id.result.now c.in-Some.view.rect _ c.in-Some.ensures.apart c.requires
    c.in-Some.ensures.seen c.in-Some.ensures.rect c.id_at-id.ensures refl refl refl refl refl refl
