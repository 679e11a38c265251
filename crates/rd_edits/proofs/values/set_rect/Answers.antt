use Rattle.std.proofs.Common.{refl, sym, ◌∙◌}
use Rattle.rd_tree.specs.Changes.{placing}
use Rattle.rd_edits.proofs.values.set_rect.Goals as goal

pub returns-clause-done : goal.returns-clause-done
returns-clause-done g c = (placing c.in-Some.key c.args.rect, (c.in-Some.key, sym c.in-Some.ensures.found, refl), c.place.ensures)
