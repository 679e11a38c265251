use Rattle.std.proofs.Common.{refl, sym, ◌∙◌}
use Rattle.rd_tree.specs.Changes.{styling}
use Rattle.rd_edits.proofs.values.set_style.Goals as goal

pub returns-clause-done : goal.returns-clause-done
returns-clause-done g c = (styling c.in-Some.key c.args.change.now, (c.in-Some.key, sym c.in-Some.ensures.found, refl), c.change.ensures)
