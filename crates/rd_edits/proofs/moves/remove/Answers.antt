use Rattle.std.proofs.Common.{refl, sym, ◌∙◌}
use Rattle.rd_tree.specs.Changes.{removal}
use Rattle.rd_edits.proofs.moves.remove.Goals as goal

pub returns-clause-done : goal.returns-clause-done
returns-clause-done g c = (removal c.in-Some.key, (c.in-Some.key, sym c.in-Some.ensures.found, refl), c.remove.ensures)
