use Rattle.rd_scene.specs.Versions.{number_of}
use Rattle.rd_scene.proofs.edits.edit_named.Goals as goal

pub returns-in-remove-clause-had : goal.returns-in-remove-clause-had
returns-in-remove-clause-had c = c.remove_of.ensures.had (number_of c.args.version)

pub returns-in-move-clause-had : goal.returns-in-move-clause-had
returns-in-move-clause-had c = c.move_of.ensures.had (number_of c.args.version)

pub returns-in-rect-clause-had : goal.returns-in-rect-clause-had
returns-in-rect-clause-had c = c.set_rect_of.ensures.had (number_of c.args.version)

pub returns-in-shift-clause-had : goal.returns-in-shift-clause-had
returns-in-shift-clause-had c = c.shift_of.ensures.had (number_of c.args.version)
