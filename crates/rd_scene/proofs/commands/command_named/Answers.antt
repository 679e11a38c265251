use Rattle.rd_scene.specs.Versions.{number_of}
use Rattle.rd_scene.proofs.commands.command_named.Goals as goal

pub returns-in-hit-clause-had : goal.returns-in-hit-clause-had
returns-in-hit-clause-had c = c.hit_of.ensures.had (number_of c.args.version)

pub returns-in-pixel-clause-had : goal.returns-in-pixel-clause-had
returns-in-pixel-clause-had c = c.pixel_of.ensures.had (number_of c.args.version)
