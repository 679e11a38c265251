use Rattle.std.proofs.Common.{◌∙◌}
use Rattle.rd_scene.proofs.Items.{only_keys}
use Rattle.rd_scene.proofs.members.are_known.Goals as goal

pub returns : goal.returns
returns c = c.all_among.ensures ∙ only_keys _ c.args.members.now.entries
