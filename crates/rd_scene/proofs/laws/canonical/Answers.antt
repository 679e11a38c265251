use Rattle.rd_scene.proofs.Reread.Scripts.{script_read}
use Rattle.rd_scene.proofs.laws.canonical.Goals as goal

pub returns : goal.returns
returns c = script_read
