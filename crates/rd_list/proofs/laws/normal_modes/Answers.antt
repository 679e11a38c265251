use Rattle.rd_list.proofs.Normals.{normal_pixels}
use Rattle.rd_list.proofs.laws.normal_modes.Goals as goal

pub returns : goal.returns
returns c = normal_pixels
