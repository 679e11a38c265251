use Rattle.std.proofs.Common.{Some}
use Rattle.std.proofs.lemmas.Map.Text.{hash_map_updates_str}
use Rattle.rd_scene.specs.Internal.Steps.{told}
use Rattle.rd_scene.proofs.boxes.note.Goals as goal

pub returns-clause-noted : goal.returns-clause-noted
unfolding told
returns-clause-noted c = λ q. hash_map_updates_str c.args.id.now c.args.depths.now c.insert.new.self (Some c.args.depth) c.in_ok-insert.ensures.updates q
