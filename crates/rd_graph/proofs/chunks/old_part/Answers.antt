use Rattle.rd_graph.proofs.Patches.Kinds.{all_kinds}
use Rattle.rd_graph.proofs.chunks.old_part.Goals as goal

pub returns-in-None-clause-told : goal.returns-in-None-clause-told
returns-in-None-clause-told c = λ k x h l m. all_kinds x.1
