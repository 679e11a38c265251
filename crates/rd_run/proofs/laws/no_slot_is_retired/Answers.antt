use Rattle.rd_run.proofs.Slots.{slots_law}
use Rattle.rd_run.proofs.laws.no_slot_is_retired.Goals as goal

pub returns : goal.returns
returns c = slots_law
