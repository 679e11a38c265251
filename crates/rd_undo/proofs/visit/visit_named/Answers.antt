use Rattle.rd_undo.proofs.visit.visit_named.Goals as goal

pub returns-clause-seen : goal.returns-clause-seen
returns-clause-seen g c = (c.key_of-key.result, c.key_of-key.ensures.named, c.visit_box.ensures.seen)
