use Rattle.rd_c.proofs.Asking.{done_by, refused_by}
use Rattle.rd_c.proofs.edits.rd_c_insert.Goals as goal

pub returns-clause-done : goal.returns-clause-done
returns-clause-done c is = done_by _ _ _ _ c.insertion.ensures (c.edited.ensures.done is)

pub returns-clause-refused : goal.returns-clause-refused
returns-clause-refused c some few = refused_by _ _ _ _ c.insertion.ensures (c.edited.ensures.refused some few)
