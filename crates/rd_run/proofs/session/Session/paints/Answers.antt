use Rattle.rd_run.proofs.session.Session.paints.Goals as goal

pub returns-clause-state : goal.returns-clause-state
returns-clause-state g c = rw (← c.self.view_is) c.view-list.ensures.state
