use Rattle.rd_why.proofs.Ending.{completes}
use Rattle.rd_why.proofs.program.run.Goals as goal

pub returns : goal.returns
returns g c = record {
  answers = record {
    status = c.serve-status.result;
    numbered = c.number.ensures;
    ends = c.serve-status.ensures;
    complete = completes _ _ _ _ _ _ c.serve-status.ensures;
    line = c.tell_why.ensures;
  };
}
