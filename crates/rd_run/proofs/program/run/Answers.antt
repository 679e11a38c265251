use Rattle.rd_run.proofs.Finishing.{completes}
use Rattle.rd_run.proofs.program.run.Goals as goal

pub returns : goal.returns
returns g c = record {
  runs = record {
    status = c.serve-status.result;
    numbered = c.number.ensures;
    ends = c.serve-status.ensures;
    complete = completes _ _ _ _ _ _ _ _ c.serve-status.ensures;
    line = c.tell.ensures;
  };
}
