use Rattle.rd_stack.proofs.Promises.{shows_on_canvas}
use Rattle.rd_stack.proofs.laws.shows_on_canvas.Goals as goal

pub returns : goal.returns
returns c = shows_on_canvas
