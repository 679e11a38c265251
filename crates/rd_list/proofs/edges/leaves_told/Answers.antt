use Rattle.rd_list.proofs.Edging.{inside_told}
use Rattle.rd_list.proofs.edges.leaves_told.Goals as goal

pub returns : goal.returns
returns g c = λ es h n. inside_told c.args.leaves.now.edges c.args.leaves.now.count c.in_ok-spanned.field-0 es c.in_ok-spanned.ensures h n
