use Rattle.std.proofs.Common.{◌∙◌, ap}
use Rattle.rd_why.specs.Json.{told}
use Rattle.rd_why.proofs.program.why_of.Goals as goal

pub returns : goal.returns
returns g c =
    c.in_ok-text.ensures ∙ ap (told c.args.question c.args.tree.now.boxes) (c.deref.ensures.value ∙ c.in_ok-leaves.ensures)
