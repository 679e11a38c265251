use Rattle.std.proofs.Common.{◌++◌, ◌∙◌, ap}
use Rattle.rd_graph.specs.Runs.{woven}
use Rattle.rd_graph.proofs.moving.line_up.Goals as goal

pub returns : goal.returns
returns g c =
    c.gather_rising.ensures ∙ ap (λ zs. zs ++ woven c.args.runs.now (c.args.old.items ++ c.args.made.items) c.args.aside.items) c.requires.empty
