use Rattle.std.proofs.Common.{◌∙◌, ap, ◌++◌}
use Rattle.rd_graph.specs.Internal.Words.{labelled_new}
use Rattle.rd_graph.proofs.chain.join_both.Goals as goal

pub returns : goal.returns
returns c = c.in_ok-join_new.ensures ∙ ap (λ all. all ++ labelled_new c.args.labels.now c.args.chain.now c.args.standing.now) c.in_ok-all.ensures
