use Rattle.std.specs.Prelude.{Some}
use Rattle.std.proofs.Common.{◌∙◌, ap}
use Rattle.rd_graph.specs.Names.{place_of, same_entry}
use Rattle.rd_graph.proofs.Lists.Rising.{found_within}
use Rattle.rd_graph.proofs.climbing.go_on.Goals as goal

pub go_on_at-requires-clause-within : goal.go_on_at-requires-clause-within
go_on_at-requires-clause-within c = found_within c.args.nodes.now c.args.key (Some c.in-Some.place) (c.in-Some.ensures ∙ ap (λ ns. place_of same_entry ns c.args.key) c.requires)

pub go_on_at-requires-clause-named : goal.go_on_at-requires-clause-named
go_on_at-requires-clause-named c = c.in-Some.ensures ∙ ap (λ ns. place_of same_entry ns c.args.key) c.requires
