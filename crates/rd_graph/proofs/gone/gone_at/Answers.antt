use Rattle.std.proofs.Common.{◌∙◌, sym}
use Rattle.rd_graph.specs.Gathered.{gathered}
use Rattle.rd_graph.specs.Graphs.{nodes}
use Rattle.rd_graph.specs.Internal.Seen.{seen}
use Rattle.rd_graph.specs.Names.{same_entry}
use Rattle.rd_graph.proofs.Lists.Listing.{contains_from}
use Rattle.rd_graph.proofs.Lists.Entries.{in_has, same_entry-sound}
use Rattle.rd_graph.proofs.gone.gone_at.Goals as goal

pub returns-clause-marked : goal.returns-clause-marked
returns-clause-marked c = λ k h. c.in_ok-marks.ensures.marked k (contains_from _ k (in_has same_entry same_entry-sound (gathered c.args.gone.now (nodes (seen c.args.nodes.now))) k (sym (c.in_ok-names.ensures.named k) ∙ h)))

pub returns-clause-kinds : goal.returns-clause-kinds
returns-clause-kinds c = λ k h. c.kinds_at-kinds.ensures k (contains_from _ k (in_has same_entry same_entry-sound (gathered c.args.gone.now (nodes (seen c.args.nodes.now))) k (sym (c.in_ok-names.ensures.named k) ∙ h)))
