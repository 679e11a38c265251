use Rattle.rd_tree.specs.Internal.Linked.{seen_from}
use Rattle.rd_tree.proofs.Redrawn.{still_redrawn, still_handed}
use Rattle.rd_tree.proofs.redrawing.redraw_where.Goals as goal

pub returns-else-asked-clause-drawn : goal.returns-else-asked-clause-drawn
returns-else-asked-clause-drawn c = rw c.if-asked.false (still_redrawn c.args.nodes.now c.args.rows.now.items c.args.handed (seen_from c.args.nodes.now c.args.first)
    (c.requires.still c.if-asked.false))

pub returns-else-asked-clause-handed : goal.returns-else-asked-clause-handed
returns-else-asked-clause-handed c = still_handed c.args.nodes.now c.args.rows.now.items c.args.handed (seen_from c.args.nodes.now c.args.first) (c.requires.still c.if-asked.false)
