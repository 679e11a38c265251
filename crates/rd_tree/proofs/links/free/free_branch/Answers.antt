use Rattle.rd_tree.proofs.Nodes.Freeing.{below_read, branch_freed, branch_dropped}
use Rattle.rd_tree.proofs.links.free.free_branch.Goals as goal

pub free_from-requires : goal.free_from-requires
free_from-requires c = record {
  read = (below_read c.args.nodes.now c.free_one-below.new.nodes c.args.key c.free_one-below.result
      c.free_one-below.ensures.onward c.free_one-below.ensures.freed c.requires.read c.requires.apart).0;
}

pub returns-clause-freed : goal.returns-clause-freed
returns-clause-freed c = branch_freed c.args.nodes.now c.free_one-below.new.nodes c.args.key c.free_one-below.result c.free_one-below.ensures.onward
    c.free_from.new.nodes c.free_one-below.ensures.freed c.requires.read c.requires.apart c.free_from.ensures.freed

pub returns-clause-dropped : goal.returns-clause-dropped
returns-clause-dropped c =
    branch_dropped c.args.nodes.now c.free_one-below.new.nodes c.args.key c.free_one-below.result c.free_one-below.ensures.onward c.args.ids.now
    c.free_one-below.new.ids c.free_from.new.ids c.free_one-below.ensures.freed c.requires.read c.requires.apart c.free_one-below.ensures.dropped
    c.free_from.ensures.dropped
