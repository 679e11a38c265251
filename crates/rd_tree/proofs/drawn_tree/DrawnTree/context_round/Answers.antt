use Rattle.std.proofs.Common.{◌∙◌, sym}
use Rattle.rd_tree.proofs.Contexts.Climbs.{above_top, above_is}
use Rattle.rd_tree.proofs.Nodes.Looking.{apart_seen}
use Rattle.rd_tree.proofs.Nodes.Rooting.{rooted_seen}
use Rattle.rd_tree.proofs.Tables.Climbing.{step_up}
use Rattle.rd_tree.proofs.drawn_tree.DrawnTree.context_round.Goals as goal

pub context_of-requires : goal.context_of-requires
context_of-requires g c = rw (← c.self.view_is) (step_up c.self.inside.nodes c.self.inside.root c.args.key c.in-Some.parent c.self.invariant.sound.tree
    (rw (← c.self.view_is) at c.requires) c.in-Some.ensures).there

pub returns-in-Some-clause-context : goal.returns-in-Some-clause-context
returns-in-Some-clause-context g c = c.context_of.ensures.context ∙ rw (← c.self.view_is) (sym (above_is c.self.inside.nodes c.self.inside.root c.args.key
    c.self.invariant.sound.tree (rw (← c.self.view_is) at c.requires) c.in-Some.parent c.in-Some.ensures))

pub returns-in-None-clause-context : goal.returns-in-None-clause-context
returns-in-None-clause-context g c = rw (← c.self.view_is) (sym (above_top c.self.inside.nodes c.self.inside.root c.args.key c.self.invariant.sound.tree
    (rw (← c.self.view_is) at c.requires) c.in-None.ensures))

pub returns-in-None-clause-rooted : goal.returns-in-None-clause-rooted
returns-in-None-clause-rooted g c = rw (← c.self.view_is) (rooted_seen c.self.inside.nodes c.self.inside.root c.self.invariant.sound.tree)

pub returns-in-None-clause-apart : goal.returns-in-None-clause-apart
returns-in-None-clause-apart g c = rw (← c.self.view_is) (apart_seen c.self.inside.nodes c.self.inside.root c.self.invariant.sound.tree)
