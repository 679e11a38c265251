use Rattle.std.proofs.Common.{◌∙◌, sym}
use Rattle.rd_tree.proofs.Laying.Shown.{named-laid, ids_laid}
use Rattle.rd_tree.proofs.tree.Tree.find.Goals as goal

pub returns-clause-found : goal.returns-clause-found
returns-clause-found g c = rw (← c.self.view_is) (c.find.ensures.found ∙ sym (named-laid c.self.inside.hands.items c.args.id.now c.self.inside.drawn.boxes))

pub returns-clause-limits : goal.returns-clause-limits
returns-clause-limits g c = rw (← c.self.view_is) c.self.invariant.fits

pub returns-clause-ids : goal.returns-clause-ids
returns-clause-ids g c = rw (← c.self.view_is) (ids_laid c.self.inside.hands.items c.self.inside.drawn.boxes c.known.ensures.ids)
