use Rattle.std.proofs.Common.{◌∷◌, []}
use Rattle.rd_list.specs.declared.fresh.NewEntry.TheVariants as entry
use Rattle.rd_list.proofs.Piling.{laid-on, filled-on}
use Rattle.rd_list.proofs.pieces.Pieces.push_group.Goals as goal

pub invariant_of-self-2 : goal.invariant_of-self-2
invariant_of-self-2 g c = filled-on c.self.inside.below.items c.self.inside.top.items c.push.new.self.items c.self.invariant

pub returns : goal.returns
returns g c = rw (← c.self.view_is) (laid-on c.self.inside.below.items c.self.inside.top.items (entry.Group c.args.key c.args.opacity c.args.blend c.args.inner ∷ []) c.push.new.self.items c.in_ok-push.ensures.items)
