use Rattle.std.proofs.Common.{◌∙◌, refl, ◌∷◌, []}
use Rattle.rd_list.specs.declared.fresh.NewEntry.TheVariants as entry
use Rattle.rd_list.proofs.Piling.{laid-on, filled-on}
use Rattle.rd_list.proofs.pieces.Pieces.push_item.Goals as goal

pub invariant_of-self-2 : goal.invariant_of-self-2
invariant_of-self-2 g c = filled-on c.make_room.new.below.items c.make_room.new.top.items c.push_reserved.new.self.items (c.make_room.ensures.filled c.self.invariant)

pub returns : goal.returns
returns g c =
    laid-on c.make_room.new.below.items c.make_room.new.top.items (entry.Leaf c.args.item ∷ []) c.push_reserved.new.self.items c.push_reserved.ensures.items
    ∙ rw (c.in_ok-make_room.ensures.same, c.self.view_is) refl
