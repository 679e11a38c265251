use Rattle.std.proofs.Common.{◌∙◌, refl}
use Rattle.rd_list.proofs.Piling.{laid-on, filled-on}
use Rattle.rd_list.proofs.pieces.put_run.Goals as goal

pub returns-clause-list : goal.returns-clause-list
returns-clause-list g c =
    laid-on c.make_room.new.below.items c.make_room.new.top.items c.args.run.now.items c.append.new.self.items c.in_ok-append.ensures.items
    ∙ rw c.in_ok-make_room.ensures.same refl

pub returns-clause-filled : goal.returns-clause-filled
returns-clause-filled g c h = filled-on c.make_room.new.below.items c.make_room.new.top.items c.append.new.self.items (c.make_room.ensures.filled h)
