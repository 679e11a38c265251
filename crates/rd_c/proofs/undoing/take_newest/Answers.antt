use Rattle.rd_c.proofs.Back.{popped}
use Rattle.rd_c.proofs.undoing.take_newest.Goals as goal

pub returns-in-Some-clause-whole : goal.returns-in-Some-clause-whole
returns-in-Some-clause-whole c =
    popped c.args.undo.now c.in-Some.undo c.pop_back.new.self c.pop_back.result c.len-room.result c.in-Some.is c.len-room.ensures.len c.len-room.ensures.within.0 c.pop_back.ensures.value c.pop_back.ensures.items
