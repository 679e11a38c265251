use Rattle.std.proofs.Common.{[]}
use Rattle.rd_tree.specs.Drawn.{drawn}
use Rattle.rd_tree.specs.Shown.{told}
use Rattle.rd_tree.proofs.Drawing.{apart_drawn}
use Rattle.rd_stack.proofs.Walk.Going as going
use Rattle.rd_stack.proofs.fresh.look_at.Goals as goal

pub new-requires : goal.new-requires
new-requires g c = going.placed c.args.tree.now.root (drawn c.args.tree.now).boxes c.args.key (told c.in-Some.view) (apart_drawn [] c.args.tree.now.boxes c.in-Some.ensures.apart) c.in-Some.ensures.near c.in-Some.ensures.seen

pub returns-in-Some-clause-seen : goal.returns-in-Some-clause-seen
returns-in-Some-clause-seen g c = going.onward c.args.tree.now.root (drawn c.args.tree.now).boxes c.args.key (told c.in-Some.view) _ (apart_drawn [] c.args.tree.now.boxes c.in-Some.ensures.apart) c.in-Some.ensures.seen c.new.ensures
