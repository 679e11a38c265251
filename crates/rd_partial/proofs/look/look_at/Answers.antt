use Rattle.std.proofs.Common.{refl, sym, subst, []}
use Rattle.rd_tree.specs.Shown.{told}
use Rattle.rd_stack.specs.Paths.{OutlineFits}
use Rattle.rd_stack.proofs.Walk.Going as below
use Rattle.rd_partial.specs.Internal.BoxLook.{Onward, here_of}
use Rattle.rd_partial.proofs.Going as going
use Rattle.rd_partial.proofs.look.look_at.Goals as goal
use Rattle.rd_tree.specs.Drawn.{drawn}
use Rattle.rd_tree.proofs.Drawing.{apart_drawn}

pub returns-in-Some-clause-fits : goal.returns-in-Some-clause-fits
returns-in-Some-clause-fits g c =
    subst (λ z. OutlineFits (here_of z)) (sym c.looked_of.ensures)
    (below.placed c.args.tree.now.root (drawn c.args.tree.now).boxes c.args.key (told c.in-Some.view) (apart_drawn [] c.args.tree.now.boxes c.in-Some.ensures.apart) c.in-Some.ensures.near c.in-Some.ensures.seen)

pub returns-in-Some-clause-told : goal.returns-in-Some-clause-told
returns-in-Some-clause-told g c =
    subst (λ z. Onward (drawn c.args.tree.now).boxes c.args.key (here_of z) z.first_child z.next_sibling z.hull) (sym c.looked_of.ensures)
    (going.onward c.args.tree.now.root (drawn c.args.tree.now).boxes c.args.key (told c.in-Some.view) _ (apart_drawn [] c.args.tree.now.boxes c.in-Some.ensures.apart) c.in-Some.ensures.seen refl)
