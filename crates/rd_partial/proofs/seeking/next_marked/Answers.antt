use Rattle.std.proofs.Common.{sym, subst, []}
use Rattle.std.specs.Prelude.{None}
use Rattle.rd_keys.specs.Keys.{same_key}
use Rattle.rd_tree.specs.Forest.{from_some}
use Rattle.rd_tree.specs.Seeking.{siblings_from, is_marked}
use Rattle.rd_tree.specs.Shown.{told}
use Rattle.rd_partial.specs.Internal.Seeking.{PassesMarks, IsNextMarked}
use Rattle.rd_partial.proofs.Searching.{found, not_found, next_marked_is, sought_marks}
use Rattle.rd_partial.proofs.seeking.next_marked.Goals as goal
use Rattle.rd_tree.specs.Drawn.{drawn}
use Rattle.rd_tree.proofs.Drawing.{apart_drawn}

pub returns-in-Some : goal.returns-in-Some
returns-in-Some g c =
    let sought = sought_marks (drawn c.args.tree.now) c.args.first c.args.looks.now (apart_drawn [] c.args.tree.now.boxes c.next_touched_sibling.ensures.apart) c.requires.live in
    subst (λ l. IsNextMarked (drawn c.args.tree.now) c.args.first c.looked_of.result c.args.looks.now l) (sym c.next_touched_sibling.ensures.ticks)
    (next_marked_is (drawn c.args.tree.now) c.args.first c.in-Some.view c.looked_of.result c.args.looks.now _ (apart_drawn [] c.args.tree.now.boxes c.next_touched_sibling.ensures.apart)
    c.next_touched_sibling.ensures.near c.looked_of.ensures (found (λ o l. PassesMarks (drawn c.args.tree.now) c.args.first o c.args.looks.now l) c.args.tree.now.root (drawn c.args.tree.now).boxes
    (siblings_from is_marked (from_some same_key c.args.first (drawn c.args.tree.now).boxes)) (told c.in-Some.view) _ sought c.in-Some.ensures.seen))

pub returns-in-None : goal.returns-in-None
returns-in-None g c =
    let sought = sought_marks (drawn c.args.tree.now) c.args.first c.args.looks.now (apart_drawn [] c.args.tree.now.boxes c.next_touched_sibling.ensures.apart) c.requires.live in
    subst (λ l. PassesMarks (drawn c.args.tree.now) c.args.first None c.args.looks.now l) (sym c.next_touched_sibling.ensures.ticks)
    (not_found (λ o l. PassesMarks (drawn c.args.tree.now) c.args.first o c.args.looks.now l) c.args.tree.now.root (drawn c.args.tree.now).boxes
    (siblings_from is_marked (from_some same_key c.args.first (drawn c.args.tree.now).boxes)) _ sought c.in-None.ensures.seen)
