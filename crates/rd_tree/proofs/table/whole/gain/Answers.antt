use Rattle.std.proofs.Common.{◌∙◌, Some, subst, sym}
use Rattle.rd_tree.specs.Internal.Rows.{IsSwapping}
use Rattle.rd_tree.proofs.Tables.Gaining.{gaining, can_gain, can_swap, others_row}
use Rattle.rd_tree.proofs.table.whole.gain.Goals as goal

pub add_child-requires-clause-few : goal.add_child-requires-clause-few
add_child-requires-clause-few c = can_gain c.args.nodes.now c.args.table.now.rows c.args.parent c.args.whole c.requires

pub swap_up-requires : goal.swap_up-requires
swap_up-requires c =
    let r = c.requires in
    can_swap c.args.nodes.now c.args.table.now.rows c.add_child.new.table.rows c.args.parent _ c.nothing.result c.args.whole r c.add_child.ensures.same_length
    (subst (λ o. IsSwapping c.add_child.new.table.rows r.boxes (Some c.args.parent) o c.args.whole) (sym c.nothing.ensures)
    (gaining c.args.nodes.now c.args.table.now.rows c.add_child.new.table.rows r.root c.args.parent r.boxes r.is r.there c.args.whole
    c.add_child.ensures.rows r.ready))

pub returns-clause-right : goal.returns-clause-right
returns-clause-right c = λ root f s i g.
    c.swap_up.ensures.right root f s i (subst (λ o. IsSwapping c.add_child.new.table.rows f (Some c.args.parent) o c.args.whole) (sym c.nothing.ensures)
    (gaining c.args.nodes.now c.args.table.now.rows c.add_child.new.table.rows root c.args.parent f s i c.args.whole c.add_child.ensures.rows g))

pub returns-clause-others : goal.returns-clause-others
returns-clause-others c = λ root f s i k l o.
    c.swap_up.ensures.others root f s i k l o ∙ others_row c.args.nodes.now c.args.table.now.rows c.add_child.new.table.rows root c.args.parent f s i _ k
    c.add_child.ensures.rows l o
