use Rattle.std.proofs.Common.{◌∙◌, ◌≡◌, cond, ap, true}
use Rattle.std.specs.Prelude.{is_some}
use Rattle.rd_keys.specs.Keys.{same_key}
use Rattle.rd_tree.specs.Forest.{has}
use Rattle.rd_tree.specs.Document.{BoxKey}
use Rattle.rd_tree.specs.Internal.Linked.{linked}
use Rattle.rd_tree.specs.Internal.Summaries.{summary_at}
use Rattle.rd_tree.specs.Internal.Rows.{marked}
use Rattle.rd_tree.proofs.Tables.Above.{is_live}
use Rattle.rd_tree.proofs.Tables.Swapping.{can_mark, moving, swapped}
use Rattle.rd_tree.proofs.table.whole.swap_up.Goals as goal

pub mark_up-requires : goal.mark_up-requires
mark_up-requires c = can_mark c.args.nodes.now c.args.table.now.rows c.args.from c.args.old c.args.new c.requires

pub returns-clause-right : goal.returns-clause-right
returns-clause-right c = λ root f s i w.
    let live : (k : BoxKey) → has same_key k f ≡ true → is_some (linked c.args.nodes.now k) ≡ true = λ k h. is_live c.args.nodes.now root f s k h in
    let marks = c.mark_up.ensures.rows root f s i in
    swapped c.args.nodes.now c.args.table.now.rows c.mark_up.new.table.rows c.args.from c.args.old c.args.new root f live marks w c.move_hulls.new.table.rows
    (c.move_hulls.ensures.hulls root f s i (moving c.args.nodes.now c.args.table.now.rows c.mark_up.new.table.rows c.args.from c.args.old c.args.new root
    f live marks w)) c.move_hulls.ensures.counts

pub returns-clause-others : goal.returns-clause-others
returns-clause-others c = λ root f s i k l o.
    c.move_hulls.ensures.others root f s i k l o ∙ (c.mark_up.ensures.rows root f s i k l ∙ ap (λ b. cond b (marked c.args.old.touched c.args.new.touched
    (summary_at c.args.table.now.rows k)) (summary_at c.args.table.now.rows k)) o)
