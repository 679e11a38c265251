use Rattle.std.proofs.Common.{arith}
use Rattle.rd_tree.specs.Internal.Links.{parent_of}
use Rattle.rd_tree.specs.Internal.Linked.{linked}
use Rattle.rd_tree.specs.Internal.Rows.{IsSwapping}
use Rattle.rd_tree.specs.Internal.Renews.{IsRightIn}
use Rattle.rd_tree.proofs.Tables.Above.{in_up, above_self}
use Rattle.rd_tree.proofs.Tables.Renewing.{few_touched, renewing}
use Rattle.rd_tree.proofs.table.renew.renew_up.Goals as goal

pub whole_of-new-requires-clause-few : goal.whole_of-new-requires-clause-few
whole_of-new-requires-clause-few c =
    let r = c.requires in
    let i : IsRightIn c.renew.new.table.rows r.boxes c.args.key = c.renew.ensures.right r.root r.boxes r.is r.there r.ready.inner in
    (few_touched c.args.nodes.now r.root r.boxes r.is c.args.key r.there c.renew.new.table.rows (i c.args.key (above_self
    c.args.nodes.now r.root r.boxes r.is c.args.key r.there)) r.few)

pub swap_up-requires : goal.swap_up-requires
swap_up-requires c =
    let r = c.requires in
    let i : IsRightIn c.renew.new.table.rows r.boxes c.args.key = c.renew.ensures.right r.root r.boxes r.is r.there r.ready.inner in
    rw c.parent_of-up.ensures (record {
      root = r.root;
      boxes = r.boxes;
      is = r.is;
      there = in_up c.args.nodes.now r.root r.boxes r.is c.args.key r.there;
      has_rows = λ k h. let l = r.has_rows k h in omega (arith, l, c.renew.ensures.same_length);
      fits = r.fits;
      few = r.few;
      swapping = renewing c.args.nodes.now r.root r.boxes r.is c.args.key r.there c.args.table.now.rows c.renew.new.table.rows i (c.renew.ensures.others
          r.root r.boxes r.is r.there) c.args.old r.ready.outer c.whole_of-new.result (c.whole_of-new.ensures);
    })

pub returns-clause-right : goal.returns-clause-right
returns-clause-right c root f is m q =
    let i : IsRightIn c.renew.new.table.rows f c.args.key = c.renew.ensures.right root f is m q.inner in
    let w : IsSwapping c.renew.new.table.rows f (parent_of (linked c.args.nodes.now c.args.key)) c.args.old c.whole_of-new.result =
    renewing c.args.nodes.now root f is c.args.key m c.args.table.now.rows c.renew.new.table.rows i (c.renew.ensures.others root f is m) c.args.old
    q.outer c.whole_of-new.result (c.whole_of-new.ensures) in
    (rw c.parent_of-up.ensures at c.swap_up.ensures.right) root f is (in_up c.args.nodes.now root f is c.args.key m) w
