use Rattle.std.proofs.Common.{refl}
use Rattle.rd_why.specs.Json.{groups_json}
use Rattle.rd_why.proofs.Growing.{group_more, none_left}
use Rattle.rd_why.proofs.json.push_groups.Goals as goal

pub loop-i-preserved : goal.loop-i-preserved
loop-i-preserved g c =
    group_more c.args.tree.now.boxes c.args.gs.now c.loop-i.i c.index-gs-i.result _ _ _ _ _
    c.loop-i-test.true c.index-gs-i.is c.loop-i.invariant c.in_ok-push_group.ensures c.comma.ensures c.in_ok-push_str.ensures.bytes

pub returns : goal.returns
returns g c = none_left (groups_json c.args.tree.now.boxes) c.args.gs.now c.loop-i.i _ _ c.loop-i-test.false refl c.loop-i.invariant
