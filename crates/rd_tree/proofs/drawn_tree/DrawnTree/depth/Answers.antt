use Rattle.std.proofs.Common.{◌≡◌, ◌≤◌, ◌+◌, arith}
use Rattle.rd_keys.specs.Keys.{same_key}
use Rattle.rd_tree.specs.Forest.{depth}
use Rattle.rd_tree.specs.Internal.Linked.{seen}
use Rattle.rd_tree.proofs.Tables.Climbing.{Stepped, step_up, AtTop, end_up, depth_small}
use Rattle.rd_tree.proofs.drawn_tree.DrawnTree.depth.Goals as goal

pub overflow_add-depth : goal.overflow_add-depth
overflow_add-depth g c =
    let s : Stepped (seen c.self.inside.nodes c.self.inside.root) c.loop-parent.at c.in-Some.parent = step_up c.self.inside.nodes c.self.inside.root
    c.loop-parent.at c.in-Some.parent c.self.invariant.sound.tree (rw (← c.self.view_is) at c.loop-parent.invariant.there) c.in-Some.ensures in
    let n : c.loop-parent.depth + depth same_key c.loop-parent.at (seen c.self.inside.nodes c.self.inside.root) ≡ depth same_key c.args.key
    (seen c.self.inside.nodes c.self.inside.root) + 1 = rw (← c.self.view_is) at c.loop-parent.invariant.sum in
    let most : depth same_key c.args.key (seen c.self.inside.nodes c.self.inside.root) ≤ c.self.inside.nodes.limit = depth_small c.self.inside.nodes
    c.self.inside.root c.args.key c.self.invariant.sound.tree in
    omega (arith, n, most, c.self.invariant.sound.limit, s.deep)

pub loop-parent-smaller : goal.loop-parent-smaller
loop-parent-smaller g c =
    let s : Stepped (seen c.self.inside.nodes c.self.inside.root) c.loop-parent.at c.in-Some.parent = step_up c.self.inside.nodes c.self.inside.root
    c.loop-parent.at c.in-Some.parent c.self.invariant.sound.tree (rw (← c.self.view_is) at c.loop-parent.invariant.there) c.in-Some.ensures in
    rw (← c.self.view_is) (omega (arith, s.deep))

pub loop-parent-preserved : goal.loop-parent-preserved
loop-parent-preserved g c =
    let s : Stepped (seen c.self.inside.nodes c.self.inside.root) c.loop-parent.at c.in-Some.parent = step_up c.self.inside.nodes c.self.inside.root
    c.loop-parent.at c.in-Some.parent c.self.invariant.sound.tree (rw (← c.self.view_is) at c.loop-parent.invariant.there) c.in-Some.ensures in
    let n : c.loop-parent.depth + depth same_key c.loop-parent.at (seen c.self.inside.nodes c.self.inside.root) ≡ depth same_key c.args.key
    (seen c.self.inside.nodes c.self.inside.root) + 1 = rw (← c.self.view_is) at c.loop-parent.invariant.sum in
    record { there = rw (← c.self.view_is) s.there; sum = rw (← c.self.view_is) (omega (arith, n, s.deep)) }

pub returns-in-None : goal.returns-in-None
returns-in-None g c =
    let s : AtTop (seen c.self.inside.nodes c.self.inside.root) c.loop-parent.at = end_up c.self.inside.nodes c.self.inside.root c.loop-parent.at
    c.self.invariant.sound.tree (rw (← c.self.view_is) at c.loop-parent.invariant.there) c.in-None.ensures in
    let n : c.loop-parent.depth + depth same_key c.loop-parent.at (seen c.self.inside.nodes c.self.inside.root) ≡ depth same_key c.args.key
    (seen c.self.inside.nodes c.self.inside.root) + 1 = rw (← c.self.view_is) at c.loop-parent.invariant.sum in
    rw (← c.self.view_is) (omega (arith, n, s.deep))
