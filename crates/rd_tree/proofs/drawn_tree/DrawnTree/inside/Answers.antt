use Rattle.std.proofs.Common.{◌≡◌, ◌∙◌, ◌||◌, sym, ap, false, arith}
use Rattle.rd_keys.specs.Keys.{same_key}
use Rattle.rd_tree.specs.Forest.{has, children, in_subtree}
use Rattle.rd_tree.specs.Internal.Linked.{seen}
use Rattle.rd_tree.proofs.Tables.Climbing.{Stepped, step_up, AtTop, end_up}
use Rattle.rd_tree.proofs.drawn_tree.DrawnTree.inside.Goals as goal

pub loop-self-smaller : goal.loop-self-smaller
loop-self-smaller g c =
    let s : Stepped (seen c.self.inside.nodes c.self.inside.root) c.loop-self.at c.in-Some.parent = step_up c.self.inside.nodes c.self.inside.root
    c.loop-self.at c.in-Some.parent c.self.invariant.sound.tree (rw (← c.self.view_is) at c.loop-self.invariant.there) c.in-Some.ensures in
    rw (← c.self.view_is) (omega (arith, s.deep))

pub loop-self-preserved : goal.loop-self-preserved
loop-self-preserved g c =
    let s : Stepped (seen c.self.inside.nodes c.self.inside.root) c.loop-self.at c.in-Some.parent = step_up c.self.inside.nodes c.self.inside.root
    c.loop-self.at c.in-Some.parent c.self.invariant.sound.tree (rw (← c.self.view_is) at c.loop-self.invariant.there) c.in-Some.ensures in
    let off : same_key c.loop-self.at c.args.of ≡ false = sym c.is.ensures ∙ c.if-is.false in
    let same : in_subtree same_key c.args.key c.args.of (seen c.self.inside.nodes c.self.inside.root) ≡ in_subtree same_key c.loop-self.at c.args.of
    (seen c.self.inside.nodes c.self.inside.root) = rw (← c.self.view_is) at c.loop-self.invariant.same in
    let up : in_subtree same_key c.loop-self.at c.args.of (seen c.self.inside.nodes c.self.inside.root) ≡ in_subtree same_key c.in-Some.parent c.args.of
    (seen c.self.inside.nodes c.self.inside.root) = ap (λ b. b || has same_key c.loop-self.at (children same_key c.args.of (seen c.self.inside.nodes
    c.self.inside.root))) off ∙ s.below_too c.args.of in
    record { there = rw (← c.self.view_is) s.there; same = rw (← c.self.view_is) (same ∙ up) }

pub returns-in-None : goal.returns-in-None
returns-in-None g c =
    let s : AtTop (seen c.self.inside.nodes c.self.inside.root) c.loop-self.at = end_up c.self.inside.nodes c.self.inside.root c.loop-self.at
    c.self.invariant.sound.tree (rw (← c.self.view_is) at c.loop-self.invariant.there) c.in-None.ensures in
    let off : same_key c.loop-self.at c.args.of ≡ false = sym c.is.ensures ∙ c.if-is.false in
    let same : in_subtree same_key c.args.key c.args.of (seen c.self.inside.nodes c.self.inside.root) ≡ in_subtree same_key c.loop-self.at c.args.of
    (seen c.self.inside.nodes c.self.inside.root) = rw (← c.self.view_is) at c.loop-self.invariant.same in
    rw (← c.self.view_is) (sym (same ∙ (ap (λ b. b || has same_key c.loop-self.at (children same_key c.args.of (seen c.self.inside.nodes
    c.self.inside.root))) off ∙ s.below_none c.args.of)))
