use Rattle.std.proofs.Common.{◌≡◌, ◌∙◌, sym, true, false, arith}
use Rattle.rd_tree.specs.Internal.Linked.{linked, seen}
use Rattle.rd_tree.specs.Internal.Regrouping.{is_context_under}
use Rattle.rd_tree.proofs.Contexts.Nearest.{round}
use Rattle.rd_tree.proofs.Contexts.Climbs.{low_of, round_top, round_here, round_up}
use Rattle.rd_tree.proofs.Nodes.Rooting.{rooted_seen}
use Rattle.rd_tree.proofs.Nodes.Looking.{apart_seen}
use Rattle.rd_tree.proofs.Tables.Climbing.{Stepped, step_up}
use Rattle.rd_tree.proofs.Tables.TreeRows.{seen_keyed}
use Rattle.rd_tree.proofs.drawn_tree.DrawnTree.context_of.Goals as goal

pub loop-up-smaller : goal.loop-up-smaller
loop-up-smaller g c =
    let s : Stepped (seen c.self.inside.nodes c.self.inside.root) c.loop-up.at c.in-Some.up = step_up c.self.inside.nodes c.self.inside.root
    c.loop-up.at c.in-Some.up c.self.invariant.sound.tree (rw (← c.self.view_is) at c.loop-up.invariant.there) c.in-Some.ensures in
    rw (← c.self.view_is) (omega (arith, s.deep))

pub loop-up-preserved : goal.loop-up-preserved
loop-up-preserved g c =
    let s : Stepped (seen c.self.inside.nodes c.self.inside.root) c.loop-up.at c.in-Some.up = step_up c.self.inside.nodes c.self.inside.root
    c.loop-up.at c.in-Some.up c.self.invariant.sound.tree (rw (← c.self.view_is) at c.loop-up.invariant.there) c.in-Some.ensures in
    let off : is_context_under (linked c.self.inside.nodes c.loop-up.at) ≡ false = sym c.makes_context.ensures ∙ c.if-makes_context.false in
    let same : round c.args.parent (low_of c.self.inside.nodes c.self.inside.root) ≡ round c.loop-up.at (low_of c.self.inside.nodes c.self.inside.root) =
    rw (← c.self.view_is) at c.loop-up.invariant.same in
    let up : round c.loop-up.at (low_of c.self.inside.nodes c.self.inside.root) ≡ round c.in-Some.up (low_of c.self.inside.nodes c.self.inside.root) =
    round_up c.self.inside.nodes c.self.inside.root c.loop-up.at c.self.invariant.sound.tree (rw (← c.self.view_is) at c.loop-up.invariant.there)
    c.in-Some.up c.in-Some.ensures off in
    record { there = rw (← c.self.view_is) s.there; same = rw (← c.self.view_is) (same ∙ up) }

pub returns-then-makes_context-clause-context : goal.returns-then-makes_context-clause-context
returns-then-makes_context-clause-context g c =
    let on : is_context_under (linked c.self.inside.nodes c.loop-up.at) ≡ true = sym c.makes_context.ensures ∙ c.if-makes_context.true in
    let same : round c.args.parent (low_of c.self.inside.nodes c.self.inside.root) ≡ round c.loop-up.at (low_of c.self.inside.nodes c.self.inside.root) =
    rw (← c.self.view_is) at c.loop-up.invariant.same in
    rw (← c.self.view_is) (sym (same ∙ round_here c.self.inside.nodes c.self.inside.root c.loop-up.at c.self.invariant.sound.tree (rw (← c.self.view_is) at
    c.loop-up.invariant.there) c.in-Some.up c.in-Some.ensures on))

pub returns-in-None-clause-context : goal.returns-in-None-clause-context
returns-in-None-clause-context g c =
    let same : round c.args.parent (low_of c.self.inside.nodes c.self.inside.root) ≡ round c.loop-up.at (low_of c.self.inside.nodes c.self.inside.root) =
    rw (← c.self.view_is) at c.loop-up.invariant.same in
    rw (← c.self.view_is) (sym (same ∙ round_top c.self.inside.nodes c.self.inside.root c.loop-up.at c.self.invariant.sound.tree (rw (← c.self.view_is) at
    c.loop-up.invariant.there) c.in-None.ensures))

pub returns-then-makes_context-clause-rooted : goal.returns-then-makes_context-clause-rooted
returns-then-makes_context-clause-rooted g c = rw (← c.self.view_is) (rooted_seen c.self.inside.nodes c.self.inside.root c.self.invariant.sound.tree)

pub returns-then-makes_context-clause-apart : goal.returns-then-makes_context-clause-apart
returns-then-makes_context-clause-apart g c = rw (← c.self.view_is) (apart_seen c.self.inside.nodes c.self.inside.root c.self.invariant.sound.tree)

pub returns-then-makes_context-clause-keyed : goal.returns-then-makes_context-clause-keyed
returns-then-makes_context-clause-keyed g c = rw (← c.self.view_is) (λ k h. seen_keyed c.self.inside.nodes c.self.inside.root k c.self.invariant.sound.tree h)

pub returns-in-None-clause-rooted : goal.returns-in-None-clause-rooted
returns-in-None-clause-rooted g c = rw (← c.self.view_is) (rooted_seen c.self.inside.nodes c.self.inside.root c.self.invariant.sound.tree)

pub returns-in-None-clause-apart : goal.returns-in-None-clause-apart
returns-in-None-clause-apart g c = rw (← c.self.view_is) (apart_seen c.self.inside.nodes c.self.inside.root c.self.invariant.sound.tree)

pub returns-in-None-clause-keyed : goal.returns-in-None-clause-keyed
returns-in-None-clause-keyed g c = rw (← c.self.view_is) (λ k h. seen_keyed c.self.inside.nodes c.self.inside.root k c.self.invariant.sound.tree h)
