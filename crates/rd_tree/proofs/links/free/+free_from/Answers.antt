use Rattle.std.proofs.Common.{arith}
use Rattle.rd_tree.proofs.Nodes.Freeing.{FreedStep, freed_step, ended}
use Rattle.rd_tree.proofs.links.free.+free_from.Goals as goal

pub free_from-requires : goal.free_from-requires
free_from-requires t c =
    let s : FreedStep c.args.nodes.now c.args.first c.args.ids.now c.loop-at.nodes c.free_one-below.new.nodes c.free_one-below.new.ids c.loop-at.at
    c.free_one-below.result.0 c.free_one-below.result.1 =
    freed_step c.args.nodes.now c.loop-at.nodes c.free_one-below.new.nodes c.args.first c.args.ids.now c.loop-at.ids c.free_one-below.new.ids c.loop-at.at
    c.in-Some.key c.free_one-below.result c.loop-at.invariant c.in-Some.is c.free_one-below.ensures.freed c.free_one-below.ensures.dropped
    c.free_one-below.ensures.onward in
    (omega (arith, s.smaller), s.read)

pub loop-at-smaller : goal.loop-at-smaller
loop-at-smaller t c =
    let s : FreedStep c.args.nodes.now c.args.first c.args.ids.now c.loop-at.nodes c.free_one-below.new.nodes c.free_one-below.new.ids c.loop-at.at
    c.free_one-below.result.0 c.free_one-below.result.1 =
    freed_step c.args.nodes.now c.loop-at.nodes c.free_one-below.new.nodes c.args.first c.args.ids.now c.loop-at.ids c.free_one-below.new.ids c.loop-at.at
    c.in-Some.key c.free_one-below.result c.loop-at.invariant c.in-Some.is c.free_one-below.ensures.freed c.free_one-below.ensures.dropped
    c.free_one-below.ensures.onward in
    (s.next c.free_from.new.nodes c.free_from.new.ids c.free_from.ensures.freed c.free_from.ensures.dropped).1

pub loop-at-preserved : goal.loop-at-preserved
loop-at-preserved t c =
    let s : FreedStep c.args.nodes.now c.args.first c.args.ids.now c.loop-at.nodes c.free_one-below.new.nodes c.free_one-below.new.ids c.loop-at.at
    c.free_one-below.result.0 c.free_one-below.result.1 =
    freed_step c.args.nodes.now c.loop-at.nodes c.free_one-below.new.nodes c.args.first c.args.ids.now c.loop-at.ids c.free_one-below.new.ids c.loop-at.at
    c.in-Some.key c.free_one-below.result c.loop-at.invariant c.in-Some.is c.free_one-below.ensures.freed c.free_one-below.ensures.dropped
    c.free_one-below.ensures.onward in
    (s.next c.free_from.new.nodes c.free_from.new.ids c.free_from.ensures.freed c.free_from.ensures.dropped).0

pub returns-clause-freed : goal.returns-clause-freed
returns-clause-freed t c = (ended c.args.nodes.now c.loop-at.nodes c.args.first c.args.ids.now c.loop-at.ids c.loop-at.at c.loop-at.invariant c.in_default.is).0

pub returns-clause-dropped : goal.returns-clause-dropped
returns-clause-dropped t c = (ended c.args.nodes.now c.loop-at.nodes c.args.first c.args.ids.now c.loop-at.ids c.loop-at.at
    c.loop-at.invariant c.in_default.is).1
