use Rattle.std.proofs.Common.{◌∙◌, arith}
use Rattle.rd_check.specs.Internal.Rounds.{ways_in}
use Rattle.rd_check.proofs.Named.{few_entries, few_unknown, fresh_ways, fresh_once, known_checked, unknown_checked}
use Rattle.rd_check.proofs.dump.Dump.check.Goals as goal

pub judge-requires-clause-few : goal.judge-requires-clause-few
judge-requires-clause-few g c =
    few_entries c.args.tree.now c.deref.result.now c.self.inside.rows.items c.in_ok-entries.field-0 c.in-Entries.entries c.deref-in-Entries.result.now c.in_ok-entries.ensures
    c.in-Entries.is c.deref.ensures.value c.self.invariant c.deref-in-Entries.ensures.value

pub judge-requires-clause-once : goal.judge-requires-clause-once
judge-requires-clause-once g c =
    fresh_once c.args.tree.now (ways_in c.in_ok-painted.painted) c.fresh_stands.ensures
    (fresh_ways c.args.tree.now c.in_ok-fresh.fresh (ways_in c.in_ok-painted.painted) c.in_ok-fresh.ensures.list c.in_ok-painted.ensures)

pub returns-in-Entries-clause-verdict : goal.returns-in-Entries-clause-verdict
returns-in-Entries-clause-verdict g c = λ text f.
    known_checked c.args.tree.now text (f.0) c.deref.result.now c.self.inside.rows.items c.in_ok-entries.field-0 c.in-Entries.entries c.deref-in-Entries.result.now
    (ways_in c.in_ok-painted.painted) c.in_ok-judge-in-Entries.field-0 f.1 c.in_ok-entries.ensures c.in-Entries.is c.deref.ensures.value (c.self.view_is ∙ f.2) c.deref-in-Entries.ensures.value
    (fresh_ways c.args.tree.now c.in_ok-fresh.fresh (ways_in c.in_ok-painted.painted) c.in_ok-fresh.ensures.list c.in_ok-painted.ensures)
    c.fresh_stands.ensures c.in_ok-judge-in-Entries.ensures

pub overflow_cast-result : goal.overflow_cast-result
overflow_cast-result g c =
    let k = few_unknown c.args.tree.now c.deref.result.now c.self.inside.rows.items c.in_ok-entries.field-0 c.in-Unknown.i c.in_ok-entries.ensures
    c.in-Unknown.is c.deref.ensures.value c.self.invariant in
    omega (arith, k)

pub returns-clause-verdict : goal.returns-clause-verdict
returns-clause-verdict g c = λ text f.
    unknown_checked c.args.tree.now text (f.0) c.deref.result.now c.self.inside.rows.items c.in_ok-entries.field-0 c.in-Unknown.i f.1 c.in_ok-entries.ensures
    c.in-Unknown.is c.deref.ensures.value (c.self.view_is ∙ f.2)
