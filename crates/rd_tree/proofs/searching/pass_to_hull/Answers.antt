use Rattle.std.proofs.Common.{◌≡◌, sym, ap, ◌∙◌, ℕ, ◌+◌, ◌<◌, ◌≤◌, false, arith, subst}
use Rattle.rd_keys.specs.Keys.{same_key}
use Rattle.rd_tree.specs.Forest.{from_some}
use Rattle.rd_tree.specs.Seeking.{reaches, hull_reaches, siblings_from, looks_until}
use Rattle.rd_tree.specs.Internal.Summaries.{row_at}
use Rattle.rd_tree.specs.Internal.Linked.{seen}
use Rattle.rd_tree.proofs.Nodes.Seeking.{IsLiveIfAny, pass_apart, seek_begins, stop_there}
use Rattle.rd_tree.proofs.searching.pass_to_hull.Goals as goal

pub returns-then-stop-end-clause-found : goal.returns-then-stop-end-clause-found
returns-then-stop-end-clause-found g c =
    let there = c.slot-start.ensures in
    let few = c.min.ensures in
    let from : c.in-Some.key.slot ≤ c.first_reaching-stop.result = omega (arith, there, c.first_reaching-stop.ensures.from) in
    let end : c.first_reaching-stop.result ≤ c.in-Some.key.slot + c.run_from.result = omega (arith, there, few, c.first_reaching-stop.ensures.end) in
    let apart : (s : ℕ) → c.in-Some.key.slot ≤ s → s < c.first_reaching-stop.result → reaches c.args.rect.now (row_at c.args.table.now.rows s).hull ≡ false = λ s a b.
    c.first_reaching-stop.ensures.apart s (omega (arith, there, a)) b in
    let stop = stop_there c.args.rect.now c.args.nodes.now c.args.root c.args.table.now.rows c.requires.tree c.requires.tabled c.args.first c.args.first c.in-Some.key
    c.args.steps.now c.args.steps.now c.run_from.result c.first_reaching-stop.result (seek_begins (hull_reaches c.args.rect.now) (seen c.args.nodes.now c.args.root) c.args.first c.args.steps.now) c.requires.live c.in-Some.is
    c.run_from.ensures.run from end apart
    (omega (arith, there, few, c.if-stop-end.true)) (c.first_reaching-stop.ensures.found c.if-stop-end.true) c.tick.new.self
    (omega (arith, c.tick.ensures, c.tick_times.ensures, there)) in
    ap (λ z. from_some same_key z (seen c.args.nodes.now c.args.root)) c.sibling_in-at.ensures ∙ stop.0

pub returns-then-stop-end-clause-ticks : goal.returns-then-stop-end-clause-ticks
returns-then-stop-end-clause-ticks g c =
    let there = c.slot-start.ensures in
    let few = c.min.ensures in
    let from : c.in-Some.key.slot ≤ c.first_reaching-stop.result = omega (arith, there, c.first_reaching-stop.ensures.from) in
    let end : c.first_reaching-stop.result ≤ c.in-Some.key.slot + c.run_from.result = omega (arith, there, few, c.first_reaching-stop.ensures.end) in
    let apart : (s : ℕ) → c.in-Some.key.slot ≤ s → s < c.first_reaching-stop.result → reaches c.args.rect.now (row_at c.args.table.now.rows s).hull ≡ false = λ s a b.
    c.first_reaching-stop.ensures.apart s (omega (arith, there, a)) b in
    let stop = stop_there c.args.rect.now c.args.nodes.now c.args.root c.args.table.now.rows c.requires.tree c.requires.tabled c.args.first c.args.first c.in-Some.key
    c.args.steps.now c.args.steps.now c.run_from.result c.first_reaching-stop.result (seek_begins (hull_reaches c.args.rect.now) (seen c.args.nodes.now c.args.root) c.args.first c.args.steps.now) c.requires.live c.in-Some.is
    c.run_from.ensures.run from end apart
    (omega (arith, there, few, c.if-stop-end.true)) (c.first_reaching-stop.ensures.found c.if-stop-end.true) c.tick.new.self
    (omega (arith, c.tick.ensures, c.tick_times.ensures, there)) in
    stop.1

pub returns-else-stop-end-clause-found : goal.returns-else-stop-end-clause-found
returns-else-stop-end-clause-found g c =
    let there = c.slot-start.ensures in
    let few = c.min.ensures in
    let from : c.in-Some.key.slot ≤ c.first_reaching-stop.result = omega (arith, there, c.first_reaching-stop.ensures.from) in
    let end : c.first_reaching-stop.result ≤ c.in-Some.key.slot + c.run_from.result = omega (arith, there, few, c.first_reaching-stop.ensures.end) in
    let apart : (s : ℕ) → c.in-Some.key.slot ≤ s → s < c.first_reaching-stop.result → reaches c.args.rect.now (row_at c.args.table.now.rows s).hull ≡ false = λ s a b.
    c.first_reaching-stop.ensures.apart s (omega (arith, there, a)) b in
    let p = pass_apart c.args.rect.now c.args.nodes.now c.args.root c.args.table.now.rows c.requires.tree c.requires.tabled c.args.first c.args.first c.in-Some.key
    c.args.steps.now c.args.steps.now c.run_from.result c.first_reaching-stop.result (seek_begins (hull_reaches c.args.rect.now) (seen c.args.nodes.now c.args.root) c.args.first c.args.steps.now) c.requires.live c.in-Some.is
    c.run_from.ensures.run from end apart in
    c.pass_by_cells.ensures.found ∙ (ap (λ z. siblings_from (hull_reaches c.args.rect.now) (from_some same_key z (seen c.args.nodes.now c.args.root))) c.sibling_in-at.ensures ∙ p.seeks.to)

pub returns-else-stop-end-clause-ticks : goal.returns-else-stop-end-clause-ticks
returns-else-stop-end-clause-ticks g c =
    let there = c.slot-start.ensures in
    let few = c.min.ensures in
    let from : c.in-Some.key.slot ≤ c.first_reaching-stop.result = omega (arith, there, c.first_reaching-stop.ensures.from) in
    let end : c.first_reaching-stop.result ≤ c.in-Some.key.slot + c.run_from.result = omega (arith, there, few, c.first_reaching-stop.ensures.end) in
    let apart : (s : ℕ) → c.in-Some.key.slot ≤ s → s < c.first_reaching-stop.result → reaches c.args.rect.now (row_at c.args.table.now.rows s).hull ≡ false = λ s a b.
    c.first_reaching-stop.ensures.apart s (omega (arith, there, a)) b in
    let p = pass_apart c.args.rect.now c.args.nodes.now c.args.root c.args.table.now.rows c.requires.tree c.requires.tabled c.args.first c.args.first c.in-Some.key
    c.args.steps.now c.args.steps.now c.run_from.result c.first_reaching-stop.result (seek_begins (hull_reaches c.args.rect.now) (seen c.args.nodes.now c.args.root) c.args.first c.args.steps.now) c.requires.live c.in-Some.is
    c.run_from.ensures.run from end apart in
    let same = ap (λ z. looks_until (hull_reaches c.args.rect.now) (from_some same_key z (seen c.args.nodes.now c.args.root))) c.sibling_in-at.ensures in
    omega (arith, there, from, p.seeks.cost, same, c.tick_times.ensures, c.pass_by_cells.ensures.ticks)

pub pass_by_cells-requires-clause-live : goal.pass_by_cells-requires-clause-live
pass_by_cells-requires-clause-live g c =
    let there = c.slot-start.ensures in
    let few = c.min.ensures in
    let from : c.in-Some.key.slot ≤ c.first_reaching-stop.result = omega (arith, there, c.first_reaching-stop.ensures.from) in
    let end : c.first_reaching-stop.result ≤ c.in-Some.key.slot + c.run_from.result = omega (arith, there, few, c.first_reaching-stop.ensures.end) in
    let apart : (s : ℕ) → c.in-Some.key.slot ≤ s → s < c.first_reaching-stop.result → reaches c.args.rect.now (row_at c.args.table.now.rows s).hull ≡ false = λ s a b.
    c.first_reaching-stop.ensures.apart s (omega (arith, there, a)) b in
    let p = pass_apart c.args.rect.now c.args.nodes.now c.args.root c.args.table.now.rows c.requires.tree c.requires.tabled c.args.first c.args.first c.in-Some.key
    c.args.steps.now c.args.steps.now c.run_from.result c.first_reaching-stop.result (seek_begins (hull_reaches c.args.rect.now) (seen c.args.nodes.now c.args.root) c.args.first c.args.steps.now) c.requires.live c.in-Some.is
    c.run_from.ensures.run from end apart in
    subst (IsLiveIfAny c.args.nodes.now) (sym c.sibling_in-at.ensures) p.live
