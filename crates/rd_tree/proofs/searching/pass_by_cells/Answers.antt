use Rattle.std.proofs.Common.{◌≡◌, sym, ap, ◌∙◌, ℕ, ◌+◌, ◌-◌, ◌<◌, ◌≤◌, true, false, arith, subst}
use Rattle.rd_keys.specs.Keys.{same_key}
use Rattle.rd_tree.specs.Forest.{has, size, from_some}
use Rattle.rd_tree.specs.Seeking.{reaches, hull_reaches}
use Rattle.rd_tree.specs.Internal.Calm.{place_on}
use Rattle.rd_tree.specs.Internal.Summaries.{row_at, summary_of}
use Rattle.rd_tree.specs.Internal.Linked.{seen}
use Rattle.rd_tree.proofs.Nodes.Glances.{glance_within}
use Rattle.rd_tree.proofs.Nodes.Seeking.{IsLiveIfAny, Met, Seeks, glance_there, met, next_live, pass_apart, stop_there, seek_on, seek_found, seek_fewer}
use Rattle.rd_tree.proofs.searching.pass_by_cells.Goals as goal

pub returns-then-reaches-clause-found : goal.returns-then-reaches-clause-found
returns-then-reaches-clause-found g c =
    let y = glance_there c.args.nodes.now c.in-Some.key (subst (IsLiveIfAny c.args.nodes.now) c.in-Some.is c.loop-at.invariant.live) in
    let row : has same_key c.in-Some.key (seen c.args.nodes.now c.args.root) ≡ true → c.row_of-row.result.now
    ≡ summary_of c.in-Some.key (seen c.args.nodes.now c.args.root) = λ h. c.row_of-row.ensures ∙ c.requires.tabled.right c.in-Some.key h in
    let m : Met (seen c.args.nodes.now c.args.root) c.in-Some.key y.0 c.row_of-row.result.now = met c.args.nodes.now
    c.args.root c.in-Some.key y.0 c.row_of-row.result.now c.requires.tree y.1 row in
    let found = seek_found (hull_reaches c.args.rect.now) (seen c.args.nodes.now c.args.root) c.args.first c.loop-at.at c.args.steps.now c.loop-at.steps c.tick-in-Some.new.self
    c.loop-at.invariant.seeks c.in-Some.key y.0 c.row_of-row.result.now m c.in-Some.is
    (ap (reaches c.args.rect.now) (sym m.hull) ∙ (sym c.reaches.ensures ∙ c.if-reaches.true)) c.tick-in-Some.ensures in
    found.0

pub returns-then-reaches-clause-ticks : goal.returns-then-reaches-clause-ticks
returns-then-reaches-clause-ticks g c =
    let y = glance_there c.args.nodes.now c.in-Some.key (subst (IsLiveIfAny c.args.nodes.now) c.in-Some.is c.loop-at.invariant.live) in
    let row : has same_key c.in-Some.key (seen c.args.nodes.now c.args.root) ≡ true → c.row_of-row.result.now
    ≡ summary_of c.in-Some.key (seen c.args.nodes.now c.args.root) = λ h. c.row_of-row.ensures ∙ c.requires.tabled.right c.in-Some.key h in
    let m : Met (seen c.args.nodes.now c.args.root) c.in-Some.key y.0 c.row_of-row.result.now = met c.args.nodes.now
    c.args.root c.in-Some.key y.0 c.row_of-row.result.now c.requires.tree y.1 row in
    let found = seek_found (hull_reaches c.args.rect.now) (seen c.args.nodes.now c.args.root) c.args.first c.loop-at.at c.args.steps.now c.loop-at.steps c.tick-in-Some.new.self
    c.loop-at.invariant.seeks c.in-Some.key y.0 c.row_of-row.result.now m c.in-Some.is
    (ap (reaches c.args.rect.now) (sym m.hull) ∙ (sym c.reaches.ensures ∙ c.if-reaches.true)) c.tick-in-Some.ensures in
    found.1

pub returns-then-reaches-clause-live : goal.returns-then-reaches-clause-live
returns-then-reaches-clause-live g c = subst (IsLiveIfAny c.args.nodes.now) c.in-Some.is c.loop-at.invariant.live

pub loop-at-smaller : goal.loop-at-smaller
loop-at-smaller g c =
    let row : has same_key c.in-Some.key (seen c.args.nodes.now c.args.root) ≡ true → c.row_of-row.result.now
    ≡ summary_of c.in-Some.key (seen c.args.nodes.now c.args.root) = λ h. c.row_of-row.ensures ∙ c.requires.tabled.right c.in-Some.key h in
    let m : Met (seen c.args.nodes.now c.args.root) c.in-Some.key c.glance_at_live-at.result c.row_of-row.result.now = met c.args.nodes.now
    c.args.root c.in-Some.key c.glance_at_live-at.result c.row_of-row.result.now c.requires.tree c.glance_at_live-at.ensures row in
    seek_fewer (hull_reaches c.args.rect.now) (seen c.args.nodes.now c.args.root) c.args.first c.loop-at.at c.args.steps.now c.loop-at.steps c.tick-in-Some.new.self
    c.loop-at.invariant.seeks c.in-Some.key c.glance_at_live-at.result c.row_of-row.result.now m c.in-Some.is

pub loop-at-preserved : goal.loop-at-preserved
loop-at-preserved g c =
    let row : has same_key c.in-Some.key (seen c.args.nodes.now c.args.root) ≡ true → c.row_of-row.result.now
    ≡ summary_of c.in-Some.key (seen c.args.nodes.now c.args.root) = λ h. c.row_of-row.ensures ∙ c.requires.tabled.right c.in-Some.key h in
    let m : Met (seen c.args.nodes.now c.args.root) c.in-Some.key c.glance_at_live-at.result c.row_of-row.result.now = met c.args.nodes.now
    c.args.root c.in-Some.key c.glance_at_live-at.result c.row_of-row.result.now c.requires.tree c.glance_at_live-at.ensures row in
    let on = seek_on (hull_reaches c.args.rect.now) (seen c.args.nodes.now c.args.root) c.args.first c.loop-at.at c.args.steps.now c.loop-at.steps c.tick-in-Some.new.self
    c.loop-at.invariant.seeks c.in-Some.key c.glance_at_live-at.result c.row_of-row.result.now m c.in-Some.is
    (ap (reaches c.args.rect.now) (sym m.hull) ∙ (sym c.reaches.ensures ∙ c.if-reaches.false)) c.tick-in-Some.ensures in
    record {
      seeks = on;
      live = next_live c.args.nodes.now c.args.root c.in-Some.key c.glance_at_live-at.result c.row_of-row.result.now c.requires.tree m;
    }

pub row_of-row-requires : goal.row_of-row-requires
row_of-row-requires g c =
    let y = glance_there c.args.nodes.now c.in-Some.key (subst (IsLiveIfAny c.args.nodes.now) c.in-Some.is c.loop-at.invariant.live) in
    omega (arith, c.requires.tabled.all_rows, glance_within c.args.nodes.now c.in-Some.key y.0 y.1)

pub glance_at_live-at-requires : goal.glance_at_live-at-requires
glance_at_live-at-requires g c = record { live = subst (IsLiveIfAny c.args.nodes.now) c.in-Some.is c.loop-at.invariant.live }

pub returns-then-stop-end-clause-found : goal.returns-then-stop-end-clause-found
returns-then-stop-end-clause-found g c =
    let there = c.slot-start.ensures in
    let from : c.in-Some.key.slot ≤ c.far_reaching-stop.result = omega (arith, there, c.far_reaching-stop.ensures.from) in
    let end : c.far_reaching-stop.result ≤ c.in-Some.key.slot + c.run_from-run.result = omega (arith, there, c.far_reaching-stop.ensures.end) in
    let apart : (s : ℕ) → c.in-Some.key.slot ≤ s → s < c.far_reaching-stop.result → reaches c.args.rect.now (row_at c.args.table.now.rows s).hull ≡ false = λ s a b.
    c.far_reaching-stop.ensures.apart s (omega (arith, there, a)) b in
    let stop = stop_there c.args.rect.now c.args.nodes.now c.args.root c.args.table.now.rows c.requires.tree c.requires.tabled c.args.first c.loop-at.at c.in-Some.key
    c.args.steps.now c.loop-at.steps c.run_from-run.result c.far_reaching-stop.result c.loop-at.invariant.seeks c.loop-at.invariant.live c.in-Some.is
    c.run_from-run.ensures.run from end apart
    (omega (arith, there, c.if-stop-end.true)) (c.far_reaching-stop.ensures.found c.if-stop-end.true) c.tick.new.self
    (omega (arith, c.tick.ensures, c.tick_times.ensures, there)) in
    ap (λ z. from_some same_key z (seen c.args.nodes.now c.args.root)) c.sibling_in-at.ensures ∙ stop.0

pub returns-then-stop-end-clause-ticks : goal.returns-then-stop-end-clause-ticks
returns-then-stop-end-clause-ticks g c =
    let there = c.slot-start.ensures in
    let from : c.in-Some.key.slot ≤ c.far_reaching-stop.result = omega (arith, there, c.far_reaching-stop.ensures.from) in
    let end : c.far_reaching-stop.result ≤ c.in-Some.key.slot + c.run_from-run.result = omega (arith, there, c.far_reaching-stop.ensures.end) in
    let apart : (s : ℕ) → c.in-Some.key.slot ≤ s → s < c.far_reaching-stop.result → reaches c.args.rect.now (row_at c.args.table.now.rows s).hull ≡ false = λ s a b.
    c.far_reaching-stop.ensures.apart s (omega (arith, there, a)) b in
    let stop = stop_there c.args.rect.now c.args.nodes.now c.args.root c.args.table.now.rows c.requires.tree c.requires.tabled c.args.first c.loop-at.at c.in-Some.key
    c.args.steps.now c.loop-at.steps c.run_from-run.result c.far_reaching-stop.result c.loop-at.invariant.seeks c.loop-at.invariant.live c.in-Some.is
    c.run_from-run.ensures.run from end apart
    (omega (arith, there, c.if-stop-end.true)) (c.far_reaching-stop.ensures.found c.if-stop-end.true) c.tick.new.self
    (omega (arith, c.tick.ensures, c.tick_times.ensures, there)) in
    stop.1

pub loop-at-smaller-then-run-gt0 : goal.loop-at-smaller-then-run-gt0
loop-at-smaller-then-run-gt0 g c =
    let there = c.slot-start.ensures in
    let from : c.in-Some.key.slot ≤ c.far_reaching-stop.result = omega (arith, there, c.far_reaching-stop.ensures.from) in
    let end : c.far_reaching-stop.result ≤ c.in-Some.key.slot + c.run_from-run.result = omega (arith, there, c.far_reaching-stop.ensures.end) in
    let apart : (s : ℕ) → c.in-Some.key.slot ≤ s → s < c.far_reaching-stop.result → reaches c.args.rect.now (row_at c.args.table.now.rows s).hull ≡ false = λ s a b.
    c.far_reaching-stop.ensures.apart s (omega (arith, there, a)) b in
    let p = pass_apart c.args.rect.now c.args.nodes.now c.args.root c.args.table.now.rows c.requires.tree c.requires.tabled c.args.first c.loop-at.at c.in-Some.key
    c.args.steps.now c.loop-at.steps c.run_from-run.result c.far_reaching-stop.result c.loop-at.invariant.seeks c.loop-at.invariant.live c.in-Some.is
    c.run_from-run.ensures.run from end apart in
    let size_at = ap (λ z. size (from_some same_key z (seen c.args.nodes.now c.args.root))) c.sibling_in-at.ensures in
    omega (arith, p.fewer, size_at, there, c.if-run-gt0.true, c.if-stop-end.false)

pub loop-at-preserved-then-run-gt0 : goal.loop-at-preserved-then-run-gt0
loop-at-preserved-then-run-gt0 g c =
    let there = c.slot-start.ensures in
    let from : c.in-Some.key.slot ≤ c.far_reaching-stop.result = omega (arith, there, c.far_reaching-stop.ensures.from) in
    let end : c.far_reaching-stop.result ≤ c.in-Some.key.slot + c.run_from-run.result = omega (arith, there, c.far_reaching-stop.ensures.end) in
    let apart : (s : ℕ) → c.in-Some.key.slot ≤ s → s < c.far_reaching-stop.result → reaches c.args.rect.now (row_at c.args.table.now.rows s).hull ≡ false = λ s a b.
    c.far_reaching-stop.ensures.apart s (omega (arith, there, a)) b in
    let p = pass_apart c.args.rect.now c.args.nodes.now c.args.root c.args.table.now.rows c.requires.tree c.requires.tabled c.args.first c.loop-at.at c.in-Some.key
    c.args.steps.now c.loop-at.steps c.run_from-run.result c.far_reaching-stop.result c.loop-at.invariant.seeks c.loop-at.invariant.live c.in-Some.is
    c.run_from-run.ensures.run from end apart in
    let far : c.loop-at.steps + (c.far_reaching-stop.result - c.in-Some.key.slot) ≡ c.tick_times.new.steps = omega (arith, there, c.tick_times.ensures) in
    record {
      seeks = subst (λ z. Seeks (hull_reaches c.args.rect.now) (seen c.args.nodes.now c.args.root) c.args.first z c.args.steps.now c.tick_times.new.steps)
          (sym c.sibling_in-at.ensures) (subst (λ n. Seeks (hull_reaches c.args.rect.now) (seen c.args.nodes.now c.args.root) c.args.first
          (place_on c.args.nodes.now c.in-Some.key (c.far_reaching-stop.result - c.in-Some.key.slot)) c.args.steps.now n) far p.seeks);
      live = subst (IsLiveIfAny c.args.nodes.now) (sym c.sibling_in-at.ensures) p.live;
    }
