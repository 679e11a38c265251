use Rattle.std.proofs.Common.{◌≡◌, sym, ap, ◌∙◌, true, arith, subst}
use Rattle.rd_keys.specs.Keys.{same_key}
use Rattle.rd_tree.specs.Forest.{has}
use Rattle.rd_tree.specs.Seeking.{reaches, hull_reaches}
use Rattle.rd_tree.specs.Internal.Summaries.{summary_of}
use Rattle.rd_tree.specs.Internal.Linked.{seen}
use Rattle.rd_tree.proofs.Nodes.Glances.{glance_within}
use Rattle.rd_tree.proofs.Nodes.Seeking.{IsLiveIfAny, Met, met, next_live, seek_begins, seek_on, seek_found}
use Rattle.rd_tree.proofs.searching.first_in_reach.Goals as goal

pub returns-then-reaches-clause-found : goal.returns-then-reaches-clause-found
returns-then-reaches-clause-found g c =
    let row : has same_key c.in-Some.key (seen c.args.nodes.now c.args.root) ≡ true → c.row_of-row.result.now
    ≡ summary_of c.in-Some.key (seen c.args.nodes.now c.args.root) = λ h. c.row_of-row.ensures ∙ c.requires.tabled.right c.in-Some.key h in
    let m : Met (seen c.args.nodes.now c.args.root) c.in-Some.key c.glance_at_live-glance.result c.row_of-row.result.now = met c.args.nodes.now
    c.args.root c.in-Some.key c.glance_at_live-glance.result c.row_of-row.result.now c.requires.tree c.glance_at_live-glance.ensures row in
    let found = seek_found (hull_reaches c.args.rect.now) (seen c.args.nodes.now c.args.root) c.args.first c.args.first c.args.steps.now c.args.steps.now c.tick.new.self
    (seek_begins (hull_reaches c.args.rect.now) (seen c.args.nodes.now c.args.root) c.args.first c.args.steps.now) c.in-Some.key c.glance_at_live-glance.result c.row_of-row.result.now m c.in-Some.is
    (ap (reaches c.args.rect.now) (sym m.hull) ∙ (sym c.reaches.ensures ∙ c.if-reaches.true)) c.tick.ensures in
    found.0

pub returns-then-reaches-clause-ticks : goal.returns-then-reaches-clause-ticks
returns-then-reaches-clause-ticks g c =
    let row : has same_key c.in-Some.key (seen c.args.nodes.now c.args.root) ≡ true → c.row_of-row.result.now
    ≡ summary_of c.in-Some.key (seen c.args.nodes.now c.args.root) = λ h. c.row_of-row.ensures ∙ c.requires.tabled.right c.in-Some.key h in
    let m : Met (seen c.args.nodes.now c.args.root) c.in-Some.key c.glance_at_live-glance.result c.row_of-row.result.now = met c.args.nodes.now
    c.args.root c.in-Some.key c.glance_at_live-glance.result c.row_of-row.result.now c.requires.tree c.glance_at_live-glance.ensures row in
    let found = seek_found (hull_reaches c.args.rect.now) (seen c.args.nodes.now c.args.root) c.args.first c.args.first c.args.steps.now c.args.steps.now c.tick.new.self
    (seek_begins (hull_reaches c.args.rect.now) (seen c.args.nodes.now c.args.root) c.args.first c.args.steps.now) c.in-Some.key c.glance_at_live-glance.result c.row_of-row.result.now m c.in-Some.is
    (ap (reaches c.args.rect.now) (sym m.hull) ∙ (sym c.reaches.ensures ∙ c.if-reaches.true)) c.tick.ensures in
    found.1

pub returns-else-reaches-clause-found : goal.returns-else-reaches-clause-found
returns-else-reaches-clause-found g c =
    let row : has same_key c.in-Some.key (seen c.args.nodes.now c.args.root) ≡ true → c.row_of-row.result.now
    ≡ summary_of c.in-Some.key (seen c.args.nodes.now c.args.root) = λ h. c.row_of-row.ensures ∙ c.requires.tabled.right c.in-Some.key h in
    let m : Met (seen c.args.nodes.now c.args.root) c.in-Some.key c.glance_at_live-glance.result c.row_of-row.result.now = met c.args.nodes.now
    c.args.root c.in-Some.key c.glance_at_live-glance.result c.row_of-row.result.now c.requires.tree c.glance_at_live-glance.ensures row in
    let on = seek_on (hull_reaches c.args.rect.now) (seen c.args.nodes.now c.args.root) c.args.first c.args.first c.args.steps.now c.args.steps.now c.tick.new.self
    (seek_begins (hull_reaches c.args.rect.now) (seen c.args.nodes.now c.args.root) c.args.first c.args.steps.now) c.in-Some.key c.glance_at_live-glance.result c.row_of-row.result.now m c.in-Some.is
    (ap (reaches c.args.rect.now) (sym m.hull) ∙ (sym c.reaches.ensures ∙ c.if-reaches.false)) c.tick.ensures in
    c.pass_to_hull.ensures.found ∙ on.to

pub returns-else-reaches-clause-ticks : goal.returns-else-reaches-clause-ticks
returns-else-reaches-clause-ticks g c =
    let row : has same_key c.in-Some.key (seen c.args.nodes.now c.args.root) ≡ true → c.row_of-row.result.now
    ≡ summary_of c.in-Some.key (seen c.args.nodes.now c.args.root) = λ h. c.row_of-row.ensures ∙ c.requires.tabled.right c.in-Some.key h in
    let m : Met (seen c.args.nodes.now c.args.root) c.in-Some.key c.glance_at_live-glance.result c.row_of-row.result.now = met c.args.nodes.now
    c.args.root c.in-Some.key c.glance_at_live-glance.result c.row_of-row.result.now c.requires.tree c.glance_at_live-glance.ensures row in
    let on = seek_on (hull_reaches c.args.rect.now) (seen c.args.nodes.now c.args.root) c.args.first c.args.first c.args.steps.now c.args.steps.now c.tick.new.self
    (seek_begins (hull_reaches c.args.rect.now) (seen c.args.nodes.now c.args.root) c.args.first c.args.steps.now) c.in-Some.key c.glance_at_live-glance.result c.row_of-row.result.now m c.in-Some.is
    (ap (reaches c.args.rect.now) (sym m.hull) ∙ (sym c.reaches.ensures ∙ c.if-reaches.false)) c.tick.ensures in
    omega (arith, on.cost, c.pass_to_hull.ensures.ticks)

pub pass_to_hull-requires-clause-live : goal.pass_to_hull-requires-clause-live
pass_to_hull-requires-clause-live g c =
    let row : has same_key c.in-Some.key (seen c.args.nodes.now c.args.root) ≡ true → c.row_of-row.result.now
    ≡ summary_of c.in-Some.key (seen c.args.nodes.now c.args.root) = λ h. c.row_of-row.ensures ∙ c.requires.tabled.right c.in-Some.key h in
    let m : Met (seen c.args.nodes.now c.args.root) c.in-Some.key c.glance_at_live-glance.result c.row_of-row.result.now = met c.args.nodes.now
    c.args.root c.in-Some.key c.glance_at_live-glance.result c.row_of-row.result.now c.requires.tree c.glance_at_live-glance.ensures row in
    next_live c.args.nodes.now c.args.root c.in-Some.key c.glance_at_live-glance.result c.row_of-row.result.now c.requires.tree m

pub row_of-row-requires : goal.row_of-row-requires
row_of-row-requires g c = omega (
  arith,
  c.requires.tabled.all_rows,
  glance_within c.args.nodes.now c.in-Some.key c.glance_at_live-glance.result c.glance_at_live-glance.ensures,
)

pub glance_at_live-glance-requires : goal.glance_at_live-glance-requires
glance_at_live-glance-requires g c = record { live = subst (IsLiveIfAny c.args.nodes.now) c.in-Some.is c.requires.live }
