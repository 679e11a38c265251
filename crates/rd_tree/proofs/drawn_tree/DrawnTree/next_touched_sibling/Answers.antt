use Rattle.std.proofs.Common.{◌≡◌, sym, ap, ◌∙◌, refl, true, arith, length, subst}
use Rattle.std.specs.Prelude.{nat_lt}
use Rattle.rd_keys.specs.Keys.{same_key}
use Rattle.rd_tree.specs.Forest.{empty, has, from_some}
use Rattle.rd_tree.specs.Shown.{shown}
use Rattle.rd_tree.specs.Seeking.{is_marked}
use Rattle.rd_tree.specs.Internal.Summaries.{summary_of}
use Rattle.rd_tree.specs.Internal.Linked.{seen}
use Rattle.rd_tree.specs.Internal.Blending.{count_at}
use Rattle.rd_tree.proofs.Blending.Counts.{blends_here}
use Rattle.rd_tree.proofs.Nodes.Glances.{glance_within}
use Rattle.rd_tree.proofs.Nodes.Looking.{looks, apart_seen}
use Rattle.rd_tree.proofs.Nodes.Naming.{fits_seen}
use Rattle.rd_tree.proofs.Nodes.Seeking.{IsLiveIfAny, Seeks, Met, met, dead_begins, next_live, pass_unmarked, seek_on, seek_found, seek_fewer}
use Rattle.rd_tree.proofs.drawn_tree.DrawnTree.next_touched_sibling.Goals as goal

pub returns-then-is_marked-clause-seen : goal.returns-then-is_marked-clause-seen
returns-then-is_marked-clause-seen g c =
    let row : has same_key c.in-Some.key (seen c.self.inside.nodes c.self.inside.root) ≡ true → c.row_at-row.result
    ≡ summary_of c.in-Some.key (seen c.self.inside.nodes c.self.inside.root) = λ h. c.row_at-row.ensures ∙ (c.self.invariant.table.right c.in-Some.key h) in
    let m : Met (seen c.self.inside.nodes c.self.inside.root) c.in-Some.key c.glance_at_live-glance.result c.row_at-row.result = met c.self.inside.nodes
    c.self.inside.root c.in-Some.key c.glance_at_live-glance.result c.row_at-row.result c.self.invariant.sound.tree c.glance_at_live-glance.ensures row in
    let found = seek_found is_marked (seen c.self.inside.nodes c.self.inside.root) c.args.first c.loop-at.at c.args.steps.now c.loop-at.steps c.tick.new.self
    c.loop-at.invariant.seeks c.in-Some.key c.glance_at_live-glance.result c.row_at-row.result m c.in-Some.is (rw (← m.touched, ← m.touched_below) (sym c.is_marked.ensures ∙ c.if-is_marked.true)) c.tick.ensures in
    rw (← c.self.view_is) (c.view_at.ensures ∙ (looks c.self.inside.nodes c.self.inside.root c.in-Some.key c.row_at-row.result c.blends_at-blend.result
    c.self.invariant.sound.tree row (λ m. c.blends_at-blend.ensures ∙ (ap (λ rows. nat_lt 0 (count_at rows c.in-Some.key)) c.deref.ensures.value
    ∙ blends_here (count_at c.self.inside.blends.items) c.in-Some.key (seen c.self.inside.nodes c.self.inside.root) c.self.invariant.blending.right m)) ∙ ap (shown c.self.inside.root) found.0))

pub returns-then-is_marked-clause-ticks : goal.returns-then-is_marked-clause-ticks
returns-then-is_marked-clause-ticks g c =
    let row : has same_key c.in-Some.key (seen c.self.inside.nodes c.self.inside.root) ≡ true → c.row_at-row.result
    ≡ summary_of c.in-Some.key (seen c.self.inside.nodes c.self.inside.root) = λ h. c.row_at-row.ensures ∙ (c.self.invariant.table.right c.in-Some.key h) in
    let m : Met (seen c.self.inside.nodes c.self.inside.root) c.in-Some.key c.glance_at_live-glance.result c.row_at-row.result = met c.self.inside.nodes
    c.self.inside.root c.in-Some.key c.glance_at_live-glance.result c.row_at-row.result c.self.invariant.sound.tree c.glance_at_live-glance.ensures row in
    let found = seek_found is_marked (seen c.self.inside.nodes c.self.inside.root) c.args.first c.loop-at.at c.args.steps.now c.loop-at.steps c.tick.new.self
    c.loop-at.invariant.seeks c.in-Some.key c.glance_at_live-glance.result c.row_at-row.result m c.in-Some.is (rw (← m.touched, ← m.touched_below) (sym c.is_marked.ensures ∙ c.if-is_marked.true)) c.tick.ensures in
    rw (← c.self.view_is) found.1

pub loop-at-smaller : goal.loop-at-smaller
loop-at-smaller g c =
    let row : has same_key c.in-Some.key (seen c.self.inside.nodes c.self.inside.root) ≡ true → c.row_at-row.result
    ≡ summary_of c.in-Some.key (seen c.self.inside.nodes c.self.inside.root) = λ h. c.row_at-row.ensures ∙ (c.self.invariant.table.right c.in-Some.key h) in
    let m : Met (seen c.self.inside.nodes c.self.inside.root) c.in-Some.key c.glance_at_live-glance.result c.row_at-row.result = met c.self.inside.nodes
    c.self.inside.root c.in-Some.key c.glance_at_live-glance.result c.row_at-row.result c.self.invariant.sound.tree c.glance_at_live-glance.ensures row in
    seek_fewer is_marked (seen c.self.inside.nodes c.self.inside.root) c.args.first c.loop-at.at c.args.steps.now c.loop-at.steps c.tick.new.self c.loop-at.invariant.seeks
    c.in-Some.key c.glance_at_live-glance.result c.row_at-row.result m c.in-Some.is

pub loop-at-preserved : goal.loop-at-preserved
loop-at-preserved g c =
    let row : has same_key c.in-Some.key (seen c.self.inside.nodes c.self.inside.root) ≡ true → c.row_at-row.result
    ≡ summary_of c.in-Some.key (seen c.self.inside.nodes c.self.inside.root) = λ h. c.row_at-row.ensures ∙ (c.self.invariant.table.right c.in-Some.key h) in
    let m : Met (seen c.self.inside.nodes c.self.inside.root) c.in-Some.key c.glance_at_live-glance.result c.row_at-row.result = met c.self.inside.nodes
    c.self.inside.root c.in-Some.key c.glance_at_live-glance.result c.row_at-row.result c.self.invariant.sound.tree c.glance_at_live-glance.ensures row in
    record {
      seeks = seek_on is_marked (seen c.self.inside.nodes c.self.inside.root) c.args.first c.loop-at.at c.args.steps.now c.loop-at.steps c.tick.new.self c.loop-at.invariant.seeks
          c.in-Some.key c.glance_at_live-glance.result c.row_at-row.result m c.in-Some.is (rw (← m.touched, ← m.touched_below) (sym c.is_marked.ensures ∙ c.if-is_marked.false)) c.tick.ensures;
      live = next_live c.self.inside.nodes c.self.inside.root c.in-Some.key c.glance_at_live-glance.result c.row_at-row.result c.self.invariant.sound.tree m;
    }

pub returns-then-not-is_live_or_none-clause-seen : goal.returns-then-not-is_live_or_none-clause-seen
returns-then-not-is_live_or_none-clause-seen g c =
    let none : from_some same_key c.args.first (seen c.self.inside.nodes c.self.inside.root) ≡ empty = dead_begins c.self.inside.nodes c.self.inside.root c.args.first
    c.self.invariant.sound.tree (sym c.is_live_or_none.ensures ∙ c.if-not-is_live_or_none.true) in
    rw (← c.self.view_is, none) refl

pub returns-then-not-is_live_or_none-clause-ticks : goal.returns-then-not-is_live_or_none-clause-ticks
returns-then-not-is_live_or_none-clause-ticks g c =
    let none : from_some same_key c.args.first (seen c.self.inside.nodes c.self.inside.root) ≡ empty = dead_begins c.self.inside.nodes c.self.inside.root c.args.first
    c.self.invariant.sound.tree (sym c.is_live_or_none.ensures ∙ c.if-not-is_live_or_none.true) in
    rw (← c.self.view_is, none) (omega (arith))

pub returns-then-is_marked-clause-apart : goal.returns-then-is_marked-clause-apart
returns-then-is_marked-clause-apart g c = rw (← c.self.view_is) (apart_seen c.self.inside.nodes c.self.inside.root c.self.invariant.sound.tree)

pub returns-then-is_marked-clause-limits : goal.returns-then-is_marked-clause-limits
returns-then-is_marked-clause-limits g c = rw (← c.self.view_is) (fits_seen c.self.inside.nodes c.self.inside.root c.self.inside.ids c.self.invariant.sound)

pub returns-then-not-is_live_or_none-clause-apart : goal.returns-then-not-is_live_or_none-clause-apart
returns-then-not-is_live_or_none-clause-apart g c = rw (← c.self.view_is) (apart_seen c.self.inside.nodes c.self.inside.root c.self.invariant.sound.tree)

pub returns-then-not-is_live_or_none-clause-limits : goal.returns-then-not-is_live_or_none-clause-limits
returns-then-not-is_live_or_none-clause-limits g c = rw (← c.self.view_is) (fits_seen c.self.inside.nodes c.self.inside.root c.self.inside.ids c.self.invariant.sound)

pub returns-clause-apart : goal.returns-clause-apart
returns-clause-apart g c = rw (← c.self.view_is) (apart_seen c.self.inside.nodes c.self.inside.root c.self.invariant.sound.tree)

pub returns-clause-limits : goal.returns-clause-limits
returns-clause-limits g c = rw (← c.self.view_is) (fits_seen c.self.inside.nodes c.self.inside.root c.self.inside.ids c.self.invariant.sound)

pub row_at-row-requires : goal.row_at-row-requires
row_at-row-requires g c = omega (
  arith,
  c.self.invariant.table.all_rows,
  glance_within c.self.inside.nodes c.in-Some.key c.glance_at_live-glance.result c.glance_at_live-glance.ensures,
)

pub view_at-requires : goal.view_at-requires
view_at-requires g c = c.glance_at_live-glance.ensures

pub glance_at_live-glance-requires : goal.glance_at_live-glance-requires
glance_at_live-glance-requires g c = record { live = subst (IsLiveIfAny c.self.inside.nodes) c.in-Some.is c.loop-at.invariant.live }

pub blends_at-blend-requires : goal.blends_at-blend-requires
blends_at-blend-requires g c = omega (
  arith,
  ap length c.deref.ensures.value,
  c.self.invariant.blending.all_rows,
  glance_within c.self.inside.nodes c.in-Some.key c.glance_at_live-glance.result c.glance_at_live-glance.ensures,
)

pub loop-at-smaller-in-Some-after_page : goal.loop-at-smaller-in-Some-after_page
loop-at-smaller-in-Some-after_page g c =
    let p = pass_unmarked c.self.inside.nodes c.self.inside.root c.args.first c.loop-at.at c.in-Some-after_page.next c.in-Some.key c.args.steps.now c.loop-at.steps
    c.self.invariant.sound.tree c.loop-at.invariant.seeks c.loop-at.invariant.live c.in-Some.is c.in-Some-after_page.ensures in
    omega (arith, p.fewer)

pub loop-at-preserved-in-Some-after_page : goal.loop-at-preserved-in-Some-after_page
loop-at-preserved-in-Some-after_page g c =
    let p = pass_unmarked c.self.inside.nodes c.self.inside.root c.args.first c.loop-at.at c.in-Some-after_page.next c.in-Some.key c.args.steps.now c.loop-at.steps
    c.self.invariant.sound.tree c.loop-at.invariant.seeks c.loop-at.invariant.live c.in-Some.is c.in-Some-after_page.ensures in
    record {
      seeks = subst (λ n. Seeks is_marked (seen c.self.inside.nodes c.self.inside.root) c.args.first c.in-Some-after_page.next c.args.steps.now n)
          (sym c.tick_times.ensures) p.seeks;
      live = p.live;
    }
