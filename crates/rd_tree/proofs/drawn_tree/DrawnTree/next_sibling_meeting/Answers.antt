use Rattle.std.proofs.Common.{◌≡◌, sym, ap, ◌∙◌, true, subst, length, arith}
use Rattle.std.specs.Prelude.{nat_lt}
use Rattle.rd_keys.specs.Keys.{same_key}
use Rattle.rd_tree.specs.Forest.{has, head, from_some}
use Rattle.rd_tree.specs.Shown.{shown}
use Rattle.rd_tree.specs.Seeking.{siblings_from, hull_reaches}
use Rattle.rd_tree.specs.Internal.Summaries.{summary_of}
use Rattle.rd_tree.specs.Internal.Linked.{seen}
use Rattle.rd_tree.specs.Internal.Blending.{count_at}
use Rattle.rd_tree.proofs.Blending.Counts.{blends_here}
use Rattle.rd_tree.proofs.Nodes.Glances.{glance_within}
use Rattle.rd_tree.proofs.Nodes.Looking.{looks, apart_seen}
use Rattle.rd_tree.proofs.Nodes.Naming.{fits_seen}
use Rattle.rd_tree.proofs.Nodes.Seeking.{live_first}
use Rattle.rd_tree.proofs.drawn_tree.DrawnTree.next_sibling_meeting.Goals as goal

pub first_in_reach-found-requires-clause-live : goal.first_in_reach-found-requires-clause-live
first_in_reach-found-requires-clause-live g c = live_first c.self.inside.nodes c.self.inside.root c.args.first c.self.invariant.sound.tree
    (subst (λ d. c.args.first ≡ head (from_some same_key c.args.first d.boxes)) (sym c.self.view_is) c.requires.live)

pub returns-in-Some-clause-seen : goal.returns-in-Some-clause-seen
returns-in-Some-clause-seen g c =
    let row : has same_key c.in-Some.key (seen c.self.inside.nodes c.self.inside.root) ≡ true → c.row_at-row.result
    ≡ summary_of c.in-Some.key (seen c.self.inside.nodes c.self.inside.root) = λ h. c.row_at-row.ensures ∙ (c.self.invariant.table.right c.in-Some.key h) in
    let found = subst (λ o. from_some same_key o (seen c.self.inside.nodes c.self.inside.root) ≡ siblings_from (hull_reaches c.args.rect.now)
    (from_some same_key c.args.first (seen c.self.inside.nodes c.self.inside.root))) c.in-Some.is c.first_in_reach-found.ensures.found in
    rw (← c.self.view_is) (c.view_at.ensures ∙ (looks c.self.inside.nodes c.self.inside.root c.in-Some.key c.row_at-row.result c.blends_at-blend.result
    c.self.invariant.sound.tree row (λ m. c.blends_at-blend.ensures ∙ (ap (λ rows. nat_lt 0 (count_at rows c.in-Some.key)) c.deref.ensures.value
    ∙ blends_here (count_at c.self.inside.blends.items) c.in-Some.key (seen c.self.inside.nodes c.self.inside.root) c.self.invariant.blending.right m)) ∙ ap (shown c.self.inside.root) found))

pub returns-in-Some-clause-apart : goal.returns-in-Some-clause-apart
returns-in-Some-clause-apart g c = rw (← c.self.view_is) (apart_seen c.self.inside.nodes c.self.inside.root c.self.invariant.sound.tree)

pub returns-in-Some-clause-limits : goal.returns-in-Some-clause-limits
returns-in-Some-clause-limits g c = rw (← c.self.view_is) (fits_seen c.self.inside.nodes c.self.inside.root c.self.inside.ids c.self.invariant.sound)

pub returns-in-None-clause-apart : goal.returns-in-None-clause-apart
returns-in-None-clause-apart g c = rw (← c.self.view_is) (apart_seen c.self.inside.nodes c.self.inside.root c.self.invariant.sound.tree)

pub returns-in-None-clause-limits : goal.returns-in-None-clause-limits
returns-in-None-clause-limits g c = rw (← c.self.view_is) (fits_seen c.self.inside.nodes c.self.inside.root c.self.inside.ids c.self.invariant.sound)

pub blends_at-blend-requires : goal.blends_at-blend-requires
blends_at-blend-requires g c = omega (
  arith,
  ap length c.deref.ensures.value,
  c.self.invariant.blending.all_rows,
  glance_within c.self.inside.nodes c.in-Some.key c.glance_at_live-read.result c.glance_at_live-read.ensures,
)
