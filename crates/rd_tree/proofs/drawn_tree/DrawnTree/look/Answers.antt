use Rattle.std.proofs.Common.{ap, ◌∙◌, refl, length, arith}
use Rattle.std.specs.Prelude.{None, option_map, nat_lt}
use Rattle.rd_keys.specs.Keys.{same_key}
use Rattle.rd_tree.specs.declared.table.row.Summary.{Summary}
use Rattle.rd_tree.specs.Internal.Summaries.{summary_of}
use Rattle.rd_tree.specs.Internal.Linked.{shown_of, seen}
use Rattle.rd_tree.specs.Forest.{starting_at}
use Rattle.rd_tree.specs.Internal.Blending.{blends_first, count_at}
use Rattle.rd_tree.proofs.Blending.Counts.{blends_here}
use Rattle.rd_tree.proofs.Nodes.Glances.{glance_within, no_glance}
use Rattle.rd_tree.proofs.Nodes.Looking.{looks, apart_seen}
use Rattle.rd_tree.proofs.Nodes.Naming.{fits_seen}
use Rattle.rd_tree.proofs.drawn_tree.DrawnTree.look.Goals as goal

pub row_at-row-requires : goal.row_at-row-requires
row_at-row-requires g c = omega (
  arith,
  c.self.invariant.table.all_rows,
  glance_within c.self.inside.nodes c.args.key c.in-Some.glance c.in-Some.ensures,
)

pub returns-in-Some-clause-seen : goal.returns-in-Some-clause-seen
returns-in-Some-clause-seen g c =
    rw (← c.self.view_is) (c.view_at.ensures ∙ looks c.self.inside.nodes c.self.inside.root c.args.key c.row_at-row.result
    c.blends_at-blend.result c.self.invariant.sound.tree (λ m. c.row_at-row.ensures
    ∙ (c.self.invariant.table.right c.args.key m))
    (λ m. c.blends_at-blend.ensures ∙ (ap (λ rows. nat_lt 0 (count_at rows c.args.key)) c.deref.ensures.value
    ∙ blends_here (count_at c.self.inside.blends.items) c.args.key (seen c.self.inside.nodes c.self.inside.root) c.self.invariant.blending.right m)))

pub returns-in-Some-clause-apart : goal.returns-in-Some-clause-apart
returns-in-Some-clause-apart g c = rw (← c.self.view_is) (apart_seen c.self.inside.nodes c.self.inside.root c.self.invariant.sound.tree)

pub returns-in-None-clause-seen : goal.returns-in-None-clause-seen
returns-in-None-clause-seen g c =
    let row : Summary = summary_of c.args.key (seen c.self.inside.nodes c.self.inside.root) in
    rw (← c.self.view_is) (ap (option_map (λ n. shown_of c.args.key (same_key c.args.key c.self.inside.root) n row (blends_first (starting_at same_key c.args.key (seen c.self.inside.nodes
    c.self.inside.root)))))
    (no_glance c.args.key.generation _ None refl c.in-None.ensures)
    ∙ looks c.self.inside.nodes c.self.inside.root c.args.key row (blends_first (starting_at same_key c.args.key (seen
    c.self.inside.nodes c.self.inside.root))) c.self.invariant.sound.tree (λ m. refl) (λ m. refl))

pub returns-in-None-clause-apart : goal.returns-in-None-clause-apart
returns-in-None-clause-apart g c = rw (← c.self.view_is) (apart_seen c.self.inside.nodes c.self.inside.root c.self.invariant.sound.tree)

pub returns-in-Some-clause-limits : goal.returns-in-Some-clause-limits
returns-in-Some-clause-limits g c = rw (← c.self.view_is) (fits_seen c.self.inside.nodes c.self.inside.root c.self.inside.ids c.self.invariant.sound)

pub returns-in-None-clause-limits : goal.returns-in-None-clause-limits
returns-in-None-clause-limits g c = rw (← c.self.view_is) (fits_seen c.self.inside.nodes c.self.inside.root c.self.inside.ids c.self.invariant.sound)

pub blends_at-blend-requires : goal.blends_at-blend-requires
blends_at-blend-requires g c = omega (
  arith,
  ap length c.deref.ensures.value,
  c.self.invariant.blending.all_rows,
  glance_within c.self.inside.nodes c.args.key c.in-Some.glance c.in-Some.ensures,
)
