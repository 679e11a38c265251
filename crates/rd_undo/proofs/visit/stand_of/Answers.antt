use Rattle.std.proofs.Common.{refl}
use Rattle.rd_undo.proofs.Visiting.{parent_there, parent_named, not_the_root}
use Rattle.rd_undo.proofs.visit.stand_of.Goals as goal

pub id_at-parent-requires : goal.id_at-parent-requires
id_at-parent-requires g c = parent_there c.key_of-key.result c.in-Some.above c.args.tree.now.boxes c.in-Some.ensures.parent

pub unreachable-requires : goal.unreachable-requires
unreachable-requires g c = not_the_root c.args.id.now c.key_of-key.result c.args.tree.now c.requires.proper c.key_of-key.ensures.named c.requires.below (c.in-None.ensures.root.0 refl)

pub returns-clause-stands : goal.returns-clause-stands
returns-clause-stands g c = record {
  key = c.key_of-key.result;
  named_is = c.key_of-key.ensures.named;
  visited = c.visit_box-visit.ensures.seen;
  parent_is = parent_named c.args.id.now c.id_at-parent.result.now c.key_of-key.result c.in-Some.above c.args.tree.now c.requires.proper c.key_of-key.ensures.named
      c.in-Some.ensures.parent c.id_at-parent.ensures;
}
