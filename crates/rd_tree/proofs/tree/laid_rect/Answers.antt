use Rattle.std.proofs.Common.{◌∙◌, ap, sym, subst}
use Rattle.rd_tree.specs.Internal.Handing.{offset_in, IsFar}
use Rattle.rd_tree.specs.Internal.Redraws.{drawn_anew}
use Rattle.rd_tree.proofs.Offsets.{far_none, far_offset}
use Rattle.rd_tree.proofs.Laying.Views.{placed_back}
use Rattle.rd_tree.proofs.tree.laid_rect.Goals as goal

pub anew-requires-clause-old : goal.anew-requires-clause-old
anew-requires-clause-old g c = subst (IsFar 256) (sym c.offset.ensures.offset) (far_offset 256 c.hand-handed.result _ c.hand-handed.ensures.few)

pub anew-requires-clause-new : goal.anew-requires-clause-new
anew-requires-clause-new g c = subst (IsFar 256) (sym c.unscrolled.ensures) (far_none 256)

pub anew-requires-clause-fits : goal.anew-requires-clause-fits
anew-requires-clause-fits g c =
    rw (c.offset.ensures.offset, c.unscrolled.ensures) (placed_back _ c.args.at.now (far_offset 256 c.hand-handed.result _ c.hand-handed.ensures.few) c.requires.near)

pub returns : goal.returns
returns g c =
    c.anew.ensures
    ∙ (λ i. drawn_anew ((c.offset.ensures.offset ∙ ap (λ h. offset_in h c.args.position) c.hand-handed.ensures.hand) i) (c.unscrolled.ensures i) c.args.at.now)
