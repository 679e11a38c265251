use Rattle.std.proofs.Common.{sym, subst}
use Rattle.rd_tree.specs.Internal.Handing.{IsWithin}
use Rattle.rd_tree.proofs.Laying.Kept.{has_hands, all_within}
use Rattle.rd_tree.proofs.tree.hand.Goals as goal

pub hand_of-requires : goal.hand_of-requires
hand_of-requires g c = has_hands c.args.drawn.now c.args.hands.now (record { rooted = c.known.ensures.rooted; apart = c.known.ensures.apart; keyed = c.known.ensures.keyed; shallow = c.known.ensures.depth }) c.requires.handing c.args.key c.requires.live

pub returns-clause-few : goal.returns-clause-few
returns-clause-few g c = subst (IsWithin 256) (sym c.hand_of.ensures) (all_within c.args.drawn.now c.args.hands.now (record { rooted = c.known.ensures.rooted; apart = c.known.ensures.apart; keyed = c.known.ensures.keyed; shallow = c.known.ensures.depth }) c.requires.handing c.args.key c.requires.live)
