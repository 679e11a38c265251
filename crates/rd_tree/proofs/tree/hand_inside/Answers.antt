use Rattle.std.proofs.Common.{◌∙◌, ap}
use Rattle.rd_keys.specs.Keys.{same_key}
use Rattle.rd_tree.specs.Forest.{item_of}
use Rattle.rd_tree.specs.Internal.Laid.{passed_from}
use Rattle.rd_tree.proofs.Laying.Kept.{passed_within, scroll_here}
use Rattle.rd_tree.proofs.tree.hand_inside.Goals as goal

pub pass-requires-clause-scrolls : goal.pass-requires-clause-scrolls
pass-requires-clause-scrolls g c = scroll_here c.args.drawn.now c.args.hands.now (record { rooted = c.known.ensures.rooted; apart = c.known.ensures.apart; keyed = c.known.ensures.keyed; shallow = c.known.ensures.depth }) c.requires.handing c.args.key

pub returns-clause-inside : goal.returns-clause-inside
returns-clause-inside g c = c.pass.ensures ∙ ap (λ h. passed_from (same_key c.args.key c.args.drawn.now.root) h (item_of same_key c.args.key c.args.drawn.now.boxes)) c.hand-handed.ensures.hand

pub returns-clause-few : goal.returns-clause-few
returns-clause-few g c = passed_within c.args.drawn.now c.args.hands.now (record { rooted = c.known.ensures.rooted; apart = c.known.ensures.apart; keyed = c.known.ensures.keyed; shallow = c.known.ensures.depth }) c.requires.handing c.args.key c.requires.live c.pass.result
    (c.pass.ensures ∙ ap (λ h. passed_from (same_key c.args.key c.args.drawn.now.root) h (item_of same_key c.args.key c.args.drawn.now.boxes)) c.hand-handed.ensures.hand)
