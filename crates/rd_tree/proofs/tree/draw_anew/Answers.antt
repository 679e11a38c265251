use Rattle.std.proofs.Common.{◌∙◌}
use Rattle.rd_tree.proofs.Laying.Draws.{draw_hands, draw_own, draw_scrolls}
use Rattle.rd_tree.proofs.Laying.Still.{still}
use Rattle.rd_tree.proofs.tree.draw_anew.Goals as goal

pub pass-inside-requires-clause-few : goal.pass-inside-requires-clause-few
pass-inside-requires-clause-few g c = draw_own c.args.drawn.now c.args.hands.now.items c.args.key c.args.old c.args.own (record { rooted = c.known.ensures.rooted; apart = c.known.ensures.apart; keyed = c.known.ensures.keyed; shallow = c.known.ensures.depth }) c.requires.can c.requires.live

pub pass-inside-requires-clause-scrolls : goal.pass-inside-requires-clause-scrolls
pass-inside-requires-clause-scrolls g c = draw_scrolls c.args.drawn.now c.args.hands.now.items c.args.key c.args.old c.args.own (record { rooted = c.known.ensures.rooted; apart = c.known.ensures.apart; keyed = c.known.ensures.keyed; shallow = c.known.ensures.depth }) c.requires.can c.requires.live

pub write-requires : goal.write-requires
write-requires g c = draw_hands c.args.drawn.now c.args.hands.now.items c.args.key c.args.old c.args.own (record { rooted = c.known.ensures.rooted; apart = c.known.ensures.apart; keyed = c.known.ensures.keyed; shallow = c.known.ensures.depth }) c.requires.can c.requires.live c.args.key c.requires.live

pub returns-then-stays-clause-drawn : goal.returns-then-stays-clause-drawn
returns-then-stays-clause-drawn g c = (still c.args.drawn.now c.args.hands.now.items c.write.new.rows.items c.args.key c.args.old c.args.own c.args.before (record { rooted = c.known.ensures.rooted; apart = c.known.ensures.apart; keyed = c.known.ensures.keyed; shallow = c.known.ensures.depth }) c.requires.live c.requires.below
    (c.stays.ensures.place c.if-stays.true ∙ c.own_offset-new.ensures) (c.stays.ensures.below c.if-stays.true ∙ c.pass-inside.ensures)
    c.write.ensures.rows c.write.ensures.same_length).drawn

pub returns-then-stays-clause-handed : goal.returns-then-stays-clause-handed
returns-then-stays-clause-handed g c = (still c.args.drawn.now c.args.hands.now.items c.write.new.rows.items c.args.key c.args.old c.args.own c.args.before (record { rooted = c.known.ensures.rooted; apart = c.known.ensures.apart; keyed = c.known.ensures.keyed; shallow = c.known.ensures.depth }) c.requires.live c.requires.below
    (c.stays.ensures.place c.if-stays.true ∙ c.own_offset-new.ensures) (c.stays.ensures.below c.if-stays.true ∙ c.pass-inside.ensures)
    c.write.ensures.rows c.write.ensures.same_length).handed

pub returns-then-stays-clause-same_length : goal.returns-then-stays-clause-same_length
returns-then-stays-clause-same_length g c = c.write.ensures.same_length
