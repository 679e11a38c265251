use Rattle.std.proofs.Common.{◌∙◌, ap, sym}
use Rattle.std.specs.Prelude.{option_map}
use Rattle.rd_keys.specs.Keys.{same_key}
use Rattle.rd_tree.specs.Forest.{item_of}
use Rattle.rd_tree.specs.Changes.{scrolling, with_scroll}
use Rattle.rd_tree.specs.Touching.{edited}
use Rattle.rd_tree.specs.Internal.Hands.{hand_at}
use Rattle.rd_tree.specs.Internal.Laid.{laid_at, passed_from}
use Rattle.rd_tree.proofs.Forests.ByKey.{has-by}
use Rattle.rd_tree.proofs.Laying.Kept.{has_hands}
use Rattle.rd_tree.proofs.Laying.Scrolls.{scrolls_can, scrolls_fits, scrolls_near, scrolls_still, scrolls_done}
use Rattle.rd_tree.proofs.tree.Tree.scroll_to.Goals as goal

pub hand-own-requires-clause-live : goal.hand-own-requires-clause-live
hand-own-requires-clause-live g c = (sym (has-by (λ k d. laid_at (hand_at c.self.inside.hands.items k) d) same_key c.args.key c.self.inside.drawn.boxes) ∙ (rw (← c.self.view_is) at c.requires.live))

pub hand-own-requires-clause-handing : goal.hand-own-requires-clause-handing
hand-own-requires-clause-handing g c = rw c.deref.ensures.value c.self.invariant

pub scroll_to-requires-clause-live : goal.scroll_to-requires-clause-live
scroll_to-requires-clause-live g c = (sym (has-by (λ k d. laid_at (hand_at c.self.inside.hands.items k) d) same_key c.args.key c.self.inside.drawn.boxes) ∙ (rw (← c.self.view_is) at c.requires.live))

pub scroll_to-requires-clause-has_rows : goal.scroll_to-requires-clause-has_rows
scroll_to-requires-clause-has_rows g c = has_hands c.self.inside.drawn c.self.inside.hands.items (record { rooted = c.known.ensures.rooted; apart = c.known.ensures.apart; keyed = c.known.ensures.keyed; shallow = c.known.ensures.depth }) c.self.invariant

pub scroll_to-requires-clause-can : goal.scroll_to-requires-clause-can
scroll_to-requires-clause-can g c = scrolls_can c.self.inside.drawn c.self.inside.hands.items (record { rooted = c.known.ensures.rooted; apart = c.known.ensures.apart; keyed = c.known.ensures.keyed; shallow = c.known.ensures.depth }) c.self.invariant c.args.key
    (sym (has-by (λ k d. laid_at (hand_at c.self.inside.hands.items k) d) same_key c.args.key c.self.inside.drawn.boxes) ∙ (rw (← c.self.view_is) at c.requires.live)) c.args.scroll c.requires.fits c.pass_scrolled-inside.result
    (c.pass_scrolled-inside.ensures
    ∙ ap (λ z. passed_from (same_key c.args.key c.self.inside.drawn.root) z (option_map (with_scroll c.args.scroll) (item_of same_key c.args.key c.self.inside.drawn.boxes)))
    (c.hand-own.ensures.hand ∙ ap (λ z. hand_at z c.args.key) c.deref.ensures.value))

pub scroll_to-requires-clause-fits : goal.scroll_to-requires-clause-fits
scroll_to-requires-clause-fits g c = scrolls_fits c.self.inside.drawn c.self.inside.hands.items (record { rooted = c.known.ensures.rooted; apart = c.known.ensures.apart; keyed = c.known.ensures.keyed; shallow = c.known.ensures.depth }) c.self.invariant c.args.key
    (sym (has-by (λ k d. laid_at (hand_at c.self.inside.hands.items k) d) same_key c.args.key c.self.inside.drawn.boxes) ∙ (rw (← c.self.view_is) at c.requires.live)) c.args.scroll c.requires.fits c.pass_scrolled-inside.result
    (c.pass_scrolled-inside.ensures
    ∙ ap (λ z. passed_from (same_key c.args.key c.self.inside.drawn.root) z (option_map (with_scroll c.args.scroll) (item_of same_key c.args.key c.self.inside.drawn.boxes)))
    (c.hand-own.ensures.hand ∙ ap (λ z. hand_at z c.args.key) c.deref.ensures.value))

pub scroll_to-requires-clause-near : goal.scroll_to-requires-clause-near
scroll_to-requires-clause-near g c = scrolls_near c.self.inside.drawn c.self.inside.hands.items (record { rooted = c.known.ensures.rooted; apart = c.known.ensures.apart; keyed = c.known.ensures.keyed; shallow = c.known.ensures.depth }) c.self.invariant c.args.key
    (sym (has-by (λ k d. laid_at (hand_at c.self.inside.hands.items k) d) same_key c.args.key c.self.inside.drawn.boxes) ∙ (rw (← c.self.view_is) at c.requires.live)) c.args.scroll c.requires.fits c.pass_scrolled-inside.result
    (c.pass_scrolled-inside.ensures
    ∙ ap (λ z. passed_from (same_key c.args.key c.self.inside.drawn.root) z (option_map (with_scroll c.args.scroll) (item_of same_key c.args.key c.self.inside.drawn.boxes)))
    (c.hand-own.ensures.hand ∙ ap (λ z. hand_at z c.args.key) c.deref.ensures.value))

pub scroll_to-requires-clause-still : goal.scroll_to-requires-clause-still
scroll_to-requires-clause-still g c = scrolls_still c.self.inside.drawn c.self.inside.hands.items (record { rooted = c.known.ensures.rooted; apart = c.known.ensures.apart; keyed = c.known.ensures.keyed; shallow = c.known.ensures.depth }) c.self.invariant c.args.key
    (sym (has-by (λ k d. laid_at (hand_at c.self.inside.hands.items k) d) same_key c.args.key c.self.inside.drawn.boxes) ∙ (rw (← c.self.view_is) at c.requires.live)) c.args.scroll c.requires.fits c.pass_scrolled-inside.result
    (c.pass_scrolled-inside.ensures
    ∙ ap (λ z. passed_from (same_key c.args.key c.self.inside.drawn.root) z (option_map (with_scroll c.args.scroll) (item_of same_key c.args.key c.self.inside.drawn.boxes)))
    (c.hand-own.ensures.hand ∙ ap (λ z. hand_at z c.args.key) c.deref.ensures.value))

pub invariant_of-self : goal.invariant_of-self
invariant_of-self g c = (scrolls_done c.self.inside.drawn c.self.inside.hands.items (record { rooted = c.known.ensures.rooted; apart = c.known.ensures.apart; keyed = c.known.ensures.keyed; shallow = c.known.ensures.depth }) c.self.invariant c.args.key
    (sym (has-by (λ k d. laid_at (hand_at c.self.inside.hands.items k) d) same_key c.args.key c.self.inside.drawn.boxes) ∙ (rw (← c.self.view_is) at c.requires.live)) c.args.scroll c.requires.fits c.pass_scrolled-inside.result
    (c.pass_scrolled-inside.ensures
    ∙ ap (λ z. passed_from (same_key c.args.key c.self.inside.drawn.root) z (option_map (with_scroll c.args.scroll) (item_of same_key c.args.key c.self.inside.drawn.boxes)))
    (c.hand-own.ensures.hand ∙ ap (λ z. hand_at z c.args.key) c.deref.ensures.value)) c.scroll_to.new.self c.scroll_to.new.rows.items c.scroll_to.ensures.drawn c.scroll_to.ensures.handed c.scroll_to.ensures.same_length (record { rooted = c.known-2.ensures.rooted; apart = c.known-2.ensures.apart; keyed = c.known-2.ensures.keyed; shallow = c.known-2.ensures.depth })).0

pub returns : goal.returns
returns g c = (scrolls_done c.self.inside.drawn c.self.inside.hands.items (record { rooted = c.known.ensures.rooted; apart = c.known.ensures.apart; keyed = c.known.ensures.keyed; shallow = c.known.ensures.depth }) c.self.invariant c.args.key
    (sym (has-by (λ k d. laid_at (hand_at c.self.inside.hands.items k) d) same_key c.args.key c.self.inside.drawn.boxes) ∙ (rw (← c.self.view_is) at c.requires.live)) c.args.scroll c.requires.fits c.pass_scrolled-inside.result
    (c.pass_scrolled-inside.ensures
    ∙ ap (λ z. passed_from (same_key c.args.key c.self.inside.drawn.root) z (option_map (with_scroll c.args.scroll) (item_of same_key c.args.key c.self.inside.drawn.boxes)))
    (c.hand-own.ensures.hand ∙ ap (λ z. hand_at z c.args.key) c.deref.ensures.value)) c.scroll_to.new.self c.scroll_to.new.rows.items c.scroll_to.ensures.drawn c.scroll_to.ensures.handed c.scroll_to.ensures.same_length (record { rooted = c.known-2.ensures.rooted; apart = c.known-2.ensures.apart; keyed = c.known-2.ensures.keyed; shallow = c.known-2.ensures.depth })).1
    ∙ ap (edited (scrolling c.args.key c.args.scroll)) c.self.view_is
