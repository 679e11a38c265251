use Rattle.std.proofs.Common.{◌≡◌, ◌∙◌, ◌+◌, ◌<◌, ap, sym, subst, refl, List, [], ℕ, arith, length, get_or}
use Rattle.rd_keys.specs.declared.entry.EntryKey.{EntryKey}
use Rattle.rd_graph.specs.Internal.Patching.{lists_seen}
use Rattle.rd_graph.specs.Internal.Relisting.{AreNumbered}
use Rattle.rd_graph.specs.Internal.Seen.{seen, seen_one}
use Rattle.rd_graph.specs.Internal.Tables.{has_it}
use Rattle.rd_graph.specs.Internal.Words.{noted_by}
use Rattle.rd_graph.proofs.Patches.Numbers.{none_noted}
use Rattle.rd_graph.proofs.Patches.Late.{SoFar, so_first, so_next, so_all, notes_all}
use Rattle.rd_graph.proofs.Patches.Quiet.{met_first, met_next, next_after, next_within, so_to, stays_between}
use Rattle.rd_graph.proofs.Lists.Rising.{quiet_before}
use Rattle.rd_graph.proofs.Patches.SeenAt.{seen_at, seen_length, seen_whole}
use Rattle.rd_graph.proofs.changing.pass_all.Goals as goal

pub loop-place-init : goal.loop-place-init
loop-place-init c =
    let gone = has_it c.args.gone.now.names in
    let ns = c.args.nodes.now in
    let first = c.place_or-place.result in
    let none : lists_seen c.new-lists.result.items ≡ [] = ap (λ ls. lists_seen ls) c.new-lists.ensures.items in
    let empty = none_noted c.args.gone.now.names c.in_ok-notes.notes.items c.in_ok-notes.ensures.none in
    let e = c.place_or-place.ensures in
    record {
      after = omega (arith, e);
      size = c.in_ok-notes.ensures.len;
      met = met_first c.args.places.now c.requires.rising first (length ns) e;
      so_far = subst (λ (ls : List (ℕ × List EntryKey)). SoFar gone (seen ns) (noted_by c.args.gone.now.names c.in_ok-notes.notes.items) ls first) (sym none)
          (so_first gone (seen ns) c.requires.sound (noted_by c.args.gone.now.names c.in_ok-notes.notes.items) first
          (quiet_before ns c.args.places.now first (length ns) gone c.requires.sound.once c.requires.rising c.requires.within e c.requires.named) empty);
    }

pub next_late-place-requires-clause-from : goal.next_late-place-requires-clause-from
next_late-place-requires-clause-from c = next_after c.args.places.now c.loop-place.place c.loop-place.met (length c.args.nodes.now) _ c.loop-place.invariant.met c.loop-place-test.true c.place_or-stop.ensures

pub next_late-place-requires-clause-end : goal.next_late-place-requires-clause-end
next_late-place-requires-clause-end c = next_within c.args.places.now c.loop-place.met (length c.args.nodes.now) _ c.requires.within c.place_or-stop.ensures

pub loop-place-preserved : goal.loop-place-preserved
loop-place-preserved c =
    let gone = has_it c.args.gone.now.names in
    let ns = c.args.nodes.now in
    let ps = c.args.places.now in
    let i = c.loop-place.place in
    let n = c.index-nodes-place.result in
    let inv = c.loop-place.invariant in
    let next = c.next_late-place.ensures in
    let within = next_within ps c.loop-place.met (length ns) _ c.requires.within c.place_or-stop.ensures in
    let size = seen_length ns in
    let stop = c.place_or-stop.ensures in
    let past = next.after in
    let before = next.within in
    let after = inv.after in
    let inside : (j : ℕ) → j < length ps → get_or ps j 0 < length (seen ns) = λ j l. subst (λ (m : ℕ). get_or ps j 0 < m) (sym size) (c.requires.within j l) in
    let passed = so_next gone (seen ns) c.requires.sound i (seen_one n) (seen_at ns i n c.loop-place-test.true c.index-nodes-place.is)
    (noted_by c.args.gone.now.names c.loop-place.notes.items) (noted_by c.args.gone.now.names c.pass.new.notes.items) _ (lists_seen c.loop-place.lists.items) (lists_seen c.pass.new.lists.items) inv.so_far
    refl c.in_ok-pass.ensures.notes c.in_ok-pass.ensures.lists
    in
    record {
      after = omega (arith, after, past);
      size = c.in_ok-pass.ensures.len ∙ inv.size;
      met = met_next ps c.requires.rising i c.loop-place.met c.next_late-place.result c.advance_past-met.result (length ns) inv.met (omega (arith, past)) (omega (arith, before, stop)) c.advance_past-met.ensures;
      so_far = so_to gone (seen ns) c.requires.sound (noted_by c.args.gone.now.names c.pass.new.notes.items) (lists_seen c.pass.new.lists.items) (i + 1) c.next_late-place.result past (omega (arith, before, within, size))
          (λ k x h l m. stays_between ps c.requires.rising gone (seen ns) c.requires.sound inside c.requires.named i c.loop-place.met (length ns) inv.met k x h (omega (arith, l)) (omega (arith, m, before, stop)))
          next.quiet passed;
    }

pub returns-clause-noted : goal.returns-clause-noted
returns-clause-noted c = notes_all (has_it c.args.gone.now.names) (seen c.args.nodes.now) c.requires.sound (noted_by c.args.gone.now.names c.loop-place.notes.items) (lists_seen c.loop-place.lists.items) c.loop-place.place
    (seen_whole c.args.nodes.now c.loop-place.place c.loop-place-test.false) c.loop-place.invariant.so_far

pub returns-clause-relisted : goal.returns-clause-relisted
returns-clause-relisted c = so_all (has_it c.args.gone.now.names) (seen c.args.nodes.now) c.requires.sound _ (lists_seen c.loop-place.lists.items) c.loop-place.place
    (seen_whole c.args.nodes.now c.loop-place.place c.loop-place-test.false) c.loop-place.invariant.so_far

pub pass-requires-clause-numbered : goal.pass-requires-clause-numbered
pass-requires-clause-numbered c = subst (λ (n : ℕ). AreNumbered c.args.gone.now.names n) (sym c.loop-place.invariant.size) c.requires.numbered
