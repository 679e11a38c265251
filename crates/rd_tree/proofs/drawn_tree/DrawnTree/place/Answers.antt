use Rattle.std.proofs.Common.{◌≡◌, ◌∙◌, sym, ap, refl, true}
use Rattle.rd_keys.specs.Keys.{same_key}
use Rattle.rd_tree.specs.declared.reach.Reach.TheVariants.{Nothing}
use Rattle.std.specs.Option.{option_map_or}
use Rattle.rd_tree.specs.Forest.{has, top, starting_at, at_box}
use Rattle.rd_tree.specs.Internal.Linked.{marks, seen, IsConsistent}
use Rattle.rd_tree.specs.Internal.Reaching.{touch_reached, replaced, rect_reach}
use Rattle.rd_tree.specs.Changes.{with_rect}
use Rattle.rd_tree.proofs.Nodes.Each.{under_box}
use Rattle.rd_tree.proofs.Nodes.Editing.{put, touched_sound, still_has, reach_of}
use Rattle.rd_tree.specs.Internal.Renews.{whole_at, IsStale}
use Rattle.rd_tree.proofs.Tables.OneBranch.{Edited, still_touched}
use Rattle.rd_tree.proofs.Tables.Renewed.{fit_here, row_here, few_here, renews, renewed, box_edited, box_stale}
use Rattle.rd_tree.proofs.Blending.Edits.{same_blending, reached_blending}
use Rattle.rd_tree.proofs.Changing.Effects.{by_that, edited-placing}
use Rattle.rd_tree.proofs.Changing.Shallow.{shallow_each}
use Rattle.rd_tree.proofs.drawn_tree.DrawnTree.place.Goals as goal

pub touch-requires-clause-read : goal.touch-requires-clause-read
touch-requires-clause-read g c =
    let m : has same_key c.args.key (seen c.self.inside.nodes c.self.inside.root) ≡ true = (rw (← c.self.view_is) at c.requires.live) in
    let s1 : IsConsistent c.put_rect-reach.new.self c.self.inside.root c.self.inside.ids × (seen c.put_rect-reach.new.self c.self.inside.root
    ≡ at_box same_key c.args.key (with_rect c.args.rect) (seen c.self.inside.nodes c.self.inside.root)) = put c.self.inside.nodes
    c.put_rect-reach.new.self c.self.inside.root c.args.key c.self.inside.ids c.args.rect c.self.invariant.sound c.requires.fits
    c.put_rect-reach.ensures.put in
    let m1 : has same_key c.args.key (seen c.put_rect-reach.new.self c.self.inside.root) ≡ true = still_has (λ j. same_key j c.args.key)
    (with_rect c.args.rect) c.args.key (seen c.self.inside.nodes c.self.inside.root) (seen c.put_rect-reach.new.self c.self.inside.root) s1.1 m in
    (under_box c.put_rect-reach.new.self c.self.inside.root c.args.key s1.0.tree m1).read

pub touch-requires-clause-apart : goal.touch-requires-clause-apart
touch-requires-clause-apart g c =
    let m : has same_key c.args.key (seen c.self.inside.nodes c.self.inside.root) ≡ true = (rw (← c.self.view_is) at c.requires.live) in
    let s1 : IsConsistent c.put_rect-reach.new.self c.self.inside.root c.self.inside.ids × (seen c.put_rect-reach.new.self c.self.inside.root
    ≡ at_box same_key c.args.key (with_rect c.args.rect) (seen c.self.inside.nodes c.self.inside.root)) = put c.self.inside.nodes
    c.put_rect-reach.new.self c.self.inside.root c.args.key c.self.inside.ids c.args.rect c.self.invariant.sound c.requires.fits
    c.put_rect-reach.ensures.put in
    let m1 : has same_key c.args.key (seen c.put_rect-reach.new.self c.self.inside.root) ≡ true = still_has (λ j. same_key j c.args.key)
    (with_rect c.args.rect) c.args.key (seen c.self.inside.nodes c.self.inside.root) (seen c.put_rect-reach.new.self c.self.inside.root) s1.1 m in
    (under_box c.put_rect-reach.new.self c.self.inside.root c.args.key s1.0.tree m1).out

pub invariant_of-self : goal.invariant_of-self
invariant_of-self g c =
    let m : has same_key c.args.key (seen c.self.inside.nodes c.self.inside.root) ≡ true = (rw (← c.self.view_is) at c.requires.live) in
    let s1 = put c.self.inside.nodes c.put_rect-reach.new.self c.self.inside.root c.args.key c.self.inside.ids c.args.rect c.self.invariant.sound
    c.requires.fits c.put_rect-reach.ensures.put in
    let m1 = still_has (λ j. same_key j c.args.key) (with_rect c.args.rect) c.args.key (seen c.self.inside.nodes c.self.inside.root)
    (seen c.put_rect-reach.new.self c.self.inside.root) s1.1 m in
    let s2 = touched_sound c.put_rect-reach.new.self c.touch.new.nodes c.self.inside.root c.args.key c.self.inside.ids c.put_rect-reach.result s1.0 m1
    c.touch.ensures in
    let slots : marks c.touch.new.nodes ≡ marks c.self.inside.nodes = c.touch.ensures.same_slots ∙ c.put_rect-reach.ensures.put.same_slots in
    let e : Edited c.args.key (seen c.self.inside.nodes c.self.inside.root) (seen c.touch.new.nodes c.self.inside.root) = box_edited c.self.inside.nodes
    c.put_rect-reach.new.self c.touch.new.nodes c.self.inside.root c.args.key c.self.inside.ids c.self.inside.table.rows (with_rect c.args.rect)
    c.put_rect-reach.result c.stale_by-stale.result c.self.invariant.sound s2.0 s1.1 s2.1 c.self.invariant.table m in
    let o : c.whole_of-old.result ≡ whole_at c.self.inside.nodes c.self.inside.table.rows c.args.key = c.whole_of-old.ensures in
    let st : IsStale c.stale_by-stale.result c.self.inside.table.rows (seen c.touch.new.nodes c.self.inside.root) c.args.key =
    box_stale c.self.inside.nodes c.put_rect-reach.new.self c.touch.new.nodes c.self.inside.root c.args.key c.self.inside.ids c.self.inside.table.rows
    (with_rect c.args.rect) c.put_rect-reach.result c.stale_by-stale.result c.self.invariant.sound s2.0 s1.1 s2.1 c.self.invariant.table m
    c.stale_by-stale.ensures.branch (λ n. sym c.extent_of-before.ensures ∙ (c.stale_by-stale.ensures.nothing n ∙ c.extent_of-after.ensures)) in
    let placed = same_blending c.self.inside.nodes c.put_rect-reach.new.self c.self.inside.blends.items (seen c.self.inside.nodes c.self.inside.root)
    (seen c.put_rect-reach.new.self c.self.inside.root) (λ j. same_key j c.args.key) (with_rect c.args.rect) (λ d. refl) s1.1
    c.put_rect-reach.ensures.put.same_slots c.self.invariant.blending in
    record {
      sound = s2.0;
      blending = reached_blending c.put_rect-reach.new.self c.touch.new.nodes c.self.inside.blends.items c.put_rect-reach.result c.args.key
          (seen c.put_rect-reach.new.self c.self.inside.root) (seen c.touch.new.nodes c.self.inside.root) s2.1 c.touch.ensures.same_slots placed;
      shallow = shallow_each (λ j. same_key j c.args.key) (with_rect c.args.rect) c.put_rect-reach.result c.args.key
          (seen c.self.inside.nodes c.self.inside.root) (seen c.put_rect-reach.new.self c.self.inside.root) (seen c.touch.new.nodes c.self.inside.root) s1.1
          s2.1 c.self.invariant.shallow;
      table = renewed c.self.inside.nodes c.touch.new.nodes c.self.inside.root c.args.key c.self.inside.ids c.self.inside.table.rows c.stale_by-stale.result
          c.whole_of-old.result c.self.invariant.sound s2.0 slots c.self.invariant.table m e o st c.renew_up.new.table.rows c.renew_up.ensures.right
          c.renew_up.ensures.same_length;
    }

pub returns : goal.returns
returns g c =
    let m : has same_key c.args.key (seen c.self.inside.nodes c.self.inside.root) ≡ true = (rw (← c.self.view_is) at c.requires.live) in
    let s1 : IsConsistent c.put_rect-reach.new.self c.self.inside.root c.self.inside.ids × (seen c.put_rect-reach.new.self c.self.inside.root
    ≡ at_box same_key c.args.key (with_rect c.args.rect) (seen c.self.inside.nodes c.self.inside.root)) = put c.self.inside.nodes
    c.put_rect-reach.new.self c.self.inside.root c.args.key c.self.inside.ids c.args.rect c.self.invariant.sound c.requires.fits
    c.put_rect-reach.ensures.put in
    let m1 : has same_key c.args.key (seen c.put_rect-reach.new.self c.self.inside.root) ≡ true = still_has (λ j. same_key j c.args.key)
    (with_rect c.args.rect) c.args.key (seen c.self.inside.nodes c.self.inside.root) (seen c.put_rect-reach.new.self c.self.inside.root) s1.1 m in
    let s2 : IsConsistent c.touch.new.nodes c.self.inside.root c.self.inside.ids × (seen c.touch.new.nodes c.self.inside.root
    ≡ touch_reached c.put_rect-reach.result c.args.key (seen c.put_rect-reach.new.self c.self.inside.root)) = touched_sound c.put_rect-reach.new.self
    c.touch.new.nodes c.self.inside.root c.args.key c.self.inside.ids c.put_rect-reach.result s1.0 m1 c.touch.ensures in
    let r : c.put_rect-reach.result ≡ option_map_or (λ d. rect_reach d.style (same_key c.args.key c.self.inside.root)) (top (starting_at same_key
    c.args.key (seen c.self.inside.nodes c.self.inside.root))) Nothing =
    reach_of c.self.inside.nodes c.self.inside.root c.args.key c.put_rect-reach.result c.is-is_root.result (λ b d. rect_reach d.style b)
    c.self.invariant.sound.tree c.is-is_root.ensures c.put_rect-reach.ensures.reach in
    let b : seen c.touch.new.nodes c.self.inside.root ≡ replaced c.self.inside.root c.args.key c.args.rect (seen c.self.inside.nodes c.self.inside.root) =
    s2.1 ∙ (ap (touch_reached c.put_rect-reach.result c.args.key) s1.1 ∙ ap (λ q. touch_reached q c.args.key (at_box same_key c.args.key
    (with_rect c.args.rect) (seen c.self.inside.nodes c.self.inside.root))) r) in
    let k : marks c.touch.new.nodes ≡ marks c.self.inside.nodes = c.touch.ensures.same_slots ∙ c.put_rect-reach.ensures.put.same_slots in
    by_that _ _ _ (edited-placing c.args.key c.args.rect c.args.self.now) (rw (← c.self.view_is, b, k) refl)

pub whole_of-old-requires-clause-here : goal.whole_of-old-requires-clause-here
whole_of-old-requires-clause-here g c = (row_here c.self.inside.nodes c.self.inside.root c.args.key c.self.inside.ids
    c.self.invariant.sound (rw (← c.self.view_is) at c.requires.live) c.self.inside.table.rows c.self.invariant.table)

pub whole_of-old-requires-clause-few : goal.whole_of-old-requires-clause-few
whole_of-old-requires-clause-few g c = (few_here c.self.inside.nodes c.self.inside.root c.args.key c.self.inside.ids
    c.self.invariant.sound (rw (← c.self.view_is) at c.requires.live) c.self.inside.table.rows c.self.invariant.table)

pub extent_of-before-requires : goal.extent_of-before-requires
extent_of-before-requires g c = fit_here c.self.inside.nodes c.self.inside.root c.args.key c.self.inside.ids c.self.invariant.sound (rw (← c.self.view_is)
    at c.requires.live)

pub extent_of-after-requires : goal.extent_of-after-requires
extent_of-after-requires g c =
    let m : has same_key c.args.key (seen c.self.inside.nodes c.self.inside.root) ≡ true = (rw (← c.self.view_is) at c.requires.live) in
    let s1 = put c.self.inside.nodes c.put_rect-reach.new.self c.self.inside.root c.args.key c.self.inside.ids c.args.rect c.self.invariant.sound
    c.requires.fits c.put_rect-reach.ensures.put in
    let m1 = still_has (λ j. same_key j c.args.key) (with_rect c.args.rect) c.args.key (seen c.self.inside.nodes c.self.inside.root)
    (seen c.put_rect-reach.new.self c.self.inside.root) s1.1 m in
    let s2 = touched_sound c.put_rect-reach.new.self c.touch.new.nodes c.self.inside.root c.args.key c.self.inside.ids c.put_rect-reach.result s1.0 m1
    c.touch.ensures in
    fit_here c.touch.new.nodes c.self.inside.root c.args.key c.self.inside.ids s2.0 (still_touched c.args.key c.put_rect-reach.result
    (seen c.put_rect-reach.new.self c.self.inside.root) (seen c.touch.new.nodes c.self.inside.root) s2.1 m1)

pub renew_up-requires : goal.renew_up-requires
renew_up-requires g c =
    let m : has same_key c.args.key (seen c.self.inside.nodes c.self.inside.root) ≡ true = (rw (← c.self.view_is) at c.requires.live) in
    let s1 = put c.self.inside.nodes c.put_rect-reach.new.self c.self.inside.root c.args.key c.self.inside.ids c.args.rect c.self.invariant.sound
    c.requires.fits c.put_rect-reach.ensures.put in
    let m1 = still_has (λ j. same_key j c.args.key) (with_rect c.args.rect) c.args.key (seen c.self.inside.nodes c.self.inside.root)
    (seen c.put_rect-reach.new.self c.self.inside.root) s1.1 m in
    let s2 = touched_sound c.put_rect-reach.new.self c.touch.new.nodes c.self.inside.root c.args.key c.self.inside.ids c.put_rect-reach.result s1.0 m1
    c.touch.ensures in
    let slots : marks c.touch.new.nodes ≡ marks c.self.inside.nodes = c.touch.ensures.same_slots ∙ c.put_rect-reach.ensures.put.same_slots in
    let e : Edited c.args.key (seen c.self.inside.nodes c.self.inside.root) (seen c.touch.new.nodes c.self.inside.root) = box_edited c.self.inside.nodes
    c.put_rect-reach.new.self c.touch.new.nodes c.self.inside.root c.args.key c.self.inside.ids c.self.inside.table.rows (with_rect c.args.rect)
    c.put_rect-reach.result c.stale_by-stale.result c.self.invariant.sound s2.0 s1.1 s2.1 c.self.invariant.table m in
    let o : c.whole_of-old.result ≡ whole_at c.self.inside.nodes c.self.inside.table.rows c.args.key = c.whole_of-old.ensures in
    let st : IsStale c.stale_by-stale.result c.self.inside.table.rows (seen c.touch.new.nodes c.self.inside.root) c.args.key =
    box_stale c.self.inside.nodes c.put_rect-reach.new.self c.touch.new.nodes c.self.inside.root c.args.key c.self.inside.ids c.self.inside.table.rows
    (with_rect c.args.rect) c.put_rect-reach.result c.stale_by-stale.result c.self.invariant.sound s2.0 s1.1 s2.1 c.self.invariant.table m
    c.stale_by-stale.ensures.branch (λ n. sym c.extent_of-before.ensures ∙ (c.stale_by-stale.ensures.nothing n ∙ c.extent_of-after.ensures)) in
    renews c.self.inside.nodes c.touch.new.nodes c.self.inside.root c.args.key c.self.inside.ids c.self.inside.table.rows c.stale_by-stale.result
    c.whole_of-old.result c.self.invariant.sound s2.0 slots c.self.invariant.table m e o st
