use Rattle.std.proofs.Common.{◌≡◌, ◌≤◌, ◌∙◌, sym, ap, refl, true, arith, length}
use Rattle.rd_keys.specs.Keys.{same_key}
use Rattle.rd_tree.specs.declared.reach.Reach.TheVariants.{Nothing}
use Rattle.std.specs.Option.{option_map_or}
use Rattle.rd_tree.specs.Forest.{has, top, starting_at, at_box}
use Rattle.rd_tree.specs.Internal.Linked.{linked, marks, seen, IsConsistent}
use Rattle.rd_tree.specs.Internal.Reaching.{touch_reached, restyled, style_reach}
use Rattle.rd_tree.specs.Changes.{restyle}
use Rattle.rd_tree.specs.Internal.Blending.{given_under, count_at}
use Rattle.rd_tree.proofs.Nodes.Each.{under_box}
use Rattle.rd_tree.proofs.Nodes.Editing.{styled, touched_sound, still_has, reach_of}
use Rattle.rd_tree.specs.Internal.Renews.{whole_at, IsStale}
use Rattle.rd_tree.proofs.Tables.OneBranch.{Edited, still_touched}
use Rattle.rd_tree.proofs.Tables.Renewed.{fit_here, row_here, few_here, renews, renewed, box_edited, box_stale}
use Rattle.rd_tree.proofs.Blending.Edits.{IsOwing, each_has_count, styled_owing, styled_rows}
use Rattle.rd_tree.proofs.Tables.TreeRows.{seen_stands}
use Rattle.rd_tree.proofs.Changing.Effects.{by_that, reached-styling}
use Rattle.rd_tree.proofs.Changing.Shallow.{shallow_each}
use Rattle.rd_tree.proofs.drawn_tree.DrawnTree.restyle.Given.{Over}
use Rattle.rd_tree.proofs.drawn_tree.DrawnTree.restyle.Goals.{After-renew_up}
use Rattle.rd_tree.proofs.drawn_tree.DrawnTree.restyle.Goals as goal

pub touch-requires-clause-read : goal.touch-requires-clause-read
touch-requires-clause-read g c =
    let m : has same_key c.args.key (seen c.self.inside.nodes c.self.inside.root) ≡ true = (rw (← c.self.view_is) at c.requires.live) in
    let s1 : IsConsistent c.restyle-reach.new.self c.self.inside.root c.self.inside.ids × (seen c.restyle-reach.new.self c.self.inside.root
    ≡ at_box same_key c.args.key (restyle c.args.c.now) (seen c.self.inside.nodes c.self.inside.root)) = styled c.self.inside.nodes
    c.restyle-reach.new.self c.self.inside.root c.args.key c.self.inside.ids c.args.c.now c.self.invariant.sound (rw (← c.self.view_is)
    at c.requires.fits) c.restyle-reach.ensures.restyled in
    let m1 : has same_key c.args.key (seen c.restyle-reach.new.self c.self.inside.root) ≡ true = still_has (λ j. same_key j c.args.key)
    (restyle c.args.c.now) c.args.key (seen c.self.inside.nodes c.self.inside.root) (seen c.restyle-reach.new.self c.self.inside.root) s1.1 m in
    (under_box c.restyle-reach.new.self c.self.inside.root c.args.key s1.0.tree m1).read

pub touch-requires-clause-apart : goal.touch-requires-clause-apart
touch-requires-clause-apart g c =
    let m : has same_key c.args.key (seen c.self.inside.nodes c.self.inside.root) ≡ true = (rw (← c.self.view_is) at c.requires.live) in
    let s1 : IsConsistent c.restyle-reach.new.self c.self.inside.root c.self.inside.ids × (seen c.restyle-reach.new.self c.self.inside.root
    ≡ at_box same_key c.args.key (restyle c.args.c.now) (seen c.self.inside.nodes c.self.inside.root)) = styled c.self.inside.nodes
    c.restyle-reach.new.self c.self.inside.root c.args.key c.self.inside.ids c.args.c.now c.self.invariant.sound (rw (← c.self.view_is)
    at c.requires.fits) c.restyle-reach.ensures.restyled in
    let m1 : has same_key c.args.key (seen c.restyle-reach.new.self c.self.inside.root) ≡ true = still_has (λ j. same_key j c.args.key)
    (restyle c.args.c.now) c.args.key (seen c.self.inside.nodes c.self.inside.root) (seen c.restyle-reach.new.self c.self.inside.root) s1.1 m in
    (under_box c.restyle-reach.new.self c.self.inside.root c.args.key s1.0.tree m1).out

-- The counts are ready to be set right.
owing_here : (g : Over) (c : After-renew_up g) → IsOwing c.touch.new.nodes c.self.inside.root (seen c.touch.new.nodes c.self.inside.root)
    c.self.inside.blends.items c.parent_of-up.result c.given_at-less.result c.given_at-more.result × (length c.touch.new.nodes.slots ≤ length
    c.self.inside.blends.items)
owing_here g c =
    let m : has same_key c.args.key (seen c.self.inside.nodes c.self.inside.root) ≡ true = (rw (← c.self.view_is) at c.requires.live) in
    let s1 = styled c.self.inside.nodes c.restyle-reach.new.self c.self.inside.root c.args.key c.self.inside.ids c.args.c.now c.self.invariant.sound
    (rw (← c.self.view_is) at c.requires.fits) c.restyle-reach.ensures.restyled in
    let m1 = still_has (λ j. same_key j c.args.key) (restyle c.args.c.now) c.args.key (seen c.self.inside.nodes
    c.self.inside.root) (seen c.restyle-reach.new.self c.self.inside.root) s1.1 m in
    let s2 = touched_sound c.restyle-reach.new.self c.touch.new.nodes c.self.inside.root c.args.key c.self.inside.ids c.restyle-reach.result s1.0 m1
    c.touch.ensures in
    let slots : marks c.touch.new.nodes ≡ marks c.self.inside.nodes = c.touch.ensures.same_slots ∙ c.restyle-reach.ensures.restyled.same_slots in
    let l : c.given_at-less.result ≡ given_under (linked c.self.inside.nodes c.args.key) (count_at c.self.inside.blends.items c.args.key) =
    c.given_at-less.ensures ∙ ap (λ r. given_under (linked c.self.inside.nodes c.args.key) (count_at r c.args.key)) c.deref.ensures.value in
    let h : c.given_at-more.result ≡ given_under (linked c.restyle-reach.new.self c.args.key) (count_at c.self.inside.blends.items c.args.key) =
    c.given_at-more.ensures ∙ ap (λ r. given_under (linked c.restyle-reach.new.self c.args.key) (count_at r c.args.key)) c.deref-2.ensures.value in (
      styled_owing c.self.inside.nodes c.restyle-reach.new.self c.touch.new.nodes c.self.inside.root c.args.key c.self.inside.ids
          c.self.inside.blends.items c.args.c.now c.restyle-reach.result c.given_at-less.result c.given_at-more.result c.parent_of-up.result
          c.self.invariant.sound s2.0 c.restyle-reach.ensures.restyled s1.1 s2.1 slots m c.self.invariant.blending l h c.parent_of-up.ensures,
      styled_rows c.self.inside.nodes c.restyle-reach.new.self c.touch.new.nodes c.self.inside.root c.args.key c.self.inside.ids
          c.self.inside.blends.items c.args.c.now c.restyle-reach.result c.given_at-less.result c.given_at-more.result c.parent_of-up.result
          c.self.invariant.sound s2.0 c.restyle-reach.ensures.restyled s1.1 s2.1 slots m c.self.invariant.blending l h c.parent_of-up.ensures,
    )

pub recount-requires : goal.recount-requires
recount-requires g c = (owing_here g (goal.at.recount-requires g c).After-renew_up).0.can

pub invariant_of-self : goal.invariant_of-self
invariant_of-self g c =
    let m : has same_key c.args.key (seen c.self.inside.nodes c.self.inside.root) ≡ true = (rw (← c.self.view_is) at c.requires.live) in
    let s1 = styled c.self.inside.nodes c.restyle-reach.new.self c.self.inside.root c.args.key c.self.inside.ids c.args.c.now c.self.invariant.sound
    (rw (← c.self.view_is) at c.requires.fits) c.restyle-reach.ensures.restyled in
    let m1 = still_has (λ j. same_key j c.args.key) (restyle c.args.c.now) c.args.key (seen c.self.inside.nodes
    c.self.inside.root) (seen c.restyle-reach.new.self c.self.inside.root) s1.1 m in
    let s2 = touched_sound c.restyle-reach.new.self c.touch.new.nodes c.self.inside.root c.args.key c.self.inside.ids c.restyle-reach.result s1.0 m1
    c.touch.ensures in
    let slots : marks c.touch.new.nodes ≡ marks c.self.inside.nodes = c.touch.ensures.same_slots ∙ c.restyle-reach.ensures.restyled.same_slots in
    let e : Edited c.args.key (seen c.self.inside.nodes c.self.inside.root) (seen c.touch.new.nodes c.self.inside.root) = box_edited c.self.inside.nodes
    c.restyle-reach.new.self c.touch.new.nodes c.self.inside.root c.args.key c.self.inside.ids c.self.inside.table.rows (restyle c.args.c.now)
    c.restyle-reach.result c.stale_by-stale.result c.self.invariant.sound s2.0 s1.1 s2.1 c.self.invariant.table m in
    let o : c.whole_of-old.result ≡ whole_at c.self.inside.nodes c.self.inside.table.rows c.args.key = c.whole_of-old.ensures in
    let st : IsStale c.stale_by-stale.result c.self.inside.table.rows (seen c.touch.new.nodes c.self.inside.root) c.args.key =
    box_stale c.self.inside.nodes c.restyle-reach.new.self c.touch.new.nodes c.self.inside.root c.args.key c.self.inside.ids c.self.inside.table.rows
    (restyle c.args.c.now) c.restyle-reach.result c.stale_by-stale.result c.self.invariant.sound s2.0 s1.1 s2.1 c.self.invariant.table m
    c.stale_by-stale.ensures.branch (λ n. sym c.extent_of-before.ensures ∙ (c.stale_by-stale.ensures.nothing n ∙ c.extent_of-after.ensures)) in
    let w = owing_here g (goal.at.invariant_of-self g c).After-renew_up in
    record {
      sound = s2.0;
      blending = record {
        all_rows = omega (arith, w.1, c.recount.ensures.same_length);
        right = w.0.done c.recount.new.counts.items c.recount.ensures.right;
      };
      shallow = shallow_each (λ j. same_key j c.args.key) (restyle c.args.c.now) c.restyle-reach.result c.args.key
          (seen c.self.inside.nodes c.self.inside.root) (seen c.restyle-reach.new.self c.self.inside.root) (seen c.touch.new.nodes c.self.inside.root) s1.1
          s2.1 c.self.invariant.shallow;
      table = renewed c.self.inside.nodes c.touch.new.nodes c.self.inside.root c.args.key c.self.inside.ids c.self.inside.table.rows c.stale_by-stale.result
          c.whole_of-old.result c.self.invariant.sound s2.0 slots c.self.invariant.table m e o st c.renew_up.new.table.rows c.renew_up.ensures.right
          c.renew_up.ensures.same_length;
    }

pub returns : goal.returns
returns g c =
    let m : has same_key c.args.key (seen c.self.inside.nodes c.self.inside.root) ≡ true = (rw (← c.self.view_is) at c.requires.live) in
    let s1 : IsConsistent c.restyle-reach.new.self c.self.inside.root c.self.inside.ids × (seen c.restyle-reach.new.self c.self.inside.root
    ≡ at_box same_key c.args.key (restyle c.args.c.now) (seen c.self.inside.nodes c.self.inside.root)) = styled c.self.inside.nodes
    c.restyle-reach.new.self c.self.inside.root c.args.key c.self.inside.ids c.args.c.now c.self.invariant.sound (rw (← c.self.view_is)
    at c.requires.fits) c.restyle-reach.ensures.restyled in
    let m1 : has same_key c.args.key (seen c.restyle-reach.new.self c.self.inside.root) ≡ true = still_has (λ j. same_key j c.args.key)
    (restyle c.args.c.now) c.args.key (seen c.self.inside.nodes c.self.inside.root) (seen c.restyle-reach.new.self c.self.inside.root) s1.1 m in
    let s2 : IsConsistent c.touch.new.nodes c.self.inside.root c.self.inside.ids × (seen c.touch.new.nodes c.self.inside.root
    ≡ touch_reached c.restyle-reach.result c.args.key (seen c.restyle-reach.new.self c.self.inside.root)) = touched_sound c.restyle-reach.new.self
    c.touch.new.nodes c.self.inside.root c.args.key c.self.inside.ids c.restyle-reach.result s1.0 m1 c.touch.ensures in
    let r : c.restyle-reach.result ≡ option_map_or (λ d. style_reach d.style (same_key c.args.key c.self.inside.root) c.args.c.now) (top (starting_at
    same_key c.args.key (seen c.self.inside.nodes c.self.inside.root))) Nothing =
    reach_of c.self.inside.nodes c.self.inside.root c.args.key c.restyle-reach.result c.is-is_root.result (λ b d. style_reach d.style b c.args.c.now)
    c.self.invariant.sound.tree c.is-is_root.ensures c.restyle-reach.ensures.reach in
    let b : seen c.touch.new.nodes c.self.inside.root ≡ restyled c.self.inside.root c.args.key c.args.c.now (seen c.self.inside.nodes c.self.inside.root) =
    s2.1 ∙ (ap (touch_reached c.restyle-reach.result c.args.key) s1.1 ∙ ap (λ q. touch_reached q c.args.key (at_box same_key c.args.key
    (restyle c.args.c.now) (seen c.self.inside.nodes c.self.inside.root))) r) in
    let k : marks c.touch.new.nodes ≡ marks c.self.inside.nodes = c.touch.ensures.same_slots ∙ c.restyle-reach.ensures.restyled.same_slots in
    by_that _ _ _ (reached-styling c.args.key c.args.c.now c.args.self.now) (rw (← c.self.view_is, b, k) refl)

pub whole_of-old-requires-clause-here : goal.whole_of-old-requires-clause-here
whole_of-old-requires-clause-here g c = (row_here c.self.inside.nodes c.self.inside.root c.args.key c.self.inside.ids
    c.self.invariant.sound (rw (← c.self.view_is) at c.requires.live) c.self.inside.table.rows c.self.invariant.table)

pub whole_of-old-requires-clause-few : goal.whole_of-old-requires-clause-few
whole_of-old-requires-clause-few g c = (few_here c.self.inside.nodes c.self.inside.root c.args.key c.self.inside.ids
    c.self.invariant.sound (rw (← c.self.view_is) at c.requires.live) c.self.inside.table.rows c.self.invariant.table)

pub extent_of-before-requires : goal.extent_of-before-requires
extent_of-before-requires g c = fit_here c.self.inside.nodes c.self.inside.root c.args.key c.self.inside.ids c.self.invariant.sound (rw (← c.self.view_is)
    at c.requires.live)

pub extent_of-after-requires : goal.extent_of-after-requires
extent_of-after-requires g c =
    let m : has same_key c.args.key (seen c.self.inside.nodes c.self.inside.root) ≡ true = (rw (← c.self.view_is) at c.requires.live) in
    let s1 = styled c.self.inside.nodes c.restyle-reach.new.self c.self.inside.root c.args.key c.self.inside.ids c.args.c.now c.self.invariant.sound
    (rw (← c.self.view_is) at c.requires.fits) c.restyle-reach.ensures.restyled in
    let m1 = still_has (λ j. same_key j c.args.key) (restyle c.args.c.now) c.args.key (seen c.self.inside.nodes
    c.self.inside.root) (seen c.restyle-reach.new.self c.self.inside.root) s1.1 m in
    let s2 = touched_sound c.restyle-reach.new.self c.touch.new.nodes c.self.inside.root c.args.key c.self.inside.ids c.restyle-reach.result s1.0 m1
    c.touch.ensures in
    fit_here c.touch.new.nodes c.self.inside.root c.args.key c.self.inside.ids s2.0 (still_touched c.args.key c.restyle-reach.result
    (seen c.restyle-reach.new.self c.self.inside.root) (seen c.touch.new.nodes c.self.inside.root) s2.1 m1)

pub renew_up-requires : goal.renew_up-requires
renew_up-requires g c =
    let m : has same_key c.args.key (seen c.self.inside.nodes c.self.inside.root) ≡ true = (rw (← c.self.view_is) at c.requires.live) in
    let s1 = styled c.self.inside.nodes c.restyle-reach.new.self c.self.inside.root c.args.key c.self.inside.ids c.args.c.now c.self.invariant.sound
    (rw (← c.self.view_is) at c.requires.fits) c.restyle-reach.ensures.restyled in
    let m1 = still_has (λ j. same_key j c.args.key) (restyle c.args.c.now) c.args.key (seen c.self.inside.nodes
    c.self.inside.root) (seen c.restyle-reach.new.self c.self.inside.root) s1.1 m in
    let s2 = touched_sound c.restyle-reach.new.self c.touch.new.nodes c.self.inside.root c.args.key c.self.inside.ids c.restyle-reach.result s1.0 m1
    c.touch.ensures in
    let slots : marks c.touch.new.nodes ≡ marks c.self.inside.nodes = c.touch.ensures.same_slots ∙ c.restyle-reach.ensures.restyled.same_slots in
    let e : Edited c.args.key (seen c.self.inside.nodes c.self.inside.root) (seen c.touch.new.nodes c.self.inside.root) = box_edited c.self.inside.nodes
    c.restyle-reach.new.self c.touch.new.nodes c.self.inside.root c.args.key c.self.inside.ids c.self.inside.table.rows (restyle c.args.c.now)
    c.restyle-reach.result c.stale_by-stale.result c.self.invariant.sound s2.0 s1.1 s2.1 c.self.invariant.table m in
    let o : c.whole_of-old.result ≡ whole_at c.self.inside.nodes c.self.inside.table.rows c.args.key = c.whole_of-old.ensures in
    let st : IsStale c.stale_by-stale.result c.self.inside.table.rows (seen c.touch.new.nodes c.self.inside.root) c.args.key =
    box_stale c.self.inside.nodes c.restyle-reach.new.self c.touch.new.nodes c.self.inside.root c.args.key c.self.inside.ids c.self.inside.table.rows
    (restyle c.args.c.now) c.restyle-reach.result c.stale_by-stale.result c.self.invariant.sound s2.0 s1.1 s2.1 c.self.invariant.table m
    c.stale_by-stale.ensures.branch (λ n. sym c.extent_of-before.ensures ∙ (c.stale_by-stale.ensures.nothing n ∙ c.extent_of-after.ensures)) in
    renews c.self.inside.nodes c.touch.new.nodes c.self.inside.root c.args.key c.self.inside.ids c.self.inside.table.rows c.stale_by-stale.result
    c.whole_of-old.result c.self.invariant.sound s2.0 slots c.self.invariant.table m e o st

pub given_at-less-requires : goal.given_at-less-requires
given_at-less-requires g c =
    let m : has same_key c.args.key (seen c.self.inside.nodes c.self.inside.root) ≡ true = (rw (← c.self.view_is) at c.requires.live) in
    rw c.deref.ensures.value (each_has_count c.self.inside.nodes c.self.inside.root (seen c.self.inside.nodes c.self.inside.root)
    c.self.inside.blends.items (seen_stands c.self.inside.nodes c.self.inside.root c.self.invariant.sound.tree) c.self.invariant.blending.all_rows
    c.args.key m)

pub given_at-more-requires : goal.given_at-more-requires
given_at-more-requires g c =
    let m : has same_key c.args.key (seen c.self.inside.nodes c.self.inside.root) ≡ true = (rw (← c.self.view_is) at c.requires.live) in
    rw c.deref-2.ensures.value (each_has_count c.self.inside.nodes c.self.inside.root (seen c.self.inside.nodes c.self.inside.root)
    c.self.inside.blends.items (seen_stands c.self.inside.nodes c.self.inside.root c.self.invariant.sound.tree) c.self.invariant.blending.all_rows
    c.args.key m)
