use Rattle.std.proofs.Common.{◌≡◌, ◌∙◌, ◌||◌, refl, true, sym, subst, ap, to_z, of_z, w32}
use Rattle.std.proofs.lemmas.Int.{to_z-of_z}
use Rattle.rd_keys.specs.Keys.{same_key}
use Rattle.rd_tree.specs.declared.links.walk.Work.TheVariants.{Shift}
use Rattle.rd_tree.specs.Forest.{has, in_subtree, at_subtree, AllItems}
use Rattle.rd_tree.specs.Internal.Links.{on_each, child_and_sibling}
use Rattle.rd_tree.specs.Internal.Linked.{Relinks, linked, seen, seen_from, marks, IsConsistent}
use Rattle.rd_tree.specs.Internal.Works.{move_by, done, Allows}
use Rattle.rd_tree.specs.Internal.Works.{AllowsAt}
use Rattle.rd_tree.proofs.Nodes.Each.{under_box}
use Rattle.rd_tree.proofs.Nodes.Editing.{shift_sound, shift_allowed}
use Rattle.rd_tree.specs.declared.table.renew.Stale.TheVariants.{Branch}
use Rattle.rd_tree.specs.Internal.Renews.{whole_at}
use Rattle.rd_tree.proofs.Tables.OneBranch.{Edited}
use Rattle.rd_tree.proofs.Tables.Renewed.{row_here, few_here, renews, renewed, subtree_edited}
use Rattle.rd_tree.proofs.Blending.Edits.{same_blending}
use Rattle.rd_tree.proofs.Changing.Effects.{by_that, edited-shifting}
use Rattle.rd_tree.proofs.Changing.Shallow.{shallow_items}
use Rattle.rd_tree.proofs.drawn_tree.DrawnTree.shift.Goals as goal

pub work_below-requires-clause-here : goal.work_below-requires-clause-here
work_below-requires-clause-here g c =
    let x : to_z w32 (of_z w32 c.args.dx) ≡ c.args.dx = to_z-of_z w32 c.args.dx c.ranges.dx in
    let y : to_z w32 (of_z w32 c.args.dy) ≡ c.args.dy = to_z-of_z w32 c.args.dy c.ranges.dy in
    let w : c.shift-work.result ≡ Shift c.args.dx c.args.dy = c.shift-work.ensures ∙ (ap (λ z. Shift z (to_z w32 (of_z w32 c.args.dy))) x
    ∙ ap (λ z. Shift c.args.dx z) y) in
    subst (λ q. AllowsAt q (linked c.self.inside.nodes c.args.key)) (sym w) (shift_allowed c.self.inside.nodes c.self.inside.root c.args.key c.args.dx
    c.args.dy c.self.invariant.sound.tree (rw (← c.self.view_is) at c.requires.live) (rw (← c.self.view_is) at c.requires.near)).0

pub work_below-requires-clause-read : goal.work_below-requires-clause-read
work_below-requires-clause-read g c = (under_box c.self.inside.nodes c.self.inside.root c.args.key c.self.invariant.sound.tree (rw (← c.self.view_is) at
    c.requires.live)).read

pub work_below-requires-clause-apart : goal.work_below-requires-clause-apart
work_below-requires-clause-apart g c = (under_box c.self.inside.nodes c.self.inside.root c.args.key c.self.invariant.sound.tree (rw (← c.self.view_is) at
    c.requires.live)).out

pub work_below-requires-clause-allowed : goal.work_below-requires-clause-allowed
work_below-requires-clause-allowed g c =
    let x : to_z w32 (of_z w32 c.args.dx) ≡ c.args.dx = to_z-of_z w32 c.args.dx c.ranges.dx in
    let y : to_z w32 (of_z w32 c.args.dy) ≡ c.args.dy = to_z-of_z w32 c.args.dy c.ranges.dy in
    let w : c.shift-work.result ≡ Shift c.args.dx c.args.dy = c.shift-work.ensures ∙ (ap (λ z. Shift z (to_z w32 (of_z w32 c.args.dy))) x
    ∙ ap (λ z. Shift c.args.dx z) y) in
    subst (λ q. AllItems (Allows q) (seen_from c.self.inside.nodes (child_and_sibling (linked c.self.inside.nodes c.args.key)).0)) (sym w) (shift_allowed
    c.self.inside.nodes c.self.inside.root c.args.key c.args.dx c.args.dy c.self.invariant.sound.tree (rw (← c.self.view_is) at c.requires.live)
    (rw (← c.self.view_is) at c.requires.near)).1

pub invariant_of-self : goal.invariant_of-self
invariant_of-self g c =
    let x : to_z w32 (of_z w32 c.args.dx) ≡ c.args.dx = to_z-of_z w32 c.args.dx c.ranges.dx in
    let y : to_z w32 (of_z w32 c.args.dy) ≡ c.args.dy = to_z-of_z w32 c.args.dy c.ranges.dy in
    let w : c.shift-work.result ≡ Shift c.args.dx c.args.dy = c.shift-work.ensures ∙ (ap (λ z. Shift z (to_z w32 (of_z w32 c.args.dy))) x
    ∙ ap (λ z. Shift c.args.dx z) y) in
    let r : Relinks c.self.inside.nodes c.work_below.new.nodes (on_each (λ j. same_key j c.args.key || has same_key j (seen_from c.self.inside.nodes
    (child_and_sibling (linked c.self.inside.nodes c.args.key)).0)) (move_by c.args.dx c.args.dy) (linked c.self.inside.nodes)) =
    subst (λ q. Relinks c.self.inside.nodes c.work_below.new.nodes (on_each (λ j. same_key j c.args.key || has same_key j (seen_from c.self.inside.nodes
    (child_and_sibling (linked c.self.inside.nodes c.args.key)).0)) (done q) (linked c.self.inside.nodes))) w c.work_below.ensures in
    let m : has same_key c.args.key (seen c.self.inside.nodes c.self.inside.root) ≡ true = (rw (← c.self.view_is) at c.requires.live) in
    let s = shift_sound c.self.inside.nodes c.work_below.new.nodes c.self.inside.root c.args.key c.self.inside.ids c.args.dx c.args.dy
    c.self.invariant.sound m (rw (← c.self.view_is) at c.requires.near) r in
    let o : c.whole_of-old.result ≡ whole_at c.self.inside.nodes c.self.inside.table.rows c.args.key = c.whole_of-old.ensures in
    let e : Edited c.args.key (seen c.self.inside.nodes c.self.inside.root) (seen c.work_below.new.nodes c.self.inside.root) = subtree_edited
    c.self.inside.nodes c.work_below.new.nodes c.self.inside.root c.args.key (move_by c.args.dx c.args.dy) s.1 in
    record {
      sound = s.0;
      blending = same_blending c.self.inside.nodes c.work_below.new.nodes c.self.inside.blends.items (seen c.self.inside.nodes c.self.inside.root)
          (seen c.work_below.new.nodes c.self.inside.root) (λ j. in_subtree same_key j c.args.key (seen c.self.inside.nodes c.self.inside.root))
          (move_by c.args.dx c.args.dy) (λ d. refl) s.1 c.work_below.ensures.same_slots c.self.invariant.blending;
      shallow = shallow_items (λ j. in_subtree same_key j c.args.key (seen c.self.inside.nodes c.self.inside.root)) (move_by c.args.dx
          c.args.dy) (seen c.self.inside.nodes c.self.inside.root) (seen c.work_below.new.nodes c.self.inside.root) s.1 c.self.invariant.shallow;
      table = renewed c.self.inside.nodes c.work_below.new.nodes c.self.inside.root c.args.key c.self.inside.ids c.self.inside.table.rows
          Branch c.whole_of-old.result c.self.invariant.sound s.0 c.work_below.ensures.same_slots c.self.invariant.table m e o tt c.renew_up.new.table.rows
          c.renew_up.ensures.right c.renew_up.ensures.same_length;
    }

pub returns : goal.returns
returns g c =
    let x : to_z w32 (of_z w32 c.args.dx) ≡ c.args.dx = to_z-of_z w32 c.args.dx c.ranges.dx in
    let y : to_z w32 (of_z w32 c.args.dy) ≡ c.args.dy = to_z-of_z w32 c.args.dy c.ranges.dy in
    let w : c.shift-work.result ≡ Shift c.args.dx c.args.dy = c.shift-work.ensures ∙ (ap (λ z. Shift z (to_z w32 (of_z w32 c.args.dy))) x
    ∙ ap (λ z. Shift c.args.dx z) y) in
    let r : Relinks c.self.inside.nodes c.work_below.new.nodes (on_each (λ j. same_key j c.args.key || has same_key j (seen_from c.self.inside.nodes
    (child_and_sibling (linked c.self.inside.nodes c.args.key)).0)) (move_by c.args.dx c.args.dy) (linked c.self.inside.nodes)) =
    subst (λ q. Relinks c.self.inside.nodes c.work_below.new.nodes (on_each (λ j. same_key j c.args.key || has same_key j (seen_from c.self.inside.nodes
    (child_and_sibling (linked c.self.inside.nodes c.args.key)).0)) (done q) (linked c.self.inside.nodes))) w c.work_below.ensures in
    let s : IsConsistent c.work_below.new.nodes c.self.inside.root c.self.inside.ids × (seen c.work_below.new.nodes c.self.inside.root
    ≡ at_subtree same_key c.args.key (move_by c.args.dx c.args.dy) (seen c.self.inside.nodes c.self.inside.root)) =
    shift_sound c.self.inside.nodes c.work_below.new.nodes c.self.inside.root c.args.key c.self.inside.ids c.args.dx c.args.dy c.self.invariant.sound
    (rw (← c.self.view_is) at c.requires.live) (rw (← c.self.view_is) at c.requires.near) r in
    let k : marks c.work_below.new.nodes ≡ marks c.self.inside.nodes = c.work_below.ensures.same_slots in
    by_that _ _ _ (edited-shifting c.args.key c.args.dx c.args.dy c.args.self.now) (rw (← c.self.view_is, s.1, k) refl)

pub whole_of-old-requires-clause-here : goal.whole_of-old-requires-clause-here
whole_of-old-requires-clause-here g c = (row_here c.self.inside.nodes c.self.inside.root c.args.key c.self.inside.ids
    c.self.invariant.sound (rw (← c.self.view_is) at c.requires.live) c.self.inside.table.rows c.self.invariant.table)

pub whole_of-old-requires-clause-few : goal.whole_of-old-requires-clause-few
whole_of-old-requires-clause-few g c = (few_here c.self.inside.nodes c.self.inside.root c.args.key c.self.inside.ids
    c.self.invariant.sound (rw (← c.self.view_is) at c.requires.live) c.self.inside.table.rows c.self.invariant.table)

pub renew_up-requires : goal.renew_up-requires
renew_up-requires g c =
    let x : to_z w32 (of_z w32 c.args.dx) ≡ c.args.dx = to_z-of_z w32 c.args.dx c.ranges.dx in
    let y : to_z w32 (of_z w32 c.args.dy) ≡ c.args.dy = to_z-of_z w32 c.args.dy c.ranges.dy in
    let w : c.shift-work.result ≡ Shift c.args.dx c.args.dy = c.shift-work.ensures ∙ (ap (λ z. Shift z (to_z w32 (of_z w32 c.args.dy))) x
    ∙ ap (λ z. Shift c.args.dx z) y) in
    let r : Relinks c.self.inside.nodes c.work_below.new.nodes (on_each (λ j. same_key j c.args.key || has same_key j (seen_from c.self.inside.nodes
    (child_and_sibling (linked c.self.inside.nodes c.args.key)).0)) (move_by c.args.dx c.args.dy) (linked c.self.inside.nodes)) =
    subst (λ q. Relinks c.self.inside.nodes c.work_below.new.nodes (on_each (λ j. same_key j c.args.key || has same_key j (seen_from c.self.inside.nodes
    (child_and_sibling (linked c.self.inside.nodes c.args.key)).0)) (done q) (linked c.self.inside.nodes))) w c.work_below.ensures in
    let m : has same_key c.args.key (seen c.self.inside.nodes c.self.inside.root) ≡ true = (rw (← c.self.view_is) at c.requires.live) in
    let s = shift_sound c.self.inside.nodes c.work_below.new.nodes c.self.inside.root c.args.key c.self.inside.ids c.args.dx c.args.dy
    c.self.invariant.sound m (rw (← c.self.view_is) at c.requires.near) r in
    let o : c.whole_of-old.result ≡ whole_at c.self.inside.nodes c.self.inside.table.rows c.args.key = c.whole_of-old.ensures in
    let e : Edited c.args.key (seen c.self.inside.nodes c.self.inside.root) (seen c.work_below.new.nodes c.self.inside.root) = subtree_edited
    c.self.inside.nodes c.work_below.new.nodes c.self.inside.root c.args.key (move_by c.args.dx c.args.dy) s.1 in
    renews c.self.inside.nodes c.work_below.new.nodes c.self.inside.root c.args.key c.self.inside.ids c.self.inside.table.rows Branch
    c.whole_of-old.result c.self.invariant.sound s.0 c.work_below.ensures.same_slots c.self.invariant.table m e o tt
