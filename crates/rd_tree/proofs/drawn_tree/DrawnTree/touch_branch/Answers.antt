use Rattle.std.proofs.Common.{◌≡◌, refl, true}
use Rattle.rd_keys.specs.Keys.{same_key}
use Rattle.rd_tree.specs.declared.reach.Reach.TheVariants.{Subtree}
use Rattle.rd_tree.specs.declared.table.renew.Stale.TheVariants.{Branch}
use Rattle.rd_tree.specs.Forest.{has, in_subtree, at_subtree}
use Rattle.rd_tree.specs.Internal.Linked.{marks, seen, IsConsistent}
use Rattle.rd_tree.specs.Internal.Renews.{whole_at}
use Rattle.rd_tree.specs.Touching.{touch}
use Rattle.rd_tree.proofs.Nodes.Each.{under_box, all_items}
use Rattle.rd_tree.proofs.Nodes.Editing.{touched_sound}
use Rattle.rd_tree.proofs.Tables.OneBranch.{Edited}
use Rattle.rd_tree.proofs.Tables.Renewed.{row_here, few_here, renews, renewed, subtree_edited}
use Rattle.rd_tree.proofs.Blending.Edits.{same_blending}
use Rattle.rd_tree.proofs.Changing.Shallow.{shallow_items}
use Rattle.rd_tree.proofs.drawn_tree.DrawnTree.touch_branch.Given.{Over}
use Rattle.rd_tree.proofs.drawn_tree.DrawnTree.touch_branch.Goals.{After-work_below}
use Rattle.rd_tree.proofs.drawn_tree.DrawnTree.touch_branch.Goals as goal

pub whole_of-old-requires-clause-here : goal.whole_of-old-requires-clause-here
whole_of-old-requires-clause-here g c = (row_here c.self.inside.nodes c.self.inside.root c.args.key c.self.inside.ids
    c.self.invariant.sound (rw (← c.self.view_is) at c.requires) c.self.inside.table.rows c.self.invariant.table)

pub whole_of-old-requires-clause-few : goal.whole_of-old-requires-clause-few
whole_of-old-requires-clause-few g c = (few_here c.self.inside.nodes c.self.inside.root c.args.key c.self.inside.ids
    c.self.invariant.sound (rw (← c.self.view_is) at c.requires) c.self.inside.table.rows c.self.invariant.table)

pub work_below-requires-clause-read : goal.work_below-requires-clause-read
work_below-requires-clause-read g c = (under_box c.self.inside.nodes c.self.inside.root c.args.key c.self.invariant.sound.tree (rw (← c.self.view_is) at
    c.requires)).read

pub work_below-requires-clause-apart : goal.work_below-requires-clause-apart
work_below-requires-clause-apart g c = (under_box c.self.inside.nodes c.self.inside.root c.args.key c.self.invariant.sound.tree (rw (← c.self.view_is) at
    c.requires)).out

pub work_below-requires-clause-allowed : goal.work_below-requires-clause-allowed
work_below-requires-clause-allowed g c = all_items _ _ (λ d. tt)

-- What the tree keeps once the boxes are touched, and what is seen.
sound_here : (g : Over) (c : After-work_below g) → IsConsistent c.work_below.new.nodes c.self.inside.root c.self.inside.ids × (seen c.work_below.new.nodes c.self.inside.root
    ≡ at_subtree same_key c.args.key touch (seen c.self.inside.nodes c.self.inside.root))
sound_here g c = touched_sound c.self.inside.nodes c.work_below.new.nodes c.self.inside.root c.args.key c.self.inside.ids Subtree c.self.invariant.sound
    (rw (← c.self.view_is) at c.requires) c.work_below.ensures

pub renew_up-requires : goal.renew_up-requires
renew_up-requires g c =
    let s = sound_here g (goal.at.renew_up-requires g c).After-work_below in
    let m : has same_key c.args.key (seen c.self.inside.nodes c.self.inside.root) ≡ true = (rw (← c.self.view_is) at c.requires) in
    let o : c.whole_of-old.result ≡ whole_at c.self.inside.nodes c.self.inside.table.rows c.args.key = c.whole_of-old.ensures in
    let e : Edited c.args.key (seen c.self.inside.nodes c.self.inside.root) (seen c.work_below.new.nodes c.self.inside.root) = subtree_edited
    c.self.inside.nodes c.work_below.new.nodes c.self.inside.root c.args.key touch s.1 in
    renews c.self.inside.nodes c.work_below.new.nodes c.self.inside.root c.args.key c.self.inside.ids c.self.inside.table.rows Branch
    c.whole_of-old.result c.self.invariant.sound s.0 c.work_below.ensures.same_slots c.self.invariant.table m e o tt

pub invariant_of-self : goal.invariant_of-self
invariant_of-self g c =
    let s = sound_here g (goal.at.invariant_of-self g c).After-work_below in
    let m : has same_key c.args.key (seen c.self.inside.nodes c.self.inside.root) ≡ true = (rw (← c.self.view_is) at c.requires) in
    let o : c.whole_of-old.result ≡ whole_at c.self.inside.nodes c.self.inside.table.rows c.args.key = c.whole_of-old.ensures in
    let e : Edited c.args.key (seen c.self.inside.nodes c.self.inside.root) (seen c.work_below.new.nodes c.self.inside.root) = subtree_edited
    c.self.inside.nodes c.work_below.new.nodes c.self.inside.root c.args.key touch s.1 in
    record {
      sound = s.0;
      blending = same_blending c.self.inside.nodes c.work_below.new.nodes c.self.inside.blends.items (seen c.self.inside.nodes c.self.inside.root)
          (seen c.work_below.new.nodes c.self.inside.root) (λ j. in_subtree same_key j c.args.key (seen c.self.inside.nodes c.self.inside.root)) touch
          (λ d. refl) s.1 c.work_below.ensures.same_slots c.self.invariant.blending;
      shallow = shallow_items (λ j. in_subtree same_key j c.args.key (seen c.self.inside.nodes c.self.inside.root)) touch
          (seen c.self.inside.nodes c.self.inside.root) (seen c.work_below.new.nodes c.self.inside.root) s.1 c.self.invariant.shallow;
      table = renewed c.self.inside.nodes c.work_below.new.nodes c.self.inside.root c.args.key c.self.inside.ids c.self.inside.table.rows
          Branch c.whole_of-old.result c.self.invariant.sound s.0 c.work_below.ensures.same_slots c.self.invariant.table m e o tt c.renew_up.new.table.rows
          c.renew_up.ensures.right c.renew_up.ensures.same_length;
    }

pub returns : goal.returns
returns g c =
    let s = sound_here g (goal.at.returns g c).After-work_below in
    let k : marks c.work_below.new.nodes ≡ marks c.self.inside.nodes = c.work_below.ensures.same_slots in
    rw (← c.self.view_is, s.1, k) refl
