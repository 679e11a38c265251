use Rattle.std.proofs.Common.{◌≡◌, refl, ap, ◌∙◌, sym, true, false}
use Rattle.std.specs.Prelude.{Some}
use Rattle.rd_keys.specs.Keys.{same_key}
use Rattle.rd_tree.specs.Forest.{keys, has, without_branch, branch}
use Rattle.rd_tree.specs.Document.{with_all_left}
use Rattle.rd_tree.specs.Internal.Linked.{linked, marks, seen, IsConsistent}
use Rattle.rd_tree.specs.Internal.Blending.{count_at, given_under}
use Rattle.rd_tree.proofs.Blending.Edits.{IsOwing, each_has_count, cut_owing, removed_blending}
use Rattle.rd_tree.proofs.Nodes.Removing.{ready, removed}
use Rattle.rd_tree.proofs.Tables.TreeRows.{seen_stands}
use Rattle.rd_tree.proofs.Tables.Renewed.{row_here}
use Rattle.rd_tree.proofs.Tables.Renewing.{whole_is, few_touched}
use Rattle.rd_tree.proofs.Tables.Removed.{IsLeft, parent_above, is_parent, left_by, removed_near}
use Rattle.rd_tree.proofs.Nodes.Looking.{apart_seen}
use Rattle.rd_tree.proofs.Changing.Effects.{by_that, reached-removal}
use Rattle.rd_tree.proofs.Changing.Shallow.{shallow_removed}
use Rattle.rd_tree.proofs.drawn_tree.DrawnTree.take_out.Given.{Over}
use Rattle.rd_tree.proofs.drawn_tree.DrawnTree.take_out.Goals.{After-lose}
use Rattle.rd_tree.proofs.drawn_tree.DrawnTree.take_out.Goals as goal

pub unreachable-requires : goal.unreachable-requires
unreachable-requires g c =
    let h = parent_above c.self.inside.nodes c.self.inside.root c.args.key c.self.invariant.sound.tree (rw (← c.self.view_is) at c.requires.live)
    (rw (← c.self.view_is) at c.requires.below) in
    cc (h.up_is, c.parent_of.ensures, c.in-None.is)

pub whole_of-whole-requires-clause-few : goal.whole_of-whole-requires-clause-few
whole_of-whole-requires-clause-few g c = few_touched c.self.inside.nodes c.self.inside.root (seen c.self.inside.nodes c.self.inside.root) (seen_stands
    c.self.inside.nodes c.self.inside.root c.self.invariant.sound.tree) c.args.key (rw (← c.self.view_is) at c.requires.live) c.self.inside.table.rows
    (c.self.invariant.table.right c.args.key (rw (← c.self.view_is) at c.requires.live))
    c.self.invariant.sound.limit

pub lose-requires : goal.lose-requires
lose-requires g c =
    let left : IsLeft c.unlink.new.nodes c.self.inside.root c.in-Some.parent (without_branch same_key c.args.key (seen c.self.inside.nodes
    c.self.inside.root)) c.self.inside.table.rows c.whole_of-whole.result =
    left_by c.self.inside.nodes c.unlink.new.nodes c.self.inside.root c.args.key c.in-Some.parent c.self.inside.ids c.self.inside.table.rows
    c.self.invariant.sound (rw (← c.self.view_is) at c.requires.live) (rw (← c.self.view_is) at c.requires.below) c.unlink.ensures
    c.self.invariant.table.all_rows
    (is_parent c.self.inside.nodes c.self.inside.root c.args.key c.in-Some.parent c.self.invariant.sound.tree (rw (← c.self.view_is) at c.requires.live)
    (rw (← c.self.view_is) at c.requires.below) (sym c.in-Some.is ∙ c.parent_of.ensures))
    c.self.invariant.table.right c.whole_of-whole.result (c.whole_of-whole.ensures ∙ whole_is c.self.inside.nodes c.self.inside.root
    (seen c.self.inside.nodes c.self.inside.root) (seen_stands c.self.inside.nodes c.self.inside.root c.self.invariant.sound.tree) c.args.key
    (rw (← c.self.view_is) at c.requires.live) c.self.inside.table.rows (c.self.invariant.table.right c.args.key (rw (← c.self.view_is) at c.requires.live))) in
    left.climbs

-- The counts above the branch are ready to be set right.
owing_here : (g : Over) (c : After-lose g) → IsOwing c.unlink.new.nodes c.self.inside.root (without_branch same_key c.args.key (seen c.self.inside.nodes
    c.self.inside.root)) c.self.inside.blends.items (Some c.in-Some.parent) c.given_at-layers.result 0
owing_here g c =
    let live : has same_key c.args.key (seen c.self.inside.nodes c.self.inside.root) ≡ true = rw (← c.self.view_is) at c.requires.live in
    let below : same_key c.args.key c.self.inside.root ≡ false = rw (← c.self.view_is) at c.requires.below in
    let parent = is_parent c.self.inside.nodes c.self.inside.root c.args.key c.in-Some.parent c.self.invariant.sound.tree live below (sym c.in-Some.is
    ∙ c.parent_of.ensures) in
    let e : c.given_at-layers.result ≡ given_under (linked c.self.inside.nodes c.args.key) (count_at c.self.inside.blends.items c.args.key) =
    c.given_at-layers.ensures ∙ ap (λ r. given_under (linked c.self.inside.nodes c.args.key) (count_at r c.args.key)) c.deref.ensures.value in
    cut_owing c.self.inside.nodes c.unlink.new.nodes c.self.inside.root c.args.key c.in-Some.parent c.self.inside.ids c.self.inside.blends.items
    c.self.invariant.sound live below c.unlink.ensures c.self.invariant.blending parent c.given_at-layers.result e

pub recount-requires : goal.recount-requires
recount-requires g c = (owing_here g (goal.at.recount-requires g c).After-lose).can

pub given_at-layers-requires : goal.given_at-layers-requires
given_at-layers-requires g c =
    let live : has same_key c.args.key (seen c.self.inside.nodes c.self.inside.root) ≡ true = rw (← c.self.view_is) at c.requires.live in
    rw c.deref.ensures.value (each_has_count c.self.inside.nodes c.self.inside.root (seen c.self.inside.nodes c.self.inside.root)
    c.self.inside.blends.items (seen_stands c.self.inside.nodes c.self.inside.root c.self.invariant.sound.tree) c.self.invariant.blending.all_rows
    c.args.key live)

pub free_branch-requires-clause-read : goal.free_branch-requires-clause-read
free_branch-requires-clause-read g c = (ready c.self.inside.nodes c.unlink.new.nodes c.self.inside.root c.args.key c.self.invariant.sound.tree
    (rw (← c.self.view_is) at c.requires.live) (rw (← c.self.view_is) at c.requires.below) c.unlink.ensures).read

pub free_branch-requires-clause-apart : goal.free_branch-requires-clause-apart
free_branch-requires-clause-apart g c = (ready c.self.inside.nodes c.unlink.new.nodes c.self.inside.root c.args.key c.self.invariant.sound.tree
    (rw (← c.self.view_is) at c.requires.live) (rw (← c.self.view_is) at c.requires.below) c.unlink.ensures).out

pub invariant_of-self : goal.invariant_of-self
invariant_of-self g c =
    let t : IsConsistent c.free_branch.new.nodes c.self.inside.root c.free_branch.new.ids × (seen c.free_branch.new.nodes c.self.inside.root
    ≡ without_branch same_key c.args.key (seen c.self.inside.nodes c.self.inside.root)) × (marks c.free_branch.new.nodes ≡ with_all_left
    (marks c.self.inside.nodes) (keys (branch same_key c.args.key (seen c.self.inside.nodes c.self.inside.root)))) =
    removed c.self.inside.nodes c.unlink.new.nodes c.free_branch.new.nodes c.self.inside.root c.args.key c.self.inside.ids c.free_branch.new.ids
    c.self.invariant.sound (rw (← c.self.view_is) at c.requires.live) (rw (← c.self.view_is) at c.requires.below) c.unlink.ensures
    c.free_branch.ensures.freed c.free_branch.ensures.dropped in
    let left : IsLeft c.unlink.new.nodes c.self.inside.root c.in-Some.parent (without_branch same_key c.args.key (seen c.self.inside.nodes
    c.self.inside.root)) c.self.inside.table.rows c.whole_of-whole.result =
    left_by c.self.inside.nodes c.unlink.new.nodes c.self.inside.root c.args.key c.in-Some.parent c.self.inside.ids c.self.inside.table.rows
    c.self.invariant.sound (rw (← c.self.view_is) at c.requires.live) (rw (← c.self.view_is) at c.requires.below) c.unlink.ensures
    c.self.invariant.table.all_rows
    (is_parent c.self.inside.nodes c.self.inside.root c.args.key c.in-Some.parent c.self.invariant.sound.tree (rw (← c.self.view_is) at c.requires.live)
    (rw (← c.self.view_is) at c.requires.below) (sym c.in-Some.is ∙ c.parent_of.ensures))
    c.self.invariant.table.right c.whole_of-whole.result (c.whole_of-whole.ensures ∙ whole_is c.self.inside.nodes c.self.inside.root
    (seen c.self.inside.nodes c.self.inside.root) (seen_stands c.self.inside.nodes c.self.inside.root c.self.invariant.sound.tree) c.args.key
    (rw (← c.self.view_is) at c.requires.live) c.self.inside.table.rows (c.self.invariant.table.right c.args.key (rw (← c.self.view_is) at c.requires.live))) in
    record {
      sound = t.0;
      table = removed_near c.self.inside.nodes c.free_branch.new.nodes c.self.inside.root (without_branch same_key c.args.key (seen c.self.inside.nodes
          c.self.inside.root)) (keys (branch same_key c.args.key (seen c.self.inside.nodes c.self.inside.root))) c.self.inside.table.rows
          c.lose.new.table.rows c.self.invariant.table.all_rows c.lose.ensures.same_length t.1 t.2
          (c.lose.ensures.right c.self.inside.root (without_branch same_key c.args.key (seen c.self.inside.nodes c.self.inside.root)) left.stands
          left.there left.loses);
      blending = removed_blending c.self.inside.nodes c.free_branch.new.nodes c.self.inside.root (without_branch same_key c.args.key (seen c.self.inside.nodes
          c.self.inside.root)) (keys (branch same_key c.args.key (seen c.self.inside.nodes c.self.inside.root))) c.self.inside.blends.items
          c.recount.new.counts.items c.self.invariant.blending.all_rows c.recount.ensures.same_length t.1 t.2
          ((owing_here g (goal.at.invariant_of-self g c).After-lose).done c.recount.new.counts.items c.recount.ensures.right);
      shallow = shallow_removed c.args.key (seen c.self.inside.nodes c.self.inside.root) (seen c.free_branch.new.nodes c.self.inside.root) t.1
          c.self.invariant.shallow;
    }

pub returns : goal.returns
returns g c =
    let t : IsConsistent c.free_branch.new.nodes c.self.inside.root c.free_branch.new.ids × (seen c.free_branch.new.nodes c.self.inside.root
    ≡ without_branch same_key c.args.key (seen c.self.inside.nodes c.self.inside.root)) × (marks c.free_branch.new.nodes ≡ with_all_left
    (marks c.self.inside.nodes) (keys (branch same_key c.args.key (seen c.self.inside.nodes c.self.inside.root)))) =
    removed c.self.inside.nodes c.unlink.new.nodes c.free_branch.new.nodes c.self.inside.root c.args.key c.self.inside.ids c.free_branch.new.ids
    c.self.invariant.sound (rw (← c.self.view_is) at c.requires.live) (rw (← c.self.view_is) at c.requires.below) c.unlink.ensures
    c.free_branch.ensures.freed c.free_branch.ensures.dropped in
    by_that _ _ _ (reached-removal c.args.key c.args.self.now (rw (← c.self.view_is) (apart_seen c.self.inside.nodes c.self.inside.root
    c.self.invariant.sound.tree))) (rw (← c.self.view_is, t.1, t.2) refl)

pub whole_of-whole-requires-clause-here : goal.whole_of-whole-requires-clause-here
whole_of-whole-requires-clause-here g c = (row_here c.self.inside.nodes c.self.inside.root c.args.key c.self.inside.ids
    c.self.invariant.sound (rw (← c.self.view_is) at c.requires.live) c.self.inside.table.rows c.self.invariant.table)
