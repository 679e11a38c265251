use Rattle.std.proofs.Common.{◌≡◌, ◌≤◌, refl, ap, ◌∙◌, sym, true, false, length, arith}
use Rattle.std.specs.Prelude.{Option, Some, None}
use Rattle.rd_keys.specs.Keys.{same_key}
use Rattle.rd_tree.specs.declared.links.walk.Work.TheVariants.{Touch}
use Rattle.rd_tree.specs.declared.reach.Reach.TheVariants.{Subtree}
use Rattle.rd_tree.specs.Document.{BoxKey, Item}
use Rattle.rd_tree.specs.Internal.Links.{Node}
use Rattle.rd_tree.specs.Internal.Works.{AllowsAt}
use Rattle.rd_tree.specs.Forest.{has, without_branch}
use Rattle.rd_tree.specs.Internal.Linked.{IsConsistent, linked, marks, seen}
use Rattle.rd_tree.specs.Internal.Blending.{IsBlending, given_under, count_at}
use Rattle.rd_tree.specs.Internal.Renews.{IsRightIn, KeepsOutside}
use Rattle.rd_tree.specs.Internal.Reaching.{moved}
use Rattle.rd_tree.proofs.Nodes.Each.{under_box, all_items}
use Rattle.rd_tree.proofs.Nodes.Moving.{relink_sound}
use Rattle.rd_tree.proofs.Tables.Above.{above_self}
use Rattle.rd_tree.proofs.Tables.TreeRows.{seen_stands}
use Rattle.rd_tree.proofs.Tables.Renewed.{row_here}
use Rattle.rd_tree.proofs.Tables.Renewing.{whole_is, few_touched}
use Rattle.rd_tree.proofs.Tables.Removed.{IsLeft, parent_above, is_parent}
use Rattle.rd_tree.proofs.Tables.Moved.{IsLanded, touched_stands, touched_limit, still_there, still_parent, still_in, still_outside, sees_moved, touched_climbs, touched_left, landed}
use Rattle.rd_tree.proofs.Tables.Keeping.{same_slots}
use Rattle.rd_tree.proofs.Nodes.Editing.{touched_sound}
use Rattle.rd_tree.proofs.Blending.Edits.{IsOwing, each_has_count, reached_blending, cut_owing, landed_owing}
use Rattle.rd_tree.proofs.Nodes.Looking.{apart_seen}
use Rattle.rd_tree.proofs.Changing.Effects.{by_that, reached-moving}
use Rattle.rd_tree.proofs.Changing.Shallow.{shallow_moved}
use Rattle.rd_tree.proofs.drawn_tree.DrawnTree.move_to.Given.{Over}
use Rattle.rd_tree.proofs.drawn_tree.DrawnTree.move_to.Goals.{After-unlink, After-lose, After-graft, After-gain}
use Rattle.rd_tree.proofs.drawn_tree.DrawnTree.move_to.Goals as goal

pub unreachable-requires : goal.unreachable-requires
unreachable-requires g c =
    let h = parent_above c.self.inside.nodes c.self.inside.root c.args.key c.self.invariant.sound.tree (rw (← c.self.view_is) at c.requires.live)
    (rw (← c.self.view_is) at c.requires.below) in
    cc (h.up_is, c.parent_of.ensures, c.in-None.is)

pub whole_of-old-requires-clause-few : goal.whole_of-old-requires-clause-few
whole_of-old-requires-clause-few g c = few_touched c.self.inside.nodes c.self.inside.root (seen c.self.inside.nodes c.self.inside.root) (seen_stands
    c.self.inside.nodes c.self.inside.root c.self.invariant.sound.tree) c.args.key (rw (← c.self.view_is) at c.requires.live) c.self.inside.table.rows
    (c.self.invariant.table.right c.args.key (rw (← c.self.view_is) at c.requires.live))
    c.self.invariant.sound.limit

pub work_below-requires-clause-read : goal.work_below-requires-clause-read
work_below-requires-clause-read g c = (under_box c.self.inside.nodes c.self.inside.root c.args.key c.self.invariant.sound.tree (rw (← c.self.view_is) at
    c.requires.live)).read

pub work_below-requires-clause-apart : goal.work_below-requires-clause-apart
work_below-requires-clause-apart g c = (under_box c.self.inside.nodes c.self.inside.root c.args.key c.self.invariant.sound.tree (rw (← c.self.view_is) at
    c.requires.live)).out

pub work_below-requires-clause-allowed : goal.work_below-requires-clause-allowed
work_below-requires-clause-allowed g c = all_items _ _ (λ d. tt)

pub renew-requires : goal.renew-requires
renew-requires g c =
    let up = is_parent c.self.inside.nodes c.self.inside.root c.args.key c.in-Some.up c.self.invariant.sound.tree (rw (← c.self.view_is) at
    c.requires.live) (rw (← c.self.view_is) at c.requires.below) (sym c.in-Some.is ∙ c.parent_of.ensures) in
    touched_climbs c.self.inside.nodes c.work_below.new.nodes c.self.inside.root c.args.key c.in-Some.up c.self.inside.ids c.self.inside.table.rows
    c.self.invariant.sound (rw (← c.self.view_is) at c.requires.live) (rw (← c.self.view_is) at c.requires.below) c.work_below.ensures
    c.self.invariant.table up

pub whole_of-new-requires-clause-few : goal.whole_of-new-requires-clause-few
whole_of-new-requires-clause-few g c =
    let up = is_parent c.self.inside.nodes c.self.inside.root c.args.key c.in-Some.up c.self.invariant.sound.tree (rw (← c.self.view_is) at
    c.requires.live) (rw (← c.self.view_is) at c.requires.below) (sym c.in-Some.is ∙ c.parent_of.ensures) in
    let stands = touched_stands c.self.inside.nodes c.work_below.new.nodes c.self.inside.root c.args.key c.in-Some.up c.self.inside.ids
    c.self.inside.table.rows c.self.invariant.sound (rw (← c.self.view_is) at c.requires.live) (rw (← c.self.view_is) at
    c.requires.below) c.work_below.ensures c.self.invariant.table up in
    let there = still_there c.self.inside.nodes c.work_below.new.nodes c.self.inside.root c.args.key c.in-Some.up c.self.inside.ids
    c.self.inside.table.rows c.self.invariant.sound (rw (← c.self.view_is) at c.requires.live) (rw (← c.self.view_is) at
    c.requires.below) c.work_below.ensures c.self.invariant.table up in
    let within : IsRightIn c.renew.new.table.rows (seen c.work_below.new.nodes c.self.inside.root) c.args.key = c.renew.ensures.right c.self.inside.root
    (seen c.work_below.new.nodes c.self.inside.root) stands there tt in
    few_touched c.work_below.new.nodes c.self.inside.root (seen c.work_below.new.nodes c.self.inside.root) stands c.args.key there c.renew.new.table.rows
    (within c.args.key (above_self c.work_below.new.nodes c.self.inside.root
    (seen c.work_below.new.nodes c.self.inside.root) stands c.args.key there)) (touched_limit c.self.inside.nodes c.work_below.new.nodes
    c.self.inside.root c.args.key c.in-Some.up c.self.inside.ids c.self.inside.table.rows c.self.invariant.sound (rw (← c.self.view_is)
    at c.requires.live) (rw (← c.self.view_is) at c.requires.below) c.work_below.ensures c.self.invariant.table up)

-- The branch has left its place.
left_here : (g : Over) (c : After-unlink g) → IsLeft c.unlink.new.nodes c.self.inside.root c.in-Some.up (without_branch same_key c.args.key (seen c.work_below.new.nodes
    c.self.inside.root)) c.renew.new.table.rows c.whole_of-old.result
left_here g c =
    let up = is_parent c.self.inside.nodes c.self.inside.root c.args.key c.in-Some.up c.self.invariant.sound.tree (rw (← c.self.view_is) at
    c.requires.live) (rw (← c.self.view_is) at c.requires.below) (sym c.in-Some.is ∙ c.parent_of.ensures) in
    let stands = touched_stands c.self.inside.nodes c.work_below.new.nodes c.self.inside.root c.args.key c.in-Some.up c.self.inside.ids
    c.self.inside.table.rows c.self.invariant.sound (rw (← c.self.view_is) at c.requires.live) (rw (← c.self.view_is) at
    c.requires.below) c.work_below.ensures c.self.invariant.table up in
    let there = still_there c.self.inside.nodes c.work_below.new.nodes c.self.inside.root c.args.key c.in-Some.up c.self.inside.ids
    c.self.inside.table.rows c.self.invariant.sound (rw (← c.self.view_is) at c.requires.live) (rw (← c.self.view_is) at
    c.requires.below) c.work_below.ensures c.self.invariant.table up in
    let within : IsRightIn c.renew.new.table.rows (seen c.work_below.new.nodes c.self.inside.root) c.args.key = c.renew.ensures.right c.self.inside.root
    (seen c.work_below.new.nodes c.self.inside.root) stands there tt in
    let outer : KeepsOutside c.work_below.new.nodes (seen c.work_below.new.nodes c.self.inside.root) c.self.inside.table.rows c.renew.new.table.rows
    c.args.key = c.renew.ensures.others c.self.inside.root (seen c.work_below.new.nodes c.self.inside.root) stands there in
    touched_left c.self.inside.nodes c.work_below.new.nodes c.self.inside.root c.args.key c.in-Some.up c.self.inside.ids c.self.inside.table.rows
    c.self.invariant.sound (rw (← c.self.view_is) at c.requires.live) (rw (← c.self.view_is) at c.requires.below) c.work_below.ensures
    c.self.invariant.table up
    c.unlink.new.nodes c.renew.new.table.rows c.unlink.ensures within outer c.renew.ensures.same_length
    c.whole_of-old.result (c.whole_of-old.ensures ∙ whole_is c.self.inside.nodes c.self.inside.root (seen c.self.inside.nodes c.self.inside.root)
    (seen_stands c.self.inside.nodes c.self.inside.root c.self.invariant.sound.tree) c.args.key (rw (← c.self.view_is) at c.requires.live)
    c.self.inside.table.rows (c.self.invariant.table.right c.args.key (rw (← c.self.view_is) at
    c.requires.live)))

pub lose-requires : goal.lose-requires
lose-requires g c = (left_here g (goal.at.lose-requires g c).After-unlink).climbs

-- The boxes once the branch is touched, and the counts above it, which are ready to be set right.
owing_there : (g : Over) (c : After-lose g) → IsConsistent c.work_below.new.nodes c.self.inside.root c.self.inside.ids × IsBlending c.work_below.new.nodes
    c.self.inside.blends.items (seen c.work_below.new.nodes c.self.inside.root) × (c.given_at-layers.result ≡ given_under (linked
    c.work_below.new.nodes c.args.key) (count_at c.self.inside.blends.items c.args.key)) × IsOwing c.unlink.new.nodes c.self.inside.root (without_branch
    same_key c.args.key (seen c.work_below.new.nodes c.self.inside.root)) c.self.inside.blends.items (Some c.in-Some.up) c.given_at-layers.result 0
owing_there g c =
    let live : has same_key c.args.key (seen c.self.inside.nodes c.self.inside.root) ≡ true = rw (← c.self.view_is) at c.requires.live in
    let below : same_key c.args.key c.self.inside.root ≡ false = rw (← c.self.view_is) at c.requires.below in
    let up = is_parent c.self.inside.nodes c.self.inside.root c.args.key c.in-Some.up c.self.invariant.sound.tree live below (sym c.in-Some.is
    ∙ c.parent_of.ensures) in
    let s1 = touched_sound c.self.inside.nodes c.work_below.new.nodes c.self.inside.root c.args.key c.self.inside.ids Subtree c.self.invariant.sound live
    c.work_below.ensures in
    let near : IsBlending c.work_below.new.nodes c.self.inside.blends.items (seen c.work_below.new.nodes c.self.inside.root) = reached_blending
    c.self.inside.nodes c.work_below.new.nodes c.self.inside.blends.items Subtree c.args.key (seen c.self.inside.nodes c.self.inside.root)
    (seen c.work_below.new.nodes c.self.inside.root) s1.1 c.work_below.ensures.same_slots c.self.invariant.blending in
    let there = still_there c.self.inside.nodes c.work_below.new.nodes c.self.inside.root c.args.key c.in-Some.up c.self.inside.ids
    c.self.inside.table.rows c.self.invariant.sound live below c.work_below.ensures c.self.invariant.table up in
    let parent = still_parent c.self.inside.nodes c.work_below.new.nodes c.self.inside.root c.args.key c.in-Some.up c.self.inside.ids
    c.self.inside.table.rows c.self.invariant.sound live below c.work_below.ensures c.self.invariant.table up in
    let e : c.given_at-layers.result ≡ given_under (linked c.work_below.new.nodes c.args.key) (count_at c.self.inside.blends.items c.args.key) =
    c.given_at-layers.ensures ∙ ap (λ r. given_under (linked c.work_below.new.nodes c.args.key) (count_at r c.args.key)) c.deref.ensures.value in (
      s1.0,
      near,
      e,
      cut_owing c.work_below.new.nodes c.unlink.new.nodes c.self.inside.root c.args.key c.in-Some.up c.self.inside.ids c.self.inside.blends.items s1.0
          there below c.unlink.ensures near parent c.given_at-layers.result e,
    )

pub recount-requires : goal.recount-requires
recount-requires g c = (owing_there g (goal.at.recount-requires g c).After-lose).3.can

pub given_at-layers-requires : goal.given_at-layers-requires
given_at-layers-requires g c =
    let live : has same_key c.args.key (seen c.self.inside.nodes c.self.inside.root) ≡ true = rw (← c.self.view_is) at c.requires.live in
    rw c.deref.ensures.value (each_has_count c.self.inside.nodes c.self.inside.root (seen c.self.inside.nodes c.self.inside.root)
    c.self.inside.blends.items (seen_stands c.self.inside.nodes c.self.inside.root c.self.invariant.sound.tree) c.self.invariant.blending.all_rows
    c.args.key live)

-- The branch has come to its new place.
landed_here : (g : Over) (c : After-graft g) → IsLeft c.unlink.new.nodes c.self.inside.root c.in-Some.up (without_branch same_key c.args.key (seen c.work_below.new.nodes
    c.self.inside.root)) c.renew.new.table.rows c.whole_of-old.result
    → (IsConsistent c.graft.new.nodes c.self.inside.root c.self.inside.ids × (seen c.graft.new.nodes c.self.inside.root
    ≡ moved c.args.key c.args.parent c.args.before (seen c.self.inside.nodes c.self.inside.root)) × (marks c.graft.new.nodes
    ≡ marks c.self.inside.nodes)) × IsLanded c.graft.new.nodes c.self.inside.root c.args.parent c.lose.new.table.rows c.whole_of-new.result
landed_here g c left =
    let up = is_parent c.self.inside.nodes c.self.inside.root c.args.key c.in-Some.up c.self.invariant.sound.tree (rw (← c.self.view_is) at
    c.requires.live) (rw (← c.self.view_is) at c.requires.below) (sym c.in-Some.is ∙ c.parent_of.ensures) in
    let stands = touched_stands c.self.inside.nodes c.work_below.new.nodes c.self.inside.root c.args.key c.in-Some.up c.self.inside.ids
    c.self.inside.table.rows c.self.invariant.sound (rw (← c.self.view_is) at c.requires.live) (rw (← c.self.view_is) at
    c.requires.below) c.work_below.ensures c.self.invariant.table up in
    let there = still_there c.self.inside.nodes c.work_below.new.nodes c.self.inside.root c.args.key c.in-Some.up c.self.inside.ids
    c.self.inside.table.rows c.self.invariant.sound (rw (← c.self.view_is) at c.requires.live) (rw (← c.self.view_is) at
    c.requires.below) c.work_below.ensures c.self.invariant.table up in
    let within : IsRightIn c.renew.new.table.rows (seen c.work_below.new.nodes c.self.inside.root) c.args.key = c.renew.ensures.right c.self.inside.root
    (seen c.work_below.new.nodes c.self.inside.root) stands there tt in
    let outer : KeepsOutside c.work_below.new.nodes (seen c.work_below.new.nodes c.self.inside.root) c.self.inside.table.rows c.renew.new.table.rows
    c.args.key = c.renew.ensures.others c.self.inside.root (seen c.work_below.new.nodes c.self.inside.root) stands there in
    let t : IsConsistent c.graft.new.nodes c.self.inside.root c.self.inside.ids × (seen c.graft.new.nodes c.self.inside.root
    ≡ moved c.args.key c.args.parent c.args.before (seen c.self.inside.nodes c.self.inside.root)) × (marks c.graft.new.nodes
    ≡ marks c.self.inside.nodes) =
    relink_sound c.self.inside.nodes c.work_below.new.nodes c.unlink.new.nodes c.set_place.new.self c.graft.new.nodes c.self.inside.root c.args.key
    c.args.parent c.args.before c.left_of-prev.result c.ends_of-ends.result c.self.inside.ids c.self.invariant.sound
    (rw (← c.self.view_is) at c.requires.live) (rw (← c.self.view_is) at c.requires.below) (rw (← c.self.view_is) at c.requires.parent)
    (rw (← c.self.view_is) at c.requires.outside) (rw (← c.self.view_is) at c.requires.place) c.requires.other
    c.work_below.ensures c.unlink.ensures c.ends_of-ends.ensures c.left_of-prev.ensures c.set_place.ensures c.graft.ensures in
    let right = c.lose.ensures.right c.self.inside.root (without_branch same_key c.args.key (seen c.work_below.new.nodes c.self.inside.root)) left.stands
    left.there left.loses in
    let others = c.lose.ensures.others c.self.inside.root (without_branch same_key c.args.key (seen c.work_below.new.nodes c.self.inside.root)) left.stands
    left.there in
    let land : IsLanded c.graft.new.nodes c.self.inside.root c.args.parent c.lose.new.table.rows c.whole_of-new.result =
    landed c.self.inside.nodes c.work_below.new.nodes c.self.inside.root c.args.key c.in-Some.up c.self.inside.ids c.self.inside.table.rows
    c.self.invariant.sound (rw (← c.self.view_is) at c.requires.live) (rw (← c.self.view_is) at c.requires.below) c.work_below.ensures
    c.self.invariant.table up
    c.unlink.new.nodes c.renew.new.table.rows c.unlink.ensures within outer c.renew.ensures.same_length
    c.args.parent c.args.before (rw (← c.self.view_is) at c.requires.parent) (rw (← c.self.view_is) at c.requires.outside) (rw (← c.self.view_is) at
    c.requires.place) c.requires.other c.graft.new.nodes c.lose.new.table.rows left.there right others c.lose.ensures.same_length t.0 t.1 t.2
    c.whole_of-new.result (c.whole_of-new.ensures ∙ whole_is c.work_below.new.nodes c.self.inside.root (seen c.work_below.new.nodes c.self.inside.root)
    stands c.args.key there c.renew.new.table.rows (within c.args.key (above_self c.work_below.new.nodes c.self.inside.root (seen c.work_below.new.nodes c.self.inside.root) stands c.args.key
    there))) in
    (t, land)

pub gain-requires : goal.gain-requires
gain-requires g c = (landed_here g (goal.at.gain-requires g c).After-graft (left_here g (goal.at.gain-requires g c).After-unlink)).1.climbs

-- The counts above the new place are ready to be set right.
owing_here : (g : Over) (c : After-gain g) → IsConsistent c.work_below.new.nodes c.self.inside.root c.self.inside.ids × IsBlending c.work_below.new.nodes
    c.self.inside.blends.items (seen c.work_below.new.nodes c.self.inside.root) × (c.given_at-layers.result ≡ given_under (linked
    c.work_below.new.nodes c.args.key) (count_at c.self.inside.blends.items c.args.key)) × IsOwing c.unlink.new.nodes c.self.inside.root (without_branch
    same_key c.args.key (seen c.work_below.new.nodes c.self.inside.root)) c.self.inside.blends.items (Some c.in-Some.up) c.given_at-layers.result 0
    → IsConsistent c.graft.new.nodes c.self.inside.root c.self.inside.ids × (seen c.graft.new.nodes c.self.inside.root
    ≡ moved c.args.key c.args.parent c.args.before (seen c.self.inside.nodes c.self.inside.root)) × (marks c.graft.new.nodes
    ≡ marks c.self.inside.nodes) → IsOwing c.graft.new.nodes c.self.inside.root (seen c.graft.new.nodes c.self.inside.root) c.recount.new.counts.items
    (Some c.args.parent) 0 c.given_at-layers.result × (length c.graft.new.nodes.slots ≤ length c.recount.new.counts.items)
owing_here g c w t =
    let live : has same_key c.args.key (seen c.self.inside.nodes c.self.inside.root) ≡ true = rw (← c.self.view_is) at c.requires.live in
    let below : same_key c.args.key c.self.inside.root ≡ false = rw (← c.self.view_is) at c.requires.below in
    let up = is_parent c.self.inside.nodes c.self.inside.root c.args.key c.in-Some.up c.self.invariant.sound.tree live below (sym c.in-Some.is
    ∙ c.parent_of.ensures) in
    let there = still_there c.self.inside.nodes c.work_below.new.nodes c.self.inside.root c.args.key c.in-Some.up c.self.inside.ids
    c.self.inside.table.rows c.self.invariant.sound live below c.work_below.ensures c.self.invariant.table up in
    let parent = still_in c.self.inside.nodes c.work_below.new.nodes c.self.inside.root c.args.key c.in-Some.up c.self.inside.ids
    c.self.inside.table.rows c.self.invariant.sound live below c.work_below.ensures c.self.invariant.table up c.args.parent (rw (← c.self.view_is) at
    c.requires.parent) in
    let outside = still_outside c.self.inside.nodes c.work_below.new.nodes c.self.inside.root c.args.key c.in-Some.up c.self.inside.ids
    c.self.inside.table.rows c.self.invariant.sound live below c.work_below.ensures c.self.invariant.table up c.args.parent (rw (← c.self.view_is) at
    c.requires.outside) in
    let sees = sees_moved c.self.inside.nodes c.work_below.new.nodes c.self.inside.root c.args.key c.in-Some.up c.self.inside.ids
    c.self.inside.table.rows c.self.invariant.sound live below c.work_below.ensures c.self.invariant.table up c.graft.new.nodes c.args.parent
    c.args.before t.1 in
    let left = w.3.done c.recount.new.counts.items c.recount.ensures.right in
    let kept = c.recount.ensures.others c.self.inside.root (without_branch same_key c.args.key (seen c.work_below.new.nodes c.self.inside.root)) w.3.stands
    w.3.there in
    let slots : length c.graft.new.nodes.slots ≡ length c.self.inside.nodes.slots = same_slots c.self.inside.nodes c.graft.new.nodes t.2 in
    let most : length c.graft.new.nodes.slots ≤ length c.recount.new.counts.items = omega (
      arith,
      slots,
      c.self.invariant.blending.all_rows,
      c.recount.ensures.same_length,
    ) in (
      landed_owing c.work_below.new.nodes c.unlink.new.nodes c.graft.new.nodes c.self.inside.root c.args.key c.args.parent c.args.before c.self.inside.ids
          c.self.inside.blends.items c.recount.new.counts.items w.0 there below c.unlink.ensures w.1.right c.given_at-layers.result w.2 parent outside left
          kept t.0 sees most,
      most,
    )

pub recount-requires-2 : goal.recount-requires-2
recount-requires-2 g c = (owing_here g (goal.at.recount-requires-2 g c).After-gain (owing_there g (goal.at.recount-requires-2 g c).After-lose) (landed_here g
    (goal.at.recount-requires-2 g c).After-graft (left_here g (goal.at.recount-requires-2 g c).After-unlink)).0).0.can

pub invariant_of-self : goal.invariant_of-self
invariant_of-self g c =
    let came = landed_here g (goal.at.invariant_of-self g c).After-graft (left_here g (goal.at.invariant_of-self g c).After-unlink) in
    let w = owing_here g (goal.at.invariant_of-self g c).After-gain (owing_there g (goal.at.invariant_of-self g c).After-lose) came.0 in
    record {
      sound = came.0.0;
      blending = record {
        all_rows = omega (arith, w.1, c.recount-2.ensures.same_length);
        right = w.0.done c.recount-2.new.counts.items c.recount-2.ensures.right;
      };
      table = came.1.table c.gain.new.table.rows c.gain.ensures.same_length (c.gain.ensures.right c.self.inside.root (seen c.graft.new.nodes
          c.self.inside.root) (seen_stands c.graft.new.nodes c.self.inside.root came.0.0.tree) came.1.there came.1.gains);
      shallow = shallow_moved c.args.key c.args.parent c.args.before (seen c.self.inside.nodes c.self.inside.root) (seen c.graft.new.nodes
          c.self.inside.root) came.0.1 (apart_seen c.self.inside.nodes c.self.inside.root c.self.invariant.sound.tree)
          (rw (← c.self.view_is) at c.requires.live) (rw (← c.self.view_is) at c.requires.parent) (rw (← c.self.view_is) at
          c.requires.outside) c.self.invariant.shallow (rw (← c.self.view_is) at c.requires.depth);
    }

pub returns : goal.returns
returns g c =
    let t : IsConsistent c.graft.new.nodes c.self.inside.root c.self.inside.ids × (seen c.graft.new.nodes c.self.inside.root
    ≡ moved c.args.key c.args.parent c.args.before (seen c.self.inside.nodes c.self.inside.root)) × (marks c.graft.new.nodes
    ≡ marks c.self.inside.nodes) =
    relink_sound c.self.inside.nodes c.work_below.new.nodes c.unlink.new.nodes c.set_place.new.self c.graft.new.nodes c.self.inside.root c.args.key
    c.args.parent c.args.before c.left_of-prev.result c.ends_of-ends.result c.self.inside.ids c.self.invariant.sound
    (rw (← c.self.view_is) at c.requires.live) (rw (← c.self.view_is) at c.requires.below) (rw (← c.self.view_is) at c.requires.parent)
    (rw (← c.self.view_is) at c.requires.outside) (rw (← c.self.view_is) at c.requires.place) c.requires.other
    c.work_below.ensures c.unlink.ensures c.ends_of-ends.ensures c.left_of-prev.ensures c.set_place.ensures c.graft.ensures in
    by_that _ _ _ (reached-moving c.args.key c.args.parent c.args.before c.args.self.now) (rw (← c.self.view_is, t.1, t.2) refl)

pub whole_of-old-requires-clause-here : goal.whole_of-old-requires-clause-here
whole_of-old-requires-clause-here g c = (row_here c.self.inside.nodes c.self.inside.root c.args.key c.self.inside.ids
    c.self.invariant.sound (rw (← c.self.view_is) at c.requires.live) c.self.inside.table.rows c.self.invariant.table)

-- Any box may be touched.
touch_allowed : (o : Option (Node BoxKey Item)) → AllowsAt Touch o
touch_allowed None = tt
touch_allowed (Some n) = tt

pub work_below-requires-clause-here : goal.work_below-requires-clause-here
work_below-requires-clause-here g c = touch_allowed (linked c.self.inside.nodes c.args.key)

pub whole_of-new-requires-clause-here : goal.whole_of-new-requires-clause-here
whole_of-new-requires-clause-here g c = rw c.renew.ensures.same_length (row_here c.self.inside.nodes c.self.inside.root c.args.key
    c.self.inside.ids c.self.invariant.sound (rw (← c.self.view_is) at c.requires.live) c.self.inside.table.rows c.self.invariant.table)
