use Rattle.std.proofs.Common.{ℕ, List, inl, inr, ◌≡◌, ◌≤◌, ◌<◌, false, refl, ap, sym, subst, ◌∙◌, arith, length}
use Rattle.std.specs.Prelude.{Some, String}
use Rattle.std.specs.HashMap.{HashMap}
use Rattle.rd_tree.specs.declared.node.Node as inner
use Rattle.rd_tree.specs.declared.table.row.Summary.{Summary}
use Rattle.std.proofs.lemmas.Bool.{cases_lt}
use Rattle.rd_tree.specs.Internal.Linked.{seen}
use Rattle.rd_tree.specs.Internal.Keeping.{IsKept}
use Rattle.rd_tree.specs.Internal.Rows.{IsTabled, Puts, alone, touched_box}
use Rattle.rd_tree.specs.Internal.Blending.{IsBlending}
use Rattle.rd_tree.proofs.Blending.Edits.{IsOwing, child_owing}
use Rattle.rd_tree.proofs.Tables.Keeping.{same_slots, rows_enter}
use Rattle.rd_tree.proofs.Tables.Grown.{insert_climbs, insert_near}
use Rattle.rd_tree.specs.Document.{BoxKey, with_taken, contains}
use Rattle.rd_keys.specs.Arena.{Arena, occupied}
use Rattle.rd_tree.specs.Changes.{new_item}
use Rattle.rd_tree.specs.Touching.{touch}
use Rattle.rd_tree.proofs.Changing.Effects.{by_that, reached-insertion}
use Rattle.rd_tree.proofs.Changing.Shallow.{shallow_child}
use Rattle.rd_tree.proofs.Nodes.Looking.{apart_seen}
use Rattle.rd_tree.specs.Internal.Linked.{IsConsistent, marks}
use Rattle.rd_tree.proofs.Nodes.Marks.{taken-marks, is_next}
use Rattle.rd_tree.proofs.Nodes.Grow.{GrownTree}
use Rattle.rd_tree.proofs.Nodes.Adding.{grown_so, same_entries}
use Rattle.rd_tree.proofs.drawn_tree.DrawnTree.put_in.Given.{Over}
use Rattle.rd_tree.proofs.drawn_tree.DrawnTree.put_in.Goals.{After-graft, After-put_count}
use Rattle.rd_tree.proofs.drawn_tree.DrawnTree.put_in.Goals as goal

pub invariant_of-self-in_err-key : goal.invariant_of-self-in_err-key
invariant_of-self-in_err-key g c = record {
  sound = rw c.in_err-key.ensures.kept (same_entries c.self.inside.nodes c.self.inside.root c.self.inside.ids c.add.new.ids c.in_err-key.ensures.same_ids
      c.self.invariant.sound);
  table = subst (λ a. IsTabled a c.reserve.new.self.rows (seen a c.self.inside.root)) (sym c.in_err-key.ensures.kept)
      (subst (λ r. IsTabled c.self.inside.nodes r (seen c.self.inside.nodes c.self.inside.root)) (sym c.reserve.ensures.rows) c.self.invariant.table);
  blending = subst (λ a. IsBlending a c.reserve-2.new.self.items (seen a c.self.inside.root)) (sym c.in_err-key.ensures.kept)
      (subst (λ r. IsBlending c.self.inside.nodes r (seen c.self.inside.nodes c.self.inside.root)) (sym c.reserve-2.ensures.items) c.self.invariant.blending);
  shallow = rw c.in_err-key.ensures.kept c.self.invariant.shallow;
}

-- The box has come in, and the index has its id.
grown_here : (g : Over) (c : After-graft g) → IsConsistent c.graft.new.nodes c.self.inside.root c.add.new.ids × GrownTree c.self.inside.nodes c.graft.new.nodes c.self.inside.root
    c.args.parent c.in_ok-key.key c.args.before (touch (new_item c.args.id.now c.args.rect c.args.style))
    × (marks c.graft.new.nodes ≡ with_taken (marks c.self.inside.nodes) c.in_ok-key.key)
grown_here g c =
    grown_so c.self.inside.nodes c.add.new.nodes c.graft.new.nodes c.self.inside.root c.args.parent c.in_ok-key.key c.args.before (touch
    (new_item c.args.id.now c.args.rect c.args.style)) c.self.inside.ids c.add.new.ids c.in_ok-id.id
    c.left_of-prev.result c.ends_of-ends.result
    c.self.invariant.sound (rw (← c.self.view_is, taken-marks) at c.requires.room) (rw (← c.self.view_is) at c.requires.parent) (rw (← c.self.view_is) at
    c.requires.place) (rw (← c.self.view_is) at c.requires.new_id) c.requires.rect c.requires.style
    c.in_ok-id.ensures c.left_of-prev.ensures c.ends_of-ends.ensures c.in_ok-key.ensures.stored c.in_ok-key.ensures.listed c.graft.ensures

-- The counts above the new box are ready to be set right.
owing_here : (g : Over) (c : After-put_count g) → IsConsistent c.graft.new.nodes c.self.inside.root c.add.new.ids × GrownTree c.self.inside.nodes
    c.graft.new.nodes c.self.inside.root c.args.parent c.in_ok-key.key c.args.before (touch (new_item c.args.id.now c.args.rect c.args.style))
    × (marks c.graft.new.nodes ≡ with_taken (marks c.self.inside.nodes) c.in_ok-key.key) → IsOwing c.graft.new.nodes c.self.inside.root (seen c.graft.new.nodes c.self.inside.root)
    c.put_count.new.counts.items (Some c.args.parent) 0 c.given-layers.result × (length c.graft.new.nodes.slots ≤ length c.put_count.new.counts.items)
owing_here g c t =
    let near : IsBlending c.self.inside.nodes c.reserve-2.new.self.items (seen c.self.inside.nodes c.self.inside.root) = subst (λ r. IsBlending
    c.self.inside.nodes r (seen c.self.inside.nodes c.self.inside.root)) (sym c.reserve-2.ensures.items) c.self.invariant.blending in
    let slots : length c.graft.new.nodes.slots ≡ length c.add.new.nodes.slots = same_slots c.add.new.nodes c.graft.new.nodes c.graft.ensures.same_slots in
    let enough : length c.add.new.nodes.slots ≤ length c.put_count.new.counts.items = rows_enter c.self.inside.nodes c.add.new.nodes c.in_ok-key.key.slot
    c.in_ok-key.key.generation (length c.put_count.new.counts.items) _ c.in_ok-key.ensures.stored (omega (arith, near.all_rows, c.put_count.ensures.longer))
    c.put_count.ensures.there in
    let most : length c.graft.new.nodes.slots ≤ length c.put_count.new.counts.items = omega (arith, slots, enough) in (
      child_owing c.self.inside.nodes c.graft.new.nodes c.self.inside.root c.args.parent c.in_ok-key.key c.args.before
          (touch (new_item c.args.id.now c.args.rect c.args.style)) c.add.new.ids c.reserve-2.new.self.items c.put_count.new.counts.items
          c.self.invariant.sound.tree t.0 t.1 (rw (← c.self.view_is) at c.requires.parent) (rw (← c.self.view_is) at c.requires.place) near most
          c.put_count.ensures.rows c.given-layers.result c.given-layers.ensures,
      most,
    )

pub recount-requires : goal.recount-requires
recount-requires g c = (owing_here g (goal.at.recount-requires g c).After-put_count (grown_here g (goal.at.recount-requires g c).After-graft)).0.can

pub gain-requires : goal.gain-requires
gain-requires g c =
    let t = grown_here g (goal.at.gain-requires g c).After-graft in
    let table : IsTabled c.self.inside.nodes c.reserve.new.self.rows (seen c.self.inside.nodes c.self.inside.root) = subst (λ r. IsTabled
    c.self.inside.nodes r (seen c.self.inside.nodes c.self.inside.root)) (sym c.reserve.ensures.rows) c.self.invariant.table in
    let slots : length c.graft.new.nodes.slots ≡ length c.add.new.nodes.slots = same_slots c.add.new.nodes c.graft.new.nodes c.graft.ensures.same_slots in
    let enough : length c.add.new.nodes.slots ≤ length c.put.new.table.rows = rows_enter c.self.inside.nodes c.add.new.nodes c.in_ok-key.key.slot
    c.in_ok-key.key.generation (length c.put.new.table.rows) _ c.in_ok-key.ensures.stored (omega (arith, table.all_rows, c.put.ensures.longer))
    c.put.ensures.there in
    let most : length c.graft.new.nodes.slots ≤ length c.put.new.table.rows = omega (arith, slots, enough) in
    let put : Puts c.reserve.new.self.rows c.put.new.table.rows c.in_ok-key.key _ = subst (λ r. Puts c.reserve.new.self.rows c.put.new.table.rows
    c.in_ok-key.key r) (c.summary_alone.ensures ∙ ap alone c.own_hull-hull.ensures) c.put.ensures.rows in
    let whole = c.touched_box.ensures ∙ ap touched_box c.own_hull-hull.ensures in
    insert_climbs c.self.inside.nodes c.graft.new.nodes c.self.inside.root c.args.parent c.in_ok-key.key c.args.before (touch (new_item c.args.id.now
    c.args.rect c.args.style)) c.add.new.ids c.reserve.new.self.rows c.put.new.table.rows c.touched_box.result
    c.self.invariant.sound.tree t.0 t.1 (rw (← c.self.view_is) at c.requires.parent) (rw (← c.self.view_is) at c.requires.place) table most put refl
    whole

pub invariant_of-self-2 : goal.invariant_of-self-2
invariant_of-self-2 g c =
    let t = grown_here g (goal.at.invariant_of-self-2 g c).After-graft in
    let table : IsTabled c.self.inside.nodes c.reserve.new.self.rows (seen c.self.inside.nodes c.self.inside.root) = subst (λ r. IsTabled
    c.self.inside.nodes r (seen c.self.inside.nodes c.self.inside.root)) (sym c.reserve.ensures.rows) c.self.invariant.table in
    let slots : length c.graft.new.nodes.slots ≡ length c.add.new.nodes.slots = same_slots c.add.new.nodes c.graft.new.nodes c.graft.ensures.same_slots in
    let enough : length c.add.new.nodes.slots ≤ length c.put.new.table.rows = rows_enter c.self.inside.nodes c.add.new.nodes c.in_ok-key.key.slot
    c.in_ok-key.key.generation (length c.put.new.table.rows) _ c.in_ok-key.ensures.stored (omega (arith, table.all_rows, c.put.ensures.longer))
    c.put.ensures.there in
    let most : length c.graft.new.nodes.slots ≤ length c.put.new.table.rows = omega (arith, slots, enough) in
    let put : Puts c.reserve.new.self.rows c.put.new.table.rows c.in_ok-key.key _ = subst (λ r. Puts c.reserve.new.self.rows c.put.new.table.rows
    c.in_ok-key.key r) (c.summary_alone.ensures ∙ ap alone c.own_hull-hull.ensures) c.put.ensures.rows in
    let whole = c.touched_box.ensures ∙ ap touched_box c.own_hull-hull.ensures in
    let w = owing_here g (goal.at.invariant_of-self-2 g c).After-put_count t in
    record {
      sound = t.0;
      blending = record {
        all_rows = omega (arith, w.1, c.recount.ensures.same_length);
        right = w.0.done c.recount.new.counts.items c.recount.ensures.right;
      };
      shallow = shallow_child c.args.parent c.args.before c.in_ok-key.key (touch (new_item c.args.id.now c.args.rect
          c.args.style)) (seen c.self.inside.nodes c.self.inside.root) (seen c.graft.new.nodes c.self.inside.root) t.1.sees
          (apart_seen c.self.inside.nodes c.self.inside.root c.self.invariant.sound.tree) (rw (← c.self.view_is) at c.requires.parent) c.self.invariant.shallow
          (rw (← c.self.view_is) at c.requires.depth);
      table = insert_near c.self.inside.nodes c.graft.new.nodes c.self.inside.root c.args.parent c.in_ok-key.key c.args.before (touch
          (new_item c.args.id.now c.args.rect c.args.style)) c.add.new.ids c.reserve.new.self.rows c.put.new.table.rows c.touched_box.result
          c.self.invariant.sound.tree t.0 t.1 (rw (← c.self.view_is) at c.requires.parent) (rw (← c.self.view_is) at c.requires.place) table most put refl
          whole c.gain.new.table.rows c.gain.ensures.right c.gain.ensures.same_length;
    }

pub returns-clause-inserted : goal.returns-clause-inserted
returns-clause-inserted g c =
    let t = grown_here g (goal.at.returns-clause-inserted g c).After-graft in
    let absent : contains c.args.self.now c.in_ok-key.key ≡ false = rw (← c.self.view_is) t.1.unused in
    by_that _ _ _ (reached-insertion c.args.parent c.args.before c.in_ok-key.key (new_item c.args.id.now c.args.rect c.args.style) c.args.self.now absent)
    (rw (← c.self.view_is, t.1.sees, t.2) refl)

pub returns-clause-next : goal.returns-clause-next
returns-clause-next g c =
    is_next c.self.inside.nodes c.add.new.nodes c.in_ok-key.key _ c.args.self.now.slots (ap (λ t. t.slots) (sym c.self.view_is))
    c.self.invariant.sound.first c.in_ok-key.ensures.stored

pub add-requires : goal.add-requires
add-requires g c = record {
  room = subst (λ n. occupied c.self.inside.nodes < n) (sym c.self.invariant.sound.limit) (rw (← c.self.view_is, taken-marks) at c.requires.room);
}

-- Room changes no row.
roomy : {Y S : Type 0} (a : Arena inner.Node) (root : BoxKey) (ids : HashMap (String Y) BoxKey S) (rows rows2 : List Summary) (counts counts2 : List ℕ)
    → rows2 ≡ rows → counts2 ≡ counts → IsKept a root ids rows counts → IsKept a root ids rows2 counts2
roomy a root ids rows rows2 counts counts2 e h k = subst (λ r. IsKept a root ids r counts2) (sym e) (subst (IsKept a root ids rows) (sym h) k)

pub invariant_of-self : goal.invariant_of-self
invariant_of-self g c = subst (λ r. IsKept c.self.inside.nodes c.self.inside.root c.self.inside.ids r c.self.inside.blends.items)
    (sym c.reserve.ensures.rows) c.self.invariant

pub invariant_of-self-in_err-id : goal.invariant_of-self-in_err-id
invariant_of-self-in_err-id g c = roomy c.self.inside.nodes c.self.inside.root c.self.inside.ids c.self.inside.table.rows c.reserve.new.self.rows
    c.self.inside.blends.items c.reserve-2.new.self.items c.reserve.ensures.rows c.reserve-2.ensures.items c.self.invariant

pub put-requires : goal.put-requires
put-requires g c =
    let rows : length c.self.inside.nodes.slots ≤ length c.reserve.new.self.rows = omega (
      arith,
      ap length c.reserve.ensures.rows,
      c.self.invariant.table.all_rows,
    ) in
    elim c.in_ok-key.ensures.stored.place [
      | inl p ↦ inl (omega (arith, p.0, rows))
      | inr p ↦ elim (cases_lt c.in_ok-key.key.slot (length c.reserve.new.self.rows)) [
        | inl l ↦ inl l
        | inr l ↦ inr (omega (arith, p.0, rows, l), c.in_ok-reserve.ensures.room)
      ]
    ]
