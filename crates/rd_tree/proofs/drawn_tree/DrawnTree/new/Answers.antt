use Rattle.std.proofs.Common.{inl, inr, ◌<◌, ◌≡◌, ap, ◌∙◌, ◌≤◌, subst, sym, length, arith, [], ◌∷◌, ◌++◌}
use Rattle.rd_keys.specs.Arena.{occupied}
use Rattle.rd_keys.proofs.Calls.{live-enters, occupied-enters}
use Rattle.rd_tree.specs.Figures.{max_depth}
use Rattle.rd_tree.specs.Forest.{empty, tree, height}
use Rattle.rd_tree.specs.Document.{Item, with_taken}
use Rattle.rd_tree.specs.Changes.{new_item}
use Rattle.rd_tree.specs.Touching.{touch}
use Rattle.rd_tree.specs.Internal.Linked.{marks, seen, IsConsistent}
use Rattle.rd_tree.specs.Internal.Rows as rows
use Rattle.rd_tree.proofs.Nodes.Marks.{marks-enters, is_next}
use Rattle.rd_tree.proofs.Nodes.Grow.{alone}
use Rattle.rd_tree.proofs.Nodes.Adding.{planted_sound, no_text}
use Rattle.rd_tree.proofs.Tables.Keeping.{planted_near, rows_enter, put_here}
use Rattle.rd_tree.proofs.Blending.Edits.{planted_blending}
use Rattle.rd_tree.proofs.drawn_tree.DrawnTree.new.Goals as goal

pub invariant_of-result : goal.invariant_of-result
invariant_of-result g c =
    let d : Item = touch (new_item c.args.id c.args.rect c.args.style) in
    let p : IsConsistent c.add.new.nodes c.in_ok-root.root c.add.new.ids × (seen c.add.new.nodes c.in_ok-root.root ≡ tree c.in_ok-root.root d empty empty) =
    planted_sound c.new-nodes.result c.add.new.nodes c.in_ok-root.root d c.new-ids.result c.add.new.ids
    (ap (λ a. a.slots) c.new-nodes.ensures) (ap (λ a. a.limit) c.new-nodes.ensures) (ap (λ a. a.first) c.new-nodes.ensures)
    c.requires.rect c.requires.style c.in_ok-root.ensures.stored
    (live-enters c.new-nodes.result c.add.new.nodes c.in_ok-root.root.slot c.in_ok-root.root.generation (alone d) c.in_ok-root.ensures.stored)
    (occupied-enters c.new-nodes.result c.add.new.nodes c.in_ok-root.root.slot c.in_ok-root.root.generation (alone d) c.in_ok-root.ensures.stored)
    (no_text c.new-ids.result c.new-ids.ensures.empty) c.in_ok-root.ensures.listed in
    let made : length c.new-nodes.result.slots ≤ length c.put.new.table.rows = subst (λ a. length a.slots ≤ length c.put.new.table.rows)
    (sym c.new-nodes.ensures) (omega arith) in
    let one : c.push.new.self.items ≡ 0 ∷ [] = c.in_ok-push.ensures.items ∙ ap (λ l. l ++ 0 ∷ []) c.new-blends.ensures.items in
    let counted : length c.new-nodes.result.slots ≤ length c.push.new.self.items = subst (λ a. length a.slots ≤ length c.push.new.self.items)
    (sym c.new-nodes.ensures) (omega arith) in
    let here : c.in_ok-root.root.slot < length c.push.new.self.items = elim c.in_ok-root.ensures.stored.place [
      | inl p ↦ absurd (omega (arith, p.0, ap (λ a. length a.slots) c.new-nodes.ensures))
      | inr p ↦ omega (arith, p.0, ap (λ a. length a.slots) c.new-nodes.ensures, ap length one)
    ] in
    record {
      sound = p.0;
      table = planted_near c.add.new.nodes c.in_ok-root.root d c.put.new.table.rows p.1
          (rows_enter c.new-nodes.result c.add.new.nodes c.in_ok-root.root.slot c.in_ok-root.root.generation (length c.put.new.table.rows) (alone d) c.in_ok-root.ensures.stored made
          c.put.ensures.there)
          (put_here _ c.put.new.table.rows c.in_ok-root.root _ c.put.ensures.rows ∙ (c.summary_alone-row.ensures ∙ ap rows.alone c.own_hull.ensures));
      blending = planted_blending c.add.new.nodes c.in_ok-root.root d c.push.new.self.items p.1
          (rows_enter c.new-nodes.result c.add.new.nodes c.in_ok-root.root.slot c.in_ok-root.root.generation (length c.push.new.self.items) (alone d)
          c.in_ok-root.ensures.stored counted here)
          one;
      shallow = subst (λ f. height f ≤ max_depth) (sym p.1) (omega arith);
    }

pub returns-clause-boxes : goal.returns-clause-boxes
returns-clause-boxes g c =
    let d : Item = touch (new_item c.args.id c.args.rect c.args.style) in
    let p : IsConsistent c.add.new.nodes c.in_ok-root.root c.add.new.ids × (seen c.add.new.nodes c.in_ok-root.root ≡ tree c.in_ok-root.root d empty empty) =
    planted_sound c.new-nodes.result c.add.new.nodes c.in_ok-root.root d c.new-ids.result c.add.new.ids
    (ap (λ a. a.slots) c.new-nodes.ensures) (ap (λ a. a.limit) c.new-nodes.ensures) (ap (λ a. a.first) c.new-nodes.ensures)
    c.requires.rect c.requires.style c.in_ok-root.ensures.stored
    (live-enters c.new-nodes.result c.add.new.nodes c.in_ok-root.root.slot c.in_ok-root.root.generation (alone d) c.in_ok-root.ensures.stored)
    (occupied-enters c.new-nodes.result c.add.new.nodes c.in_ok-root.root.slot c.in_ok-root.root.generation (alone d) c.in_ok-root.ensures.stored)
    (no_text c.new-ids.result c.new-ids.ensures.empty) c.in_ok-root.ensures.listed in
    p.1

pub returns-clause-slots : goal.returns-clause-slots
returns-clause-slots g c =
    let d : Item = touch (new_item c.args.id c.args.rect c.args.style) in
    marks-enters c.new-nodes.result c.add.new.nodes c.in_ok-root.root (alone d) c.in_ok-root.ensures.stored ∙ ap (λ a. with_taken (marks a) c.in_ok-root.root) c.new-nodes.ensures

pub returns-clause-next : goal.returns-clause-next
returns-clause-next g c =
    let d : Item = touch (new_item c.args.id c.args.rect c.args.style) in
    is_next c.new-nodes.result c.add.new.nodes c.in_ok-root.root (alone d) [] (sym (ap marks c.new-nodes.ensures)) (ap (λ a. a.first) c.new-nodes.ensures) c.in_ok-root.ensures.stored

pub put-requires : goal.put-requires
put-requires g c = inr (
  elim c.in_ok-root.ensures.stored.place [
    | inl p ↦ absurd (omega (arith, p.0, ap (λ a. length a.slots) c.new-nodes.ensures))
    | inr p ↦ omega (arith, p.0, ap (λ a. length a.slots) c.new-nodes.ensures, ap length c.in_ok-table.ensures.empty)
  ],
  omega (arith, c.in_ok-table.ensures.room),
)

pub add-requires : goal.add-requires
add-requires g c = record { room = subst (λ a. occupied a < a.limit) (sym c.new-nodes.ensures) (omega arith) }
