use Rattle.std.proofs.Common.{◌≡◌, refl, ap, ◌∙◌, true}
use Rattle.rd_tree.specs.Forest.{map_where}
use Rattle.rd_tree.specs.Internal.Linked.{seen, marks, IsConsistent}
use Rattle.rd_tree.specs.Touching.{settled}
use Rattle.rd_tree.proofs.Nodes.Each.{read_root}
use Rattle.rd_tree.proofs.Nodes.Editing.{settled_sound}
use Rattle.rd_tree.proofs.Tables.Above.{is_live}
use Rattle.rd_tree.proofs.Tables.TreeRows.{seen_stands, each_has_row}
use Rattle.rd_tree.proofs.Tables.Keeping.{settled_table}
use Rattle.rd_tree.proofs.Blending.Edits.{same_blending}
use Rattle.rd_tree.proofs.Changing.Shallow.{shallow_items}
use Rattle.rd_tree.proofs.Tables.Renewed.{row_here, few_here}
use Rattle.rd_tree.proofs.Tables.Settling.{root_there, all_marks}
use Rattle.rd_tree.proofs.drawn_tree.DrawnTree.settle.Goals as goal

pub whole_of-marks-requires-clause-here : goal.whole_of-marks-requires-clause-here
whole_of-marks-requires-clause-here g c = (row_here c.self.inside.nodes c.self.inside.root c.self.inside.root
    c.self.inside.ids c.self.invariant.sound (root_there c.self.inside.nodes c.self.inside.root c.self.invariant.sound.tree)
    c.self.inside.table.rows c.self.invariant.table)

pub whole_of-marks-requires-clause-few : goal.whole_of-marks-requires-clause-few
whole_of-marks-requires-clause-few g c = (few_here c.self.inside.nodes c.self.inside.root c.self.inside.root
    c.self.inside.ids c.self.invariant.sound (root_there c.self.inside.nodes c.self.inside.root c.self.invariant.sound.tree)
    c.self.inside.table.rows c.self.invariant.table)

pub settle_from-requires-clause-marks : goal.settle_from-requires-clause-marks
settle_from-requires-clause-marks g c =
    ap (λ w. w.touched) (c.whole_of-marks.ensures)
    ∙ all_marks c.self.inside.nodes c.self.inside.root c.self.inside.table.rows c.self.invariant.sound.tree c.self.invariant.table

pub settle_from-requires-clause-read : goal.settle_from-requires-clause-read
settle_from-requires-clause-read g c = read_root c.self.inside.nodes c.self.inside.root c.self.invariant.sound.tree

pub settle_from-requires-clause-has_rows : goal.settle_from-requires-clause-has_rows
settle_from-requires-clause-has_rows g c =
    each_has_row c.self.inside.nodes c.self.inside.root (seen c.self.inside.nodes c.self.inside.root) c.self.inside.table.rows (seen_stands
    c.self.inside.nodes c.self.inside.root c.self.invariant.sound.tree) c.self.invariant.table.all_rows

pub settle_from-requires-clause-counted : goal.settle_from-requires-clause-counted
settle_from-requires-clause-counted g c = λ k h. ap (λ r. r.touched) (c.self.invariant.table.right k h)

pub invariant_of-self : goal.invariant_of-self
invariant_of-self g c =
    let s = settled_sound c.self.inside.nodes c.settle_from.new.nodes c.self.inside.root c.self.inside.ids c.self.invariant.sound
    c.settle_from.ensures.settled in
    rw c.note_quiet.ensures (record {
      sound = s.0;
      blending = same_blending c.self.inside.nodes c.settle_from.new.nodes c.self.inside.blends.items (seen c.self.inside.nodes c.self.inside.root)
          (seen c.settle_from.new.nodes c.self.inside.root) (λ j. true) settled (λ d. refl) s.1 c.settle_from.ensures.settled.same_slots
          c.self.invariant.blending;
      shallow = shallow_items (λ j. true) settled (seen c.self.inside.nodes c.self.inside.root) (seen c.settle_from.new.nodes c.self.inside.root) s.1
          c.self.invariant.shallow;
      table = settled_table c.self.inside.nodes c.settle_from.new.nodes c.self.inside.root c.self.inside.table.rows c.settle_from.new.table.rows
          c.settle_from.ensures.settled.same_slots s.1
          (is_live c.self.inside.nodes c.self.inside.root (seen c.self.inside.nodes c.self.inside.root) (seen_stands c.self.inside.nodes c.self.inside.root
          c.self.invariant.sound.tree))
          c.settle_from.ensures.rows c.settle_from.ensures.same_length c.self.invariant.table;
    })

pub returns : goal.returns
returns g c =
    let s : IsConsistent c.settle_from.new.nodes c.self.inside.root c.self.inside.ids × (seen c.settle_from.new.nodes c.self.inside.root ≡ map_where
    (λ j. true) settled (seen c.self.inside.nodes c.self.inside.root)) = settled_sound c.self.inside.nodes c.settle_from.new.nodes c.self.inside.root
    c.self.inside.ids c.self.invariant.sound c.settle_from.ensures.settled in
    let k : marks c.settle_from.new.nodes ≡ marks c.self.inside.nodes = c.settle_from.ensures.settled.same_slots in
    rw (← c.self.view_is, c.note_quiet.ensures, s.1, k) refl
