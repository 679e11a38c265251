-- The kept list from one edit to the next, and over a paint.
use Rattle.std.proofs.Common.{◌≡◌, refl, ap, sym, subst, Bool, true, false, not, ◌||◌}
use Rattle.rd_keys.specs.Keys.{BoxKey}
use Rattle.rd_item.specs.declared.leaf.Leaf.{Leaf}
use Rattle.rd_list.specs.Lists.{leaves_meet, without_touched}
use Rattle.rd_list.specs.Kept.{KeptReady, bare}
use Rattle.rd_list.specs.EntryNames.{entry_names}
use Rattle.rd_list.proofs.Merges.Naming.{display_editing, display_merging, groups_apart}
use Rattle.rd_tree.specs.Forest.{map_where}
use Rattle.rd_tree.specs.Touching.{settled}
use Rattle.rd_tree.specs.Document.{Document, is_touched}
use Rattle.rd_stack.specs.Fresh.{fresh_list}
use Rattle.rd_stack.proofs.Promises.{stands_for_itself}
use Rattle.rd_stack.proofs.Locality.{locality}
use Rattle.rd_stack.proofs.Marking.{settled_list}
use Rattle.rd_engine.specs.Kept.{stays, EditingLaw, PaintingLaw}
use Rattle.rd_engine.proofs.Accepted.{edits}

or_second : (a b : Bool) → b ≡ true → (a || b) ≡ true
or_second true b h = refl
or_second false b h = h

absorbed : (a b : Bool) → (a ≡ true → b ≡ true) → (a || b) ≡ b
absorbed true b h = sym (h refl)
absorbed false b h = refl

pub editing : EditingLaw
editing e old new kept s accepted edited ready =
    let k = edits e old new s accepted edited in
    let was : BoxKey → Bool = λ j. is_touched j old.boxes in
    let is : BoxKey → Bool = λ j. is_touched j new.boxes in
    let same : without_touched (λ j. was j || is j) (fresh_list old) ≡ without_touched (λ j. was j || is j) (fresh_list new) =
    k.lists (λ j. was j || is j) (λ j t. or_second (was j) (is j) (subst (λ (z : Document). is_touched j z.boxes ≡ true) (sym k.is) (k.marked j t))) in
    let both : Leaf → Bool = λ l. not (was l.owner || is l.owner) in
    let e : both ≡ stays new = λ i l. not (absorbed (was l.owner) (is l.owner) (k.unchanged.marks l.owner) i) in
    subst (λ (p : Leaf → Bool). KeptReady entry_names (λ m. m.leaf) leaves_meet p kept (fresh_list new)) e
    (display_editing (fresh_list old) (fresh_list new) kept was is (stands_for_itself old s.apart) same ready)

pub painting : PaintingLaw
painting t kept joined new in_area apart covered ready same merged =
    let once = stands_for_itself t apart in
    let m = display_merging (fresh_list t) kept joined new (stays t) in_area once covered ready same merged in
    let next : Document = record t { boxes = map_where (λ _. true) settled t.boxes } in
    let is : BoxKey → Bool = λ j. is_touched j next.boxes in
    record {
      shows = locality (bare entry_names (λ m. m.leaf) joined.entries) (fresh_list t) m.0 (groups_apart (fresh_list t) once.grouped);
      kept = display_editing (fresh_list t) (fresh_list next) joined (λ _. false) is once (ap (without_touched is) (sym (settled_list t))) m.2;
    }
