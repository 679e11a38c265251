-- A scene that is painted once. Assumes nothing.
use Rattle.std.proofs.Common.{◌≡◌, ℕ, ℤ, pos, ◌<◌, List, [], ◌∷◌, length, take, get_or, ◌∙◌, ap, arith}
use Rattle.std.specs.Prelude.{Some, None, Result, Ok, Err, IfOk}
use Rattle.rd_edits.specs.declared.edit.Edit.{Edit}
use Rattle.rd_keys.specs.Keys.{same_key}
use Rattle.rd_list.specs.EntryNames.{kept_leaves}
use Rattle.rd_list.specs.Lists.{StandsFor}
use Rattle.rd_list.proofs.Merges.Naming.{groups_apart}
use Rattle.rd_stack.specs.Fresh.{fresh_list}
use Rattle.rd_stack.specs.Locality.{ShowsTheSame}
use Rattle.rd_stack.proofs.Locality.{locality}
use Rattle.rd_stack.proofs.Promises.{stands_for_itself}
use Rattle.rd_tree.specs.Forest.{IsApart}
use Rattle.rd_engine.specs.Painted.{IsSettled}
use Rattle.rd_engine.specs.State.{EngineState, IsEngine}
use Rattle.rd_c.specs.Asked.{IsInsertion, RefusedBy, AreDone}
use Rattle.rd_c.specs.Batched.{part_of}
use Rattle.rd_c.specs.Made.{IsMade}
use Rattle.rd_c.specs.Rendered.{IsPlanting, IsRefusedAmong, IsRootOf, IsBuilt, IsUnbuilt, Shows, IsShown, IsRendered}
use Rattle.rd_c.specs.declared.painter.Painter.{Painter}
use Rattle.rd_c.specs.declared.refusal.Refusal.{Refusal}
use Rattle.rd_c.specs.declared.render.RdBox.{RdBox}
use Rattle.rd_c.specs.declared.values.RdNote.{RdNote}
use Rattle.rd_c.proofs.Turning.{first_from}

pub planting : (names name parent : List ℕ) (b : RdBox) (r : Result Edit Refusal) → part_of names b.name b.name_end ≡ Some name → part_of names b.parent b.parent_end ≡ Some parent
    → IfOk r (IsInsertion name parent [] b.place b.look) → IfOk r (IsPlanting names b)
planting names name parent b (Ok e) named below is = record { name = name; parent = parent; named = named; below = below; is = is }
planting names name parent b (Err x) named below is = tt

pub rooted : (w h : ℤ) (names name : List ℕ) (b : RdBox) (p : Painter) → part_of names b.name b.name_end ≡ Some name → IsMade w h name b.place b.look p.engine → p.undo ≡ None → IsRootOf w h names b p
rooted w h names name b p named made keeps = record { name = name; named = named; made = made; keeps = keeps }

pub rendered : (w h : ℤ) (names : List ℕ) (boxes : List RdBox) (p : Painter) (note : RdNote) (old new : List ℕ) → IsBuilt w h names boxes p → IsShown p note old new → IsRendered w h names boxes note old new
rendered w h names boxes p note old new built shown = record { scene = p; built = built; shown = shown }

-- the box at a place is refused
pub refused_at : (names : List ℕ) (bs : List RdBox) (i : ℕ) (d : RdBox) (n : ℕ) (old mid : Painter) → i < length bs → AreDone (IsPlanting names) (take i bs) old mid → RefusedBy (IsPlanting names (get_or bs i d)) n mid
    → IsRefusedAmong names bs n old
refused_at names bs i d n old mid h is refused = record {
  count = i;
  mid = mid;
  planted = is;
  refused = first_from (λ b. RefusedBy (IsPlanting names b) n mid) bs i d h refused;
}

pub unbuilt : (w h : ℤ) (names : List ℕ) (boxes : List RdBox) (root : RdBox) (others : List RdBox) (begun : Painter) (n : ℕ) → boxes ≡ root ∷ others → IsRootOf w h names root begun → IsRefusedAmong names others n begun
    → IsUnbuilt w h names boxes n
unbuilt w h names boxes root others begun n are rooted refused = record { root = root; others = others; begun = begun; are = are; rooted = rooted; refused = refused }

pub built : (w h : ℤ) (names : List ℕ) (boxes : List RdBox) (root : RdBox) (others : List RdBox) (begun p : Painter) → boxes ≡ root ∷ others → IsRootOf w h names root begun → AreDone (IsPlanting names) others begun p
    → IsBuilt w h names boxes p
built w h names boxes root others begun p are rooted planted = record { root = root; others = others; begun = begun; are = are; rooted = rooted; planted = planted }

-- after a paint the canvas shows the tree
pub shows_tree : (old new : EngineState) → IsApart same_key old.tree.boxes → IsEngine new → StandsFor (kept_leaves new.kept.entries) (fresh_list old.tree) → IsSettled old new → Shows old.tree new.canvas
shows_tree old new apart is stands settled =
    let same : ShowsTheSame (kept_leaves new.kept.entries) (fresh_list old.tree) =
    locality (kept_leaves new.kept.entries) (fresh_list old.tree) stands (groups_apart (fresh_list old.tree) (stands_for_itself old.tree apart).grouped) in
    let some : 0 < new.paints = let e = settled.paints in omega (arith, e) in
    record {
      size = is.size ∙ ap (λ t. t.canvas) settled.tree;
      pixels = λ x y h k. is.shows some x y h k ∙ ap Some (same.pixels (pos x) (pos y));
    }

pub ruleset building = (built, unbuilt)
