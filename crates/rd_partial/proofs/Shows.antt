-- A leaf of a box may be seen somewhere, and inside its shape.
use Rattle.std.proofs.Common.{◌≡◌, refl, subst, Bool, true, false, cond}
use Rattle.std.specs.Prelude.{Option, Some, None}
use Rattle.rd_geom.specs.Plane.{Rectangle, meet, has_none, IsWithin}
use Rattle.rd_geom.specs.declared.color.Color.{Color}
use Rattle.rd_keys.specs.declared.entry.Part.{Part}
use Rattle.rd_item.specs.declared.leaf.Leaf.{Leaf}
use Rattle.rd_item.specs.declared.leaf.Shape.{Shape}
use Rattle.rd_stack.specs.Paths.{BoxData}
use Rattle.rd_stack.specs.Parts.{leaf_of, shown, shape_of, is_seen, takes_hits}
use Rattle.rd_partial.proofs.Pass.Reach.{within_first}

pub record Shows (l : Leaf) : Type 0 where
  pub some : has_none l.visible ≡ false
  pub within : IsWithin l.visible l.shape.outer

of_shown : (clip : Rectangle) (b : BoxData) (part : Part) (o : Option (Shape × Color)) (l : Leaf) → shown clip b part o ≡ Some l → Shows l
of_shown clip b part None l e = cc
of_shown clip b part (Some s) l e = by (has_none (meet s.0.outer clip)) refl e
  where
    made : Leaf
    made = record { owner = b.key; part = part; visible = meet s.0.outer clip; shape = s.0; color = s.1; hits = takes_hits b.style.pointer }

    by : (t : Bool) → has_none (meet s.0.outer clip) ≡ t → cond t None (Some made) ≡ Some l → Shows l
    by true h e = cc
    by false h e = let is : made ≡ l = cc (e) in subst (λ z. Shows z) is (record { some = h; within = within_first s.0.outer clip })

pub shows : (canvas : Rectangle) (root : Bool) (clip : Rectangle) (b : BoxData) (part : Part) (l : Leaf) → leaf_of canvas root clip b part ≡ Some l → Shows l
shows canvas root clip b part l e = by (is_seen b.style.visibility) e
  where
    by : (t : Bool) → cond t (shown clip b part (shape_of canvas root b part)) None ≡ Some l → Shows l
    by true h = of_shown clip b part (shape_of canvas root b part) l h
    by false h = cc
