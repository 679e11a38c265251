-- The list of an engine, with its canvas, keeps the rules of a wire.
use Rattle.std.proofs.Common.{◌≡◌, refl, ap, sym, subst, ◌∙◌, ℕ, ◌≤◌, Bool, true, false, cond, inl, inr}
use Rattle.std.specs.Prelude.{Option, Some, None, IsTrue, Contains, map, nat_lt, option_map}
use Rattle.std.proofs.lemmas.List.Sorted.{Contains-permutation}
use Rattle.rd_geom.specs.Canvas.{IsCanvas, canvas_of}
use Rattle.rd_geom.specs.Plane.{Rectangle, meet, has_none, no_pixels, outset}
use Rattle.rd_geom.specs.declared.color.Color.{Color}
use Rattle.rd_keys.specs.Keys.{same_key}
use Rattle.rd_keys.specs.declared.entry.EntryKey.{EntryKey}
use Rattle.rd_keys.specs.declared.entry.Part.{Part}
use Rattle.rd_keys.specs.declared.entry.Part.TheVariants.{Back, Border, Content, Outline}
use Rattle.rd_item.specs.Items.{Made}
use Rattle.rd_item.specs.declared.leaf.Leaf as item
use Rattle.rd_item.specs.declared.leaf.Shape.{Shape}
use Rattle.rd_graph.proofs.Lists.Listing.{Has, has_from, contains_from, has_map, map_has, has_left, has_right, has_either}
use Rattle.rd_list.specs.Wrappers.{Wrapper}
use Rattle.rd_list.specs.Entries.{Entries, nil, leaf, group, flat}
use Rattle.rd_list.specs.EntryNames.{kept_leaves}
use Rattle.rd_list.specs.Kept.{Ordered}
use Rattle.rd_list.specs.Lists.{StandsFor}
use Rattle.rd_list.specs.Unordered.{unordered}
use Rattle.rd_list.specs.Views.{levels}
use Rattle.rd_list.proofs.Merges.Naming.{groups_apart}
use Rattle.rd_tree.specs.Forest.{IsApart}
use Rattle.rd_tree.specs.Document.{IsRooted}
use Rattle.rd_stack.specs.Paths.{BoxData, is_root}
use Rattle.rd_stack.specs.Parts.{frame, solid, has_border, shape_of, shown, leaf_of, is_seen, takes_hits}
use Rattle.rd_stack.specs.Clips.{clip_of, padding_box}
use Rattle.rd_stack.specs.Fresh.{fresh_list}
use Rattle.rd_stack.specs.Whole.{IsLeafOf}
use Rattle.rd_stack.proofs.Locality.{moved}
use Rattle.rd_stack.proofs.Orders.Ways.{ways, flat-ways, leaf_of_way}
use Rattle.rd_stack.proofs.Present.{whole_list}
use Rattle.rd_partial.proofs.Shows as seen
use Rattle.rd_engine.specs.State.{EngineState, IsEngine}
use Rattle.rd_engine.proofs.Alike.{depth_within, kept_levels, kept_depth}
use Rattle.rd_wire.specs.Leaves.{IsSeen}
use Rattle.rd_wire.specs.Wires.{KeepsRules}
use Rattle.rd_wire.proofs.Keeping.{keeping}

-- ---- an inner rectangle without a pixel is that of four zeros

abbrev IsPlain : Shape → Type 0
IsPlain s = IsTrue (has_none s.inner) → s.inner ≡ no_pixels

frame_plain : (outer inner : Rectangle) → IsPlain (frame outer inner)
frame_plain outer inner = by (has_none inner) refl
  where
    by : (b : Bool) → has_none inner ≡ b → IsTrue (has_none (cond b no_pixels inner)) → cond b no_pixels inner ≡ no_pixels
    by true e h = refl
    by false e h = let no : false ≡ true = sym e ∙ h in absurd cc

abbrev IsPlainPart : Option (Shape × Color) → Type 0
IsPlainPart None = Unit {0}
IsPlainPart (Some s) = IsPlain s.0

choice_plain : (b : Bool) (outer inner : Rectangle) (c : Color) → IsPlainPart (cond b (Some (frame outer inner, c)) None)
choice_plain true outer inner c = frame_plain outer inner
choice_plain false outer inner c = tt

part_plain : (canvas : Rectangle) (root : Bool) (b : BoxData) (p : Part) → IsPlainPart (shape_of canvas root b p)
part_plain canvas root b Back = λ h. refl
part_plain canvas root b Border = choice_plain (has_border b.style.border_width) b.rect (padding_box b) b.style.border_color
part_plain canvas root b Content = by b.style.content
  where
    by : (o : Option Color) → IsPlainPart (option_map (λ c. (solid (padding_box b), c)) o)
    by None = tt
    by (Some c) = λ h. refl
part_plain canvas root b Outline = choice_plain (nat_lt 0 b.style.outline_width) (outset b.rect b.style.outline_width) b.rect b.style.outline_color

shown_plain : (clip : Rectangle) (b : BoxData) (part : Part) (o : Option (Shape × Color)) (l : item.Leaf) → IsPlainPart o → shown clip b part o ≡ Some l → IsPlain l.shape
shown_plain clip b part None l p e = cc
shown_plain clip b part (Some s) l p e = by (has_none (meet s.0.outer clip)) e
  where
    made : item.Leaf
    made = record { owner = b.key; part = part; visible = meet s.0.outer clip; shape = s.0; color = s.1; hits = takes_hits b.style.pointer }

    by : (t : Bool) → cond t None (Some made) ≡ Some l → IsPlain l.shape
    by true e = cc
    by false e = let is : made ≡ l = cc in subst (λ (z : item.Leaf). IsPlain z.shape) is p

leaf_plain : (canvas : Rectangle) (root : Bool) (clip : Rectangle) (b : BoxData) (part : Part) (l : item.Leaf) → leaf_of canvas root clip b part ≡ Some l → IsPlain l.shape
leaf_plain canvas root clip b part l e = by (is_seen b.style.visibility) e
  where
    by : (t : Bool) → cond t (shown clip b part (shape_of canvas root b part)) None ≡ Some l → IsPlain l.shape
    by true h = shown_plain clip b part (shape_of canvas root b part) l (part_plain canvas root b part) h
    by false h = cc

-- ---- leaves of a kept list

-- the leaves of a list that stands for another are those of the other
same_leaves : (kept fresh : Entries Wrapper item.Leaf) → StandsFor kept fresh → (l : item.Leaf) → Contains (flat kept) l → Contains (flat fresh) l
same_leaves kept fresh s l c =
    let h : Has (map leaf_of_way (ways kept)) l = subst (λ ls. Has ls l) (sym (flat-ways kept)) (has_from (flat kept) l c) in
    let w = map_has leaf_of_way (ways kept) l h in
    let m : Has (ways fresh) w.0 = has_from (ways fresh) w.0 (Contains-permutation (ways kept) (ways fresh) w.0 (moved kept fresh s) (contains_from (ways kept) w.0 w.1)) in
    let k : Has (flat fresh) (leaf_of_way w.0) = subst (λ ls. Has ls (leaf_of_way w.0)) (flat-ways fresh) (has_map leaf_of_way (ways fresh) w.0 m) in
    contains_from (flat fresh) l (subst (λ z. Has (flat fresh) z) w.2 k)

has_leaf : (xs : Entries (Ordered EntryKey Wrapper) Made) (m : Made) → Has (flat xs) m → Has (flat (kept_leaves xs)) m.leaf
has_leaf nil m h = absurd h
has_leaf (leaf n xs) m (inl e) = inl (ap (λ (z : Made). z.leaf) e)
has_leaf (leaf n xs) m (inr h) = inr (has_leaf xs m h)
has_leaf (group g inner xs) m h = elim (has_either (flat inner) (flat xs) m h) [
  | inl k ↦ has_left (flat (kept_leaves inner)) (flat (kept_leaves xs)) m.leaf (has_leaf inner m k)
  | inr k ↦ has_right (flat (kept_leaves inner)) (flat (kept_leaves xs)) m.leaf (has_leaf xs m k)
]

module _ (e : EngineState) (is : IsEngine e) (now : e.pending ≡ false) (apart : IsApart same_key e.tree.boxes) (rooted : IsRooted e.tree) (canvas : IsCanvas e.tree.canvas) where
  leaves_seen : (m : Made) → Contains (flat e.kept.entries) m → IsSeen (canvas_of e.tree.canvas) m.leaf
  leaves_seen m c =
      let there : Contains (flat (kept_leaves e.kept.entries)) m.leaf = contains_from _ m.leaf (has_leaf e.kept.entries m (has_from _ m c)) in
      let on = is.seen m.leaf there in
      let fresh = same_leaves (kept_leaves e.kept.entries) (fresh_list e.tree) (is.stands now) m.leaf there in
      let of : IsLeafOf e.tree m.leaf = ((whole_list e.tree apart rooted).leaves m.leaf).1 fresh in
      let s = seen.shows (canvas_of e.tree.canvas) (is_root of.box.at) (clip_of (canvas_of e.tree.canvas) of.box.at) of.box.at.here of.part m.leaf of.is in
      let p = leaf_plain (canvas_of e.tree.canvas) (is_root of.box.at) (clip_of (canvas_of e.tree.canvas) of.box.at) of.box.at.here of.part m.leaf of.is in
      record { some = on.some; in_outer = s.within; on_canvas = on.within; inner = p }

  pub engine_keeps : KeepsRules (record { size = e.tree.canvas; list = unordered e.kept.entries })
  engine_keeps =
      let stands = is.stands now in
      let deep : levels (kept_leaves e.kept.entries) ≤ 257 = subst (λ (n : ℕ). n ≤ 257) (sym (kept_levels e.kept.entries)) is.shallow in
      let few_groups = depth_within (kept_leaves e.kept.entries) 256 stands.filled deep in
      keeping e.tree.canvas e.kept.entries (record {
        canvas = canvas;
        leaves_seen = leaves_seen;
        few = is.few;
        once = stands.once;
        grouped = groups_apart (kept_leaves e.kept.entries) stands.grouped;
        filled = stands.filled;
        depth = subst (λ (n : ℕ). n ≤ 256) (kept_depth e.kept.entries) few_groups;
      })
