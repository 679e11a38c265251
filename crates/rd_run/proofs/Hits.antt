-- The box that is hit has an id.
use Rattle.std.proofs.Common.{◌≡◌, ℤ, Bool, true, false, cond, ◌||◌, List, [], ◌∷◌, refl, sym, ◌∙◌, ap, subst, inl, inr, Option, Some, None}
use Rattle.std.specs.Prelude.{filter, option_map}
use Rattle.std.specs.Option.{option_map_or}
use Rattle.rd_geom.specs.Plane.{Rectangle, has_none, meet}
use Rattle.rd_geom.specs.declared.color.Color.{Color}
use Rattle.rd_geom.specs.Canvas.{canvas_of}
use Rattle.rd_keys.specs.Keys.{BoxKey, same_key}
use Rattle.rd_keys.specs.declared.entry.Part.{Part}
use Rattle.rd_keys.proofs.Keys.{same_key-refl}
use Rattle.rd_graph.proofs.Lists.Listing.{Has, has_either, has_from, contains_from, filter_has}
use Rattle.rd_item.specs.declared.leaf.Leaf.{Leaf}
use Rattle.rd_item.specs.declared.leaf.Shape.{Shape}
use Rattle.rd_list.specs.Entries.{flat}
use Rattle.rd_list.specs.Lists.{hit, is_hit, last}
use Rattle.rd_tree.specs.Forest.{empty, tree, has, IsApart}
use Rattle.rd_tree.specs.Document.{Document, BoxForest, IsRooted, id_of}
use Rattle.rd_tree.specs.Drawn.{drawn}
use Rattle.rd_tree.proofs.Drawing.{has-drawn}
use Rattle.rd_stack.specs.Fresh.{Subtree, fresh_list, preorder, box_data}
use Rattle.rd_stack.specs.Parts.{leaf_at, shown, shape_of, is_seen, takes_hits}
use Rattle.rd_stack.specs.Paths.{BoxData, BoxPath, is_root}
use Rattle.rd_stack.specs.Clips.{clip_of}
use Rattle.rd_stack.proofs.Present.{whole_list}
use Rattle.rd_stack.proofs.Left.Alone.{has_item}
use Rattle.rd_report.specs.Words.{id_text}

-- a leaf is named by its box
owner_shown : (clip : Rectangle) (b : BoxData) (part : Part) (o : Option (Shape × Color)) (l : Leaf) → shown clip b part o ≡ Some l → l.owner ≡ b.key
owner_shown clip b part None l h = absurd (let no : None ≡ Some l = h in cc)
owner_shown clip b part (Some s) l h = by (has_none (meet s.0.outer clip)) h
  where
    by : (c : Bool)
        → cond c None (Some (record { owner = b.key; part = part; visible = meet s.0.outer clip; shape = s.0; color = s.1; hits = takes_hits b.style.pointer })) ≡ Some l
        → l.owner ≡ b.key
    by true e = absurd (let no : None ≡ Some l = e in cc)
    by false e = sym (ap (λ (o : Option Leaf). option_map_or (λ m. m.owner) o b.key) e)

owner_at : (canvas : Rectangle) (x : BoxPath) (part : Part) (l : Leaf) → leaf_at canvas x part ≡ Some l → l.owner ≡ x.here.key
owner_at canvas x part l h = by (is_seen x.here.style.visibility) h
  where
    by : (c : Bool) → cond c (shown (clip_of canvas x) x.here part (shape_of canvas (is_root x) x.here part)) None ≡ Some l → l.owner ≡ x.here.key
    by true e = owner_shown (clip_of canvas x) x.here part (shape_of canvas (is_root x) x.here part) l e
    by false e = absurd (let no : None ≡ Some l = e in cc)

or_first : (a b : Bool) → a ≡ true → (a || b) ≡ true
or_first true b h = refl
or_first false b h = absurd (let no : false ≡ true = h in cc)

or_second : (a b : Bool) → b ≡ true → (a || b) ≡ true
or_second true b h = refl
or_second false b h = h

-- a box of a forest has its key there
has_preorder : (above : List BoxData) (f : BoxForest) (s : Subtree) → Has (preorder above f) s → has same_key s.at.here.key f ≡ true
has_preorder above empty s h = absurd h
has_preorder above (tree k d below rest) s (inl e) =
    or_first (same_key s.at.here.key k) _ (ap (λ (z : Subtree). same_key z.at.here.key k) (sym e) ∙ same_key-refl k)
has_preorder above (tree k d below rest) s (inr h) = elim (has_either (preorder (box_data k d ∷ above) below) (preorder above rest) s h) [
  | inl u ↦ or_second (same_key s.at.here.key k) _ (or_first (has same_key s.at.here.key below) _ (has_preorder (box_data k d ∷ above) below s u))
  | inr u ↦ or_second (same_key s.at.here.key k) _ (or_second (has same_key s.at.here.key below) _ (has_preorder above rest s u))
]

last_has : (ls : List Leaf) (l : Leaf) → last ls ≡ Some l → Has ls l
last_has [] l h = absurd (let no : None ≡ Some l = h in cc)
last_has (a ∷ []) l h = inl (ap (λ (o : Option Leaf). option_map_or (λ m. m) o a) h)
last_has (a ∷ b ∷ ls) l h = inr (last_has (b ∷ ls) l h)

module _ (t : Document) (apart : IsApart same_key t.boxes) (rooted : IsRooted t) (x y : ℤ) where
  there : (k : BoxKey) → hit (fresh_list t) x y ≡ Some k → has same_key k t.boxes ≡ true
  there k h = by (last (filter (is_hit x y) (flat (fresh_list t)))) refl h
    where
      by : (o : Option Leaf) → last (filter (is_hit x y) (flat (fresh_list t))) ≡ o → option_map (λ l. l.owner) o ≡ Some k → has same_key k t.boxes ≡ true
      by None e i = absurd (let no : None ≡ Some k = i in cc)
      by (Some l) e i =
          let c = filter_has (is_hit x y) (flat (fresh_list t)) l (last_has (filter (is_hit x y) (flat (fresh_list t))) l e) in
          let w = ((whole_list t apart rooted).leaves l).1 (contains_from (flat (fresh_list t)) l c.0) in
          let own : l.owner ≡ w.box.at.here.key = owner_at (canvas_of t.canvas) w.box.at w.part l w.is in
          let k_is : l.owner ≡ k = ap (λ (o : Option BoxKey). option_map_or (λ z. z) o l.owner) i in
          let at : has same_key w.box.at.here.key t.boxes ≡ true =
          sym (has-drawn [] w.box.at.here.key t.boxes) ∙ has_preorder [] (drawn t).boxes w.box (has_from (preorder [] (drawn t).boxes) w.box w.there) in
          subst (λ (z : BoxKey). has same_key z t.boxes ≡ true) (sym own ∙ k_is) at

  -- the id of the box that is hit
  pub hit_some : (k : BoxKey) → hit (fresh_list t) x y ≡ Some k → id_of k t.boxes ≡ option_map (λ j. id_text j t.boxes) (hit (fresh_list t) x y)
  hit_some k h =
      let i = has_item k t.boxes (there k h) in
      rw (h, i.1) refl

  pub hit_none : hit (fresh_list t) x y ≡ None → None ≡ option_map (λ j. id_text j t.boxes) (hit (fresh_list t) x y)
  hit_none h = rw h refl
