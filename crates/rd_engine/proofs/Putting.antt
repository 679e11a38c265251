-- An engine after a paint.
use Rattle.std.proofs.Common.{◌≡◌, refl, ap, ◌∙◌, sym, subst, ℕ, ◌+◌, ◌<◌, ◌≤◌, ℤ, pos, Bool, true, false, cond, ◌&&◌, not, length, arith, Contains, Some, ◌⊎◌, inl, inr, map}
use Rattle.std.proofs.lemmas.Int.{ints}
use Rattle.std.proofs.lemmas.List.Elements.{All-contains}
use Rattle.std.proofs.lemmas.List.Sorted.{Contains-permutation}
use Rattle.rd_geom.specs.Plane.{holds_pixel}
use Rattle.rd_geom.specs.Canvas.{IsCanvas, canvas_of}
use Rattle.rd_geom.specs.Areas.{in_area, meets_area, count_of}
use Rattle.rd_geom.specs.Colors.{white}
use Rattle.rd_geom.specs.declared.rect.Size.{Size}
use Rattle.rd_keys.specs.Keys.{same_key}
use Rattle.rd_keys.specs.declared.entry.EntryKey.{EntryKey}
use Rattle.rd_graph.proofs.Lists.Listing.{Has, has_from, contains_from, has_map, map_has}
use Rattle.rd_item.specs.declared.leaf.Leaf.{Leaf}
use Rattle.rd_item.specs.Leaves.{covers}
use Rattle.rd_item.specs.Items.{Made}
use Rattle.rd_list.specs.Wrappers.{Wrapper}
use Rattle.rd_list.specs.Entries.{Entries, flat, only}
use Rattle.rd_list.specs.EntryNames.{entry_names, made_leaf, kept_leaves, new_leaves}
use Rattle.rd_list.specs.Kept.{KeptList, IsMerged}
use Rattle.rd_list.specs.Display.{Numbers}
use Rattle.rd_list.specs.GroupDepth.{group_depth}
use Rattle.rd_list.specs.Lists.{StandsFor, pixel}
use Rattle.rd_list.specs.Views.{levels}
use Rattle.rd_list.proofs.Merges.Naming.{groups_apart}
use Rattle.rd_list.proofs.Merges.Numbered.{numbering}
use Rattle.rd_tree.specs.Forest.{IsApart, height, size}
use Rattle.rd_stack.specs.Fresh.{fresh_list}
use Rattle.rd_stack.specs.Laws.{IsOnCanvas}
use Rattle.rd_stack.proofs.Promises.{stands_for_itself, shows_on_canvas}
use Rattle.rd_stack.proofs.Locality.{locality, moved}
use Rattle.rd_stack.proofs.Keeping.{leaving}
use Rattle.rd_stack.proofs.Marking.{settled_list}
use Rattle.rd_stack.proofs.Orders.Ways.{ways, flat-ways, leaf_of_way}
use Rattle.rd_merge.specs.Plans.{filled}
use Rattle.rd_partial.specs.Numbered.{numbered}
use Rattle.rd_paint.specs.Pictures.{Picture, size_of, pixel_at}
use Rattle.rd_paint.specs.Repainted.{IsRepainted}
use Rattle.rd_engine.specs.Kept.{IsPainted, stays}
use Rattle.rd_engine.specs.State.{EngineState, IsEngine}
use Rattle.rd_engine.specs.Invalid.{invalid_area}
use Rattle.rd_engine.specs.Painted.{remade, untouched, IsNoted, AreNumbered, IsAreaPainted}
use Rattle.rd_engine.specs.Internal.Parts.{IsPrepared}
use Rattle.rd_engine.specs.declared.prepared.Prepared.{Prepared}
use Rattle.rd_engine.proofs.Kept.{painting}
use Rattle.rd_engine.proofs.Stands.{painted_stands, painted_shallow}
use Rattle.rd_engine.proofs.Stood.{composed-where}
use Rattle.rd_engine.proofs.Due.{covered, due_before, due_now, all_due, same_pixels}
use Rattle.rd_engine.proofs.Remaking.{new_numbered, made_by, numbered_length, few_fresh, few_remade}

-- the leaves of a list that stands for another are those of the other
same_leaves : (kept fresh : Entries Wrapper Leaf) → StandsFor kept fresh → (l : Leaf) → Contains (flat kept) l → Contains (flat fresh) l
same_leaves kept fresh s l c =
    let h : Has (map leaf_of_way (ways kept)) l = subst (λ ls. Has ls l) (sym (flat-ways kept)) (has_from (flat kept) l c) in
    let w = map_has leaf_of_way (ways kept) l h in
    let m : Has (ways fresh) w.0 = has_from (ways fresh) w.0 (Contains-permutation (ways kept) (ways fresh) w.0 (moved kept fresh s) (contains_from (ways kept) w.0 w.1)) in
    let k : Has (flat fresh) (leaf_of_way w.0) = subst (λ ls. Has ls (leaf_of_way w.0)) (flat-ways fresh) (has_map leaf_of_way (ways fresh) w.0 m) in
    contains_from (flat fresh) l (subst (λ z. Has (flat fresh) z) w.2 k)

last_and : (a b : Bool) → (a && b) ≡ true → b ≡ true
last_and true b h = h
last_and false b h = absurd (let no : false ≡ true = h in cc)

false_unless : (b : Bool) → (b ≡ true → ⊥) → b ≡ false
false_unless true h = absurd (h refl)
false_unless false h = refl

never : (b : Bool) → b ≡ true → b ≡ false → ⊥
never b h k = let no : true ≡ false = sym h ∙ k in cc

zero_or_more : (n : ℕ) → (n ≡ 0) ⊎ (0 < n)
zero_or_more n = grind arith

module _ {A : Type 0} (s : EngineState) (e : IsEngine s) (p : Prepared A) (prep : IsPrepared s p) (apart : IsApart same_key s.tree.boxes) (canvas : IsCanvas s.tree.canvas)
    (low : height s.tree.boxes ≤ 256) (few : size s.tree.boxes ≤ 20000) (j : KeptList EntryKey Wrapper Made) (is_j : j ≡ filled p.plan s.kept p.new) where
  abbrev fresh : Entries Wrapper Leaf
  fresh = fresh_list s.tree

  abbrev in_it : Leaf → Bool
  in_it l = meets_area (invalid_area s) l.visible

  limited : new_leaves p.new ≡ only in_it fresh
  limited = ap new_leaves prep.new.is ∙ new_numbered (s.paints + 1) (remade s)

  merged : IsMerged entry_names made_leaf (stays s.tree) s.kept p.new j
  merged = subst (λ (k : KeptList EntryKey Wrapper Made). IsMerged entry_names made_leaf (stays s.tree) s.kept p.new k) (sym is_j) prep.plan.merged

  painted : IsPainted j s.tree
  painted = painting s.tree s.kept j p.new in_it apart (covered s canvas apart) e.ready limited merged

  pub stands : StandsFor (kept_leaves j.entries) fresh
  stands = painted_stands s.tree s.kept j p.new in_it apart (covered s canvas apart) e.ready limited merged

  small : (levels j.entries ≤ height s.tree.boxes + 1) × (length (flat j.entries) ≡ length (flat fresh)) × (group_depth j.entries ≤ height s.tree.boxes)
  small = painted_shallow s.tree s.kept j p.new in_it apart (covered s canvas apart) e.ready limited merged

  pub deep : levels j.entries ≤ 257
  deep = let a = small.0 in omega (arith, a, low)

  pub few_kept : length (flat j.entries) < 4294967296
  few_kept = let a = small.1 in let b = few_fresh s apart few in omega (arith, a, b)

  groups : group_depth j.entries < 4294967296
  groups = let a = small.2 in omega (arith, a, low)

  built_is : p.built ≡ length (flat (remade s))
  built_is = prep.built ∙ ap (λ xs. length (flat xs)) prep.new.is ∙ numbered_length (s.paints + 1) (remade s)

  pub built_within : p.built ≤ length (flat j.entries)
  built_within = let a = built_is in let b = few_remade s apart in let c = small.1 in omega (arith, a, b, c)

  pub joined : IsMerged entry_names made_leaf (stays s.tree) s.kept (numbered (s.paints + 1) (remade s)) j
  joined = subst (λ (n : Entries Wrapper Made). IsMerged entry_names made_leaf (stays s.tree) s.kept n j) prep.new.is merged

  pub noted : (k a : ℕ) → p.built + k ≡ length (flat j.entries) → a ≡ count_of p.area → IsNoted s (record { number = s.paints + 1; built = p.built; kept = k; area = a })
  noted k a h i = record { number = refl; built = built_is; kept = h ∙ small.1; area = i ∙ same_pixels s p.area prep.area }

  numbers : Numbers (s.paints + 1) fresh s.kept j p.new in_it
  numbers =
      numbering (s.paints + 1) fresh s.kept j p.new (stays s.tree) in_it stands limited merged
      (λ i c. made_by (s.paints + 1) (remade s) i (has_from (flat (numbered (s.paints + 1) (remade s))) i (subst (λ (n : Entries Wrapper Made). Contains (flat n) i) prep.new.is c)))

  pub numbered_so : (t : EngineState) → t.kept ≡ j → AreNumbered s t
  numbered_so t h =
      subst (λ (k : KeptList EntryKey Wrapper Made). AreNumbered s (record t { kept = k })) (sym h) (record { made = numbers.made; kept = numbers.kept_one })

  -- a pixel outside of the area is as it was
  module _ (x y : ℤ) (out : in_area (invalid_area s) x y ≡ false) where
    clear_before : (l : Leaf) → Contains (flat (kept_leaves s.kept.entries)) l → stays s.tree l ≡ false → covers l x y ≡ false
    clear_before l c g = false_unless (covers l x y) (λ h. never (in_area (invalid_area s) x y) (due_before s canvas l (e.seen l c) g x y (last_and (holds_pixel l.shape.outer x y && not (holds_pixel l.shape.inner x y)) (holds_pixel l.visible x y) h) c) out)

    clear_now : (l : Leaf) → Contains (flat fresh) l → stays s.tree l ≡ false → covers l x y ≡ false
    clear_now l c g =
        let on : IsOnCanvas (canvas_of s.tree.canvas) l = All-contains (IsOnCanvas (canvas_of s.tree.canvas)) (flat fresh) l (shows_on_canvas s.tree apart) c in
        false_unless (covers l x y) (λ h. never (in_area (invalid_area s) x y) (due_now s canvas l on g x y (last_and (holds_pixel l.shape.outer x y && not (holds_pixel l.shape.inner x y)) (holds_pixel l.visible x y) h) c) out)

    same_outside : pixel (kept_leaves s.kept.entries) x y ≡ pixel (kept_leaves j.entries) x y
    same_outside =
        let stay = stays s.tree in
        let left : StandsFor (only stay (kept_leaves s.kept.entries)) (only stay fresh) = e.ready.ready.stands in
        let once = groups_apart (only stay fresh) (leaving stay fresh fresh (stands_for_itself s.tree apart)).grouped in
        sym (composed-where x y white stay (kept_leaves s.kept.entries) clear_before)
        ∙ (locality (only stay (kept_leaves s.kept.entries)) (only stay fresh) left once).pixels x y
        ∙ composed-where x y white stay fresh clear_now
        ∙ sym (painted.shows.pixels x y)

  module _ (c : Picture) (re : IsRepainted (kept_leaves j.entries) p.area s.canvas c) where
    on_it : (x y : ℕ) → x < s.canvas.width → y < s.canvas.height → holds_pixel (canvas_of s.tree.canvas) (pos x) (pos y) ≡ true
    on_it x y h k =
        subst (λ (z : Size). holds_pixel (canvas_of z) (pos x) (pos y) ≡ true) e.size (grind (arith, ints, h, k))

    at : (x y : ℕ) → x < s.canvas.width → y < s.canvas.height → (b : Bool) → in_area (invalid_area s) (pos x) (pos y) ≡ b
        → cond b (Some (pixel (kept_leaves j.entries) (pos x) (pos y))) (pixel_at s.canvas (pos x) (pos y)) ≡ Some (pixel (kept_leaves j.entries) (pos x) (pos y))
    at x y h k true i = refl
    at x y h k false i = elim (zero_or_more s.paints) [
      | inl z ↦ absurd (never (in_area (invalid_area s) (pos x) (pos y)) (all_due s canvas (pos x) (pos y) z (on_it x y h k)) i)
      | inr z ↦ e.shows z x y h k ∙ ap Some (same_outside (pos x) (pos y) i)
    ]

    shows : (x y : ℕ) → x < c.width → y < c.height → pixel_at c (pos x) (pos y) ≡ Some (pixel (kept_leaves j.entries) (pos x) (pos y))
    shows x y h k =
        let v : x < s.canvas.width = subst (λ n. x < n) re.width h in
        let w : y < s.canvas.height = subst (λ n. y < n) re.height k in
        re.pixels x y v w ∙ at x y v w (in_area p.area (pos x) (pos y)) (sym (prep.area.pixels (pos x) (pos y)))

    same_size : size_of c ≡ s.tree.canvas
    same_size = ap (λ n. record { w = pos n; h = pos c.height }) re.width ∙ ap (λ n. record { w = pos s.canvas.width; h = pos n }) re.height ∙ e.size

    pub put_engine : IsEngine (record { tree = untouched s.tree; kept = j; canvas = c; pending = false; paints = s.paints + 1; area = Some p.area })
    put_engine = record {
      ready = painted.kept;
      seen = λ l h. All-contains (IsOnCanvas (canvas_of s.tree.canvas)) (flat fresh) l (shows_on_canvas s.tree apart) (same_leaves (kept_leaves j.entries) fresh stands l h);
      size = same_size;
      first = λ z. absurd (omega (arith, z));
      shows = λ _. shows;
      last = (omega arith, prep.area.size ∙ sym same_size);
      stands = λ _. subst (λ (f : Entries Wrapper Leaf). StandsFor (kept_leaves j.entries) f) (sym (settled_list s.tree)) stands;
      few = few_kept;
      shallow = deep;
      groups = groups;
    }

    pub area_painted : (t : EngineState) → t.kept ≡ j → t.canvas ≡ c → t.area ≡ Some p.area → IsAreaPainted s t
    area_painted t k d a = record {
      area = p.area;
      last = a;
      size = prep.area.size;
      pixels = prep.area.pixels;
      painted =
          subst (λ (z : KeptList EntryKey Wrapper Made). IsRepainted (kept_leaves z.entries) p.area s.canvas t.canvas) (sym k)
          (subst (λ (z : Picture). IsRepainted (kept_leaves j.entries) p.area s.canvas z) (sym d) re);
    }
