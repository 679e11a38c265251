-- An engine stays one through edits, and shows what its tree shows.
use Rattle.std.proofs.Common.{◌≡◌, refl, ap, ◌∙◌, sym, subst, ℕ, zero, suc, ◌<◌, ℤ, pos, negsuc, Bool, true, false, cond, ◌&&◌, [], arith}
use Rattle.std.specs.Prelude.{Option, Some, None, IfSome, is_some, nat_lt}
use Rattle.std.proofs.lemmas.Bool.{lt-ltb}
use Rattle.std.proofs.lemmas.Int.{ints}
use Rattle.rd_geom.specs.Areas.{Region}
use Rattle.rd_geom.specs.Plane.{holds_pixel}
use Rattle.rd_geom.specs.Canvas.{canvas_of}
use Rattle.rd_geom.specs.declared.rect.Size.{Size}
use Rattle.rd_geom.specs.declared.color.Color.{Color}
use Rattle.rd_geom.specs.Colors.{Premultiplied}
use Rattle.rd_keys.specs.Keys.{same_key}
use Rattle.rd_keys.specs.declared.entry.EntryKey.{EntryKey}
use Rattle.rd_item.specs.Items.{Made}
use Rattle.rd_list.specs.Wrappers.{Wrapper}
use Rattle.rd_list.specs.Entries.{nil}
use Rattle.rd_list.specs.EntryNames.{kept_leaves}
use Rattle.rd_list.specs.Kept.{KeptList}
use Rattle.rd_list.specs.Lists.{pixel, hit}
use Rattle.rd_list.proofs.Merges.Naming.{groups_apart}
use Rattle.rd_tree.specs.Forest.{IsApart}
use Rattle.rd_tree.specs.Document.{Document}
use Rattle.rd_tree.specs.Changes.{Change, insertion, removal, moving, styling, placing, shifting, scrolling}
use Rattle.rd_tree.specs.Touching.{edited}
use Rattle.rd_edits.specs.Edited.{IsEdited}
use Rattle.rd_edits.specs.Refusals.{refusal_of}
use Rattle.rd_edits.specs.declared.edit.Edit.{Edit}
use Rattle.rd_stack.specs.Fresh.{fresh_list}
use Rattle.rd_stack.specs.Laws.{IsOnCanvas}
use Rattle.rd_stack.specs.Locality.{ShowsTheSame}
use Rattle.rd_stack.proofs.Promises.{stands_for_itself}
use Rattle.rd_stack.proofs.Locality.{locality}
use Rattle.rd_paint.specs.Pictures.{Picture, size_of, pixel_at}
use Rattle.rd_engine.specs.Accepted.{IsWellMade}
use Rattle.rd_engine.specs.State.{EngineState, IsEngine, IsLast}
use Rattle.rd_engine.specs.Painted.{opaque, shown_at, IsAllTouched}
use Rattle.rd_engine.proofs.Kept.{editing}
use Rattle.rd_engine.proofs.Nothing.{nothing_kept}

-- a change leaves the canvas
same_canvas : (c : Change) (t : Document) → (edited c t).canvas ≡ t.canvas
same_canvas (insertion p before k d) t = refl
same_canvas (removal k) t = refl
same_canvas (moving k p before) t = refl
same_canvas (styling k c) t = refl
same_canvas (placing k r) t = refl
same_canvas (shifting k dx dy) t = refl
same_canvas (scrolling k v) t = refl

pub edited_engine : (e : Edit) (s : EngineState) (t : Document) → IsEngine s → IsWellMade s.tree → refusal_of s.tree e ≡ None → IsEdited e s.tree t → IsEngine (record s { tree = t; pending = true })
edited_engine e s t is made accepted did =
    let (c, n, eq) = did in
    let same : t.canvas ≡ s.tree.canvas = ap (λ u. u.canvas) eq ∙ same_canvas c s.tree in
    record {
      ready = editing e s.tree t s.kept made accepted did is.ready;
      seen = λ l h. subst (λ (z : Size). IsOnCanvas (canvas_of z) l) (sym same) (is.seen l h);
      size = is.size ∙ sym same;
      first = λ z. (refl, (is.first z).1);
      shows = is.shows;
      last = is.last;
      stands = λ h. absurd (let no : true ≡ false = h in cc);
      few = is.few;
      shallow = is.shallow;
      groups = is.groups;
    }

-- before the first paint
pub begun_engine : (t : Document) (c : Picture) (k : KeptList EntryKey Wrapper Made) → IsAllTouched t → k ≡ record { graph = []; entries = nil } → size_of c ≡ t.canvas
    → IsEngine (record { tree = t; kept = k; canvas = c; pending = true; paints = 0; area = None })
begun_engine t c k touched is size =
    subst (λ (z : KeptList EntryKey Wrapper Made). IsEngine (record { tree = t; kept = z; canvas = c; pending = true; paints = 0; area = None })) (sym is)
    (record {
      ready = nothing_kept t touched;
      seen = λ l h. absurd (omega (arith, h.1));
      size = size;
      first = λ _. (refl, refl);
      shows = λ h. absurd (omega (arith, h));
      last = refl;
      stands = λ h. absurd (let no : true ≡ false = h in cc);
      few = omega arith;
      shallow = omega arith;
      groups = omega arith;
    })

module _ (s : EngineState) (is : IsEngine s) (apart : IsApart same_key s.tree.boxes) (now : s.pending ≡ false) where
  same : ShowsTheSame (kept_leaves s.kept.entries) (fresh_list s.tree)
  same = locality (kept_leaves s.kept.entries) (fresh_list s.tree) (is.stands now) (groups_apart (fresh_list s.tree) (stands_for_itself s.tree apart).grouped)

  pub same_hit : (x y : ℤ) → hit (kept_leaves s.kept.entries) x y ≡ hit (fresh_list s.tree) x y
  same_hit x y = same.hits x y

  painted : (n : ℕ) → s.paints ≡ n → 0 < s.paints
  painted zero e = absurd (let p : s.pending ≡ true = (is.first e).0 in let no : true ≡ false = sym p ∙ now in cc)
  painted (suc n) e = omega (arith, e)

  -- a pixel of the canvas is that of the tree
  pub same_pixel : (x y : ℕ) → x < s.canvas.width → y < s.canvas.height → pixel_at s.canvas (pos x) (pos y) ≡ Some (pixel (fresh_list s.tree) (pos x) (pos y))
  same_pixel x y h k = is.shows (painted s.paints refl) x y h k ∙ ap Some (same.pixels (pos x) (pos y))

-- where a picture has a pixel
pub off_picture : (c : Picture) (x y : ℤ) → holds_pixel (canvas_of (size_of c)) x y ≡ false → pixel_at c x y ≡ None
off_picture c (pos x) (pos y) h = let f : (nat_lt x c.width && nat_lt y c.height) ≡ false = grind (arith, ints, h) in rw f refl
off_picture c (pos x) (negsuc y) h = refl
off_picture c (negsuc x) y h = refl

pub on_picture : (c : Picture) (x y : ℤ) → holds_pixel (canvas_of (size_of c)) x y ≡ true → (i : ℕ) × (j : ℕ) × (x ≡ pos i) × (y ≡ pos j) × (i < c.width) × (j < c.height)
on_picture c (pos x) (pos y) h = (x, y, refl, refl, grind (arith, ints, h), grind (arith, ints, h))
on_picture c (pos x) (negsuc y) h = absurd (let no : false ≡ true = grind (arith, ints, h) in cc)
on_picture c (negsuc x) y h = absurd (let no : false ≡ true = grind (arith, ints, h) in cc)

module _ (s : EngineState) (is : IsEngine s) (apart : IsApart same_key s.tree.boxes) (now : s.pending ≡ false) (x y : ℤ) where
  by : (b : Bool) → holds_pixel (canvas_of s.tree.canvas) x y ≡ b → (o : Option Premultiplied) → pixel_at s.canvas x y ≡ o
      → (elim o as (λ _. Option Color) [ Some p ↦ Some (opaque p) | None ↦ None ]) ≡ cond b (Some (opaque (pixel (fresh_list s.tree) x y))) None
  by true e o h =
      let w = on_picture s.canvas x y (ap (λ z. holds_pixel (canvas_of z) x y) is.size ∙ e) in
      let there : pixel_at s.canvas x y ≡ Some (pixel (fresh_list s.tree) x y) =
      subst (λ z. pixel_at s.canvas z y ≡ Some (pixel (fresh_list s.tree) z y)) (sym w.2)
      (subst (λ z. pixel_at s.canvas (pos w.0) z ≡ Some (pixel (fresh_list s.tree) (pos w.0) z)) (sym w.3) (same_pixel s is apart now w.0 w.1 w.4 w.5)) in
      subst (λ (z : Option Premultiplied). (elim z as (λ _. Option Color) [ Some p ↦ Some (opaque p) | None ↦ None ]) ≡ Some (opaque (pixel (fresh_list s.tree) x y))) (sym there ∙ h) refl
  by false e o h =
      let none : pixel_at s.canvas x y ≡ None = off_picture s.canvas x y (ap (λ z. holds_pixel (canvas_of z) x y) is.size ∙ e) in
      subst (λ (z : Option Premultiplied). (elim z as (λ _. Option Color) [ Some p ↦ Some (opaque p) | None ↦ None ]) ≡ None) (sym none ∙ h) refl

  -- the canvas shows the tree
  pub shown_pixel : (p : Premultiplied) → pixel_at s.canvas x y ≡ Some p → Some (opaque p) ≡ shown_at s.tree x y
  shown_pixel p h = by (holds_pixel (canvas_of s.tree.canvas) x y) refl (Some p) h

  pub shown_none : pixel_at s.canvas x y ≡ None → None ≡ shown_at s.tree x y
  shown_none h = by (holds_pixel (canvas_of s.tree.canvas) x y) refl None h

-- the area of the last paint
pub last_some : (c : Picture) (n : ℕ) (o : Option Region) → IsLast c n o → is_some o ≡ nat_lt 0 n
last_some c n None h = rw h refl
last_some c n (Some a) h = sym (lt-ltb 0 n h.0)

pub last_size : (c : Picture) (n : ℕ) (o : Option Region) → IsLast c n o → IfSome o (λ a. a.size ≡ size_of c)
last_size c n None h = tt
last_size c n (Some a) h = h.1
