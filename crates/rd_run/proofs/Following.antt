-- Tiles follow an engine.
use Rattle.std.proofs.Common.{◌≡◌, ℕ, ◌+◌, ◌*◌, ◌<◌, ◌/◌, ◌%◌, zero, suc, ℤ, pos, Bool, true, false, cond, List, [], ◌++◌, Some, refl, sym, ◌∙◌, ap, ap₂, subst, append-nil, arith, inl, inr}
use Rattle.std.specs.Prelude.{nat_lt, IsTrue, string_bytes, replicate, get_or, unsigned_abs}
use Rattle.std.proofs.lemmas.Bool.{lt-ltb}
use Rattle.std.proofs.lemmas.Int.{ints}
use Rattle.std.proofs.lemmas.List.{get_or-replicate}
use Rattle.rd_geom.specs.Areas.{Region, in_area}
use Rattle.rd_geom.specs.Canvas.{canvas_of}
use Rattle.rd_geom.specs.Colors.{Premultiplied, white, clear}
use Rattle.rd_geom.specs.Plane.{holds_pixel}
use Rattle.rd_geom.specs.declared.rect.Size.{Size}
use Rattle.rd_geom.proofs.Areas.{meets_area-same}
use Rattle.rd_keys.specs.Keys.{same_key}
use Rattle.rd_keys.specs.declared.entry.EntryKey.{EntryKey}
use Rattle.rd_item.specs.Items.{Made}
use Rattle.rd_list.specs.EntryNames.{kept_leaves}
use Rattle.rd_list.specs.Kept.{KeptList}
use Rattle.rd_list.specs.Lists.{pixel}
use Rattle.rd_list.specs.Wrappers.{Wrapper}
use Rattle.rd_paint.specs.Pictures.{Picture, size_of, pixel_at}
use Rattle.rd_paint.proofs.Written.{on_canvas}
use Rattle.rd_tiles.specs.Tiling.{tile_of, columns_of, rows_of, met_among, tiles_met, pixel_in, IsRetiled}
use Rattle.rd_tree.specs.Document.{Document}
use Rattle.rd_tree.specs.Forest.{IsApart}
use Rattle.rd_engine.specs.State.{EngineState, IsEngine}
use Rattle.rd_engine.specs.Painted.{IsBegun}
use Rattle.rd_engine.proofs.Keeping.{same_pixel}
use Rattle.rd_engine.specs.Invalid as engine
use Rattle.rd_report.specs.Pictures.{p6_text}
use Rattle.rd_report.specs.Tiles.{tiles_line}
use Rattle.rd_run.specs.Machine as machine
use Rattle.rd_run.specs.Machine.{State}
use Rattle.rd_run.specs.Tiled.{tiles_in, tiled_line}
use Rattle.rd_run.specs.Internal.OnTiles.{IsBlankOn, AreOf, Show, IsRepaintedBy, IsCopyOf, Follow, GoesOnTiles, line_by, engine_line}
use Rattle.rd_run.specs.Endings.{Counter}
use Rattle.rd_run.specs.Pictures.{picture}
use Rattle.rd_run.specs.Internal.Session.{SessionState, Shows, Does, PaintsOnce, PaintsNot, Watched}
use Rattle.rd_run.specs.declared.tiling.Follower.{Follower}
use Rattle.rd_run.proofs.Dues.{area_same}
use Rattle.rd_run.proofs.Showing.{copy_is}

-- ---- areas with the same pixels meet the same tiles

met_same : (a b : Region) (s : Size) (n : ℕ) → ((x y : ℤ) → in_area a x y ≡ in_area b x y) → met_among a s n ≡ met_among b s n
met_same a b s zero e = refl
met_same a b s (suc n) e =
    ap₂ (λ (k : ℕ) (m : Bool). k + cond m 1 0) (met_same a b s n e) (meets_area-same a b (tile_of s (n % columns_of s) (n / columns_of s)) e)

tiles_same : (a b : Region) → a.size ≡ b.size → ((x y : ℤ) → in_area a x y ≡ in_area b x y) → tiles_met a ≡ tiles_met b
tiles_same a b s e = ap (λ (z : Size). met_among a z (columns_of z * rows_of z)) s ∙ met_same a b b.size (columns_of b.size * rows_of b.size) e

-- ---- sizes

sized : (a b : Picture) → a.width ≡ b.width → a.height ≡ b.height → size_of a ≡ size_of b
sized a b w h = ap₂ (λ (m n : ℕ). record { w = pos m; h = pos n }) w h

pub of_size : (s z : Size) (t : Follower) → s ≡ z → AreOf s t → AreOf z t
of_size s z t e a = subst (λ (x : Size). AreOf x t) e a

-- what an engine does keeps the size of its canvas
pub watched_size : (old new : EngineState) → Watched old new → size_of old.canvas ≡ size_of new.canvas
watched_size old new (inl p) = sized old.canvas new.canvas (sym p.area.painted.width) (sym p.area.painted.height)
watched_size old new (inr p) = ap size_of (sym p.canvas)

on_it : (c : Picture) (x y : ℕ) → x < c.width → y < c.height → holds_pixel (canvas_of (size_of c)) (pos x) (pos y) ≡ true
on_it c x y h k = grind (arith, ints, h, k)

-- ---- tiles follow

module _ (old new : EngineState) (t u : Follower) (size : size_of old.canvas ≡ old.tree.canvas) (sh : Show t old.canvas) where
  -- where the engine painted
  module _ (p : PaintsOnce old new) (area : Region) (is : area ≡ p.area.area) (r : IsRepaintedBy new area t u) where
    same_size : size_of old.canvas ≡ size_of new.canvas
    same_size = watched_size old new (inl p)

    painted_pixel : (x y : ℕ) → x < new.canvas.width → y < new.canvas.height → pixel_in u.canvas (pos x) (pos y) ≡ pixel_at new.canvas (pos x) (pos y)
    painted_pixel x y h k =
        let w : x < old.canvas.width = subst (λ (n : ℕ). x < n) p.area.painted.width h in
        let v : y < old.canvas.height = subst (λ (n : ℕ). y < n) p.area.painted.height k in
        let on : IsTrue (holds_pixel (canvas_of t.canvas.size) (pos x) (pos y)) =
        subst (λ (z : Size). holds_pixel (canvas_of z) (pos x) (pos y) ≡ true) (sym sh.of.size) (on_it old.canvas x y w v) in
        r.canvas.pixels (pos x) (pos y) on
        ∙ ap (λ o. cond (in_area area (pos x) (pos y)) (Some (pixel (kept_leaves new.kept.entries) (pos x) (pos y))) o) (sh.pixels x y w v)
        ∙ ap (λ (a : Region). cond (in_area a (pos x) (pos y)) (Some (pixel (kept_leaves new.kept.entries) (pos x) (pos y))) (pixel_at old.canvas (pos x) (pos y))) is
        ∙ sym (p.area.painted.pixels x y w v)

    painted_of : AreOf (size_of new.canvas) u
    painted_of =
        of_size (size_of old.canvas) (size_of new.canvas) u same_size
        (record { size = r.canvas.size ∙ sh.of.size; rows = r.buffers ∙ sh.of.rows })

    painted_line : tiles_line new.paints (tiles_met area) (tiles_in (size_of new.canvas)) ≡ engine_line old new
    painted_line =
        let n = p.number in
        let later : nat_lt old.paints new.paints ≡ true = grind (arith, n) in
        let met : tiles_met area ≡ tiles_met (engine.invalid_area old) =
        ap tiles_met is ∙ tiles_same p.area.area (engine.invalid_area old) p.area.size p.area.pixels in
        ap₂ (λ (m a : ℕ). tiles_line new.paints m a) met (ap tiles_in (sym same_size ∙ size))
        ∙ sym (ap (λ (b : Bool). cond b (tiles_line new.paints (tiles_met (engine.invalid_area old)) (tiles_in old.tree.canvas)) []) later)

    pub follow_painted : Follow old new t u
    follow_painted = record {
      shows = record { of = painted_of; pixels = painted_pixel };
      text = r.text ∙ ap (λ l. string_bytes t.text ++ l) painted_line;
    }

-- where the engine did not paint
module _ (old new : EngineState) (t : Follower) (sh : Show t old.canvas) (p : PaintsNot old new) where
  no_line : engine_line old new ≡ []
  no_line =
      let n = p.paints in
      let no : nat_lt old.paints new.paints ≡ false = grind (arith, n) in
      ap (λ (b : Bool). cond b (tiles_line new.paints (tiles_met (engine.invalid_area old)) (tiles_in old.tree.canvas)) []) no

  pub follow_unpainted : Follow old new t t
  follow_unpainted = record {
    shows = subst (λ (c : Picture). Show t c) (sym p.canvas) sh;
    text = sym (append-nil (string_bytes t.text)) ∙ ap (λ l. string_bytes t.text ++ l) (sym no_line);
  }

-- the two ways of an engine, told apart by the count of its paints
pub not_once : (old new : EngineState) → old.paints ≡ new.paints → Watched old new → PaintsNot old new
not_once old new e (inl p) = let n = p.number in absurd (omega (arith, n, e))
not_once old new e (inr p) = p

pub not_still : (old new : EngineState) → (old.paints ≡ new.paints → ⊥) → Watched old new → PaintsOnce old new
not_still old new n (inl p) = p
not_still old new n (inr p) = absurd (n (sym p.paints))

-- the area that an engine lends after a paint is that of the paint
pub lent_area : (old new : EngineState) (area : Region) (p : PaintsOnce old new) → Some area ≡ new.area → area ≡ p.area.area
lent_area old new area p e = let both : Some area ≡ Some p.area.area = e ∙ p.area.last in (cc)

-- ---- the engine's line is the machine's

pub same_line : (s t : State) (x y : SessionState) → Shows x s → Shows y t → engine_line x.engine y.engine ≡ tiled_line s t
same_line s t x y sh th =
    sym (
    ap (λ (p : ℕ). line_by p t.paints (machine.invalid_area s) s.tree.canvas) sh.paints
    ∙ ap (λ (q : ℕ). line_by x.engine.paints q (machine.invalid_area s) s.tree.canvas) th.paints
    ∙ ap (λ (a : Region). line_by x.engine.paints y.engine.paints a s.tree.canvas) (area_same s x.engine sh.tree sh.last)
    ∙ ap (λ (d : Document). line_by x.engine.paints y.engine.paints (engine.invalid_area x.engine) d.canvas) sh.tree)

-- ---- what the calls give, put together

-- the tiles were repainted, and their line told
pub repainted_by : (e : EngineState) (area : Region) (t u : Follower) (k : KeptList EntryKey Wrapper Made) (number met columns rows : ℕ)
    → k ≡ e.kept → number ≡ e.paints → met ≡ tiles_met area → columns ≡ columns_of t.canvas.size → rows ≡ rows_of t.canvas.size → AreOf (size_of e.canvas) t
    → IsRetiled (kept_leaves k.entries) area number t.canvas u.canvas → u.buffers ≡ t.buffers
    → string_bytes u.text ≡ string_bytes t.text ++ tiles_line number met (columns * rows) → IsRepaintedBy e area t u
repainted_by e area t u k number met columns rows list n m c r of retiled buffers told = record {
  canvas = subst (λ (p : ℕ). IsRetiled (kept_leaves e.kept.entries) area p t.canvas u.canvas) n
      (subst (λ (l : KeptList EntryKey Wrapper Made). IsRetiled (kept_leaves l.entries) area number t.canvas u.canvas) list retiled);
  buffers = buffers;
  text =
      told
      ∙ ap (λ (p : ℕ). string_bytes t.text ++ tiles_line p met (columns * rows)) n
      ∙ ap (λ (p : ℕ). string_bytes t.text ++ tiles_line e.paints p (columns * rows)) m
      ∙ ap₂ (λ (p q : ℕ). string_bytes t.text ++ tiles_line e.paints (tiles_met area) (p * q)) c r
      ∙ ap (λ (s : Size). string_bytes t.text ++ tiles_line e.paints (tiles_met area) (tiles_in s)) of.size;
}

-- an engine that painted lends an area
pub none_lent : (old new : EngineState) → (old.paints ≡ new.paints → ⊥) → false ≡ nat_lt 0 new.paints → Watched old new → ⊥
none_lent old new n z (inl p) =
    let q = p.number in
    let later : nat_lt 0 new.paints ≡ true = grind (arith, q) in
    let no : false ≡ true = z ∙ later in absurd cc
none_lent old new n z (inr p) = n (sym p.paints)

-- the session's engine is the one that is followed
pub follows : (x y : SessionState) (e : EngineState) (before : ℕ) (t u : Follower) → e ≡ y.engine → before ≡ x.engine.paints → IsEngine x.engine
    → Show t x.engine.canvas → Watched x.engine y.engine
    → ((old : EngineState) → before ≡ old.paints → size_of old.canvas ≡ old.tree.canvas → Show t old.canvas → Watched old e → Follow old e t u)
    → Follow x.engine y.engine t u
follows x y e before t u same b is sh w f =
    subst (λ (z : EngineState). Follow x.engine z t u) same
    (f x.engine b is.size sh (subst (λ (z : EngineState). Watched x.engine z) (sym same) w))

-- what was done is told by the tiles
pub goes_on_tiles : (step : State → List ℕ → State → Type 0) (made looks : Counter) (s : State) (x y : SessionState) (t u : Follower)
    → Shows x s → Does step made looks s y → Follow x.engine y.engine t u → GoesOnTiles step made looks s t y u
goes_on_tiles step made looks s x y t u sh d f =
    let a = d.1 in (
      d.0,
      a.0,
      a.1,
      a.2,
      a.3,
      f.text ∙ ap (λ l. string_bytes t.text ++ l) (same_line s (a.0) x y sh a.2),
    )

-- ---- at the beginning

white_at : (c : Picture) (x y : ℕ) → c.pixels ≡ replicate (c.height * c.width) white → x < c.width → y < c.height → pixel_at c (pos x) (pos y) ≡ Some white
white_at c x y e h k =
    rw (lt-ltb x c.width h, lt-ltb y c.height k)
    (ap (λ (ps : List Premultiplied). Some (get_or ps (y * c.width + x) clear)) e
    ∙ ap Some (get_or-replicate (c.height * c.width) (y * c.width + x) white clear (on_canvas c.width c.height (c.height * c.width) y x refl k h)))

-- white tiles show an engine that has not painted
pub begun_shows : (s : Size) (d : Document) (e : EngineState) (t : Follower) → IsBegun d e → IsBlankOn s t → d.canvas ≡ s → Show t e.canvas
begun_shows s d e t b k q =
    let size : s ≡ size_of e.canvas = sym q ∙ sym b.size in
    record {
      of = of_size s (size_of e.canvas) t size (record { size = k.size; rows = k.rows });
      pixels = λ x y h l.
          k.pixels (pos x) (pos y) (subst (λ (z : Size). holds_pixel (canvas_of z) (pos x) (pos y) ≡ true) (sym size) (on_it e.canvas x y h l))
          ∙ sym (white_at e.canvas x y b.canvas h l);
    }

-- ---- at the end

-- a copy of tiles that show the canvas is the picture of the tree
pub copied_picture : (e : EngineState) → IsEngine e → IsApart same_key e.tree.boxes → e.pending ≡ false → (t : Follower) → Show t e.canvas
    → (c : Picture) → IsCopyOf t.canvas c → p6_text c.width c.height c.pixels ≡ picture e.tree
copied_picture e is apart now t sh c copy =
    let size : size_of c ≡ size_of e.canvas = copy.size ∙ sh.of.size in
    let wide : c.width ≡ e.canvas.width = ap (λ (s : Size). unsigned_abs s.w) size in
    let high : c.height ≡ e.canvas.height = ap (λ (s : Size). unsigned_abs s.h) size in
    copy_is e is apart now c copy.count (size ∙ is.size)
    (λ x y h k.
    let h' : x < e.canvas.width = subst (λ (n : ℕ). x < n) wide h in
    let k' : y < e.canvas.height = subst (λ (n : ℕ). y < n) high k in
    copy.pixels (pos x) (pos y) ∙ sh.pixels x y h' k' ∙ same_pixel e is apart now x y h' k')
