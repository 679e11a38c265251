-- The invalid area of a machine is that of its engine.
use Rattle.std.proofs.Common.{◌≡◌, ℕ, zero, suc, ◌+◌, ◌*◌, ◌≤◌, ℤ, Bool, true, false, cond, List, [], ◌∷◌, ◌++◌, map, refl, sym, ◌∙◌, ap, arith, Option, Some, None, option_map, unsigned_abs, pos}
use Rattle.std.specs.List.{list_any, fold}
use Rattle.std.proofs.lemmas.Bool.{eq-eqb, ne_eqb}
use Rattle.std.proofs.lemmas.List.{map-append}
use Rattle.std.proofs.lemmas.List.Sorted.{list_any-IsPermutation, IsPermutation-map}
use Rattle.rd_geom.specs.Areas.{columns_in, count_of}
use Rattle.rd_geom.specs.declared.span.Span.{Span}
use Rattle.rd_item.specs.declared.leaf.Leaf.{Leaf}
use Rattle.rd_list.specs.Wrappers.{Wrapper}
use Rattle.rd_list.specs.Entries.{Entries, nil, leaf, group, flat, routes}
use Rattle.rd_list.specs.EntryNames.{kept_leaves}
use Rattle.rd_list.specs.Lists.{StandsFor}
use Rattle.rd_tree.specs.Document.{Document, is_touched}
use Rattle.rd_stack.specs.Fresh.{fresh_list}
use Rattle.rd_partial.specs.Invalid.{shows_touched, is_invalid}
use Rattle.rd_engine.specs.State.{EngineState}
use Rattle.rd_engine.specs.Invalid as engine
use Rattle.rd_engine.specs.Invalid.{is_due, area_due, painted_list, region_where, rows_where, columns_where}
use Rattle.rd_run.specs.Machine as machine
use Rattle.rd_run.specs.Machine.{State}
use Rattle.rd_run.specs.Internal.Lasts.{IsLast}

flat-routes : (path : List Wrapper) (xs : Entries Wrapper Leaf) → map (λ r. r.1) (routes path xs) ≡ flat xs
flat-routes path nil = refl
flat-routes path (leaf l xs) = ap (λ z. l ∷ z) (flat-routes path xs)
flat-routes path (group g inner xs) =
    map-append {B = Leaf} (λ (r : List Wrapper × Leaf). r.1) (routes (path ++ g ∷ []) inner) (routes path xs)
    ∙ rw (flat-routes (path ++ g ∷ []) inner, flat-routes path xs) refl

-- lists of which one stands for the other have the same leaves
same_leaves : (p : Leaf → Bool) (kept fresh : Entries Wrapper Leaf) → StandsFor kept fresh → list_any p (flat kept) ≡ list_any p (flat fresh)
same_leaves p kept fresh s =
    ap (list_any p) (sym (flat-routes [] kept))
    ∙ list_any-IsPermutation p (map (λ r. r.1) (routes [] kept)) (map (λ r. r.1) (routes [] fresh)) (IsPermutation-map (λ r. r.1) (routes [] kept) (routes [] fresh) s.leaves)
    ∙ ap (list_any p) (flat-routes [] fresh)

same_invalid : (t : Document) (kept fresh : Entries Wrapper Leaf) (x y : ℤ) → StandsFor kept fresh → is_invalid t fresh x y ≡ is_invalid t kept x y
same_invalid t kept fresh x y s =
    rw (same_leaves (shows_touched (λ k. is_touched k t.boxes) x y) kept fresh s) refl

due : (last : Option Document) (e : EngineState) (x y : ℤ) → IsLast last e → is_due (option_map fresh_list last) e.tree x y ≡ is_due (painted_list e) e.tree x y
due None e x y h = rw (eq-eqb e.paints 0 h) refl
due (Some t) e x y h = rw (ne_eqb e.paints 0 (λ z. let l = h.0 in absurd (omega (arith, z, l)))) (same_invalid e.tree (kept_leaves e.kept.entries) (fresh_list t) x y h.1)

pub area_same : (s : State) (e : EngineState) → s.tree ≡ e.tree → IsLast s.last e → machine.invalid_area s ≡ engine.invalid_area e
area_same s e t h =
    ap (λ z. area_due (option_map fresh_list s.last) z) t ∙ ap (λ p. region_where p e.tree.canvas) (λ i x y. due s.last e x y h i)

columns-within : (ss : List Span) (n : ℕ) → columns_in ss n ≤ n
unfolding columns_in
columns-within ss zero = omega arith
columns-within ss (suc n) = let r = columns-within ss n in by _ (omega (arith, r))
  where
    by : (b : Bool) → columns_in ss n ≤ n → cond b 1 0 + columns_in ss n ≤ suc n
    by true l = omega (arith, l)
    by false l = omega (arith, l)

rows-within : (p : ℤ → ℤ → Bool) (w y n a : ℕ) → fold (λ (a : ℕ) (x : List Span). a + columns_in x w) a (rows_where p w y n) ≤ a + n * w
rows-within p w y zero a = omega arith
rows-within p w y (suc n) a =
    let c : ℕ = columns_in (columns_where (λ x. p x (pos y)) w) w in
    let one : c ≤ w = columns-within (columns_where (λ x. p x (pos y)) w) w in
    let r = rows-within p w (suc y) n (a + c) in
    let e : suc n * w ≡ n * w + w = omega arith in
    omega (arith, r, one, e)

-- an area has no more pixels than its canvas
pub area-within : (e : EngineState) → count_of (engine.invalid_area e) ≤ unsigned_abs e.tree.canvas.h * unsigned_abs e.tree.canvas.w
area-within e =
    let r = rows-within (is_due (painted_list e) e.tree) (unsigned_abs e.tree.canvas.w) 0 (unsigned_abs e.tree.canvas.h) 0 in
    omega (arith, r)
