-- Traced leaves that are those of a list that cover the pixel.
use Rattle.std.proofs.Common.{◌≡◌, refl, sym, ap, ◌∙◌, Bool, true, false, true≢false, ◌&&◌, cond, List, [], ◌∷◌, ◌++◌, map, reverse, append_assoc}
use Rattle.std.specs.Prelude.{filter, Option, Some, None}
use Rattle.std.proofs.lemmas.List.{map-append, append-nil, reverse-append}
use Rattle.std.proofs.lemmas.List.Elements.{filter-append}
use Rattle.rd_keys.specs.declared.entry.Part.{Part}
use Rattle.rd_keys.specs.declared.entry.Part.TheVariants.{Back, Border}
use Rattle.rd_item.specs.declared.leaf.Leaf.{Leaf}
use Rattle.rd_item.specs.Leaves.{covers}
use Rattle.rd_list.specs.Wrappers.{Wrapper}
use Rattle.rd_list.specs.Entries.{Entries, nil, leaf, group, ◌▷◌, flat, routes, has_leaf, option_entry}
use Rattle.rd_stack.specs.Paths.{BoxPath}
use Rattle.rd_stack.specs.Painting as painting
use Rattle.rd_stack.proofs.Orders.Members.{filter-map}
use Rattle.rd_trace.specs.declared.placing.Placing.{Placing}
use Rattle.rd_trace.specs.declared.placing.Sight.{Sight}
use Rattle.rd_trace.specs.Ways.{Traced, passed, within}
use Rattle.rd_trace.specs.Steps as spec
use Rattle.rd_trace.specs.Laws.{untraced, over_pixel}

-- ---- the leaves of a list that cover a pixel

routes-join : (base : List Wrapper) (xs ys : Entries Wrapper Leaf) → routes base (xs ▷ ys) ≡ routes base xs ++ routes base ys
routes-join base nil ys = refl
routes-join base (leaf l xs) ys = ap (λ zs. (base, l) ∷ zs) (routes-join base xs ys)
routes-join base (group g inner xs) ys = rw (routes-join base xs ys) (sym (append_assoc (routes (base ++ g ∷ []) inner) (routes base xs) (routes base ys)))

-- a route inside of one group more
abbrev under : Wrapper → (List Wrapper × Leaf) → (List Wrapper × Leaf)
under g r = (g ∷ r.0, r.1)

routes-under : (g : Wrapper) (base : List Wrapper) (xs : Entries Wrapper Leaf) → routes (g ∷ base) xs ≡ map (under g) (routes base xs)
routes-under g base nil = refl
routes-under g base (leaf l xs) = ap (λ zs. (g ∷ base, l) ∷ zs) (routes-under g base xs)
routes-under g base (group h inner xs) =
    rw (routes-under g (base ++ h ∷ []) inner, routes-under g base xs) (sym (map-append (under g) (routes (base ++ h ∷ []) inner) (routes base xs)))

pub flat-routes : (base : List Wrapper) (xs : Entries Wrapper Leaf) → map (λ r. r.1) (routes base xs) ≡ flat xs
flat-routes base nil = refl
flat-routes base (leaf l xs) = ap (λ ls. l ∷ ls) (flat-routes base xs)
flat-routes base (group g inner xs) =
    map-append {B = Leaf} (λ (r : List Wrapper × Leaf). r.1) (routes (base ++ g ∷ []) inner) (routes base xs) ∙ rw (flat-routes (base ++ g ∷ []) inner, flat-routes base xs) refl

no_map : {A B : Type 0} (f : A → B) (xs : List A) → map f xs ≡ [] → xs ≡ []
no_map f [] h = refl
no_map f (x ∷ xs) h = let e : f x ∷ map f xs ≡ [] = h in cc

no_leaf : {A : Type 0} (xs : List A) → has_leaf xs ≡ false → xs ≡ []
no_leaf [] h = refl
no_leaf (x ∷ xs) h = absurd (true≢false h)

no_routes : (xs : Entries Wrapper Leaf) → has_leaf (flat xs) ≡ false → routes [] xs ≡ []
no_routes xs h = no_map {B = Leaf} (λ (r : List Wrapper × Leaf). r.1) (routes [] xs) (flat-routes [] xs ∙ no_leaf (flat xs) h)

-- the leaves that are traced are those of this list that cover the pixel
pub record Told (s : Sight) (ts : List Traced) (list : Entries Wrapper Leaf) : Type 0 where
  pub is : map untraced ts ≡ over_pixel s.x s.y list

module _ (s : Sight) where
  abbrev pub over : (List Wrapper × Leaf) → Bool
  over r = covers r.1 s.x s.y

  over_join : (a b : Entries Wrapper Leaf) → over_pixel s.x s.y (a ▷ b) ≡ over_pixel s.x s.y a ++ over_pixel s.x s.y b
  over_join a b = ap (filter over) (routes-join [] a b) ∙ filter-append over (routes [] a) (routes [] b)

  pub told_join : (ts us : List Traced) (a b : Entries Wrapper Leaf) → Told s ts a → Told s us b → Told s (ts ++ us) (a ▷ b)
  told_join ts us a b h k = record { is = map-append untraced ts us ∙ (ap (λ zs. zs ++ map untraced us) h.is ∙ (ap (λ zs. over_pixel s.x s.y a ++ zs) k.is ∙ sym (over_join a b))) }

  pub told_if : (b : Bool) (ts : List Traced) (a : Entries Wrapper Leaf) → Told s ts a → Told s (spec.trace_if b ts) (painting.paint_if b a)
  told_if true ts a h = h
  told_if false ts a h = record { is = refl }

  pub told_either : (b : Bool) (ts us : List Traced) (a c : Entries Wrapper Leaf) → Told s ts a → Told s us c → Told s (cond b ts us) (cond b a c)
  told_either true ts us a c h k = h
  told_either false ts us a c h k = k

  told_seen : (w : Placing) (o : Option Leaf) → Told s (spec.seen s w o) (option_entry o)
  told_seen w None = record { is = refl }
  told_seen w (Some l) = record {
    is =
        elim (covers l s.x s.y) as (λ b. map untraced (cond b (record { leaf = l; way = w ∷ []; groups = [] } ∷ []) []) ≡ cond b (([], l) ∷ []) []) [
          | true ↦ refl
          | false ↦ refl
        ];
  }

  pub told_part : (w : Placing) (part : Part) (x : BoxPath) → Told s (spec.trace s w part x) (painting.paint s.canvas part x)
  told_part w part x = told_seen w _

  pub told_back_border : (w : Placing) (x : BoxPath) → Told s (spec.back_border s w x) (painting.back_border s.canvas x)
  told_back_border w x = told_join _ _ _ _ (told_part w Back x) (told_part w Border x)

  untraced_passed : (w : Placing) (ts : List Traced) → map untraced (passed w ts) ≡ map untraced ts
  untraced_passed w [] = refl
  untraced_passed w (t ∷ ts) = ap (λ zs. untraced t ∷ zs) (untraced_passed w ts)

  pub told_passed : (w : Placing) (ts : List Traced) (a : Entries Wrapper Leaf) → Told s ts a → Told s (passed w ts) a
  told_passed w ts a h = record { is = untraced_passed w ts ∙ h.is }

  untraced_within : (g : Wrapper) (ts : List Traced) → map untraced (map (within g) ts) ≡ map (under g) (map untraced ts)
  untraced_within g [] = refl
  untraced_within g (t ∷ ts) = ap (λ gs. (gs, t.leaf) ∷ map untraced (map (within g) ts)) (reverse-append t.groups (g ∷ [])) ∙ ap (λ zs. (g ∷ reverse t.groups, t.leaf) ∷ zs) (untraced_within g ts)

  told_in : (g : Wrapper) (ts : List Traced) (a : Entries Wrapper Leaf) → Told s ts a → Told s (map (within g) ts) (group g a nil)
  told_in g ts a h = record {
    is =
        untraced_within g ts ∙ (ap (map (under g)) h.is ∙ (filter-map (under g) over (routes [] a)
        ∙ (ap (filter over) (sym (routes-under g [] a)) ∙ ap (filter over) (sym (append-nil (routes (g ∷ []) a))))));
  }

  told_none : (g : Wrapper) (ts : List Traced) (a : Entries Wrapper Leaf) → routes [] a ≡ [] → Told s ts a → Told s (map (within g) ts) a
  told_none g ts a e h =
      let none : ts ≡ [] = no_map untraced ts (h.is ∙ ap (filter over) e) in
      record { is = ap (λ zs. map untraced (map (within g) zs)) none ∙ sym (ap (filter over) e) }

  told_group : (g : Wrapper) (ts : List Traced) (a : Entries Wrapper Leaf) (c : Bool) → has_leaf (flat a) ≡ c → Told s ts a → Told s (map (within g) ts) (cond c (group g a nil) a)
  told_group g ts a true e h = told_in g ts a h
  told_group g ts a false e h = told_none g ts a (no_routes a e) h

  -- what is composed as a whole, where it is
  pub told_whole : (g : Wrapper) (b : Bool) (ts : List Traced) (a : Entries Wrapper Leaf) → Told s ts a
      → Told s (cond b (map (within g) ts) ts) (cond (b && has_leaf (flat a)) (group g a nil) a)
  told_whole g true ts a h = told_group g ts a (has_leaf (flat a)) refl h
  told_whole g false ts a h = h

  -- ten lists, one on another
  pub told_ten : (t1 t2 t3 t4 t5 t6 t7 t8 t9 t10 : List Traced) (a1 a2 a3 a4 a5 a6 a7 a8 a9 a10 : Entries Wrapper Leaf)
      → Told s t1 a1 → Told s t2 a2 → Told s t3 a3 → Told s t4 a4 → Told s t5 a5 → Told s t6 a6 → Told s t7 a7 → Told s t8 a8 → Told s t9 a9 → Told s t10 a10
      → Told s (t1 ++ (t2 ++ (t3 ++ (t4 ++ (t5 ++ (t6 ++ (t7 ++ (t8 ++ (t9 ++ t10))))))))) (a1 ▷ (a2 ▷ (a3 ▷ (a4 ▷ (a5 ▷ (a6 ▷ (a7 ▷ (a8 ▷ (a9 ▷ a10)))))))))
  told_ten t1 t2 t3 t4 t5 t6 t7 t8 t9 t10 a1 a2 a3 a4 a5 a6 a7 a8 a9 a10 h1 h2 h3 h4 h5 h6 h7 h8 h9 h10 =
      told_join t1 (t2 ++ (t3 ++ (t4 ++ (t5 ++ (t6 ++ (t7 ++ (t8 ++ (t9 ++ t10)))))))) a1 (a2 ▷ (a3 ▷ (a4 ▷ (a5 ▷ (a6 ▷ (a7 ▷ (a8 ▷ (a9 ▷ a10)))))))) h1 (told_join t2 (t3 ++ (t4 ++ (t5 ++ (t6 ++ (t7 ++ (t8 ++ (t9 ++ t10))))))) a2 (a3 ▷ (a4 ▷ (a5 ▷ (a6 ▷ (a7 ▷ (a8 ▷ (a9 ▷ a10))))))) h2 (told_join t3 (t4 ++ (t5 ++ (t6 ++ (t7 ++ (t8 ++ (t9 ++ t10)))))) a3 (a4 ▷ (a5 ▷ (a6 ▷ (a7 ▷ (a8 ▷ (a9 ▷ a10)))))) h3 (told_join t4 (t5 ++ (t6 ++ (t7 ++ (t8 ++ (t9 ++ t10))))) a4 (a5 ▷ (a6 ▷ (a7 ▷ (a8 ▷ (a9 ▷ a10))))) h4 (told_join t5 (t6 ++ (t7 ++ (t8 ++ (t9 ++ t10)))) a5 (a6 ▷ (a7 ▷ (a8 ▷ (a9 ▷ a10)))) h5 (told_join t6 (t7 ++ (t8 ++ (t9 ++ t10))) a6 (a7 ▷ (a8 ▷ (a9 ▷ a10))) h6 (told_join t7 (t8 ++ (t9 ++ t10)) a7 (a8 ▷ (a9 ▷ a10)) h7 (told_join t8 (t9 ++ t10) a8 (a9 ▷ a10) h8 (told_join t9 t10 a9 a10 h9 h10))))))))
