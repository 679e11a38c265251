-- Leaves that are put on top of others, with the groups round them.
use Rattle.std.proofs.Common.{◌≡◌, ℕ, zero, suc, ◌+◌, ◌<◌, ◌≤◌, List, [], ◌∷◌, ◌++◌, length, map, take, drop, get_or, Vec, Global, refl, sym, ap, subst, ◌∙◌, arith, append_assoc, append-nil}
use Rattle.std.specs.List.{AllByRecursion}
use Rattle.std.proofs.lemmas.List.{map_push, take_more, take-append-drop, length_push}
use Rattle.std.proofs.Math.Seq.{drop-cons}
use Rattle.rd_geom.specs.declared.blend.Blend.{Blend}
use Rattle.rd_keys.specs.Keys.{BoxKey}
use Rattle.rd_item.specs.declared.leaf.Leaf.{Leaf}
use Rattle.rd_item.specs.Items.{Made}
use Rattle.rd_list.specs.Wrappers.{Wrapper}
use Rattle.rd_list.specs.Entries.{Entries, nil, leaf, group, ◌▷◌, list_size, routes}
use Rattle.rd_list.specs.EntryNames.{new_leaves}
use Rattle.rd_list.specs.NewView.{new_entries, in_runs}
use Rattle.rd_list.specs.declared.fresh.NewEntry.{NewEntry}
use Rattle.rd_list.specs.declared.fresh.NewEntry.TheVariants as new
use Rattle.rd_list.proofs.News.{new-append, next_size, run_size, runs_next}
use Rattle.rd_check.specs.declared.around.Around.{Around}
use Rattle.rd_check.specs.declared.around.Found.{Found}
use Rattle.rd_check.specs.declared.around.Rounds.{Rounds}
use Rattle.rd_check.specs.declared.painted.Painted.{Painted}
use Rattle.rd_check.specs.Internal.Lines.{Way}
use Rattle.rd_check.specs.Internal.Rounds.{group_of, round_at, IsGrown, way_in, ways_in, CanAdd, IsAdded}

-- ---- rows

abbrev Rows : Type 0
Rows = List (Vec Around Global)

pub row_push : (rows : Rows) (v : Vec Around Global) (i : ℕ) → i < length rows → round_at (rows ++ v ∷ []) i ≡ round_at rows i
row_push [] v i h = absurd (omega (arith, h))
row_push (r ∷ rows) v zero h = refl
row_push (r ∷ rows) v (suc i) h = row_push rows v i (omega (arith, h))

pub row_last : (rows : Rows) (v : Vec Around Global) → round_at (rows ++ v ∷ []) (length rows) ≡ map group_of v.items
row_last [] v = refl
row_last (r ∷ rows) v = row_last rows v

-- one row more
pub row_more : (old new : Rows) (v : Vec Around Global) → new ≡ old ++ v ∷ [] → IsGrown old new
row_more old new v e =
    let n : length new ≡ length old + 1 = ap length e ∙ length_push old v in
    record { more = omega (arith, n); same = λ i h. ap (λ (z : Rows). round_at z i) e ∙ row_push old v i h }

-- the new row has these groups and one more
pub row_is : (old new : Rows) (inner : Vec Around Global) (lent : List Around) (g : Around) (row n : ℕ) → new ≡ old ++ inner ∷ [] → n ≡ length old
    → inner.items ≡ lent ++ g ∷ [] → map group_of lent ≡ round_at old row
    → round_at new n ≡ round_at old row ++ group_of g ∷ []
row_is old new inner lent g row n e m i r =
    ap (λ (z : Rows). round_at z n) e ∙ ap (round_at (old ++ inner ∷ [])) m ∙ row_last old inner
    ∙ ap (map group_of) i ∙ map_push group_of lent g ∙ ap (λ (z : List Wrapper). z ++ group_of g ∷ []) r

grown_on : (a b c : Rows) → IsGrown a b → IsGrown b c → IsGrown a c
grown_on a b c f g =
    let x = f.more in
    let y = g.more in
    record { more = omega (arith, x, y); same = λ i h. g.same i (omega (arith, h, x)) ∙ f.same i h }

ways_stay : (old new : Rows) (fs : List Found) → IsGrown old new → AllByRecursion (λ f. f.round < length old) fs → map (way_in new) fs ≡ map (way_in old) fs
ways_stay old new [] g h = refl
ways_stay old new (f ∷ fs) g h =
    let e : round_at new f.round ≡ round_at old f.round = g.same f.round h.0 in
    let k = ways_stay old new fs g h.1 in
    λ i. (e i, f.leaf) ∷ k i

rows_stay : (n m : ℕ) (fs : List Found) → n ≤ m → AllByRecursion (λ f. f.round < n) fs → AllByRecursion (λ f. f.round < m) fs
rows_stay n m [] l h = tt
rows_stay n m (f ∷ fs) l h = let k = h.0 in (omega (arith, k, l), rows_stay n m fs l h.1)

row_put : (n : ℕ) (fs : List Found) (f : Found) → AllByRecursion (λ f. f.round < n) fs → f.round < n → AllByRecursion (λ f. f.round < n) (fs ++ f ∷ [])
row_put n [] f h k = (k, tt)
row_put n (x ∷ fs) f h k = (h.0, row_put n fs f h.1 k)

-- ---- lists

routes_join : (p : List Wrapper) (xs ys : Entries Wrapper Leaf) → routes p (xs ▷ ys) ≡ routes p xs ++ routes p ys
routes_join p nil ys = refl
routes_join p (leaf l xs) ys = ap (λ (z : List Way). (p, l) ∷ z) (routes_join p xs ys)
routes_join p (group g inner xs) ys =
    ap (λ (z : List Way). routes (p ++ g ∷ []) inner ++ z) (routes_join p xs ys) ∙ sym (append_assoc (routes (p ++ g ∷ []) inner) (routes p xs) (routes p ys))

leaves_join : (xs ys : Entries Wrapper Made) → new_leaves (xs ▷ ys) ≡ new_leaves xs ▷ new_leaves ys
leaves_join nil ys = refl
leaves_join (leaf m xs) ys = ap (leaf m.leaf) (leaves_join xs ys)
leaves_join (group g inner xs) ys = ap (group g (new_leaves inner)) (leaves_join xs ys)

-- ---- steps

pub added_none : (round : ℕ) (p : Painted) → CanAdd round p → IsAdded round nil p p
added_none round p can = record {
  grown = record { more = omega arith; same = λ i h. refl };
  rows = can.rows;
  ways = sym (append-nil (ways_in p));
}

still : (round : ℕ) (list : Entries Wrapper Made) (a b : Painted) → CanAdd round a → IsAdded round list a b → CanAdd round b
still round list a b can f =
    let x = f.grown.more in
    let y = can.there in
    record { rows = f.rows; there = omega (arith, x, y) }

joined : (round : ℕ) (xs ys : Entries Wrapper Made) (a b c : Painted) → CanAdd round a → IsAdded round xs a b → IsAdded round ys b c → IsAdded round (xs ▷ ys) a c
joined round xs ys a b c can f g =
    let r : List Wrapper = round_at a.rounds.rows.items round in
    record {
      grown = grown_on a.rounds.rows.items b.rounds.rows.items c.rounds.rows.items f.grown g.grown;
      rows = g.rows;
      ways = g.ways
          ∙ ap (λ (z : List Way). z ++ routes (round_at b.rounds.rows.items round) (new_leaves ys)) f.ways
          ∙ ap (λ (z : List Wrapper). (ways_in a ++ routes r (new_leaves xs)) ++ routes z (new_leaves ys)) (f.grown.same round can.there)
          ∙ append_assoc (ways_in a) (routes r (new_leaves xs)) (routes r (new_leaves ys))
          ∙ ap (λ (z : List Way). ways_in a ++ z) (sym (routes_join r (new_leaves xs) (new_leaves ys)))
          ∙ ap (λ (z : Entries Wrapper Leaf). ways_in a ++ routes r z) (sym (leaves_join xs ys));
    }

-- what was put on top where it could be
abbrev pub Adds : ℕ → Entries Wrapper Made → Painted → Painted → Type 0
Adds round list old new = CanAdd round old → IsAdded round list old new

pub adds_none : (round : ℕ) (p : Painted) → Adds round nil p p
adds_none round p = added_none round p

pub adds_entry : {A : Type 0} (round : ℕ) (es : List (NewEntry A)) (i : ℕ) (x : NewEntry A) (a b c : Painted) → i < length es → x ≡ get_or es i x
    → Adds round (new_entries (take i es)) a b → Adds round (new_entries (x ∷ [])) b c → Adds round (new_entries (take (i + 1) es)) a c
adds_entry round es i x a b c h is f g = λ can.
    let front = f can in
    let next = g (still round (new_entries (take i es)) a b can front) in
    let e : new_entries (take (i + 1) es) ≡ new_entries (take i es) ▷ new_entries (x ∷ []) =
    ap new_entries (take_more es i x h ∙ ap (λ y. take i es ++ y ∷ []) (sym is)) ∙ new-append (take i es) (x ∷ []) in
    subst (λ (z : Entries Wrapper Made). IsAdded round z a c) (sym e) (joined round (new_entries (take i es)) (new_entries (x ∷ [])) a b c can front next)

pub adds_run : {A B : Type 0} (round : ℕ) (rs : List (Vec (NewEntry A) B)) (i : ℕ) (r : Vec (NewEntry A) B) (lent : List (NewEntry A)) (a b c : Painted) → i < length rs → r ≡ get_or rs i r
    → lent ≡ r.items → Adds round (in_runs (take i rs)) a b → Adds round (new_entries lent) b c → Adds round (in_runs (take (i + 1) rs)) a c
adds_run round rs i r lent a b c h is v f g = λ can.
    let front = f can in
    let next : IsAdded round (new_entries r.items) b c = subst (λ z. IsAdded round (new_entries z) b c) v (g (still round (in_runs (take i rs)) a b can front)) in
    subst (λ (z : Entries Wrapper Made). IsAdded round z a c) (runs_next rs i r h is) (joined round (in_runs (take i rs)) (new_entries r.items) a b c can front next)

pub adds_leaf : (round : ℕ) (m : Made) (l : Leaf) (a : Painted) (leaves : Vec Found Global) → l ≡ m.leaf
    → leaves.items ≡ a.leaves.items ++ record { round = round; leaf = l } ∷ []
    → Adds round (leaf m nil) a (record { rounds = a.rounds; leaves = leaves })
adds_leaf round m l a leaves e put = λ can.
    let f : Found = record { round = round; leaf = l } in
    record {
      grown = record { more = omega arith; same = λ i h. refl };
      rows = subst (λ (z : List Found). AllByRecursion (λ f. f.round < length a.rounds.rows.items) z) (sym put) (row_put (length a.rounds.rows.items) a.leaves.items f can.rows can.there);
      ways = ap (map (way_in a.rounds.rows.items)) put ∙ map_push (way_in a.rounds.rows.items) a.leaves.items f
          ∙ ap (λ (z : Leaf). ways_in a ++ (round_at a.rounds.rows.items round, z) ∷ []) e;
    }

pub adds_group : (round : ℕ) (g : Wrapper) (inner : Entries Wrapper Made) (a c : Painted) (rounds : Rounds) (p : ℕ)
    → IsGrown a.rounds.rows.items rounds.rows.items → p < length rounds.rows.items
    → round_at rounds.rows.items p ≡ round_at a.rounds.rows.items round ++ g ∷ []
    → Adds p inner (record { rounds = rounds; leaves = a.leaves }) c
    → Adds round (group g inner nil) a c
adds_group round g inner a c rounds p grown there is f = λ can.
    let x = grown.more in
    let mid : Painted = record { rounds = rounds; leaves = a.leaves } in
    let deep : IsAdded p inner mid c = f (record { rows = rows_stay (length a.rounds.rows.items) (length rounds.rows.items) a.leaves.items x can.rows; there = there }) in
    let r : List Wrapper = round_at a.rounds.rows.items round in
    record {
      grown = grown_on a.rounds.rows.items rounds.rows.items c.rounds.rows.items grown deep.grown;
      rows = deep.rows;
      ways = deep.ways
          ∙ ap (λ (z : List Way). z ++ routes (round_at rounds.rows.items p) (new_leaves inner)) (ways_stay a.rounds.rows.items rounds.rows.items a.leaves.items grown can.rows)
          ∙ ap (λ (z : List Wrapper). ways_in a ++ routes z (new_leaves inner)) is
          ∙ ap (λ (z : List Way). ways_in a ++ z) (sym (append-nil (routes (r ++ g ∷ []) (new_leaves inner))));
    }

-- the leaves of a whole list
pub added_all : (list : Entries Wrapper Made) (rounds : Rounds) (leaves : Vec Found Global) (p : Painted) → 0 < length rounds.rows.items → round_at rounds.rows.items 0 ≡ []
    → leaves.items ≡ [] → Adds 0 list (record { rounds = rounds; leaves = leaves }) p → ways_in p ≡ routes [] (new_leaves list)
added_all list rounds leaves p there none empty f =
    let can : CanAdd 0 (record { rounds = rounds; leaves = leaves }) = record {
      rows = subst (λ (z : List Found). AllByRecursion (λ f. f.round < length rounds.rows.items) z) (sym empty) tt;
      there = there;
    } in
    let a = f can in
    a.ways ∙ ap (λ (z : List Found). map (way_in rounds.rows.items) z ++ routes (round_at rounds.rows.items 0) (new_leaves list)) empty
    ∙ ap (λ (z : List Wrapper). routes z (new_leaves list)) none

-- a group that is an entry
pub adds_wrapper : {A : Type 0} (round : ℕ) (x : NewEntry A) (k : BoxKey) (o : ℕ) (b : Blend) (inner : Entries Wrapper Made) (a c : Painted) (rounds : Rounds) (p : ℕ) → x ≡ new.Group k o b inner
    → IsGrown a.rounds.rows.items rounds.rows.items → p < length rounds.rows.items
    → round_at rounds.rows.items p ≡ round_at a.rounds.rows.items round ++ record { key = k; opacity = o; blend = b } ∷ []
    → Adds p inner (record { rounds = rounds; leaves = a.leaves }) c → Adds round (new_entries (x ∷ [])) a c
adds_wrapper round x k o b inner a c rounds p e grown there is f =
    subst (λ z. Adds round (new_entries (z ∷ [])) a c) (sym e) (adds_group round (record { key = k; opacity = o; blend = b }) inner a c rounds p grown there is f)

-- an entry of a run, and a run, are no larger than the whole
pub entry_size : {A : Type 0} (es : List (NewEntry A)) (i : ℕ) (x : NewEntry A) → i < length es → x ≡ get_or es i x → list_size (new_entries (x ∷ [])) ≤ list_size (new_entries es)
entry_size es i x h e =
    next_size es (take i es) (drop i es) (drop (suc i) es) x (sym (take-append-drop i es)) (drop-cons es i x h ∙ ap (λ y. y ∷ drop (suc i) es) (sym e))

pub lent_size : {A B : Type 0} (rs : List (Vec (NewEntry A) B)) (i : ℕ) (r : Vec (NewEntry A) B) (lent : List (NewEntry A)) → i < length rs → r ≡ get_or rs i r → lent ≡ r.items
    → list_size (new_entries lent) ≤ list_size (in_runs rs)
lent_size rs i r lent h e v =
    subst (λ z. list_size (new_entries z) ≤ list_size (in_runs rs)) (sym v)
    (run_size rs (take i rs) (drop i rs) (drop (suc i) rs) r (sym (take-append-drop i rs)) (drop-cons rs i r h ∙ ap (λ y. y ∷ drop (suc i) rs) (sym e)))

-- a leaf by its parts
pub leaf_parts : (m l : Leaf) → l.owner ≡ m.owner → l.part ≡ m.part → l.visible ≡ m.visible → l.shape ≡ m.shape → l.color ≡ m.color → l.hits ≡ m.hits → l ≡ m
leaf_parts m l o p v s c h = λ i. record { owner = o i; part = p i; visible = v i; shape = s i; color = c i; hits = h i }
