-- Chunks, one after another.
use Rattle.std.proofs.Common.{◌≡◌, refl, ap, ◌∙◌, sym, subst, ℕ, zero, suc, ◌+◌, ◌-◌, ◌<◌, ◌==◌, ◌≤◌, false, List, [], ◌∷◌, ◌++◌, length, take, drop, get_or, Option, None, Some, arith, rules, take-add}
use Rattle.std.specs.Prelude.{IfSome}
use Rattle.std.proofs.lemmas.List.{length-append, length-take-le, length-drop, take-append-le, drop-append-le, take-append-drop, take_more, drop-drop}
use Rattle.rd_geom.specs.Plane.{Rectangle, IsWithin}
use Rattle.rd_item.specs.Items.{Made}
use Rattle.rd_list.specs.Chunks.{IsHeld, AreHeld, AreMadeBy, AreNamed, AreWithin, IsGroupTold, IsListTold, IsTold, IsWider, Tells, Covers, CoversAll, total, leaf_count, IsAt}
use Rattle.rd_list.specs.Internal.Telling.{IsBoth}
use Rattle.rd_keys.specs.Keys.{BoxKey}
use Rattle.rd_keys.specs.Ranges.{IsAmong}
use Rattle.rd_keys.specs.declared.entry.EntryKey.{EntryKey}
use Rattle.rd_keys.specs.declared.range.KeyRange.{KeyRange}
use Rattle.rd_list.specs.Entries.{Entries, nil, leaf, group, flat, is_empty, ◌▷◌}
use Rattle.rd_list.specs.Kept.{Ordered}
use Rattle.rd_list.specs.Wrappers.{Wrapper}
use Rattle.rd_list.specs.KeptView.{kept_entries}
use Rattle.rd_list.specs.declared.kept.Group.{Group as GroupOf}
use Rattle.rd_list.proofs.Merges.Levelling.{flat-join}
use Rattle.rd_list.proofs.News.{kept-append}
use Rattle.rd_list.specs.declared.chunks.Chunk.{Chunk}
use Rattle.rd_list.specs.declared.told.ChunkBounds.{ChunkBounds}
use Rattle.rd_list.specs.declared.kept.Entry.{Entry}
use Rattle.rd_list.specs.declared.kept.Entry.TheVariants.{Leaf, Group}

pub total_append : (bs cs : List Chunk) → total (bs ++ cs) ≡ total bs + total cs
total_append [] cs = omega arith
total_append (b ∷ bs) cs = let e = total_append bs cs in omega (arith, e)

pub total_next : (bs : List Chunk) (i : ℕ) (b : Chunk) → i < length bs → b ≡ get_or bs i b → total (take (i + 1) bs) ≡ total (take i bs) + b.count
total_next bs i b h is = ap total (take_more bs i b h ∙ ap (λ c. take i bs ++ c ∷ []) (sym is)) ∙ total_append (take i bs) (b ∷ []) ∙ (let e : total (take i bs) + (b.count + 0) ≡ total (take i bs) + b.count = omega arith in e)

-- on to the next chunk
pub at_next : (bs : List Chunk) (i start place n : ℕ) (b : Chunk) → i < length bs → b ≡ get_or bs i b → n ≡ b.count → IsAt bs i start → start ≤ place → n ≤ place - start → IsAt bs (i + 1) (start + n) × (start + n ≤ place)
at_next bs i start place n b h is e at l c =
    let s = at.1 in
    let t = total_next bs i b h is in
    ((omega (arith, h), omega (arith, s, t, e)), omega (arith, l, c))

not_none : (n : ℕ) → (suc n == 0) ≡ false
not_none n = search rules

-- in a wider rectangle
within_wider : (r s : Rectangle) (ms : List Made) → IsWithin r s → AreWithin r ms → AreWithin s ms
within_wider r s [] w h = tt
within_wider r s (m ∷ ms) w h = ((λ x y t. w x y (h.0 x y t)), within_wider r s ms w h.1)

within_both : (r : Rectangle) (ms ns : List Made) → AreWithin r ms → AreWithin r ns → AreWithin r (ms ++ ns)
within_both r [] ns h k = k
within_both r (m ∷ ms) ns h k = (h.0, within_both r ms ns h.1 k)

-- among more names
named_wider : (r s : KeyRange) (xs : Entries (Ordered EntryKey Wrapper) Made) → ((k : BoxKey) → IsAmong r k → IsAmong s k) → AreNamed r xs → AreNamed s xs
named_wider r s nil w h = tt
named_wider r s (leaf m rest) w h = (w m.leaf.owner h.0, named_wider r s rest w h.1)
named_wider r s (group g inner rest) w h = (w g.of.key h.0, h.1, named_wider r s inner w h.2, named_wider r s rest w h.3)

named_both : (r : KeyRange) (xs ys : Entries (Ordered EntryKey Wrapper) Made) → AreNamed r xs → AreNamed r ys → AreNamed r (xs ▷ ys)
named_both r nil ys h k = k
named_both r (leaf m rest) ys h k = (h.0, named_both r rest ys h.1 k)
named_both r (group g inner rest) ys h k = (h.0, h.1, h.2, named_both r rest ys h.3 k)

-- made by a later paint or before
pub made_wider : (a b : ℕ) (ms : List Made) → a ≤ b → AreMadeBy a ms → AreMadeBy b ms
made_wider a b [] l h = tt
made_wider a b (m ∷ ms) l h = (let f = h.0 in omega (arith, l, f), made_wider a b ms l h.1)

pub made_both : (n : ℕ) (ms ns : List Made) → AreMadeBy n ms → AreMadeBy n ns → AreMadeBy n (ms ++ ns)
made_both n [] ns h k = k
made_both n (m ∷ ms) ns h k = (h.0, made_both n ms ns h.1 k)

-- what is told of a list, and the key of its group beside
pub with_key : (t : ChunkBounds) (keys : KeyRange) (key : BoxKey) (list : Entries (Ordered EntryKey Wrapper) Made) → ((k : BoxKey) → IsAmong t.keys k → IsAmong keys k) → IsAmong keys key → is_empty list ≡ false → IsListTold t list
    → IsGroupTold (record { hull = t.hull; leaves = t.leaves; keys = keys; newest = t.newest }) key list
with_key t keys key list w k e h = ((h.0, h.1, named_wider t.keys keys list w h.2, h.3), k, e)

module _ {A : Type 0} where
  -- ---- what is told of entries

  pub held_wider : (r s : Rectangle) (e : Entry A) → IsWithin r s → IsHeld r e → IsHeld s e
  held_wider r s (Leaf i) w h = λ x y t. w x y (h x y t)
  held_wider r s (Group g) w h = within_wider r s (flat g.inner.entries) w h

  all_wider : (r s : Rectangle) (es : List (Entry A)) → IsWithin r s → AreHeld r es → AreHeld s es
  all_wider r s [] w h = tt
  all_wider r s (e ∷ es) w h = (held_wider r s e w h.0, all_wider r s es w h.1)

  all_held : (r : Rectangle) (xs ys : List (Entry A)) → AreHeld r xs → AreHeld r ys → AreHeld r (xs ++ ys)
  all_held r [] ys h k = k
  all_held r (x ∷ xs) ys h k = (h.0, all_held r xs ys h.1 k)

  -- all leaves of entries that are held
  pub held_leaves : (r : Rectangle) (es : List (Entry A)) → AreHeld r es → AreWithin r (flat (kept_entries es))
  held_leaves r [] h = tt
  held_leaves r (Leaf i ∷ es) h = (h.0, held_leaves r es h.1)
  held_leaves r (Group g ∷ es) h = within_both r (flat g.inner.entries) (flat (kept_entries es)) h.0 (held_leaves r es h.1)

  pub count_append : (xs ys : List (Entry A)) → leaf_count (xs ++ ys) ≡ leaf_count xs + leaf_count ys
  count_append xs ys = ap (λ zs. length (flat zs)) (kept-append xs ys) ∙ ap length (flat-join (kept_entries xs) (kept_entries ys)) ∙ length-append (flat (kept_entries xs)) (flat (kept_entries ys))

  -- of names that more are among, one entry after another
  pub named_on : (r s : KeyRange) (es : List (Entry A)) → ((k : BoxKey) → IsAmong r k → IsAmong s k) → AreNamed r (kept_entries es) → AreNamed s (kept_entries es)
  named_on r s es w h = named_wider r s (kept_entries es) w h

  -- what is told of some entries and of those after them
  pub told_both : (a b t : ChunkBounds) (xs ys : List (Entry A)) → IsTold a xs → IsTold b ys → IsBoth a b t → IsTold t (xs ++ ys)
  told_both a b t xs ys h k j =
      let c = count_append xs ys in
      let f = h.1 in
      let g = k.1 in
      let e = j.leaves in (
        all_held t.hull xs ys (all_wider a.hull t.hull xs j.left.hull h.0) (all_wider b.hull t.hull ys j.right.hull k.0),
        omega (arith, c, e, f, g),
        subst (AreNamed t.keys) (sym (kept-append xs ys)) (named_both t.keys (kept_entries xs) (kept_entries ys) (named_on a.keys t.keys xs j.left.keys h.2) (named_on b.keys t.keys ys j.right.keys k.2)),
        subst (AreMadeBy t.newest) (sym (ap flat (kept-append xs ys) ∙ flat-join (kept_entries xs) (kept_entries ys)))
            (made_both t.newest (flat (kept_entries xs)) (flat (kept_entries ys)) (made_wider a.newest t.newest (flat (kept_entries xs)) j.left.newest h.3)
            (made_wider b.newest t.newest (flat (kept_entries ys)) j.right.newest k.3)),
      )

  -- what is told of some entries, where more is said
  pub told_wider : (a t : ChunkBounds) (es : List (Entry A)) → IsWider a t → t.leaves ≡ a.leaves → IsTold a es → IsTold t es
  told_wider a t es w l h = (
    all_wider a.hull t.hull es w.hull h.0,
    h.1 ∙ sym l,
    named_on a.keys t.keys es w.keys h.2,
    made_wider a.newest t.newest (flat (kept_entries es)) w.newest h.3,
  )

  -- what is told of some entries and of one more, if it can be told
  pub told_if : (o : Option ChunkBounds) (a b : ChunkBounds) (es : List (Entry A)) (x : Entry A) → IfSome o (IsBoth a b) → IsTold a es → IsTold b (x ∷ []) → IfSome o (λ t. IsTold t (es ++ x ∷ []))
  told_if None a b es x j h k = tt
  told_if (Some t) a b es x j h k = told_both a b t es (x ∷ []) h k j

  -- a list, by what is told of its entries
  pub told_list : (t : ChunkBounds) (es : List (Entry A)) (list : Entries (Ordered EntryKey Wrapper) Made) → kept_entries es ≡ list → IsTold t es → IsListTold t list
  told_list t es list e h = subst (IsListTold t) e (held_leaves t.hull es h.0, h.1, h.2, h.3)

  -- a level without entries
  pub none_is_empty : (es : List (Entry A)) → (length es == 0) ≡ is_empty (kept_entries es)
  none_is_empty [] = refl
  none_is_empty (Leaf i ∷ es) = not_none (length es)
  none_is_empty (Group g ∷ es) = not_none (length es)

  -- a group, by what is told of its list
  pub told_group : (t : ChunkBounds) (g : GroupOf A) (x : Entry A) → x ≡ Group g → IsGroupTold t g.key g.inner.entries → IsTold t (x ∷ [])
  told_group t g x is h =
      let count = h.0.1 in
      let end = length-append (flat g.inner.entries) [] in
      rw is ((h.0.0, tt), omega (arith, count, end), (h.1, h.2, h.0.2, tt), made_both t.newest (flat g.inner.entries) [] h.0.3 tt)

  -- ---- chunks one after another

  pub covers_more : (bs : List Chunk) (xs ys : List (Entry A)) → Covers bs xs → Covers bs (xs ++ ys)
  covers_more [] xs ys c = tt
  covers_more (b ∷ bs) xs ys c =
      let l = c.0 in
      let n = length-append xs ys in
      let u : b.count ≤ length (xs ++ ys) = omega (arith, l, n) in (
        u,
        (λ f. subst (Tells b) (sym (take-append-le b.count xs ys l)) (c.1 f)),
        subst (Covers bs) (sym (drop-append-le b.count xs ys l)) (covers_more bs (drop b.count xs) ys c.2),
      )

  pub covers_append : (bs cs : List Chunk) (xs ys : List (Entry A)) → CoversAll bs xs → Covers cs ys → Covers (bs ++ cs) (xs ++ ys)
  covers_append [] cs [] ys c d = d
  covers_append [] cs (x ∷ xs) ys c d = absurd (let e = c.1 in omega (arith, e))
  covers_append (b ∷ bs) cs xs ys c d =
      let l = c.0.0 in
      let n = length-append xs ys in
      let u : b.count ≤ length (xs ++ ys) = omega (arith, l, n) in
      let e = c.1 in
      let m = length-drop b.count xs in
      let t : total bs ≡ length (drop b.count xs) = omega (arith, e, m, l) in (
        u,
        (λ f. subst (Tells b) (sym (take-append-le b.count xs ys l)) (c.0.1 f)),
        subst (Covers (bs ++ cs)) (sym (drop-append-le b.count xs ys l)) (covers_append bs cs (drop b.count xs) ys (c.0.2, t) d),
      )

  pub all_append : (bs cs : List Chunk) (xs ys : List (Entry A)) → CoversAll bs xs → CoversAll cs ys → CoversAll (bs ++ cs) (xs ++ ys)
  all_append bs cs xs ys c d =
      let e = c.1 in
      let f = d.1 in
      let m = total_append bs cs in
      let n = length-append xs ys in
      (covers_append bs cs xs ys c d.0, omega (arith, e, f, m, n))

  -- one chunk of so many entries
  pub one_covers : (b : Chunk) (es : List (Entry A)) → length es ≡ b.count → (b.is_open ≡ false → Tells b es) → CoversAll (b ∷ []) es
  one_covers b es e h =
      let l : b.count ≤ length es = omega (arith, e) in
      let same : take b.count es ≡ es = subst (λ n. take n es ≡ es) e (take_whole es) in
      ((l, (λ f. subst (Tells b) (sym same) (h f)), tt), omega (arith, e))
    where
      take_whole : (xs : List (Entry A)) → take (length xs) xs ≡ xs
      take_whole [] = refl
      take_whole (x ∷ xs) = ap (λ ys. x ∷ ys) (take_whole xs)

  -- chunks of the entries before a place are some of all of them
  pub covers_all : (bs : List Chunk) (p : ℕ) (es : List (Entry A)) → Covers bs (take p es) → Covers bs es
  covers_all bs p es c = subst (Covers bs) (take-append-drop p es) (covers_more bs (take p es) (drop p es) c)

  -- the next chunk, on top of those of the entries before it
  pub next_covers : (bs : List Chunk) (b : Chunk) (es : List (Entry A)) (p : ℕ) → CoversAll bs (take p es) → b.count ≤ length es - p → (b.is_open ≡ false → Tells b (take b.count (drop p es))) → CoversAll (bs ++ b ∷ []) (take (p + b.count) es)
  next_covers bs b es p c l h =
      let n = length-drop p es in
      let m : length (take b.count (drop p es)) ≡ b.count = length-take-le b.count (drop p es) (omega (arith, l, n)) in
      subst (CoversAll (bs ++ b ∷ [])) (sym (take-add p b.count es)) (all_append bs (b ∷ []) (take p es) (take b.count (drop p es)) c (one_covers b (take b.count (drop p es)) m h))

  -- ---- the loops

  pub slice_length : (es : List (Entry A)) (p to : ℕ) → p ≤ to → to ≤ length es → length (take (to - p) (drop p es)) ≡ to - p
  slice_length es p to l m = let n = length-drop p es in length-take-le (to - p) (drop p es) (omega (arith, n, l, m))

  pub slice_within : (es : List (Entry A)) (p to n : ℕ) → p ≤ to → to ≤ length es → n ≤ length (take (to - p) (drop p es)) → p + n ≤ to
  slice_within es p to n l m h = let e = slice_length es p to l m in omega (arith, e, h, l)

  pub cover_next : (old new : List Chunk) (b : Chunk) (es : List (Entry A)) (p to : ℕ) → p ≤ to → to ≤ length es → CoversAll old (take p es) → b.count ≤ length (take (to - p) (drop p es))
      → (b.is_open ≡ false → Tells b (take b.count (take (to - p) (drop p es)))) → new ≡ old ++ b ∷ [] → CoversAll new (take (p + b.count) es)
  cover_next old new b es p to l m c w h is =
      let e = slice_length es p to l m in
      let n : b.count ≤ to - p = omega (arith, e, w) in
      let same : take b.count (take (to - p) (drop p es)) ≡ take b.count (drop p es) = inner (drop p es) b.count (to - p) n in
      subst (λ bs. CoversAll bs (take (p + b.count) es)) (sym is) (next_covers old b es p c (omega (arith, n, m)) (λ f. subst (Tells b) same (h f)))
    where
      inner : (xs : List (Entry A)) (i j : ℕ) → i ≤ j → take i (take j xs) ≡ take i xs
      inner xs zero j h = refl
      inner xs (suc i) zero h = absurd (omega (arith, h))
      inner [] (suc i) (suc j) h = refl
      inner (x ∷ xs) (suc i) (suc j) h = ap (λ ys. x ∷ ys) (inner xs i j (omega (arith, h)))

  -- of chunks that are still ahead, the first one
  pub ahead_first : (bs : List Chunk) (es : List (Entry A)) (i p : ℕ) (b : Chunk) → i < length bs → b ≡ get_or bs i b → p ≤ length es → Covers (drop i bs) (drop p es)
      → (b.count ≤ length es - p) × (b.is_open ≡ false → Tells b (take b.count (drop p es))) × Covers (drop (i + 1) bs) (drop (p + b.count) es)
  ahead_first bs es i p b h is l c =
      let first : drop i bs ≡ b ∷ drop (i + 1) bs = drop_first bs i b h is in
      let d : Covers (b ∷ drop (i + 1) bs) (drop p es) = subst (λ cs. Covers cs (drop p es)) first c in
      let n = length-drop p es in
      let m = d.0 in
      (omega (arith, m, n), d.1, subst (Covers (drop (i + 1) bs)) (drop-drop b.count p es) d.2)
    where
      drop_first : (xs : List Chunk) (j : ℕ) (x : Chunk) → j < length xs → x ≡ get_or xs j x → drop j xs ≡ x ∷ drop (j + 1) xs
      drop_first [] j x k e = absurd (omega (arith, k))
      drop_first (y ∷ ys) zero x k e = ap (λ z. z ∷ ys) (sym e)
      drop_first (y ∷ ys) (suc j) x k e = drop_first ys j x (omega (arith, k)) e ∙ ap (λ n. x ∷ drop n (y ∷ ys)) (let s : suc (j + 1) ≡ suc j + 1 = omega arith in s)

  -- a chunk that stays, on top of those of the entries before it
  pub stay_next : (old new : List Chunk) (b : Chunk) (es : List (Entry A)) (p : ℕ) → CoversAll old (take p es) → b.count ≤ length es - p → (b.is_open ≡ false → Tells b (take b.count (drop p es)))
      → new ≡ old ++ b ∷ [] → CoversAll new (take (p + b.count) es)
  stay_next old new b es p c l h is = subst (λ bs. CoversAll bs (take (p + b.count) es)) (sym is) (next_covers old b es p c l h)
