-- An entry comes to a place of a level with chunks.
use Rattle.std.proofs.Common.{◌≡◌, refl, ap, ◌∙◌, sym, subst, ℕ, zero, suc, ◌+◌, ◌-◌, ◌<◌, ◌≤◌, false, List, [], ◌∷◌, ◌++◌, length, take, drop, get_or, set, Option, Some, None, inl, inr, ◌⊎◌, arith}
use Rattle.std.specs.Prelude.{IfSome, ◌≢◌}
use Rattle.std.proofs.lemmas.Bool.{cases_lt}
use Rattle.std.proofs.lemmas.List.{length-take-le, length-drop, get_or-take, get_or-drop, drop-drop}
use Rattle.rd_geom.specs.Plane.{Rectangle}
use Rattle.rd_keys.specs.declared.range.KeyRange.{KeyRange}
use Rattle.rd_list.specs.Chunks.{IsHeld, AreHeld, AreMadeBy, AreNamed, IsReplaced, IsTold, IsWider, Tells, Covers, total, leaf_count, ChangesTo, IsAt, IsFound, IsLeaf}
use Rattle.rd_list.specs.KeptView.{kept_entries}
use Rattle.rd_list.specs.Entries.{flat}
use Rattle.rd_item.specs.Items.{Made}
use Rattle.rd_list.proofs.Covering.{count_append, held_wider, made_both, made_wider, named_on, told_wider}
use Rattle.rd_list.specs.declared.chunks.Chunk.{Chunk}
use Rattle.rd_list.specs.declared.told.ChunkBounds.{ChunkBounds}
use Rattle.rd_list.specs.declared.kept.Entry.{Entry}
use Rattle.rd_list.specs.declared.kept.Entry.TheVariants.{Leaf, Group}

-- what stands at a place of a list, whatever is read where there is none
pub read_any : {X : Type 0} (xs : List X) (i : ℕ) (x y : X) → i < length xs → x ≡ get_or xs i x → y ≡ get_or xs i y → x ≡ y
read_any [] i x y h e f = absurd (omega (arith, h))
read_any (z ∷ zs) zero x y h e f = e ∙ sym f
read_any (z ∷ zs) (suc i) x y h e f = read_any zs i x y (omega (arith, h)) e f

-- of leaves made by this paint or before, the first and those after them
made_left : (n : ℕ) (ms ns : List Made) → AreMadeBy n (ms ++ ns) → AreMadeBy n ms
made_left n [] ns h = tt
made_left n (m ∷ ms) ns h = (h.0, made_left n ms ns h.1)

made_right : (n : ℕ) (ms ns : List Made) → AreMadeBy n (ms ++ ns) → AreMadeBy n ns
made_right n [] ns h = h
made_right n (m ∷ ms) ns h = made_right n ms ns h.1

module _ {A : Type 0} where
  -- ---- entry by entry

  pub held_at : (r : Rectangle) (es : List (Entry A)) → AreHeld r es → (k : ℕ) (x : Entry A) → k < length es → x ≡ get_or es k x → IsHeld r x
  held_at r [] h k x l e = absurd (omega (arith, l))
  held_at r (y ∷ es) h zero x l e = subst (IsHeld r) (sym e) h.0
  held_at r (y ∷ es) h (suc k) x l e = held_at r es h.1 k x (omega (arith, l)) e

  pub held_by : (r : Rectangle) (es : List (Entry A)) → ((k : ℕ) (x : Entry A) → k < length es → x ≡ get_or es k x → IsHeld r x) → AreHeld r es
  held_by r [] f = tt
  held_by r (y ∷ es) f = (f 0 y (omega arith) refl, held_by r es (λ k x l e. f (suc k) x (omega (arith, l)) e))

  -- the names of one entry are among these
  abbrev IsNamed : KeyRange → Entry A → Type 0
  IsNamed r e = AreNamed r (kept_entries (e ∷ []))

  pub named_at : (r : KeyRange) (es : List (Entry A)) → AreNamed r (kept_entries es) → (k : ℕ) (x : Entry A) → k < length es → x ≡ get_or es k x → IsNamed r x
  named_at r [] h k x l e = absurd (omega (arith, l))
  named_at r (Leaf i ∷ es) h zero x l e = subst (IsNamed r) (sym e) (h.0, tt)
  named_at r (Group g ∷ es) h zero x l e = subst (IsNamed r) (sym e) (h.0, h.1, h.2, tt)
  named_at r (Leaf i ∷ es) h (suc k) x l e = named_at r es h.1 k x (omega (arith, l)) e
  named_at r (Group g ∷ es) h (suc k) x l e = named_at r es h.3 k x (omega (arith, l)) e

  named_by : (r : KeyRange) (es : List (Entry A)) → ((k : ℕ) (x : Entry A) → k < length es → x ≡ get_or es k x → IsNamed r x) → AreNamed r (kept_entries es)
  named_by r [] f = tt
  named_by r (Leaf i ∷ es) f = ((f 0 (Leaf i) (omega arith) refl).0, named_by r es (λ k x l e. f (suc k) x (omega (arith, l)) e))
  named_by r (Group g ∷ es) f = let h = f 0 (Group g) (omega arith) refl in (h.0, h.1, h.2, named_by r es (λ k x l e. f (suc k) x (omega (arith, l)) e))

  -- an entry's leaves were made by this paint or before
  abbrev IsMadeBy : ℕ → Entry A → Type 0
  IsMadeBy n e = AreMadeBy n (flat (kept_entries (e ∷ [])))

  made_at : (n : ℕ) (es : List (Entry A)) → AreMadeBy n (flat (kept_entries es)) → (k : ℕ) (x : Entry A) → k < length es → x ≡ get_or es k x → IsMadeBy n x
  made_at n [] h k x l e = absurd (omega (arith, l))
  made_at n (Leaf i ∷ es) h zero x l e = subst (IsMadeBy n) (sym e) (h.0, tt)
  made_at n (Group g ∷ es) h zero x l e = subst (IsMadeBy n) (sym e) (made_both n (flat g.inner.entries) [] (made_left n (flat g.inner.entries) (flat (kept_entries es)) h) tt)
  made_at n (Leaf i ∷ es) h (suc k) x l e = made_at n es h.1 k x (omega (arith, l)) e
  made_at n (Group g ∷ es) h (suc k) x l e = made_at n es (made_right n (flat g.inner.entries) (flat (kept_entries es)) h) k x (omega (arith, l)) e

  made_by : (n : ℕ) (es : List (Entry A)) → ((k : ℕ) (x : Entry A) → k < length es → x ≡ get_or es k x → IsMadeBy n x) → AreMadeBy n (flat (kept_entries es))
  made_by n [] f = tt
  made_by n (Leaf i ∷ es) f = ((f 0 (Leaf i) (omega arith) refl).0, made_by n es (λ k x l e. f (suc k) x (omega (arith, l)) e))
  made_by n (Group g ∷ es) f =
      made_both n (flat g.inner.entries) (flat (kept_entries es)) (made_left n (flat g.inner.entries) [] (f 0 (Group g) (omega arith) refl))
      (made_by n es (λ k x l e. f (suc k) x (omega (arith, l)) e))

  same_lists : (xs ys : List (Entry A)) → length xs ≡ length ys → ((k : ℕ) (d : Entry A) → k < length xs → get_or xs k d ≡ get_or ys k d) → xs ≡ ys
  same_lists [] [] e f = refl
  same_lists [] (y ∷ ys) e f = absurd (omega (arith, e))
  same_lists (x ∷ xs) [] e f = absurd (omega (arith, e))
  same_lists (x ∷ xs) (y ∷ ys) e f =
      let first : x ≡ y = f 0 x (omega arith) in
      rw first (ap (λ zs. y ∷ zs) (same_lists xs ys (omega (arith, e)) (λ k d l. f (suc k) d (omega (arith, l)))))

  -- the first entries of two levels
  same_front : (n : ℕ) (xs ys : List (Entry A)) → n ≤ length xs → length xs ≡ length ys → ((k : ℕ) (d : Entry A) → k < n → get_or xs k d ≡ get_or ys k d) → take n xs ≡ take n ys
  same_front n xs ys l e f =
      let a = length-take-le n xs l in
      let b = length-take-le n ys (omega (arith, l, e)) in
      same_lists (take n xs) (take n ys) (a ∙ sym b) (λ k d m. (let j : k < n = omega (arith, m, a) in get_or-take n xs k d j ∙ f k d j ∙ sym (get_or-take n ys k d j)))

  -- the entries from a place on
  same_back : (n : ℕ) (xs ys : List (Entry A)) → length xs ≡ length ys → ((k : ℕ) (d : Entry A) → n ≤ k → get_or xs k d ≡ get_or ys k d) → drop n xs ≡ drop n ys
  same_back n xs ys e f =
      let a = length-drop n xs in
      let b = length-drop n ys in
      same_lists (drop n xs) (drop n ys) (omega (arith, a, b, e)) (λ k d m. get_or-drop n xs k d ∙ f (n + k) d (omega arith) ∙ sym (get_or-drop n ys k d))

  -- chunks say nothing of the entries past them
  pub covers_same : (bs : List Chunk) (xs ys : List (Entry A)) → Covers bs xs → length xs ≡ length ys → ((k : ℕ) (d : Entry A) → k < total bs → get_or xs k d ≡ get_or ys k d) → Covers bs ys
  covers_same [] xs ys c e f = tt
  covers_same (b ∷ bs) xs ys c e f =
      let l = c.0 in
      let front = same_front b.count xs ys l e (λ k d m. f k d (omega (arith, m))) in
      let n = length-drop b.count xs in
      let m = length-drop b.count ys in (
        omega (arith, l, e),
        (λ g. subst (Tells b) front (c.1 g)),
        covers_same bs (drop b.count xs) (drop b.count ys) c.2 (omega (arith, n, m, e))
            (λ k d j. get_or-drop b.count xs k d ∙ f (b.count + k) d (omega (arith, j)) ∙ sym (get_or-drop b.count ys k d)),
      )

  -- ---- an entry comes to a place

  -- what holds of each of the first entries, and of the one that comes
  put_all : (P : Entry A → Type 0) (n place : ℕ) (xs ys : List (Entry A)) → n ≤ length xs → length xs ≡ length ys → ((k : ℕ) (d : Entry A) → k ≢ place → get_or ys k d ≡ get_or xs k d)
      → ((x : Entry A) → place < length ys → x ≡ get_or ys place x → P x) → ((k : ℕ) (x : Entry A) → k < length (take n xs) → x ≡ get_or (take n xs) k x → P x)
      → (k : ℕ) (x : Entry A) → k < length (take n ys) → x ≡ get_or (take n ys) k x → P x
  put_all P n place xs ys l e f g h k x m is =
      let a = length-take-le n xs l in
      let b = length-take-le n ys (omega (arith, l, e)) in
      let j : k < n = omega (arith, m, b) in
      let at : x ≡ get_or ys k x = is ∙ get_or-take n ys k x j in
      elim (sides k) [
        | inl same ↦ g x (omega (arith, same, j, l, e)) (at ∙ ap (λ p. get_or ys p x) same)
        | inr other ↦ h k x (omega (arith, j, a)) (at ∙ f k x other ∙ sym (get_or-take n xs k x j))
      ]
    where
      sides : (k : ℕ) → (k ≡ place) ⊎ (k ≢ place)
      sides k = elim (cases_lt k place) [
        | inl l ↦ inr (λ e. omega (arith, l, e))
        | inr m ↦ elim (cases_lt place k) [ inl l ↦ inr (λ e. omega (arith, l, e)) | inr l ↦ inl (omega (arith, l, m)) ]
      ]

  leaf_one : (x : Entry A) → IsLeaf x → leaf_count (x ∷ []) ≡ 1
  leaf_one (Leaf i) l = refl
  leaf_one (Group g) l = absurd l

  count_cons : (x : Entry A) (xs : List (Entry A)) → leaf_count (x ∷ xs) ≡ leaf_count (x ∷ []) + leaf_count xs
  count_cons x xs = count_append (x ∷ []) xs

  -- one leaf for another does not change how many there are
  count_put : (n place : ℕ) (xs ys : List (Entry A)) → place < n → n ≤ length xs → length xs ≡ length ys → ((k : ℕ) (d : Entry A) → k ≢ place → get_or ys k d ≡ get_or xs k d)
      → ((x : Entry A) → x ≡ get_or xs place x → IsLeaf x) → ((y : Entry A) → y ≡ get_or ys place y → IsLeaf y) → leaf_count (take n ys) ≡ leaf_count (take n xs)
  count_put zero place xs ys p l e f g h = absurd (omega (arith, p))
  count_put (suc n) place [] ys p l e f g h = absurd (omega (arith, l))
  count_put (suc n) place (x ∷ xs) [] p l e f g h = absurd (omega (arith, e))
  count_put (suc n) zero (x ∷ xs) (y ∷ ys) p l e f g h =
      let front : take n ys ≡ take n xs = same_front n ys xs (omega (arith, l, e)) (omega (arith, e)) (λ k d m. f (suc k) d (λ q. omega (arith, q))) in
      count_cons y (take n ys) ∙ ap (λ m. m + leaf_count (take n ys)) (leaf_one y (h y refl) ∙ sym (leaf_one x (g x refl))) ∙ ap (λ zs. leaf_count (x ∷ []) + leaf_count zs) front ∙ sym (count_cons x (take n xs))
  count_put (suc n) (suc place) (x ∷ xs) (y ∷ ys) p l e f g h =
      let first : y ≡ x = f 0 y (λ q. omega (arith, q)) in
      let rest = count_put n place xs ys (omega (arith, p)) (omega (arith, l)) (omega (arith, e)) (λ k d m. f (suc k) d (λ q. m (omega (arith, q)))) g h in
      count_cons y (take n ys) ∙ ap (λ z. leaf_count (z ∷ []) + leaf_count (take n ys)) first ∙ ap (λ m. leaf_count (x ∷ []) + m) rest ∙ sym (count_cons x (take n xs))

  -- what a chunk says that says all that another one does, and what is told of a leaf that comes for a leaf
  pub record IsServed (b new : Chunk) (x y : Entry A) : Type 0 where
    pub was : b.is_open ≡ false
    pub wider : IsWider b.told new.told
    pub leaves : new.told.leaves ≡ b.told.leaves
    pub held : IsHeld new.told.hull x
    pub leaf : IsLeaf x
    pub old_leaf : IsLeaf y
    pub named : IsNamed new.told.keys x
    pub made : IsMadeBy new.told.newest x

  -- what a chunk must be that stands in place of another
  pub record Serves (b new : Chunk) (x y : Entry A) : Type 0 where
    pub count : new.count ≡ b.count
    pub closed : new.is_open ≡ false → IsServed b new x y

  pub read_some : (zs : List (Entry A)) (i : ℕ) → i < length zs → (x : Entry A) × (x ≡ get_or zs i x)
  read_some [] i q = absurd (omega (arith, q))
  read_some (u ∷ us) zero q = (u, refl)
  read_some (u ∷ us) (suc i) q = read_some us i (omega (arith, q))

  pub covers_put : (bs : List Chunk) (xs ys : List (Entry A)) (at start place : ℕ) (new : Chunk) → Covers bs xs → start ≡ total (take at bs) → start ≤ place → at < length bs
      → ((b : Chunk) → b ≡ get_or bs at b → (place < start + b.count) × ((x y : Entry A) → place < length ys → x ≡ get_or ys place x → y ≡ get_or xs place y → Serves b new x y) × (new.count ≡ b.count))
      → length xs ≡ length ys → ((k : ℕ) (d : Entry A) → k ≢ place → get_or ys k d ≡ get_or xs k d) → Covers (set bs at new) ys
  covers_put [] xs ys at start place new c s l h w e f = absurd (omega (arith, h))
  covers_put (b ∷ bs) xs ys zero start place new c s l h w e f =
      let v = w b refl in
      let p = v.0 in
      let n = v.2 in
      let m = c.0 in
      let start_is : start ≡ 0 = s in
      let inside : place < b.count = omega (arith, p, start_is) in
      let there : place < length ys = omega (arith, inside, m, e) in (
        omega (arith, n, m, e),
        (λ o. subst (λ j. Tells new (take j ys)) (sym n) (told v.1 inside there m o)),
        subst (λ zs. Covers bs zs) (same_back b.count xs ys e (λ k d j. sym (f k d (λ q. omega (arith, q, j, inside)))) ∙ ap (λ j. drop j ys) (sym n)) c.2,
      )
    where
      told : ((x y : Entry A) → place < length ys → x ≡ get_or ys place x → y ≡ get_or xs place y → Serves b new x y) → place < b.count → place < length ys → b.count ≤ length xs → new.is_open ≡ false → Tells new (take b.count ys)
      told serves inside there m o =
          let some = read_some ys place there in
          let old = read_some xs place (omega (arith, there, e)) in
          let all = (serves some.0 old.0 there some.1 old.1).closed o in
          let was : Tells new (take b.count xs) = told_wider b.told new.told (take b.count xs) all.wider all.leaves (c.1 all.was) in (
            held_by new.told.hull (take b.count ys)
                (put_all (IsHeld new.told.hull) b.count place xs ys m e f (λ x q is. ((serves x old.0 q is old.1).closed o).held) (held_at new.told.hull (take b.count xs) was.0)),
            count_put b.count place xs ys inside m e f (λ y is. ((serves some.0 y there some.1 is).closed o).old_leaf) (λ x is. ((serves x old.0 there is old.1).closed o).leaf) ∙ was.1,
            named_by new.told.keys (take b.count ys)
                (put_all (IsNamed new.told.keys) b.count place xs ys m e f (λ x q is. ((serves x old.0 q is old.1).closed o).named) (named_at new.told.keys (take b.count xs) was.2)),
            made_by new.told.newest (take b.count ys)
                (put_all (IsMadeBy new.told.newest) b.count place xs ys m e f (λ x q is. ((serves x old.0 q is old.1).closed o).made) (made_at new.told.newest (take b.count xs) was.3)),
          )
  covers_put (b ∷ bs) xs ys (suc at) start place new c s l h w e f =
      let m = c.0 in
      let n = length-drop b.count xs in
      let o = length-drop b.count ys in
      let s_is : start ≡ b.count + total (take at bs) = s in
      let back : b.count + (place - b.count) ≡ place = omega (arith, s_is, l) in (
        omega (arith, m, e),
        (λ g. subst (Tells b) (same_front b.count xs ys m e (λ k d j. sym (f k d (λ q. omega (arith, q, j, s_is, l))))) (c.1 g)),
        covers_put bs (drop b.count xs) (drop b.count ys) at (start - b.count) (place - b.count) new c.2 (omega (arith, s_is)) (omega (arith, l)) (omega (arith, h))
            (λ x is. let v = w x is in let p = v.0 in (
              omega (arith, p, s_is, l),
              (λ y z q is_y is_z.
                  v.1 y z (omega (arith, q, o)) (is_y ∙ get_or-drop b.count ys (place - b.count) y ∙ ap (λ k. get_or ys k y) back)
                  (is_z ∙ get_or-drop b.count xs (place - b.count) z ∙ ap (λ k. get_or xs k z) back)),
              v.2,
            ))
            (omega (arith, n, o, e))
            (λ k d q. get_or-drop b.count ys k d ∙ f (b.count + k) d (λ r. q (omega (arith, r))) ∙ sym (get_or-drop b.count xs k d)),
      )

  -- one that says of the leaf all that is told of it, or is open
  pub replaced_serves : (b new : Chunk) (told : Option ChunkBounds) (x y : Entry A) → IsReplaced told b new → IfSome told (λ t. IsTold t (x ∷ []) × IsLeaf x × IsLeaf y) → Serves b new x y
  replaced_serves b new None x y r h = record { count = r.count; closed = λ f. absurd (r.closed f).3 }
  replaced_serves b new (Some t) x y r h = record {
    count = r.count;
    closed = λ f.
        let c = r.closed f in
        record {
          was = c.0;
          wider = c.1;
          leaves = c.2;
          held = held_wider t.hull new.told.hull x c.3.hull h.0.0.0;
          leaf = h.1;
          old_leaf = h.2;
          named = named_on t.keys new.told.keys (x ∷ []) c.3.keys h.0.2;
          made = made_wider t.newest new.told.newest (flat (kept_entries (x ∷ []))) c.3.newest h.0.3;
        };
  }

  -- an entry comes to a place of a chunk, which is another one then, or the same
  pub put_found : (bs : List Chunk) (at start place : ℕ) (told : Option ChunkBounds) (new : Chunk) → at < length bs → IsAt bs at start → IsFound bs at start place
      → ((b : Chunk) → b ≡ get_or bs at b → (x y : Entry A) → IfSome told (λ t. IsTold t (x ∷ []) × IsLeaf x × IsLeaf y) → Serves b new x y) → ((b : Chunk) → b ≡ get_or bs at b → new.count ≡ b.count)
      → (xs ys : List (Entry A)) → Covers bs xs → ChangesTo place told xs ys → Covers (set bs at new) ys
  put_found bs at start place told new h a found serves count xs ys c to =
      covers_put bs xs ys at start place new c a.1 found.0 h
      (λ b is. (found.1 b h is, (λ x y l e d. serves b is x y (to.there x y l e d)), count b is))
      (sym to.size) to.others

  -- no chunk has the place
  pub put_past : (bs : List Chunk) (at start place : ℕ) (told : Option ChunkBounds) → length bs ≤ at → IsAt bs at start → IsFound bs at start place → (xs ys : List (Entry A)) → Covers bs xs → ChangesTo place told xs ys → Covers bs ys
  put_past bs at start place told h a found xs ys c to =
      let s = a.1 in
      let l = found.0 in
      let whole : total (take at bs) ≡ total bs = ap total (take_whole bs at h) in
      covers_same bs xs ys c (sym to.size) (λ k d j. sym (to.others k d (λ q. omega (arith, q, j, s, l, whole))))
    where
      take_whole : (cs : List Chunk) (n : ℕ) → length cs ≤ n → take n cs ≡ cs
      take_whole [] zero m = refl
      take_whole [] (suc n) m = refl
      take_whole (x ∷ cs) zero m = absurd (omega (arith, m))
      take_whole (x ∷ cs) (suc n) m = ap (λ ds. x ∷ ds) (take_whole cs n (omega (arith, m)))

  -- ---- what chunks say of some entries

  -- a chunk that is found, and what it says
  pub found_told : (bs : List Chunk) (xs : List (Entry A)) (at start : ℕ) (b : Chunk) → Covers bs xs → IsAt bs at start → at < length bs → b ≡ get_or bs at b
      → (start + b.count ≤ length xs) × (b.is_open ≡ false → Tells b (take b.count (drop start xs)))
  found_told [] xs at start b c s h is = absurd (omega (arith, h))
  found_told (x ∷ bs) xs zero start b c s h is =
      let e : start ≡ 0 = s.1 in
      let m = c.0 in
      let same : x ≡ b = sym is in
      let n : b.count ≡ x.count = ap (λ (y : Chunk). y.count) is in
      (omega (arith, e, m, n), (λ f. rw e (subst (λ (y : Chunk). y.is_open ≡ false → Tells y (take y.count xs)) same c.1 f)))
  found_told (x ∷ bs) xs (suc at) start b c s h is =
      let e : start ≡ x.count + total (take at bs) = s.1 in
      let l = s.0 in
      let m = c.0 in
      let n = length-drop x.count xs in
      let r = found_told bs (drop x.count xs) at (start - x.count) b c.2 (omega (arith, l), omega (arith, e)) (omega (arith, h)) is in
      let k = r.0 in
      let there : drop (start - x.count) (drop x.count xs) ≡ drop start xs = drop-drop (start - x.count) x.count xs ∙ ap (λ j. drop j xs) (let z : x.count + (start - x.count) ≡ start = omega (arith, e) in z) in
      (omega (arith, k, n, e, m), (λ f. subst (λ ys. Tells b (take b.count ys)) there (r.1 f)))
