-- Entries that are put at their places, taken out of them, and laid in a line.
use Rattle.std.proofs.Common.{◌≡◌, refl, ap, ◌∙◌, sym, subst, ℕ, zero, suc, ◌<◌, true, List, [], ◌∷◌, ◌++◌, length, get_or, set, take, drop, arith}
use Rattle.std.specs.Prelude.{IfSome, Option, Some, None, is_some}
use Rattle.std.proofs.lemmas.List.{append-nil, get_or-set_other, get_or-set_same, length-set}
use Rattle.std.proofs.lemmas.Option.{IfSome_then}
use Rattle.rd_list.specs.Chunks.{ChangesTo, IsLeaf, IsTold}
use Rattle.rd_list.specs.declared.told.ChunkBounds.{ChunkBounds}
use Rattle.rd_list.proofs.Admitting.{read_any}
use Rattle.rd_graph.specs.Gathered.{gathered, arranged}
use Rattle.rd_graph.specs.Internal.Taking.{KeepsOthers}
use Rattle.rd_item.specs.Items.{Made}
use Rattle.rd_keys.specs.declared.entry.EntryKey.{EntryKey}
use Rattle.rd_list.specs.Wrappers.{Wrapper, wrapper}
use Rattle.rd_list.specs.Entries.{Entries, nil, leaf, group, ◌▷◌}
use Rattle.rd_list.specs.Kept.{Ordered}
use Rattle.rd_list.specs.KeptView.{kept_entries}
use Rattle.rd_list.specs.Views.{group_at}
use Rattle.rd_list.specs.declared.kept.Entry.{Entry}
use Rattle.rd_list.specs.declared.kept.Entry.TheVariants as kept
use Rattle.rd_list.specs.declared.kept.Group.{Group}
use Rattle.rd_list.proofs.Joins.{join-nil, join_assoc}
use Rattle.rd_list.proofs.News.{kept-append}
use Rattle.rd_merge.specs.Plans.{arranged_entries, entry_at, gathered_entries, put_entry, size_of, with_entry, wrapper_at}
use Rattle.rd_merge.specs.Internal.Moving.{ChangesAt, IsSameBut, NoneMade, PutsAt}

abbrev pub Olds : Type 0
Olds = Entries (Ordered EntryKey Wrapper) Made

pub none_long : {T : Type 0} (xs : List T) → length xs ≡ 0 → xs ≡ []
none_long [] e = refl
none_long (x ∷ xs) e = absurd (omega (arith, e))

-- what is put at a place leaves the others
pub puts_changes : {T : Type 0} (place : Option ℕ) (x : T) (old new : List T) → PutsAt place x old new → ChangesAt place old new
puts_changes None x old new h = h
puts_changes (Some i) x old new h = record { size = ap length h ∙ length-set old i x; others = λ k d n. ap (λ zs. get_or zs k d) h ∙ get_or-set_other old i k x d n }

-- a level with another entry at a place, of which nothing is told
pub others_change : {A : Type 0} (i : ℕ) (old new : List (Entry A)) → KeepsOthers i old new → ChangesTo i None old new
others_change i old new h = record { size = h.size; others = h.others; there = λ x y l e f. tt }

-- ---- levels with another on top

module _ {G L : Type 0} where
  pub with-join : (i : ℕ) (e xs ys : Entries G L) → i < size_of xs → with_entry i e (xs ▷ ys) ≡ with_entry i e xs ▷ ys
  with-join i e nil ys h = absurd (omega arith)
  with-join zero e (leaf l xs) ys h = sym (join_assoc e xs ys)
  with-join zero e (group g inner xs) ys h = sym (join_assoc e xs ys)
  with-join (suc i) e (leaf l xs) ys h = ap (leaf l) (with-join i e xs ys (omega arith))
  with-join (suc i) e (group g inner xs) ys h = ap (group g inner) (with-join i e xs ys (omega arith))

pub group_at-join : (i : ℕ) (xs ys : Olds) → i < size_of xs → group_at i (xs ▷ ys) ≡ group_at i xs
group_at-join i nil ys h = absurd (omega arith)
group_at-join zero (leaf l xs) ys h = refl
group_at-join zero (group g inner xs) ys h = refl
group_at-join (suc i) (leaf l xs) ys h = group_at-join i xs ys (omega arith)
group_at-join (suc i) (group g inner xs) ys h = group_at-join i xs ys (omega arith)

pub wrapper_at-join : (i : ℕ) (xs ys : Olds) → i < size_of xs → wrapper_at i (xs ▷ ys) ≡ wrapper_at i xs
wrapper_at-join i nil ys h = absurd (omega arith)
wrapper_at-join zero (leaf l xs) ys h = refl
wrapper_at-join zero (group g inner xs) ys h = refl
wrapper_at-join (suc i) (leaf l xs) ys h = wrapper_at-join i xs ys (omega arith)
wrapper_at-join (suc i) (group g inner xs) ys h = wrapper_at-join i xs ys (omega arith)

module _ {A : Type 0} where
  pub kept-size : (es : List (Entry A)) → size_of (kept_entries es) ≡ length es
  kept-size [] = refl
  kept-size (kept.Leaf m ∷ es) = ap suc (kept-size es)
  kept-size (kept.Group g ∷ es) = ap suc (kept-size es)

  -- ---- an entry is put

  first-join : (x : Entry A) (es : List (Entry A)) → kept_entries (x ∷ es) ≡ kept_entries (x ∷ []) ▷ kept_entries es
  first-join x es = kept-append (x ∷ []) es

  pub set_with : (es : List (Entry A)) (i : ℕ) (x : Entry A) → i < length es → kept_entries (set es i x) ≡ with_entry i (kept_entries (x ∷ [])) (kept_entries es)
  set_with [] i x h = absurd (omega arith)
  set_with (kept.Leaf m ∷ es) zero x h = first-join x es
  set_with (kept.Group g ∷ es) zero x h = first-join x es
  set_with (kept.Leaf m ∷ es) (suc i) x h = ap (leaf m) (set_with es i x (omega arith))
  set_with (kept.Group g ∷ es) (suc i) x h = ap (group (record { of = record { key = g.key; opacity = g.opacity; blend = g.blend }; graph = g.inner.graph }) g.inner.entries) (set_with es i x (omega arith))

  pub put_at : (es fs ms : List (Entry A)) (place : Option ℕ) (i : ℕ) (x : Entry A) → place ≡ Some i → i < length es → fs ≡ set es i x → kept_entries fs ▷ kept_entries ms ≡ put_entry place (kept_entries (x ∷ [])) (kept_entries es ▷ kept_entries ms)
  put_at es fs ms place i x is h e =
      let size = kept-size es in
      ap (λ zs. kept_entries zs ▷ kept_entries ms) e ∙ ap (λ z. z ▷ kept_entries ms) (set_with es i x h) ∙ sym (with-join i (kept_entries (x ∷ [])) (kept_entries es) (kept_entries ms) (omega (arith, size, h)))
      ∙ ap (λ o. put_entry o (kept_entries (x ∷ [])) (kept_entries es ▷ kept_entries ms)) (sym is)

  pub put_on_top : (es ms ns : List (Entry A)) (place : Option ℕ) (x : Entry A) → place ≡ None → ns ≡ ms ++ x ∷ [] → kept_entries es ▷ kept_entries ns ≡ put_entry place (kept_entries (x ∷ [])) (kept_entries es ▷ kept_entries ms)
  put_on_top es ms ns place x is e =
      ap (λ zs. kept_entries es ▷ kept_entries zs) e ∙ ap (λ z. kept_entries es ▷ z) (kept-append ms (x ∷ [])) ∙ sym (join_assoc (kept_entries es) (kept_entries ms) (kept_entries (x ∷ [])))
      ∙ ap (λ o. put_entry o (kept_entries (x ∷ [])) (kept_entries es ▷ kept_entries ms)) (sym is)

  -- a leaf that comes to a place, of which this is told where it comes for a leaf
  pub leaf_changes : (place : ℕ) (told : Option ChunkBounds) (m : Made) (old new : List (Entry A)) (y : Entry A) → place < length old → y ≡ get_or old place y → new ≡ set old place (kept.Leaf m)
      → IfSome told (λ t. ((e : Entry A) → e ≡ kept.Leaf m → IsTold t (e ∷ [])) × IsLeaf y) → ChangesTo place told old new
  leaf_changes place told m old new y l is h told_so = record {
    size = ap length h ∙ length-set old place (kept.Leaf m);
    others = λ k d n. ap (λ zs. get_or zs k d) h ∙ get_or-set_other old place k (kept.Leaf m) d n;
    there = λ x z w ex ez.
        let leaf_there : x ≡ kept.Leaf m = ex ∙ ap (λ zs. get_or zs place x) h ∙ get_or-set_same old place (kept.Leaf m) x l in
        let same : y ≡ z = read_any old place y z l is ez in
        IfSome_then told told_so (λ t both. (both.0 x leaf_there, subst IsLeaf (sym leaf_there) tt, subst IsLeaf same both.1));
  }

  -- ---- entries in a line

  entry_is : (es : List (Entry A)) (p : ℕ) → kept_entries (take 1 (drop p es)) ≡ entry_at p (kept_entries es)
  entry_is [] zero = refl
  entry_is [] (suc p) = refl
  entry_is (kept.Leaf m ∷ es) zero = refl
  entry_is (kept.Group g ∷ es) zero = refl
  entry_is (kept.Leaf m ∷ es) (suc p) = entry_is es p
  entry_is (kept.Group g ∷ es) (suc p) = entry_is es p

  gathered_are : (ps : List ℕ) (es : List (Entry A)) → kept_entries (gathered ps es) ≡ gathered_entries ps (kept_entries es)
  gathered_are [] es = refl
  gathered_are (p ∷ ps) es = kept-append (take 1 (drop p es)) (gathered ps es) ∙ ap (λ z. z ▷ kept_entries (gathered ps es)) (entry_is es p) ∙ ap (λ z. entry_at p (kept_entries es) ▷ z) (gathered_are ps es)

  pub lined : (line : Option (List ℕ)) (l : List ℕ) (es ms after : List (Entry A)) → line ≡ Some l → after ≡ gathered l (es ++ ms) → kept_entries after ≡ arranged_entries line (kept_entries es ▷ kept_entries ms)
  lined line l es ms after some e =
      ap kept_entries e ∙ gathered_are l (es ++ ms) ∙ ap (gathered_entries l) (kept-append es ms) ∙ ap (λ o. arranged_entries o (kept_entries es ▷ kept_entries ms)) (sym some)

  pub unlined : (line : Option (List ℕ)) (es ms : List (Entry A)) (n : ℕ) → line ≡ None → NoneMade line n → length ms ≡ n → kept_entries es ≡ arranged_entries line (kept_entries es ▷ kept_entries ms)
  unlined line es ms n none still size =
      let zero_made : n ≡ 0 = subst (λ o. NoneMade o n) none still in
      let empty : ms ≡ [] = none_long ms (size ∙ zero_made) in
      sym (ap (λ o. arranged_entries o (kept_entries es ▷ kept_entries ms)) none ∙ ap (λ zs. kept_entries es ▷ kept_entries zs) empty ∙ join-nil (kept_entries es))

  pub unlined_items : (line : Option (List ℕ)) (es ms : List (Entry A)) (n : ℕ) → line ≡ None → NoneMade line n → length ms ≡ n → es ≡ arranged line (es ++ ms)
  unlined_items line es ms n none still size =
      let zero_made : n ≡ 0 = subst (λ o. NoneMade o n) none still in
      let empty : ms ≡ [] = none_long ms (size ∙ zero_made) in
      sym (ap (λ o. arranged o (es ++ ms)) none ∙ ap (λ zs. es ++ zs) empty ∙ append-nil es)

  -- ---- a group is taken

  pub group_within : (es : List (Entry A)) (i : ℕ) → is_some (group_at i (kept_entries es)) ≡ true → i < length es
  group_within [] i h = absurd (cc)
  group_within (x ∷ es) zero h = omega arith
  group_within (kept.Leaf m ∷ es) (suc i) h = let r = group_within es i h in omega (arith, r)
  group_within (kept.Group g ∷ es) (suc i) h = let r = group_within es i h in omega (arith, r)

  pub no_leaf_there : (es : List (Entry A)) (i : ℕ) (x : Entry A) (m : Made) → is_some (group_at i (kept_entries es)) ≡ true → x ≡ get_or es i x → x ≡ kept.Leaf m → ⊥
  no_leaf_there [] i x m h e f = cc
  no_leaf_there (y ∷ es) zero x m h e f = let v : is_some (group_at 0 (kept_entries (kept.Leaf m ∷ es))) ≡ true = subst (λ z. is_some (group_at 0 (kept_entries (z ∷ es))) ≡ true) (sym e ∙ f) h in cc
  no_leaf_there (kept.Leaf n ∷ es) (suc i) x m h e f = no_leaf_there es i x m h e f
  no_leaf_there (kept.Group g ∷ es) (suc i) x m h e f = no_leaf_there es i x m h e f

  pub named_there : (es : List (Entry A)) (i : ℕ) (x : Entry A) (g : Group A) → i < length es → x ≡ get_or es i x → x ≡ kept.Group g → wrapper_at i (kept_entries es) ≡ Some (wrapper g.key g.opacity g.blend)
  named_there [] i x g h e f = absurd (omega arith)
  named_there (y ∷ es) zero x g h e f = ap (λ z. wrapper_at 0 (kept_entries (z ∷ es))) (sym e ∙ f)
  named_there (kept.Leaf n ∷ es) (suc i) x g h e f = named_there es i x g (omega arith) e f
  named_there (kept.Group k ∷ es) (suc i) x g h e f = named_there es i x g (omega arith) e f

  pub inner_there : (es : List (Entry A)) (i : ℕ) (x : Entry A) (g : Group A) → i < length es → x ≡ get_or es i x → x ≡ kept.Group g → group_at i (kept_entries es) ≡ Some g.inner
  inner_there [] i x g h e f = absurd (omega arith)
  inner_there (y ∷ es) zero x g h e f = ap (λ z. group_at 0 (kept_entries (z ∷ es))) (sym e ∙ f)
  inner_there (kept.Leaf n ∷ es) (suc i) x g h e f = inner_there es i x g (omega arith) e f
  inner_there (kept.Group k ∷ es) (suc i) x g h e f = inner_there es i x g (omega arith) e f

  all_same : (es fs : List (Entry A)) → length es ≡ length fs → ((k : ℕ) (d : Entry A) → get_or es k d ≡ get_or fs k d) → es ≡ fs
  all_same [] [] l h = refl
  all_same [] (f ∷ fs) l h = absurd (omega (arith, l))
  all_same (e ∷ es) [] l h = absurd (omega (arith, l))
  all_same (e ∷ es) (f ∷ fs) l h = let a : e ≡ f = h 0 e in let b : es ≡ fs = all_same es fs (omega (arith, l)) (λ k d. h (suc k) d) in rw (a, b) refl

  pub same_but : (i : ℕ) (es fs : List (Entry A)) → i < length es → KeepsOthers i es fs → IsSameBut (Some i) (kept_entries es) (kept_entries fs)
  same_but i [] fs h keeps = absurd (omega arith)
  same_but i (e ∷ es) [] h keeps = let s = keeps.size in absurd (omega (arith, s))
  same_but zero (e ∷ es) (f ∷ fs) h keeps =
      let s = keeps.size in
      let rest : fs ≡ es = all_same fs es (omega (arith, s)) (λ k d. keeps.others (suc k) d (λ z. (omega (arith, z)))) in
      λ u. skip u f fs ∙ ap (λ zs. u ▷ kept_entries zs) rest ∙ sym (skip u e es)
    where
      skip : (u : Olds) (x : Entry A) (xs : List (Entry A)) → with_entry 0 u (kept_entries (x ∷ xs)) ≡ u ▷ kept_entries xs
      skip u (kept.Leaf m) xs = refl
      skip u (kept.Group g) xs = refl
  same_but (suc i) (e ∷ es) (f ∷ fs) h keeps =
      let s = keeps.size in
      let head : f ≡ e = keeps.others 0 f (λ z. (omega (arith, z))) in
      let rest = same_but i es fs (omega arith) (record { size = omega (arith, s); others = λ k d out. keeps.others (suc k) d (λ z. out (omega (arith, z))) }) in
      λ u. step u f fs ∙ ap (λ x. kept_entries (x ∷ []) ▷ with_entry i u (kept_entries fs)) head ∙ ap (λ z. kept_entries (e ∷ []) ▷ z) (rest u) ∙ sym (step u e es)
    where
      step : (u : Olds) (x : Entry A) (xs : List (Entry A)) → with_entry (suc i) u (kept_entries (x ∷ xs)) ≡ kept_entries (x ∷ []) ▷ with_entry i u (kept_entries xs)
      step u (kept.Leaf m) xs = refl
      step u (kept.Group g) xs = refl
