-- Leaves that are older than all that meet an area show nothing in it.
use Rattle.std.proofs.Common.{◌≡◌, refl, ◌∙◌, sym, ap, subst, ℤ, ℕ, zero, suc, ◌+◌, ◌<◌, Bool, true, false, List, [], ◌∷◌, ◌++◌, length, take, drop, get_or, arith}
use Rattle.std.proofs.lemmas.List.{take-append-drop, drop-drop}
use Rattle.rd_geom.specs.Areas.{Region, meets_area}
use Rattle.rd_item.specs.Items.{Made}
use Rattle.rd_keys.specs.declared.entry.EntryKey.{EntryKey}
use Rattle.rd_list.specs.Chunks.{AreMadeBy}
use Rattle.rd_list.specs.Displayed.{shown}
use Rattle.rd_list.specs.Entries.{Entries, nil, leaf, group, flat}
use Rattle.rd_list.specs.EntryNames.{kept_leaves}
use Rattle.rd_list.specs.Kept.{Ordered}
use Rattle.rd_list.specs.KeptView.{kept_entries}
use Rattle.rd_list.specs.Wrappers.{Wrapper}
use Rattle.rd_list.specs.declared.kept.Entry.{Entry}
use Rattle.rd_list.specs.declared.kept.Entry.TheVariants as kept
use Rattle.rd_list.proofs.Displaying.{shown-append}
use Rattle.rd_list.proofs.Merges.Levelling.{flat-join}
use Rattle.rd_list.proofs.News.{kept-append}
use Rattle.rd_paint.specs.Internal.Picks.{InArea, SameWhere, ServesWhere}
use Rattle.rd_paint.specs.Since.{AreMadeSince}
use Rattle.rd_paint.proofs.Shown.OffChunks.{leaf_off, off_area}
use Rattle.rd_paint.proofs.Shown.Showing.{group_unseen, same_join, serves_past}

-- ---- when leaves were made that meet an area

-- no leaf was made before the first paint
pub since_none : (a : Region) (ms : List Made) → AreMadeSince a 0 ms
since_none a [] = tt
since_none a (m ∷ ms) = ((λ h. omega arith), since_none a ms)

pub since_left : (a : Region) (n : ℕ) (ms ns : List Made) → AreMadeSince a n (ms ++ ns) → AreMadeSince a n ms
since_left a n [] ns h = tt
since_left a n (m ∷ ms) ns h = (h.0, since_left a n ms ns h.1)

pub since_right : (a : Region) (n : ℕ) (ms ns : List Made) → AreMadeSince a n (ms ++ ns) → AreMadeSince a n ns
since_right a n [] ns h = h
since_right a n (m ∷ ms) ns h = since_right a n ms ns h.1

module _ {A : Type 0} where
  -- the leaves of some entries and of those after them
  flat_parts : (xs ys : List (Entry A)) → flat (kept_entries (xs ++ ys)) ≡ flat (kept_entries xs) ++ flat (kept_entries ys)
  flat_parts xs ys = ap flat (kept-append xs ys) ∙ flat-join (kept_entries xs) (kept_entries ys)

  -- the entries from a place on
  pub since_from : (a : Region) (n : ℕ) (es : List (Entry A)) (i : ℕ) → AreMadeSince a n (flat (kept_entries es)) → AreMadeSince a n (flat (kept_entries (drop i es)))
  since_from a n es i h =
      since_right a n (flat (kept_entries (take i es))) (flat (kept_entries (drop i es)))
      (subst (AreMadeSince a n) (ap (λ zs. flat (kept_entries zs)) (sym (take-append-drop i es)) ∙ flat_parts (take i es) (drop i es)) h)

  -- so many of the first entries
  since_first : (a : Region) (n : ℕ) (es : List (Entry A)) (k : ℕ) → AreMadeSince a n (flat (kept_entries es)) → AreMadeSince a n (flat (kept_entries (take k es)))
  since_first a n es k h =
      since_left a n (flat (kept_entries (take k es))) (flat (kept_entries (drop k es)))
      (subst (AreMadeSince a n) (ap (λ zs. flat (kept_entries zs)) (sym (take-append-drop k es)) ∙ flat_parts (take k es) (drop k es)) h)

  -- one entry
  pub since_at : (a : Region) (n : ℕ) (es : List (Entry A)) (i : ℕ) (x : Entry A) → i < length es → x ≡ get_or es i x → AreMadeSince a n (flat (kept_entries es))
      → AreMadeSince a n (flat (kept_entries (x ∷ [])))
  since_at a n [] i x l e h = absurd (omega (arith, l))
  since_at a n (y ∷ ys) zero x l e h =
      subst (λ z. AreMadeSince a n (flat (kept_entries (z ∷ [])))) (sym e)
      (since_left a n (flat (kept_entries (y ∷ []))) (flat (kept_entries ys)) (subst (AreMadeSince a n) (flat_parts (y ∷ []) ys) h))
  since_at a n (y ∷ ys) (suc i) x l e h =
      since_at a n ys i x (omega (arith, l)) e
      (since_right a n (flat (kept_entries (y ∷ []))) (flat (kept_entries ys)) (subst (AreMadeSince a n) (flat_parts (y ∷ []) ys) h))

-- ---- older leaves

-- no leaf meets the area
abbrev AreApart : Region → List Made → Type 0
AreApart a [] = Unit {0}
AreApart a (m ∷ ms) = (meets_area a m.leaf.visible ≡ false) × AreApart a ms

older_apart : (a : Region) (n since : ℕ) (ms : List Made) → AreMadeSince a since ms → AreMadeBy n ms → n < since → AreApart a ms
older_apart a n since [] s h l = tt
older_apart a n since (m ∷ ms) s h l = (by (meets_area a m.leaf.visible) refl, older_apart a n since ms s.1 h.1 l)
  where
    by : (b : Bool) → meets_area a m.leaf.visible ≡ b → meets_area a m.leaf.visible ≡ false
    by false e = e
    by true e = let k = s.0 e in let j = h.0 in absurd (omega (arith, k, j, l))

apart_left : (a : Region) (ms ns : List Made) → AreApart a (ms ++ ns) → AreApart a ms
apart_left a [] ns h = tt
apart_left a (m ∷ ms) ns h = (h.0, apart_left a ms ns h.1)

apart_right : (a : Region) (ms ns : List Made) → AreApart a (ms ++ ns) → AreApart a ns
apart_right a [] ns h = h
apart_right a (m ∷ ms) ns h = apart_right a ms ns h.1

module _ (p : ℤ → ℤ → Type 0) (a : Region) (inside : (x y : ℤ) → p x y → InArea a x y) where
  list_apart : (xs : Entries (Ordered EntryKey Wrapper) Made) → AreApart a (flat xs) → SameWhere p nil (kept_leaves xs)
  list_apart nil h = λ x y d k. refl
  list_apart (leaf m rest) h =
      same_join p nil (leaf m.leaf nil) nil (kept_leaves rest)
      (leaf_off p m.leaf.visible (λ x y k. off_area a m.leaf.visible h.0 x y (inside x y k)) m.leaf (λ x y t. t)) (list_apart rest h.1)
  list_apart (group g inner rest) h =
      same_join p nil (group g.of (kept_leaves inner) nil) nil (kept_leaves rest)
      (group_unseen p g.of (kept_leaves inner) (list_apart inner (apart_left a (flat inner) (flat rest) h)))
      (list_apart rest (apart_right a (flat inner) (flat rest) h))

  -- from behind a chunk of older leaves
  pub older_past : {A : Type 0} (es : List (Entry A)) (i n newest since : ℕ) → AreMadeSince a since (flat (kept_entries es))
      → AreMadeBy newest (flat (kept_entries (take n (drop i es)))) → newest < since → ServesWhere p (shown (drop (i + n) es)) (shown (drop i es))
  older_past es i n newest since s h l =
      serves_past p (shown (take n (drop i es))) (shown (drop (i + n) es)) (shown (drop i es))
      (ap shown (sym (take-append-drop n (drop i es)) ∙ ap (λ zs. take n (drop i es) ++ zs) (drop-drop n i es)) ∙ shown-append (take n (drop i es)) (drop (i + n) es))
      (list_apart (kept_entries (take n (drop i es)))
      (older_apart a newest since (flat (kept_entries (take n (drop i es)))) (since_first a since (drop i es) n (since_from a since es i s)) h l))
