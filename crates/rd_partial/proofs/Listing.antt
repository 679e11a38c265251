-- What a kept list shows, entry by entry.
use Rattle.std.proofs.Common.{◌≡◌, refl, ap, ◌∙◌, sym, Bool, true, false, ◌||◌, ℤ, ℕ, ◌+◌, ◌<◌, List, [], ◌∷◌, ◌++◌, take, length, get_or}
use Rattle.std.proofs.lemmas.List.{take_more}
use Rattle.std.specs.List.{list_any}
use Rattle.rd_geom.specs.Plane.{Rectangle, holds_pixel}
use Rattle.rd_geom.specs.Areas.{Region}
use Rattle.rd_item.specs.Items.{Made}
use Rattle.rd_keys.specs.declared.entry.EntryKey.{EntryKey}
use Rattle.rd_list.specs.Wrappers.{Wrapper}
use Rattle.rd_list.specs.Entries.{Entries, nil, leaf, group, ◌▷◌, flat}
use Rattle.rd_list.specs.Kept.{Ordered}
use Rattle.rd_list.specs.EntryNames.{kept_leaves}
use Rattle.rd_list.specs.KeptView.{kept_entries}
use Rattle.rd_list.specs.declared.kept.Entry.{Entry}
use Rattle.rd_list.proofs.Merges.Levelling.{flat-join}
use Rattle.rd_list.proofs.News.{kept-append}
use Rattle.rd_tree.specs.Document.{Document, is_touched}
use Rattle.rd_partial.specs.Invalid.{any_shows, shows_touched}
use Rattle.rd_partial.specs.Internal.Touched.{Joins}
use Rattle.rd_partial.proofs.Adding.{joins_then, joins_same, any-append}

leaves-join : (xs ys : Entries (Ordered EntryKey Wrapper) Made) → kept_leaves (xs ▷ ys) ≡ kept_leaves xs ▷ kept_leaves ys
leaves-join nil ys = refl
leaves-join (leaf m xs) ys = ap (leaf m.leaf) (leaves-join xs ys)
leaves-join (group g inner xs) ys = ap (group g.of (kept_leaves inner)) (leaves-join xs ys)

module _ (t : Document) where
  pub shows-join : (xs ys : Entries (Ordered EntryKey Wrapper) Made) (x y : ℤ) → any_shows t (kept_leaves (xs ▷ ys)) x y ≡ (any_shows t (kept_leaves xs) x y || any_shows t (kept_leaves ys) x y)
  shows-join xs ys x y =
      let p = shows_touched (λ k. is_touched k t.boxes) x y in
      ap (λ z. list_any p (flat z)) (leaves-join xs ys)
      ∙ ap (list_any p) (flat-join (kept_leaves xs) (kept_leaves ys))
      ∙ any-append p (flat (kept_leaves xs)) (flat (kept_leaves ys))

  -- one entry more
  pub entry_more : {A : Type 0} (es : List (Entry A)) (i : ℕ) (e : Entry A) (a b c : Region) → i < length es → e ≡ get_or es i e
      → Joins (any_shows t (kept_leaves (kept_entries (take i es)))) a b → Joins (any_shows t (kept_leaves (kept_entries (e ∷ [])))) b c
      → Joins (any_shows t (kept_leaves (kept_entries (take (i + 1) es)))) a c
  entry_more es i e a b c h is j k =
      let front : kept_entries (take (i + 1) es) ≡ kept_entries (take i es) ▷ kept_entries (e ∷ []) =
      ap kept_entries (take_more es i e h ∙ ap (λ z. take i es ++ z ∷ []) (sym is)) ∙ kept-append (take i es) (e ∷ []) in
      joins_same (λ x y. any_shows t (kept_leaves (kept_entries (take i es))) x y || any_shows t (kept_leaves (kept_entries (e ∷ []))) x y) (any_shows t (kept_leaves (kept_entries (take (i + 1) es)))) a c
      (λ x y. sym (ap (λ z. any_shows t (kept_leaves z) x y) front ∙ shows-join (kept_entries (take i es)) (kept_entries (e ∷ [])) x y))
      (joins_then (any_shows t (kept_leaves (kept_entries (take i es)))) (any_shows t (kept_leaves (kept_entries (e ∷ [])))) a b c j k)

  -- an item of a touched box
  pub item_shows : (i : Made) (r : Rectangle) (a b : Region) → r ≡ i.leaf.visible → is_touched i.leaf.owner t.boxes ≡ true → Joins (λ x y. holds_pixel r x y) a b → Joins (any_shows t (kept_leaves (leaf i nil))) a b
  item_shows i r a b e m j = joins_same (λ x y. holds_pixel r x y) (any_shows t (kept_leaves (leaf i nil))) a b (λ x y. rw (e, m) (or_false (holds_pixel i.leaf.visible x y))) j
    where
      or_false : (u : Bool) → u ≡ (u || false)
      or_false true = refl
      or_false false = refl
