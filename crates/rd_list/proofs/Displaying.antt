-- What entries of kept lists show, entry by entry.
use Rattle.std.proofs.Common.{◌≡◌, refl, ap, ◌∙◌, sym, ℕ, ◌+◌, ◌<◌, List, [], ◌∷◌, ◌++◌, length, drop, get_or}
use Rattle.std.proofs.lemmas.List.{drop_more}
use Rattle.rd_item.specs.Items.{Made}
use Rattle.rd_keys.specs.declared.entry.EntryKey.{EntryKey}
use Rattle.rd_list.specs.Wrappers.{Wrapper}
use Rattle.rd_list.specs.Entries.{Entries, nil, leaf, group, ◌▷◌}
use Rattle.rd_list.specs.EntryNames.{kept_leaves}
use Rattle.rd_list.specs.Kept.{Ordered}
use Rattle.rd_list.specs.Displayed.{shown}
use Rattle.rd_list.specs.declared.kept.Entry.{Entry}
use Rattle.rd_list.specs.declared.kept.Entry.TheVariants as kept

pub leaves-join : (xs ys : Entries (Ordered EntryKey Wrapper) Made) → kept_leaves (xs ▷ ys) ≡ kept_leaves xs ▷ kept_leaves ys
leaves-join nil ys = refl
leaves-join (leaf m xs) ys = ap (leaf m.leaf) (leaves-join xs ys)
leaves-join (group g inner xs) ys = ap (group g.of (kept_leaves inner)) (leaves-join xs ys)

module _ {A : Type 0} where
  pub shown-append : (xs ys : List (Entry A)) → shown (xs ++ ys) ≡ shown xs ▷ shown ys
  shown-append [] ys = refl
  shown-append (kept.Leaf i ∷ xs) ys = ap (leaf i.leaf) (shown-append xs ys)
  shown-append (kept.Group g ∷ xs) ys = ap (group (record { key = g.key; opacity = g.opacity; blend = g.blend }) (kept_leaves g.inner.entries)) (shown-append xs ys)

  -- the first entry, and the rest
  pub shown-cons : (x : Entry A) (es : List (Entry A)) → shown (x ∷ es) ≡ shown (x ∷ []) ▷ shown es
  shown-cons x es = shown-append (x ∷ []) es

  -- from one place on: the entry there, and the rest
  pub shown_from : (es : List (Entry A)) (i : ℕ) (x : Entry A) → i < length es → x ≡ get_or es i x → shown (drop i es) ≡ shown (x ∷ []) ▷ shown (drop (i + 1) es)
  shown_from es i x h k = ap shown (drop_more es i x h ∙ ap (λ d. d ∷ drop (i + 1) es) (sym k)) ∙ shown-cons x (drop (i + 1) es)
