-- What a kept list shows, chunk by chunk.
use Rattle.std.proofs.Common.{◌≡◌, refl, ap, ◌∙◌, sym, subst, false, ◌||◌, ◌≤◌, ◌-◌, ℤ, ℕ, ◌+◌, List, [], ◌∷◌, ◌++◌, length, take, drop, arith, take-add}
use Rattle.std.proofs.lemmas.List.{length-drop, length-take-le, take-append-le, drop-append-le, take-append-drop}
use Rattle.rd_geom.specs.Areas.{Region}
use Rattle.rd_item.specs.Items.{Made}
use Rattle.rd_keys.specs.Keys.{BoxKey}
use Rattle.rd_keys.specs.Ranges.{IsAmong}
use Rattle.rd_keys.specs.declared.entry.EntryKey.{EntryKey}
use Rattle.rd_keys.specs.declared.range.KeyRange.{KeyRange}
use Rattle.rd_list.specs.Chunks.{AreNamed, Covers, Tells, total}
use Rattle.rd_list.specs.Wrappers.{Wrapper}
use Rattle.rd_list.specs.Entries.{Entries, nil, leaf, group, flat}
use Rattle.rd_list.specs.Kept.{Ordered}
use Rattle.rd_list.specs.EntryNames.{kept_leaves}
use Rattle.rd_list.specs.KeptView.{kept_entries}
use Rattle.rd_list.specs.declared.chunks.Chunk.{Chunk}
use Rattle.rd_list.specs.declared.kept.Entry.{Entry}
use Rattle.rd_list.proofs.News.{kept-append}
use Rattle.rd_tree.specs.Document.{Document, is_touched}
use Rattle.rd_partial.specs.Invalid.{any_shows, shows_touched}
use Rattle.rd_partial.specs.Internal.Touched.{Joins}
use Rattle.rd_partial.proofs.Adding.{any-append, joins_none, joins_same, joins_then}
use Rattle.rd_partial.proofs.Listing.{shows-join}

module _ (t : Document) where
  module _ (keys : KeyRange) (quiet : (k : BoxKey) → IsAmong keys k → is_touched k t.boxes ≡ false) (x y : ℤ) where
    -- leaves of untouched boxes show nothing of touched ones
    none_shows : (xs : Entries (Ordered EntryKey Wrapper) Made) → AreNamed keys xs → any_shows t (kept_leaves xs) x y ≡ false
    none_shows nil a = refl
    none_shows (leaf m rest) a = rw (quiet m.leaf.owner a.0) (none_shows rest a.1)
    none_shows (group g inner rest) a =
        let p = shows_touched (λ k. is_touched k t.boxes) x y in
        any-append p (flat (kept_leaves inner)) (flat (kept_leaves rest)) ∙ rw (none_shows inner a.2, none_shows rest a.3) refl

  module _ {A : Type 0} where
    pub quiet_joins : (keys : KeyRange) (es : List (Entry A)) (a : Region) → ((k : BoxKey) → IsAmong keys k → is_touched k t.boxes ≡ false) → AreNamed keys (kept_entries es) → Joins (any_shows t (kept_leaves (kept_entries es))) a a
    quiet_joins keys es a quiet named = joins_none (any_shows t (kept_leaves (kept_entries es))) a (λ x y. none_shows keys quiet x y (kept_entries es) named)

    two_parts : (xs ys all : List (Entry A)) (a b c : Region) → all ≡ xs ++ ys → Joins (any_shows t (kept_leaves (kept_entries xs))) a b → Joins (any_shows t (kept_leaves (kept_entries ys))) b c
        → Joins (any_shows t (kept_leaves (kept_entries all))) a c
    two_parts xs ys all a b c e j k =
        joins_same (λ x y. any_shows t (kept_leaves (kept_entries xs)) x y || any_shows t (kept_leaves (kept_entries ys)) x y) (any_shows t (kept_leaves (kept_entries all))) a c
        (λ x y. sym (ap (λ z. any_shows t (kept_leaves z) x y) (ap kept_entries e ∙ kept-append xs ys) ∙ shows-join t (kept_entries xs) (kept_entries ys) x y))
        (joins_then (any_shows t (kept_leaves (kept_entries xs))) (any_shows t (kept_leaves (kept_entries ys))) a b c j k)

    -- the entries of a chunk more
    pub chunk_more : (es : List (Entry A)) (p n : ℕ) (a b c : Region) → Joins (any_shows t (kept_leaves (kept_entries (take p es)))) a b → Joins (any_shows t (kept_leaves (kept_entries (take n (drop p es))))) b c
        → Joins (any_shows t (kept_leaves (kept_entries (take (p + n) es)))) a c
    chunk_more es p n a b c j k = two_parts (take p es) (take n (drop p es)) (take (p + n) es) a b c (take-add p n es) j k

    -- those past the last chunk
    pub rest_more : (es : List (Entry A)) (p : ℕ) (a b c : Region) → Joins (any_shows t (kept_leaves (kept_entries (take p es)))) a b → Joins (any_shows t (kept_leaves (kept_entries (drop p es)))) b c
        → Joins (any_shows t (kept_leaves (kept_entries es))) a c
    rest_more es p a b c j k = two_parts (take p es) (drop p es) es a b c (sym (take-append-drop p es)) j k

module _ {A : Type 0} where
  -- chunks are those of no entries but the first ones
  covers_left : (cs : List Chunk) (xs ys : List (Entry A)) → total cs ≤ length xs → Covers cs (xs ++ ys) → Covers cs xs
  covers_left [] xs ys l c = tt
  covers_left (b ∷ cs) xs ys l c =
      let u : b.count ≤ length xs = omega (arith, l) in
      let d = length-drop b.count xs in (
        u,
        (λ f. subst (Tells b) (take-append-le b.count xs ys u) (c.1 f)),
        covers_left cs (drop b.count xs) ys (omega (arith, l, d)) (subst (Covers cs) (drop-append-le b.count xs ys u) c.2),
      )

  -- those of so many entries, from one on
  pub covers_part : (cs : List Chunk) (es : List (Entry A)) (p n : ℕ) → n ≤ length es - p → total cs ≡ n → Covers cs (drop p es) → Covers cs (take n (drop p es))
  covers_part cs es p n l t c =
      let d = length-drop p es in
      let m : length (take n (drop p es)) ≡ n = length-take-le n (drop p es) (omega (arith, d, l)) in
      covers_left cs (take n (drop p es)) (drop n (drop p es)) (omega (arith, m, t)) (subst (Covers cs) (sym (take-append-drop n (drop p es))) c)
