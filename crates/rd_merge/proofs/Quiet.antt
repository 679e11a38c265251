-- Chunks of which nothing is noted, since none of their boxes is touched, and none is sought.
use Rattle.std.proofs.Common.{◌≡◌, refl, ap, ◌∙◌, sym, subst, ℕ, zero, suc, ◌+◌, ◌-◌, ◌<◌, ◌≤◌, Bool, true, false, not, List, [], ◌∷◌, ◌++◌, length, take, drop, get_or, arith, Option}
use Rattle.std.proofs.lemmas.List.{get_or-take, get_or-drop, length-take-le, length-drop}
use Rattle.rd_keys.specs.Keys.{BoxKey}
use Rattle.rd_keys.specs.Ranges.{IsAmong}
use Rattle.rd_keys.specs.declared.entry.EntryKey.{EntryKey}
use Rattle.rd_keys.specs.declared.range.KeyRange.{KeyRange}
use Rattle.rd_graph.specs.Orders as spec
use Rattle.rd_graph.specs.Names.{is_in, place_of, same_entry}
use Rattle.rd_item.specs.declared.leaf.Leaf as item
use Rattle.rd_item.specs.Items.{Made}
use Rattle.rd_list.specs.Chunks.{AreNamed}
use Rattle.rd_list.specs.Entries.{Entries, nil, leaf, group, is_empty}
use Rattle.rd_list.specs.EntryNames.{entry_names, kept_leaves}
use Rattle.rd_list.specs.Kept.{Ordered}
use Rattle.rd_list.specs.KeptView.{kept_entries}
use Rattle.rd_list.specs.Wrappers.{Wrapper}
use Rattle.rd_list.specs.declared.kept.Entry.{Entry}
use Rattle.rd_list.specs.declared.kept.Entry.TheVariants as kept
use Rattle.rd_list.proofs.Admitting.{named_at, read_some}
use Rattle.rd_merge.specs.Going.{any_stays, is_untouched}
use Rattle.rd_merge.specs.Looking.{any_goes, kept_names}
use Rattle.rd_merge.specs.Internal.Looks.{LeafStays, LeavesStay, NothingNoted, gone_at, inner_at, name_of, noted}
use Rattle.rd_merge.specs.Internal.Marks.{ArePagesMarked, slot_mark}
use Rattle.rd_merge.proofs.Looks.{add_none, ends, gone_next, inner_next, named_next, nothing_itself, nothing_more}
use Rattle.rd_merge.proofs.Marked.{page_unmarked}

module _ (touched : BoxKey → Bool) (keys : KeyRange) (quiet : (k : BoxKey) → IsAmong keys k → touched k ≡ false) where
  stays : (l : item.Leaf) → IsAmong keys l.owner → is_untouched touched l ≡ true
  stays l a = ap not (quiet l.owner a)

  -- of a list that has an entry something stays
  some_stays : (xs : Entries (Ordered EntryKey Wrapper) Made) → AreNamed keys xs → is_empty xs ≡ false → any_stays entry_names (is_untouched touched) (kept_leaves xs) ≡ true
  some_stays nil a e = absurd (cc)
  some_stays (leaf m rest) a e = rw (stays m.leaf a.0) refl
  some_stays (group g inner rest) a e = rw (some_stays inner a.2 a.1) refl

  leaf_stays : {A : Type 0} (x : Entry A) → AreNamed keys (kept_entries (x ∷ [])) → LeafStays touched x
  leaf_stays (kept.Leaf m) a = stays m.leaf a.0
  leaf_stays (kept.Group g) a = tt

  -- the leaves of so many entries
  pub still_leaves : {A : Type 0} (es : List (Entry A)) (start n : ℕ) → start + n ≤ length es → AreNamed keys (kept_entries (take n (drop start es))) → LeavesStay touched es start (start + n)
  still_leaves es start n l a = λ p lower upper x e.
      let m = p - start in
      let at : p ≡ start + m = omega (arith, lower) in
      let is : x ≡ get_or es (start + m) x = subst (λ (i : ℕ). x ≡ get_or es i x) at e in
      let there : x ≡ get_or (take n (drop start es)) m x = is ∙ sym (get_or-drop start es m x) ∙ sym (get_or-take n (drop start es) m x (omega (arith, lower, upper))) in
      let d = length-drop start es in
      let t = length-take-le n (drop start es) (omega (arith, d, l)) in
      leaf_stays x (named_at keys (take n (drop start es)) a m x (omega (arith, t, lower, upper)) there)

  has_entry : (xs : Entries (Ordered EntryKey Wrapper) Made) → is_empty xs ≡ false → is_empty (kept_leaves xs) ≡ false
  has_entry nil e = absurd (cc)
  has_entry (leaf m rest) e = refl
  has_entry (group g inner rest) e = refl

  pub none_goes : (xs : Entries (Ordered EntryKey Wrapper) Made) → AreNamed keys xs → any_goes entry_names (is_untouched touched) (kept_leaves xs) ≡ false
  none_goes nil a = refl
  none_goes (leaf m rest) a = rw (stays m.leaf a.0) (none_goes rest a.1)
  none_goes (group g inner rest) a = rw (has_entry inner a.1) (rw (none_goes inner a.2) (none_goes rest a.3))

  module _ {A : Type 0} (names : List EntryKey) (pages groups : List ℕ) (are : ArePagesMarked names pages groups) (unnamed : (k : BoxKey) → IsAmong keys k → slot_mark pages k ≡ 0) where
    quiet_gone : (x : Entry A) (i : ℕ) (now : List ℕ) → AreNamed keys (kept_entries (x ∷ [])) → now ≡ now ++ gone_at touched i x
    quiet_gone (kept.Leaf m) i now a = add_none now (gone_at {A = A} touched i (kept.Leaf m)) (rw (stays m.leaf a.0) refl)
    quiet_gone (kept.Group g) i now a = add_none now (gone_at {A = A} touched i (kept.Group g)) (rw (some_stays g.inner.entries a.2 a.1) refl)

    quiet_found : (x : Entry A) (i : ℕ) (now : List (Option ℕ)) → AreNamed keys (kept_entries (x ∷ [])) → now ≡ noted (place_of same_entry names (name_of x)) i now
    quiet_found (kept.Leaf m) i now a = ap (λ o. noted o i now) (sym (page_unmarked names pages are.marked (name_of {A = A} (kept.Leaf m)) (unnamed m.leaf.owner a.0)))
    quiet_found (kept.Group g) i now a = ap (λ o. noted o i now) (sym (page_unmarked names pages are.marked (name_of {A = A} (kept.Group g)) (unnamed g.key a.0)))

    quiet_inner : (x : Entry A) (i : ℕ) (now : List ℕ) → AreNamed keys (kept_entries (x ∷ [])) → now ≡ now ++ inner_at touched names i x
    quiet_inner (kept.Leaf m) i now a = add_none now [] refl
    quiet_inner (kept.Group g) i now a =
        add_none now (inner_at {A = A} touched names i (kept.Group g))
        (rw (none_goes g.inner.entries a.2) (rw (ends (any_stays entry_names (is_untouched touched) (kept_leaves g.inner.entries)) (not (is_in same_entry names (name_of {A = A} (kept.Group g))))) refl))

    -- nothing is noted of one of its entries
    quiet_one : (es : List (Entry A)) (i : ℕ) (x : Entry A) → spec.Once names → spec.Once (kept_names (kept_entries es)) → i < length es → x ≡ get_or es i x → AreNamed keys (kept_entries (x ∷ []))
        → NothingNoted touched es names i (i + 1)
    quiet_one es i x o ok l e a = record {
      gone = sym (gone_next touched es i x _ _ l e refl (quiet_gone x i _ a));
      found = sym (named_next es names i x _ _ o ok l e refl (quiet_found x i _ a));
      inner = sym (inner_next touched names es i x _ _ l e refl (quiet_inner x i _ a));
    }

    -- nor of the first so many of them
    pub quiet_chunk : (es : List (Entry A)) (start n : ℕ) → spec.Once names → spec.Once (kept_names (kept_entries es)) → start + n ≤ length es → AreNamed keys (kept_entries (take n (drop start es)))
        → (m : ℕ) → m ≤ n → NothingNoted touched es names start (start + m)
    quiet_chunk es start n o ok l a zero h = subst (λ (i : ℕ). NothingNoted touched es names start i) (let e : start ≡ start + 0 = omega arith in e) (nothing_itself touched es names start)
    quiet_chunk es start n o ok l a (suc m) h =
        let some = read_some es (start + m) (omega (arith, l, h)) in
        let there : some.0 ≡ get_or (take n (drop start es)) m some.0 = some.1 ∙ sym (get_or-drop start es m some.0) ∙ sym (get_or-take n (drop start es) m some.0 (omega (arith, h))) in
        let d = length-drop start es in
        let t = length-take-le n (drop start es) (omega (arith, d, l)) in
        nothing_more touched es names start (start + m) (start + suc m) (quiet_chunk es start n o ok l a m (omega (arith, h)))
        (quiet_one es (start + m) some.0 o ok (omega (arith, l, h)) some.1 (named_at keys (take n (drop start es)) a m some.0 (omega (arith, t, h)) there))
        (omega arith)
