-- The small lists of the tests can be merged.
use Rattle.std.proofs.Common.{◌≡◌, refl, ap, ◌∙◌, sym, subst, Bool, true, false, not, ◌||◌, ◌&&◌, [], map, arith, inl, inr}
use Rattle.std.proofs.lemmas.List.Sorted.{IsPermutation-refl}
use Rattle.rd_geom.specs.Plane.{Rectangle}
use Rattle.rd_geom.specs.declared.color.Color.{Color}
use Rattle.rd_graph.specs.Names.{same_entry, same_part}
use Rattle.rd_graph.proofs.Lists.Entries.{same_entry-sound, same_entry-refl}
use Rattle.rd_graph.proofs.Lists.Listing.{Once, never, pairs_map}
use Rattle.rd_keys.specs.Keys.{BoxKey, same_key}
use Rattle.rd_keys.proofs.Keys.{same_key-refl}
use Rattle.rd_keys.specs.declared.entry.EntryKey.{EntryKey}
use Rattle.rd_keys.specs.declared.entry.EntryKey.TheVariants as key
use Rattle.rd_keys.specs.declared.entry.Part.{Part}
use Rattle.rd_keys.specs.declared.entry.Part.TheVariants.{Back, Border, Content}
use Rattle.rd_item.specs.declared.leaf.Leaf.{Leaf}
use Rattle.rd_item.specs.Items.{Made}
use Rattle.rd_list.specs.Wrappers.{Wrapper}
use Rattle.rd_list.specs.Entries.{Entries, nil, flat, routes, only}
use Rattle.rd_list.specs.EntryNames.{entry_names, new_leaves}
use Rattle.rd_list.specs.Kept.{KeptList, KeptReady}
use Rattle.rd_list.specs.Lists as lists
use Rattle.rd_list.specs.Lists.{leaves_meet}
use Rattle.rd_list.specs.Laws.{IsCovered}
use Rattle.rd_list.proofs.Merges.Naming.{display_merging, display_editing}
use Rattle.rd_list.proofs.Merges.Starting.{display_starting}
use Rattle.rd_merge.specs.Going.{is_untouched}
use Rattle.rd_merge.specs.Merging.{CanBeMerged, MergedInto}
use Rattle.rd_low_tests.specs.SampleLists.{IsFirst, late_list, less_list, more_list, part_list, whole_list}

unlike : (a b : EntryKey) → same_entry a b ≡ false → a ≡ b → ⊥
unlike a b f e = never (same_entry a b) (subst (λ (z : EntryKey). same_entry a z ≡ true) e (same_entry-refl a)) f

neither : (b : Bool) → (b && false) ≡ false
neither true = refl
neither false = refl

by_part : (k j : BoxKey) (p q : Part) → same_part p q ≡ false → key.Leaf k p ≡ key.Leaf j q → ⊥
by_part k j p q h e = unlike (key.Leaf k p) (key.Leaf j q) (ap (λ (b : Bool). same_key k j && b) h ∙ neither (same_key k j)) e

by_key : (k j : BoxKey) (p q : Part) → same_key k j ≡ false → key.Leaf k p ≡ key.Leaf j q → ⊥
by_key k j p q h e = unlike (key.Leaf k p) (key.Leaf j q) (ap (λ (b : Bool). b && same_part p q) h) e

abbrev everything : BoxKey → BoxKey → Bool
everything other k = true || same_key other k

abbrev other_one : BoxKey → BoxKey → Bool
other_one other k = false || same_key other k

abbrev nothing : KeptList EntryKey Wrapper Made
nothing = record { graph = []; entries = nil }

module _ (one other : BoxKey) (r s : Rectangle) (ink : Color) (apart : same_key other one ≡ false) where
  abbrev F : Entries Wrapper Leaf
  F = new_leaves (whole_list one other r s ink)

  once_names : Once (map entry_names.leaf (flat F))
  once_names = (
    (λ h. elim h [ inl e ↦ by_part one one Border Back refl e | inr i ↦ elim i [ inl e ↦ by_key other one Back Back apart e | inr j ↦ elim j [ inl e ↦ by_part one one Content Back refl e | inr k ↦ k ] ] ]),
    (
      (λ h. elim h [ inl e ↦ by_part other one Back Border refl e | inr i ↦ elim i [ inl e ↦ by_part one one Content Border refl e | inr k ↦ k ] ]),
      ((λ h. elim h [ inl e ↦ by_part one other Content Back refl e | inr k ↦ k ]), ((λ h. h), tt)),
    ),
  )

  itself : lists.StandsFor F F
  itself = record {
    leaves = IsPermutation-refl (routes [] F);
    once = pairs_map entry_names.leaf same_entry same_entry-sound same_entry-refl (flat F) once_names;
    grouped = λ i j d l m. absurd (omega arith);
    filled = refl;
    ordered = λ a b c d m. refl;
  }

  ready : KeptReady entry_names (λ m. m.leaf) leaves_meet (is_untouched (everything other)) nothing F
  ready = display_starting F (is_untouched (everything other)) (λ l c. refl)

  pub first_can : (kept : KeptList EntryKey Wrapper Made) (new : Entries Wrapper Made) → kept ≡ record { graph = []; entries = nil } → new ≡ whole_list one other r s ink → CanBeMerged (λ k. true || same_key other k) kept new
  first_can kept new e f =
      subst (λ (x : KeptList EntryKey Wrapper Made). CanBeMerged (everything other) x new) (sym e)
      (subst (λ (y : Entries Wrapper Made). CanBeMerged (everything other) nothing y) (sym f)
      (record { fresh = F; in_area = λ l. true; itself = itself; ready = ready; limited = refl }))

  abbrev Untouched : Leaf → Bool
  Untouched l = not (false || same_key other l.owner)

  ready_again : (kept : KeptList EntryKey Wrapper Made) (next : Entries Wrapper Leaf) → IsFirst one other r s ink kept → only Untouched F ≡ only Untouched next → KeptReady entry_names (λ m. m.leaf) leaves_meet (is_untouched (other_one other)) kept next
  ready_again kept next merged same =
      let covered : IsCovered entry_names leaves_meet (is_untouched (everything other)) (λ l. true) F = record { itself = λ a c f. refl; others = λ a b c d f m. refl } in
      let done = display_merging F nothing kept (whole_list one other r s ink) (is_untouched (everything other)) (λ l. true) itself covered ready refl merged in
      display_editing F next kept (λ k. false) (λ k. same_key other k) itself same done.2

  again : (kept : KeptList EntryKey Wrapper Made) (new now : Entries Wrapper Made) (next : Entries Wrapper Leaf) (in_area : Leaf → Bool)
      → IsFirst one other r s ink kept → lists.StandsFor next next → only Untouched F ≡ only Untouched next → new_leaves now ≡ only in_area next → new ≡ now → CanBeMerged (λ k. false || same_key other k) kept new
  again kept new now next in_area merged stands same limited e =
      subst (λ (y : Entries Wrapper Made). CanBeMerged (other_one other) kept y) (sym e)
      (record { fresh = next; in_area = in_area; itself = stands; ready = ready_again kept next merged same; limited = limited })

  -- a part of the list is made anew
  pub part_can : (kept : KeptList EntryKey Wrapper Made) (new : Entries Wrapper Made) → IsFirst one other r s ink kept → new ≡ part_list one other s ink → CanBeMerged (λ k. false || same_key other k) kept new
  part_can kept new merged e = again kept new (part_list one other s ink) F (λ l. same_key other l.owner || same_part l.part Border) merged itself refl (rw (apart, same_key-refl other) refl) e

  -- the other box has gone
  abbrev Less : Entries Wrapper Leaf
  Less = new_leaves (less_list one r s ink)

  less_names : Once (map entry_names.leaf (flat Less))
  less_names = (
    (λ h. elim h [ inl e ↦ by_part one one Border Back refl e | inr j ↦ elim j [ inl e ↦ by_part one one Content Back refl e | inr k ↦ k ] ]),
    ((λ h. elim h [ inl e ↦ by_part one one Content Border refl e | inr k ↦ k ]), ((λ h. h), tt)),
  )

  less_itself : lists.StandsFor Less Less
  less_itself = record {
    leaves = IsPermutation-refl (routes [] Less);
    once = pairs_map entry_names.leaf same_entry same_entry-sound same_entry-refl (flat Less) less_names;
    grouped = λ i j d l m. absurd (omega arith);
    filled = refl;
    ordered = λ a b c d m. refl;
  }

  pub less_can : (kept : KeptList EntryKey Wrapper Made) (new : Entries Wrapper Made) → IsFirst one other r s ink kept → new ≡ nil → CanBeMerged (λ k. false || same_key other k) kept new
  less_can kept new merged e = again kept new nil Less (λ l. false) merged less_itself (rw (apart, same_key-refl other) refl) refl e

  -- the other box has content too
  abbrev More : Entries Wrapper Leaf
  More = new_leaves (more_list one other r s ink)

  more_names : Once (map entry_names.leaf (flat More))
  more_names = (
    (λ h. elim h [ inl e ↦ by_part one one Border Back refl e | inr i ↦ elim i [ inl e ↦ by_key other one Back Back apart e | inr j ↦ elim j [ inl e ↦ by_key other one Content Back apart e | inr m ↦ elim m [ inl e ↦ by_part one one Content Back refl e | inr k ↦ k ] ] ] ]),
    (
      (λ h. elim h [ inl e ↦ by_part other one Back Border refl e | inr j ↦ elim j [ inl e ↦ by_part other one Content Border refl e | inr m ↦ elim m [ inl e ↦ by_part one one Content Border refl e | inr k ↦ k ] ] ]),
      (
        (λ h. elim h [ inl e ↦ by_part other other Content Back refl e | inr m ↦ elim m [ inl e ↦ by_part one other Content Back refl e | inr k ↦ k ] ]),
        ((λ h. elim h [ inl e ↦ by_key other one Content Content apart (sym e) | inr k ↦ k ]), ((λ h. h), tt)),
      ),
    ),
  )

  more_itself : lists.StandsFor More More
  more_itself = record {
    leaves = IsPermutation-refl (routes [] More);
    once = pairs_map entry_names.leaf same_entry same_entry-sound same_entry-refl (flat More) more_names;
    grouped = λ i j d l m. absurd (omega arith);
    filled = refl;
    ordered = λ a b c d m. refl;
  }

  pub more_can : (kept : KeptList EntryKey Wrapper Made) (new : Entries Wrapper Made) → IsFirst one other r s ink kept → new ≡ late_list one other r s ink → CanBeMerged (λ k. false || same_key other k) kept new
  more_can kept new merged e =
      again kept new (late_list one other r s ink) More (λ l. same_key other l.owner || same_part l.part Content) merged more_itself (rw (apart, same_key-refl other) refl) (rw (apart, same_key-refl other) refl) e

  -- the first merge
  pub is_first : (start kept : KeptList EntryKey Wrapper Made) (first : Entries Wrapper Made) → start ≡ record { graph = []; entries = nil } → first ≡ whole_list one other r s ink → MergedInto (λ k. true || same_key other k) start first kept → IsFirst one other r s ink kept
  is_first start kept first e f merged =
      subst (λ (x : KeptList EntryKey Wrapper Made). MergedInto (everything other) x (whole_list one other r s ink) kept) e
      (subst (λ (y : Entries Wrapper Made). MergedInto (everything other) start y kept) f merged)
