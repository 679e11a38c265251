-- Where nothing goes: what stays of a level is all of it, and a kept list is its own merge with the empty list.
use Rattle.std.proofs.Common.{◌≡◌, refl, ap, ◌∙◌, sym, subst, Bool, true, false, cond, List, [], inl, inr}
use Rattle.rd_graph.specs.Graphs.{Precedes}
use Rattle.rd_graph.specs.Orders.{Chain}
use Rattle.rd_graph.specs.Orders as order
use Rattle.rd_graph.proofs.Reaching.Calls.{once_of}
use Rattle.rd_graph.proofs.Reaching.Chains.{chain_of}
use Rattle.rd_graph.proofs.Lists.Listing.{Has, before_from, before_to, cases, contains_from, has_either, has_from, has_left, has_right, pairs_from}
use Rattle.rd_list.specs.Entries.{Entries, nil, leaf, group, flat, only, grouped_if_any, is_empty}
use Rattle.rd_list.specs.Internal.Fits.{Fits}
use Rattle.rd_list.specs.Joining.{Among, IsJoinedAt, Step}
use Rattle.rd_list.specs.Kept.{Ordered, KeptList, bare, kept_at, reach_of, IsMerged}
use Rattle.rd_list.specs.Levels.{Names, keys, level_at}
use Rattle.rd_list.proofs.Merges.Assembling.{level_nil}
use Rattle.rd_list.proofs.Merges.Named.{AreNames}
use Rattle.rd_merge.specs.Looking.{any_goes}

module _ {E G L : Type 0} (n : Names E G L) (stays : L → Bool) where
  -- nothing goes of a level that begins with a group
  module _ (g : G) (inner xs : Entries G L) (f : any_goes n stays (group g inner xs) ≡ false) where
    group_filled : is_empty inner ≡ false
    group_filled = elim (cases (is_empty inner)) [ inl t ↦ let no : true ≡ false = rw t at f in absurd (cc) | inr e ↦ e ]

    group_still : any_goes n stays inner ≡ false
    group_still = elim (cases (any_goes n stays inner)) [
      | inl t ↦ let e = group_filled in let h : cond (any_goes n stays inner) true (any_goes n stays xs) ≡ false = rw e at f in let no : true ≡ false = rw t at h in absurd (cc)
      | inr u ↦ u
    ]

    rest_still : any_goes n stays xs ≡ false
    rest_still = let e = group_filled in let u = group_still in let h : cond (any_goes n stays inner) true (any_goes n stays xs) ≡ false = rw e at f in let r : any_goes n stays xs ≡ false = rw u at h in r

  filled_is : (g : G) (inner rest : Entries G L) → is_empty inner ≡ false → grouped_if_any g inner rest ≡ group g inner rest
  filled_is g nil rest e = let no : true ≡ false = e in absurd (cc)
  filled_is g (leaf l xs) rest e = refl
  filled_is g (group k below xs) rest e = refl

  pub still : (xs : Entries G L) → any_goes n stays xs ≡ false → only stays xs ≡ xs
  still nil f = refl
  still (leaf l xs) f = elim (cases (stays l)) [
    | inl t ↦ let r : any_goes n stays xs ≡ false = rw t at f in rw t (ap (leaf l) (still xs r))
    | inr u ↦ let no : true ≡ false = rw u at f in absurd (cc)
  ]
  still (group g inner xs) f =
      ap (λ ys. grouped_if_any g ys (only stays xs)) (still inner (group_still g inner xs f)) ∙ ap (grouped_if_any g inner) (still xs (rest_still g inner xs f)) ∙ filled_is g inner xs (group_filled g inner xs f)

  pub stays_all : (xs : Entries G L) → any_goes n stays xs ≡ false → (l : L) → Has (flat xs) l → stays l ≡ true
  stays_all nil f l h = absurd h
  stays_all (leaf m xs) f l h = elim (cases (stays m)) [
    | inl t ↦ let r : any_goes n stays xs ≡ false = rw t at f in elim h [ inl e ↦ ap stays (sym e) ∙ t | inr k ↦ stays_all xs r l k ]
    | inr u ↦ let no : true ≡ false = rw u at f in absurd (cc)
  ]
  stays_all (group g inner xs) f l h = elim (has_either (flat inner) (flat xs) l h) [
    | inl k ↦ stays_all inner (group_still g inner xs f) l k
    | inr k ↦ stays_all xs (rest_still g inner xs f) l k
  ]

module _ {E G M L : Type 0} (n : Names E G L) (leaf_of : M → L) (stays : L → Bool) where
  item_leaf : (xs : Entries (Ordered E G) M) (m : M) → Has (flat xs) m → Has (flat (bare n leaf_of xs)) (leaf_of m)
  item_leaf nil m h = h
  item_leaf (leaf k xs) m (inl e) = inl (ap leaf_of e)
  item_leaf (leaf k xs) m (inr h) = inr (item_leaf xs m h)
  item_leaf (group g inner xs) m h = elim (has_either (flat inner) (flat xs) m h) [
    | inl k ↦ has_left (flat (bare n leaf_of inner)) (flat (bare n leaf_of xs)) (leaf_of m) (item_leaf inner m k)
    | inr k ↦ has_right (flat (bare n leaf_of inner)) (flat (bare n leaf_of xs)) (leaf_of m) (item_leaf xs m k)
  ]

  module _ (names : AreNames n) (kept : KeptList E G M) (fresh : Entries G L) (fits : Fits n leaf_of stays kept nil fresh) (none : any_goes n stays (bare n leaf_of kept.entries) ≡ false) where
    abbrev all : Entries G L
    all = bare n leaf_of kept.entries

    module _ (path : List E) where
      abbrev reach : E → E → Type 0
      reach = reach_of n leaf_of kept path

      abbrev among : E → E → Type 0
      among = Among n (reach_of n leaf_of kept) all path

      abbrev level : Entries G L
      level = level_at n path all

      to_among : (a b : E) → reach a b → among a b
      to_among a b r =
          let h = fits.in_order path a b r in
          record { reaches = r; first = contains_from (keys n level) a (before_from (keys n level) a b h); second = contains_from (keys n level) b (before_to (keys n level) a b h) }

      from_steps : (a b : E) → Chain (Step n among nil) a b → reach a b
      from_steps a b c = chain_of (Step n among nil) (Precedes ((kept_at n leaf_of path kept).graph)) (λ x y s. elim s [ inl r ↦ r.reaches | inr r ↦ absurd r ]) a b c

      level_joined : IsJoinedAt n among reach level nil level
      level_joined = record {
        entries = λ h. ((λ c. inl c), (λ c. elim c [ inl d ↦ d | inr d ↦ absurd (has_from [] h d) ]));
        once = pairs_from n.same names.sound names.reflexive (keys n level) (once_of (keys n level) (fits.once_kept path));
        reach = λ a b. ((λ r. order.last (inl (to_among a b r))), from_steps a b);
        order = λ a b r. fits.in_order path a b r;
      }

      joined : IsJoinedAt n (Among n (reach_of n leaf_of kept) (only stays all) path) reach (level_at n path (only stays all)) (level_at n path nil) level
      joined =
          subst (λ (x : Entries G L). IsJoinedAt n (Among n (reach_of n leaf_of kept) x path) reach (level_at n path x) (level_at n path nil) level) (sym (still n stays all none))
          (subst (λ (x : Entries G L). IsJoinedAt n among reach level x level) (sym (level_nil n leaf_of stays path)) level_joined)

    pub still_merged : IsMerged n leaf_of stays kept nil kept
    still_merged = record {
      nodes_are = fits.nodes_are;
      merges = joined;
      items = λ i. (
        (λ c. inr (c, stays_all n stays all none (leaf_of i) (item_leaf kept.entries i (has_from (flat kept.entries) i c)), λ j d. absurd (has_from [] j d))),
        (λ c. elim c [ inl d ↦ absurd (has_from [] i d) | inr d ↦ d.0 ]),
      );
    }
