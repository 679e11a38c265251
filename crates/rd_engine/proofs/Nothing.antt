-- Where every box is touched, nothing has to be kept.
use Rattle.std.proofs.Common.{◌≡◌, refl, ap, sym, subst, Bool, true, false, not, cond, List, [], ◌∷◌, arith}
use Rattle.std.specs.Prelude.{Contains}
use Rattle.std.specs.Option.{option_map_or}
use Rattle.std.proofs.lemmas.List.Sorted.{IsPermutation-refl}
use Rattle.rd_keys.specs.Keys.{BoxKey, same_key}
use Rattle.rd_keys.specs.declared.entry.EntryKey.{EntryKey}
use Rattle.rd_item.specs.declared.leaf.Leaf.{Leaf}
use Rattle.rd_item.specs.Items.{Made}
use Rattle.rd_list.specs.Wrappers.{Wrapper}
use Rattle.rd_list.specs.Entries.{Entries, nil, leaf, group, only}
use Rattle.rd_list.specs.EntryNames.{entry_names}
use Rattle.rd_list.specs.Kept.{KeptList, NamesOnce, IsMerged, reach_of}
use Rattle.rd_list.specs.Laws.{IsReady}
use Rattle.rd_list.specs.Joining.{Among, IsSound}
use Rattle.rd_list.specs.Levels as levels
use Rattle.rd_list.specs.Levels.{level_at, held}
use Rattle.rd_list.specs.Lists.{StandsFor, leaves_meet, without_touched}
use Rattle.rd_list.proofs.Merges.Naming.{display_beginning}
use Rattle.rd_tree.specs.Forest.{empty, tree, AllItems, IsApart, has, starting_at, top}
use Rattle.rd_tree.specs.declared.node.Item.{Item}
use Rattle.rd_tree.specs.Document.{BoxForest, Document, IsRooted, is_touched}
use Rattle.rd_tree.specs.Changes.{Change}
use Rattle.rd_tree.specs.Touching.{touch, edited}
use Rattle.rd_stack.specs.Fresh.{fresh_list}
use Rattle.rd_stack.specs.Pruning.{CanChange}
use Rattle.rd_stack.proofs.Marking.{unchanged}
use Rattle.rd_engine.specs.Kept.{IsKept, stays}

-- where no leaf passes a test, it leaves nothing
only_none : {G L : Type 0} (p : L → Bool) → ((l : L) → p l ≡ false) → (xs : Entries G L) → only p xs ≡ nil
only_none p h nil = refl
only_none p h (leaf l xs) = rw (h l) (only_none p h xs)
only_none p h (group g inner xs) = rw (only_none p h inner) (only_none p h xs)

-- In a forest of touched boxes each key counts as touched.
pub every_touched : (f : BoxForest) → AllItems (λ d. d.touched ≡ true) f → (k : BoxKey) → is_touched k f ≡ true
every_touched empty h k = refl
every_touched (tree j d below rest) h k = by (every_touched below h.1 k) (every_touched rest h.2 k) (same_key k j) (has same_key k below)
  where
    by : is_touched k below ≡ true → is_touched k rest ≡ true
        → (a b : Bool) → option_map_or (λ d. d.touched) (top (cond a (tree j d below rest) (cond b (starting_at same_key k below) (starting_at same_key k rest)))) true ≡ true
    by inner next true b = h.0
    by inner next false true = inner
    by inner next false false = next

module _ (t : Document) (touched : (k : BoxKey) → is_touched k t.boxes ≡ true) where
  none_stays : (l : Leaf) → stays t l ≡ false
  none_stays l = ap not (touched l.owner)

  -- Where every box is touched, no leaf of a list is of another box.
  pub nothing_untouched : (xs : Entries Wrapper Leaf) → without_touched (λ k. is_touched k t.boxes) xs ≡ nil
  nothing_untouched xs = only_none (stays t) none_stays xs

  pub nothing_left : without_touched (λ k. is_touched k t.boxes) (fresh_list t) ≡ nil
  nothing_left = nothing_untouched (fresh_list t)

-- ---- the empty kept list

abbrev nothing : KeptList EntryKey Wrapper Made
nothing = record { graph = []; entries = nil }

nil_stands : StandsFor nil nil
nil_stands = record {
  leaves = IsPermutation-refl [];
  once = λ i j d k l. absurd (omega arith);
  grouped = λ i j d k l. absurd (omega arith);
  filled = refl;
  ordered = λ a b c d m. refl;
}

level_nil : (path : List EntryKey) → level_at entry_names path nil ≡ nil
level_nil [] = refl
level_nil (e ∷ path) = level_nil path

once_nil : NamesOnce entry_names (λ m. m.leaf) nothing
once_nil [] = tt
once_nil (e ∷ path) = once_nil path

none_in : {A : Type 0} (a : A) → Contains [] a → ⊥
none_in a c = let l = c.1 in omega (arith, l)

module _ (stay : Leaf → Bool) where
  merged : IsMerged entry_names (λ m. m.leaf) stay nothing nil nothing
  merged = display_beginning nil stay nil_stands

  none_held : (path : List EntryKey) (a : EntryKey) (l : Leaf) → Contains (held entry_names a (level_at entry_names path nil)) l → ⊥
  none_held path a l c = none_in l (subst (λ (x : Entries Wrapper Leaf). Contains (held entry_names a x) l) (level_nil path) c)

  ready_nil : IsReady entry_names leaves_meet stay (reach_of entry_names (λ m. m.leaf) nothing) nil nil
  ready_nil = record {
    stands = record {
      leaves = IsPermutation-refl [];
      once = λ i j d k l. absurd (omega arith);
      grouped = λ i j d k l. absurd (omega arith);
      filled = refl;
      ordered = λ a b c d m. refl;
    };
    sound = λ path. record {
      forward = λ a b r. (merged.merges path).order a b r.reaches;
      linked = λ a b apart meet. absurd (none_held path a meet.one meet.in_one);
    };
  }

-- The empty kept list is ready for a tree whose boxes are all touched.
pub nothing_kept : (t : Document) → ((k : BoxKey) → is_touched k t.boxes ≡ true) → IsKept (record { graph = []; entries = nil }) t
nothing_kept t touched =
    let stay = stays t in
    let m = merged stay in
    let r = ready_nil stay in
    let e : only stay (fresh_list t) ≡ nil = nothing_left t touched in
    record {
      nodes_are = m.nodes_are;
      names_once = once_nil;
      in_order = λ path a b r. (m.merges path).order a b r;
      ready = record {
        stands = subst (λ (x : Entries Wrapper Leaf). levels.StandsFor entry_names leaves_meet nil x) (sym e) r.stands;
        sound = subst (λ (x : Entries Wrapper Leaf). IsSound entry_names leaves_meet (Among entry_names (reach_of entry_names (λ m. m.leaf) nothing) nil) x) (sym e) r.sound;
      };
    }

-- so it is for a tree that was just made, of its root alone
pub nothing_kept_new : (t : Document) (k : BoxKey) (d : Item) → t.boxes ≡ tree k (touch d) empty empty → IsKept (record { graph = []; entries = nil }) t
nothing_kept_new t k d e = nothing_kept t (subst (λ f. (j : BoxKey) → is_touched j f ≡ true) (sym e) (every_touched (tree k (touch d) empty empty) (refl, tt, tt)))

-- a change leaves every box touched where it was so before
pub stays_touched : (c : Change) (t : Document) → IsApart same_key t.boxes → IsRooted t → CanChange c t
    → ((k : BoxKey) → is_touched k t.boxes ≡ true) → (k : BoxKey) → is_touched k (edited c t).boxes ≡ true
stays_touched c t apart rooted can touched k = (unchanged c t apart rooted can).0.marks k (touched k)
