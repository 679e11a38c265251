-- The leaves of new lists, entry by entry and run by run.
use Rattle.std.proofs.Common.{◌≡◌, ap, ◌∙◌, sym, subst, ℕ, zero, suc, ◌+◌, ◌<◌, ◌≤◌, List, [], ◌∷◌, ◌++◌, length, take, drop, get_or, arith}
use Rattle.std.proofs.lemmas.List.{take_more, length-append}
use Rattle.std.specs.declared.vec.Vec.{Vec}
use Rattle.rd_item.specs.Items.{Made}
use Rattle.rd_list.specs.Wrappers.{Wrapper}
use Rattle.rd_list.specs.Entries.{Entries, ◌▷◌, flat, list_size}
use Rattle.rd_list.specs.Internal.NewFalls.{size-join}
use Rattle.rd_list.specs.NewView.{new_entries, in_runs}
use Rattle.rd_list.specs.declared.fresh.NewEntry.{NewEntry}
use Rattle.rd_list.specs.declared.fresh.NewEntry.TheVariants.{Leaf, Group}
use Rattle.rd_engine.specs.Internal.Counting.{AreLeaves}
use Rattle.rd_list.proofs.Merges.Levelling.{flat-join}
use Rattle.rd_list.proofs.News.{new-append, runs-append, runs_next}

abbrev count : Entries Wrapper Made → ℕ
count xs = length (flat xs)

count-join : (xs ys : Entries Wrapper Made) → count (xs ▷ ys) ≡ count xs + count ys
count-join xs ys = ap length (flat-join xs ys) ∙ length-append (flat xs) (flat ys)

-- a list in three parts, and the first two together
module _ (all before one after front : Entries Wrapper Made) (whole : all ≡ before ▷ (one ▷ after)) (next : front ≡ before ▷ one) where
  part_size : list_size one ≤ list_size all
  part_size =
      let e = ap list_size whole in
      let f = size-join before (one ▷ after) in
      let g = size-join one after in
      omega (arith, e, f, g)

  part_more : list_size front ≡ list_size before + list_size one
  part_more = ap list_size next ∙ size-join before one

  part_count : length (flat front) ≡ length (flat before) + length (flat one)
  part_count = ap count next ∙ count-join before one

  part_within : length (flat before) + length (flat one) ≤ length (flat all)
  part_within =
      let e = ap count whole in
      let f = count-join before (one ▷ after) in
      let g = count-join one after in
      omega (arith, e, f, g)

parts : {B : Type 0} (xs : List B) (j : ℕ) (y : B) → j < length xs → y ≡ get_or xs j y → xs ≡ take j xs ++ y ∷ drop (suc j) xs
parts [] j y l e = absurd (omega arith)
parts (b ∷ bs) zero y l e = ap (λ z. z ∷ bs) (sym e)
parts (b ∷ bs) (suc j) y l e = ap (λ zs. b ∷ zs) (parts bs j y (omega arith) e)

module _ {A : Type 0} (es : List (NewEntry A)) (i : ℕ) (x : NewEntry A) (h : i < length es) (is : x ≡ get_or es i x) where
  whole : new_entries es ≡ new_entries (take i es) ▷ (new_entries (x ∷ []) ▷ new_entries (drop (suc i) es))
  whole = ap new_entries (parts es i x h is) ∙ new-append (take i es) (x ∷ drop (suc i) es) ∙ ap (λ ys. new_entries (take i es) ▷ ys) (new-append (x ∷ []) (drop (suc i) es))

  next : new_entries (take (i + 1) es) ≡ new_entries (take i es) ▷ new_entries (x ∷ [])
  next = ap new_entries (take_more es i x h ∙ ap (λ y. take i es ++ y ∷ []) (sym is)) ∙ new-append (take i es) (x ∷ [])

  pub size_at : list_size (new_entries (x ∷ [])) ≤ list_size (new_entries es)
  size_at = part_size (new_entries es) (new_entries (take i es)) (new_entries (x ∷ [])) (new_entries (drop (suc i) es)) (new_entries (take (i + 1) es)) whole next

  pub size_more : list_size (new_entries (take (i + 1) es)) ≡ list_size (new_entries (take i es)) + list_size (new_entries (x ∷ []))
  size_more = part_more (new_entries es) (new_entries (take i es)) (new_entries (x ∷ [])) (new_entries (drop (suc i) es)) (new_entries (take (i + 1) es)) whole next

  pub count_more : length (flat (new_entries (take (i + 1) es))) ≡ length (flat (new_entries (take i es))) + length (flat (new_entries (x ∷ [])))
  count_more = part_count (new_entries es) (new_entries (take i es)) (new_entries (x ∷ [])) (new_entries (drop (suc i) es)) (new_entries (take (i + 1) es)) whole next

  pub count_within : length (flat (new_entries (take i es))) + length (flat (new_entries (x ∷ []))) ≤ length (flat (new_entries es))
  count_within = part_within (new_entries es) (new_entries (take i es)) (new_entries (x ∷ [])) (new_entries (drop (suc i) es)) (new_entries (take (i + 1) es)) whole next

  -- one leaf more
  pub leaf_next : AreLeaves (x ∷ []) 0 1 → AreLeaves es i (i + 1)
  leaf_next a =
      let n = count_more in
      let s = size_more in
      let l = a.leaves in
      let e = a.entries in
      record { order = omega arith; leaves = omega (arith, n, l); entries = omega (arith, s, e) }

module _ {A : Type 0} where
  -- leaves, and then more
  pub leaves_on : (es : List (NewEntry A)) (i j k : ℕ) → AreLeaves es i j → AreLeaves es j k → AreLeaves es i k
  leaves_on es i j k a b = record {
    order = omega (arith, a.order, b.order);
    leaves = omega (arith, a.leaves, b.leaves, a.order, b.order);
    entries = omega (arith, a.entries, b.entries, a.order, b.order);
  }

  pub four_leaves : (es : List (NewEntry A)) (i : ℕ) → AreLeaves es i (i + 1) → AreLeaves es (i + 1) (i + 1 + 1) → AreLeaves es (i + 2) (i + 2 + 1) → AreLeaves es (i + 3) (i + 3 + 1) → AreLeaves es i (i + 4)
  four_leaves es i a b d e =
      let two : i + 1 + 1 ≡ i + 2 = omega arith in
      let three : i + 2 + 1 ≡ i + 3 = omega arith in
      let four : i + 3 + 1 ≡ i + 4 = omega arith in
      leaves_on es i (i + 1) (i + 4) a
      (leaves_on es (i + 1) (i + 2) (i + 4) (subst (AreLeaves es (i + 1)) two b) (leaves_on es (i + 2) (i + 3) (i + 4) (subst (AreLeaves es (i + 2)) three d) (subst (AreLeaves es (i + 3)) four e)))

  -- the first entries have no more leaves than all
  pub count_front : (es : List (NewEntry A)) (i : ℕ) → length (flat (new_entries (take i es))) ≤ length (flat (new_entries es))
  count_front es zero = omega arith
  count_front [] (suc i) = omega arith
  count_front (Leaf m ∷ es) (suc i) = let r = count_front es i in omega (arith, r)
  count_front (Group k o b inner ∷ es) (suc i) =
      let r = count_front es i in
      let a = length-append (flat inner) (flat (new_entries (take i es))) in
      let b = length-append (flat inner) (flat (new_entries es)) in
      omega (arith, r, a, b)

module _ {A B : Type 0} (rs : List (Vec (NewEntry A) B)) (i : ℕ) (r : Vec (NewEntry A) B) (es : List (NewEntry A)) (h : i < length rs) (is : r ≡ get_or rs i r) (e : es ≡ r.items) where
  whole_runs : in_runs rs ≡ in_runs (take i rs) ▷ (new_entries es ▷ in_runs (drop (suc i) rs))
  whole_runs = ap in_runs (parts rs i r h is) ∙ runs-append (take i rs) (r ∷ drop (suc i) rs) ∙ ap (λ ys. in_runs (take i rs) ▷ (new_entries ys ▷ in_runs (drop (suc i) rs))) (sym e)

  next_run : in_runs (take (i + 1) rs) ≡ in_runs (take i rs) ▷ new_entries es
  next_run = sym (runs_next rs i r h is) ∙ ap (λ ys. in_runs (take i rs) ▷ new_entries ys) (sym e)

  pub run_size : list_size (new_entries es) ≤ list_size (in_runs rs)
  run_size = part_size (in_runs rs) (in_runs (take i rs)) (new_entries es) (in_runs (drop (suc i) rs)) (in_runs (take (i + 1) rs)) whole_runs next_run

  pub run_size_more : list_size (in_runs (take (i + 1) rs)) ≡ list_size (in_runs (take i rs)) + list_size (new_entries es)
  run_size_more = part_more (in_runs rs) (in_runs (take i rs)) (new_entries es) (in_runs (drop (suc i) rs)) (in_runs (take (i + 1) rs)) whole_runs next_run

  pub run_count_more : length (flat (in_runs (take (i + 1) rs))) ≡ length (flat (in_runs (take i rs))) + length (flat (new_entries es))
  run_count_more = part_count (in_runs rs) (in_runs (take i rs)) (new_entries es) (in_runs (drop (suc i) rs)) (in_runs (take (i + 1) rs)) whole_runs next_run

  pub run_count_within : length (flat (in_runs (take i rs))) + length (flat (new_entries es)) ≤ length (flat (in_runs rs))
  run_count_within = part_within (in_runs rs) (in_runs (take i rs)) (new_entries es) (in_runs (drop (suc i) rs)) (in_runs (take (i + 1) rs)) whole_runs next_run
