-- Laws of lists that are put together of lists.
use Rattle.std.proofs.Common.{◌≡◌, refl, ap, ◌∙◌, sym, true, false, List, [], ◌∷◌, ◌++◌, ℕ, ◌≤◌, length, arith}
use Rattle.std.specs.Bool.{◌==◌}
use Rattle.rd_item.specs.Items.{Made}
use Rattle.rd_list.specs.Entries.{Entries, nil, leaf, group, ◌▷◌, is_empty}
use Rattle.rd_list.proofs.Joins.{join_assoc, join-nil}
use Rattle.rd_list.specs.declared.fresh.NewEntry.{NewEntry}
use Rattle.rd_list.specs.declared.fresh.NewEntry.TheVariants.{Leaf, Group}
use Rattle.rd_list.specs.NewView.{new_entries}
use Rattle.rd_list.specs.Wrappers.{Wrapper}
use Rattle.rd_list.specs.Nested.{Nested, laid_out}
use Rattle.rd_list.specs.Internal.Piled.{piled, nested_size, IsFilled}

module _ {G L : Type 0} where
  pub empty-join : (xs ys : Entries G L) → is_empty xs ≡ false → is_empty (xs ▷ ys) ≡ false
  empty-join nil ys h = cc
  empty-join (leaf l xs) ys h = refl
  empty-join (group g i xs) ys h = refl

  pub none_there : (xs : Entries G L) → is_empty xs ≡ true → xs ≡ nil
  none_there nil h = refl
  none_there (leaf l xs) h = cc
  none_there (group g i xs) h = cc

pub new_entries-append : {A : Type 0} (xs ys : List (NewEntry A)) → new_entries (xs ++ ys) ≡ new_entries xs ▷ new_entries ys
new_entries-append [] ys = refl
new_entries-append (Leaf l ∷ xs) ys = ap (leaf l) (new_entries-append xs ys)
new_entries-append (Group k o b inner ∷ xs) ys = ap (group (record { key = k; opacity = o; blend = b }) inner) (new_entries-append xs ys)

-- entries put on top, of a run that is said to be the two
pub laid-on : {A : Type 0} (bs : List (Nested Wrapper Made)) (top more new : List (NewEntry A)) → new ≡ top ++ more → laid_out (piled bs new) ≡ laid_out (piled bs top) ▷ new_entries more
laid-on [] top more new e = rw e (new_entries-append top more)
laid-on (b ∷ bs) top more new e =
    ap (λ zs. laid_out b ▷ zs) (laid-on bs top more new e) ∙ sym (join_assoc (laid_out b) (laid_out (piled bs top)) (new_entries more))

-- what is on top may be empty
pub filled-on : {A B : Type 0} (bs : List (Nested Wrapper Made)) (top : List (NewEntry A)) (new : List (NewEntry B)) → IsFilled (piled bs top) → IsFilled (piled bs new)
filled-on [] top new h = tt
filled-on (b ∷ bs) top new h = (h.0, filled-on bs top new h.1)

-- a list put on top, where no entry is there
pub laid-below : {A : Type 0} (bs cs : List (Nested Wrapper Made)) (b : Nested Wrapper Made) (top : List (NewEntry A)) → cs ≡ bs ++ b ∷ [] → top ≡ [] → laid_out (piled cs top) ≡ laid_out (piled bs top) ▷ laid_out b
laid-below [] cs b top e t = rw (e, t) (join-nil (laid_out b))
laid-below (c ∷ bs) cs b top e t =
    rw e (ap (λ zs. laid_out c ▷ zs) (laid-below bs (bs ++ b ∷ []) b top refl t) ∙ sym (join_assoc (laid_out c) (laid_out (piled bs top)) (laid_out b)))

pub filled-below : {A : Type 0} (bs cs : List (Nested Wrapper Made)) (b : Nested Wrapper Made) (top : List (NewEntry A)) → cs ≡ bs ++ b ∷ [] → is_empty (laid_out b) ≡ false → IsFilled (piled bs top) → IsFilled (piled cs top)
filled-below [] cs b top e n h = rw e (n, tt)
filled-below (c ∷ bs) cs b top e n h = rw e (h.0, filled-below bs (bs ++ b ∷ []) b top refl n h.1)

-- the run on top becomes a list below
pub laid-ended : {A : Type 0} (bs cs : List (Nested Wrapper Made)) (b : Nested Wrapper Made) (top new : List (NewEntry A)) → cs ≡ bs ++ b ∷ [] → laid_out b ≡ new_entries top → new ≡ [] → laid_out (piled cs new) ≡ laid_out (piled bs top)
laid-ended [] cs b top new e h t = rw (e, t) (join-nil (laid_out b) ∙ h)
laid-ended (c ∷ bs) cs b top new e h t = rw e (ap (λ zs. laid_out c ▷ zs) (laid-ended bs (bs ++ b ∷ []) b top new refl h t))

pub some_new : {A : Type 0} (top : List (NewEntry A)) (n : ℕ) → length top ≡ n → (n == 0) ≡ false → is_empty (new_entries top) ≡ false
some_new [] n e h = let k : true ≡ false = ap (λ m. m == 0) e ∙ h in cc
some_new (Leaf l ∷ top) n e h = refl
some_new (Group k o b inner ∷ top) n e h = refl

-- no list is there where some list below or some entry on top is
pub empty-below : {A : Type 0} (bs : List (Nested Wrapper Made)) (top : List (NewEntry A)) (m n : ℕ) → IsFilled (piled bs top) → length top ≡ m → (m == 0) ≡ true → length bs ≡ n → (n == 0) ≡ is_empty (laid_out (piled bs top))
empty-below [] [] m n f t h e = rw (← e) refl
empty-below [] (x ∷ top) m n f t h e =
    let some : (length (x ∷ top) == 0) ≡ false = grind arith in
    let k : false ≡ true = sym some ∙ ap (λ m. m == 0) t ∙ h in cc
empty-below (b ∷ bs) top m n f t h e = rw (← e, empty-join (laid_out b) (laid_out (piled bs top)) f.0) (grind arith)

pub some-below : {A : Type 0} (bs : List (Nested Wrapper Made)) (top : List (NewEntry A)) → IsFilled (piled bs top) → is_empty (new_entries top) ≡ false → is_empty (laid_out (piled bs top)) ≡ false
some-below [] top f h = h
some-below (b ∷ bs) top f h = empty-join (laid_out b) (laid_out (piled bs top)) f.0

pub none_below : {A : Type 0} (bs : List (Nested Wrapper Made)) (top : List (NewEntry A)) (m : ℕ) → length bs ≡ m → (m == 0) ≡ true → laid_out (piled bs top) ≡ new_entries top
none_below [] top m e h = refl
none_below (b ∷ bs) top m e h =
    let some : (length (b ∷ bs) == 0) ≡ false = grind arith in
    let k : false ≡ true = sym some ∙ ap (λ m. m == 0) e ∙ h in cc

-- a list below is laid out
pub lay_more : {A : Type 0} (bs cs : List (Nested Wrapper Made)) (b : Nested Wrapper Made) (top : List (NewEntry A)) (out old new : Entries Wrapper Made) (whole : Nested Wrapper Made) → bs ≡ b ∷ cs → new ≡ out ▷ laid_out b
    → (nested_size (piled bs top) ≤ nested_size whole) × (out ▷ laid_out (piled bs top) ≡ old ▷ laid_out whole)
    → (nested_size (piled cs top) ≤ nested_size whole) × (new ▷ laid_out (piled cs top) ≡ old ▷ laid_out whole)
lay_more bs cs b top out old new whole e n h =
    let size : nested_size (piled (b ∷ cs) top) ≤ nested_size whole = rw e at h.0 in
    let same : out ▷ laid_out (piled (b ∷ cs) top) ≡ old ▷ laid_out whole = rw e at h.1 in
    (omega (arith, size), rw n (join_assoc out (laid_out b) (laid_out (piled cs top)) ∙ same))

-- the run on top is laid out last
pub lay_top : {A : Type 0} (bs : List (Nested Wrapper Made)) (top : List (NewEntry A)) (out old : Entries Wrapper Made) (whole : Nested Wrapper Made) → length bs ≡ 0
    → (nested_size (piled bs top) ≤ nested_size whole) × (out ▷ laid_out (piled bs top) ≡ old ▷ laid_out whole) → out ▷ new_entries top ≡ old ▷ laid_out whole
lay_top [] top out old whole e h = h.1
lay_top (b ∷ bs) top out old whole e h = absurd (omega (arith, e))
