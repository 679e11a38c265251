-- The laws of picks.
use Rattle.std.proofs.Common.{◌≡◌, refl, ◌∙◌, sym, ap, ℕ, zero, suc, ◌+◌, ◌-◌, ◌<◌, ◌≤◌, min, List, [], ◌∷◌, ◌++◌, length, take, drop, get_or, arith, length-take, length-drop, append_assoc, subst, length-append}
use Rattle.std.specs.Prelude.{Option, Some, None, IfSome}
use Rattle.std.proofs.lemmas.List.{drop_all, drop_more, length-take-le}
use Rattle.rd_item.specs.declared.leaf.Leaf as item
use Rattle.rd_list.specs.Displayed.{shown}
use Rattle.rd_list.specs.Entries.{Entries, nil, leaf, group, ◌▷◌}
use Rattle.rd_list.specs.Views.{levels, deeper}
use Rattle.rd_list.specs.Wrappers.{Wrapper}
use Rattle.rd_list.specs.declared.kept.Entry.{Entry}
use Rattle.rd_list.specs.declared.kept.Entry.TheVariants as kept
use Rattle.rd_list.proofs.Joins.{join-nil, join_assoc}
use Rattle.rd_paint.proofs.Depths.{group_levels, deeper_most}
use Rattle.rd_paint.specs.Internal.Picks.{entry_at, picked_by, picked, chosen, IsClosed}
use Rattle.rd_paint.specs.declared.picks.Pick.{Pick}

abbrev List_of : Type 0
List_of = Entries Wrapper item.Leaf

-- what is made of the groups' lists alike gives the same
pub entry_at-same : (f g : List_of → List_of) (i : ℕ) (es : List_of) → ((xs : List_of) → f xs ≡ g xs) → entry_at f i es ≡ entry_at g i es
unfolding entry_at
entry_at-same f g i nil h = refl
entry_at-same f g zero (leaf l rest) h = refl
entry_at-same f g zero (group w inner rest) h = ap (λ xs. group w xs nil) (h inner)
entry_at-same f g (suc i) (leaf l rest) h = entry_at-same f g i rest h
entry_at-same f g (suc i) (group w inner rest) h = entry_at-same f g i rest h

-- all of the picks are seen
enough : (n m : ℕ) (ps : List Pick) (es : List_of) → length ps ≤ n → length ps ≤ m → picked_by n ps es ≡ picked_by m ps es
unfolding picked_by
enough zero zero ps es h k = refl
enough zero (suc m) [] es h k = refl
enough zero (suc m) (p ∷ ps) es h k = absurd (omega arith)
enough (suc n) zero [] es h k = refl
enough (suc n) zero (p ∷ ps) es h k = absurd (omega arith)
enough (suc n) (suc m) [] es h k = refl
enough (suc n) (suc m) (p ∷ ps) es h k =
    let t = length-take p.inside ps in
    let d = length-drop p.inside ps in
    ap (λ xs. xs ▷ picked_by n (drop p.inside ps) es) (entry_at-same (picked_by n (take p.inside ps)) (picked_by m (take p.inside ps)) p.place es (λ xs. enough n m (take p.inside ps) xs (omega (arith, t)) (omega (arith, t))))
    ∙ ap (λ xs. entry_at (picked_by m (take p.inside ps)) p.place es ▷ xs) (enough n m (drop p.inside ps) es (omega (arith, d)) (omega (arith, d)))

pub picked-none : (es : List_of) → picked [] es ≡ nil
unfolding picked picked_by
picked-none es = refl

-- the first pick with those of its list, and the others
pub picked-cons : (p : Pick) (ps : List Pick) (es : List_of) → picked (p ∷ ps) es ≡ chosen (take p.inside ps) p.place es ▷ picked (drop p.inside ps) es
unfolding picked picked_by
picked-cons p ps es =
    let t = length-take p.inside ps in
    let d = length-drop p.inside ps in
    ap (λ xs. xs ▷ picked_by (length ps) (drop p.inside ps) es) (entry_at-same (picked_by (length ps) (take p.inside ps)) (picked (take p.inside ps)) p.place es (λ xs. enough (length ps) (length (take p.inside ps)) (take p.inside ps) xs (omega (arith, t)) (omega arith)))
    ∙ ap (λ xs. chosen (take p.inside ps) p.place es ▷ xs) (enough (length ps) (length (drop p.inside ps)) (drop p.inside ps) es (omega (arith, d)) (omega arith))

drop_taken : {A : Type 0} (n : ℕ) (xs : List A) → drop (length (take n xs)) xs ≡ drop n xs
drop_taken zero xs = refl
drop_taken (suc n) [] = refl
drop_taken (suc n) (x ∷ xs) = drop_taken n xs

drop_both : {A : Type 0} (i j : ℕ) (xs : List A) → drop j (drop i xs) ≡ drop (i + j) xs
drop_both zero j xs = ap (λ k. drop k xs) (omega arith)
drop_both (suc i) j [] = nothing j ∙ sym (nothing (suc i + j))
  where
    nothing : {A : Type 0} (k : ℕ) → drop {A = A} k [] ≡ []
    nothing zero = refl
    nothing (suc k) = refl
drop_both (suc i) j (x ∷ xs) = drop_both i j xs ∙ sym (ap (λ k. drop k (x ∷ xs)) (more i j))
  where
    more : (i j : ℕ) → suc i + j ≡ suc (i + j)
    more i j = omega arith

-- the pick at a place with those of its list, and the others
pub picked_from : (ps : List Pick) (i m : ℕ) (p : Pick) (own : List Pick) (es : List_of) → i < length ps → p ≡ get_or ps i p → m ≡ min p.inside (length ps - (i + 1)) → own ≡ take m (drop (i + 1) ps)
    → picked (drop i ps) es ≡ chosen own p.place es ▷ picked (drop (i + 1 + length own) ps) es
picked_from ps i m p own es h k em eo =
    ap (λ qs. picked qs es) (drop_more ps i p h ∙ ap (λ q. q ∷ drop (i + 1) ps) (sym k)) ∙ picked-cons p (drop (i + 1) ps) es
    ∙ ap (λ qs. chosen qs p.place es ▷ picked (drop p.inside (drop (i + 1) ps)) es) taken
    ∙ ap (λ qs. chosen own p.place es ▷ picked qs es) (sym (drop_taken p.inside (drop (i + 1) ps)) ∙ ap (λ qs. drop (length qs) (drop (i + 1) ps)) taken ∙ drop_both (i + 1) (length own) ps)
  where
    take_least : {A : Type 0} (n : ℕ) (xs : List A) (k : ℕ) → k ≡ min n (length xs) → take k xs ≡ take n xs
    take_least zero xs zero e = refl
    take_least zero xs (suc k) e = absurd (omega arith)
    take_least (suc n) [] zero e = refl
    take_least (suc n) [] (suc k) e = refl
    take_least (suc n) (x ∷ xs) zero e = absurd (omega arith)
    take_least (suc n) (x ∷ xs) (suc k) e = ap (λ t. x ∷ t) (take_least n xs k (omega arith))

    taken : take p.inside (drop (i + 1) ps) ≡ own
    taken = sym (take_least p.inside (drop (i + 1) ps) m (let d = length-drop (i + 1) ps in omega (arith, d, em))) ∙ sym eo

-- a pick with those of its list, and no other
pub picked_one : (p : Pick) (qs : List Pick) (es : List_of) → length qs ≡ p.inside → picked (p ∷ qs) es ≡ chosen qs p.place es
picked_one p qs es h = picked-cons p qs es ∙ parts p.inside (sym h)
  where
    take_it : (n : ℕ) (qs : List Pick) → n ≡ length qs → take n qs ≡ qs
    take_it zero [] e = refl
    take_it zero (q ∷ qs) e = absurd (omega arith)
    take_it (suc n) [] e = absurd (omega arith)
    take_it (suc n) (q ∷ qs) e = ap (λ t. q ∷ t) (take_it n qs (omega arith))

    drop_it : (n : ℕ) (qs : List Pick) → n ≡ length qs → drop n qs ≡ []
    drop_it zero [] e = refl
    drop_it zero (q ∷ qs) e = absurd (omega arith)
    drop_it (suc n) [] e = refl
    drop_it (suc n) (q ∷ qs) e = drop_it n qs (omega arith)

    parts : (n : ℕ) → n ≡ length qs → chosen (take n qs) p.place es ▷ picked (drop n qs) es ≡ chosen qs p.place es
    parts n e =
        ap (λ ts. chosen ts p.place es ▷ picked (drop n qs) es) (take_it n qs e)
        ∙ ap (λ ts. chosen qs p.place es ▷ picked ts es) (drop_it n qs e)
        ∙ ap (λ xs. chosen qs p.place es ▷ xs) (picked-none es) ∙ join-nil (chosen qs p.place es)

-- lists of picks that are closed
pub closed_none : IsClosed []
closed_none ys es = ap (λ xs. xs ▷ picked ys es) (sym (picked-none es))

pub closed_append : (xs zs : List Pick) → IsClosed xs → IsClosed zs → IsClosed (xs ++ zs)
closed_append xs zs p q ys es =
    ap (λ ts. picked ts es) (append_assoc xs zs ys) ∙ p (zs ++ ys) es ∙ ap (λ t. picked xs es ▷ t) (q ys es)
    ∙ sym (join_assoc (picked xs es) (picked zs es) (picked ys es)) ∙ ap (λ t. t ▷ picked ys es) (sym (p zs es))

pub closed_one : (p : Pick) (qs : List Pick) → length qs ≡ p.inside → IsClosed (p ∷ qs)
closed_one p qs h ys es =
    picked-cons p (qs ++ ys) es
    ∙ ap (λ ts. chosen ts p.place es ▷ picked (drop p.inside (qs ++ ys)) es) (front p.inside qs (sym h))
    ∙ ap (λ ts. chosen qs p.place es ▷ picked ts es) (back p.inside qs (sym h))
    ∙ ap (λ t. t ▷ picked ys es) (sym (picked_one p qs es h))
  where
    front : (n : ℕ) (qs : List Pick) → n ≡ length qs → take n (qs ++ ys) ≡ qs
    front zero [] e = refl
    front zero (q ∷ qs) e = absurd (omega arith)
    front (suc n) [] e = absurd (omega arith)
    front (suc n) (q ∷ qs) e = ap (λ t. q ∷ t) (front n qs (omega arith))

    back : (n : ℕ) (qs : List Pick) → n ≡ length qs → drop n (qs ++ ys) ≡ ys
    back zero [] e = refl
    back zero (q ∷ qs) e = absurd (omega arith)
    back (suc n) [] e = absurd (omega arith)
    back (suc n) (q ∷ qs) e = back n qs (omega arith)

module _ {A : Type 0} where
  -- the entry that stands at a place
  pub entry_at-shown : (f : List_of → List_of) (es : List (Entry A)) (i : ℕ) (x : Entry A) → i < length es → x ≡ get_or es i x → entry_at f i (shown es) ≡ entry_at f 0 (shown (x ∷ []))
  unfolding entry_at
  entry_at-shown f [] i x h e = absurd (omega arith)
  entry_at-shown f (kept.Leaf m ∷ es) zero x h e = rw e refl
  entry_at-shown f (kept.Group g ∷ es) zero x h e = rw e refl
  entry_at-shown f (kept.Leaf m ∷ es) (suc i) x h e = entry_at-shown f es i x (omega arith) e
  entry_at-shown f (kept.Group g ∷ es) (suc i) x h e = entry_at-shown f es i x (omega arith) e

  -- no entry
  pub entry_at-past : (f : List_of → List_of) (es : List (Entry A)) (i : ℕ) → length es ≤ i → entry_at f i (shown es) ≡ nil
  unfolding entry_at
  entry_at-past f [] i h = refl
  entry_at-past f (kept.Leaf m ∷ es) zero h = absurd (omega arith)
  entry_at-past f (kept.Group g ∷ es) zero h = absurd (omega arith)
  entry_at-past f (kept.Leaf m ∷ es) (suc i) h = entry_at-past f es i (omega arith)
  entry_at-past f (kept.Group g ∷ es) (suc i) h = entry_at-past f es i (omega arith)

-- an entry alone
pub entry_at-leaf : (f : List_of → List_of) (l : item.Leaf) → entry_at f 0 (leaf l nil) ≡ leaf l nil
unfolding entry_at
entry_at-leaf f l = refl

pub entry_at-group : (f : List_of → List_of) (w : Wrapper) (inner : List_of) → entry_at f 0 (group w inner nil) ≡ group w (f inner) nil
unfolding entry_at
entry_at-group f w inner = refl

-- levels of an entry that is picked
entry_levels : (f : List_of → List_of) (n i : ℕ) (es : List_of) → ((xs : List_of) → deeper (levels (f xs)) ≤ n) → 1 ≤ n → levels (entry_at f i es) ≤ n
unfolding entry_at
entry_levels f n i nil h k = omega arith
entry_levels f n zero (leaf l rest) h k = k
entry_levels f n zero (group w inner rest) h k = rw (group_levels w (f inner)) (h inner)
entry_levels f n (suc i) (leaf l rest) h k = entry_levels f n i rest h k
entry_levels f n (suc i) (group w inner rest) h k = entry_levels f n i rest h k

pub chosen_alone : (own : List Pick) → length own ≡ 0 → (place : ℕ) (es : List_of) → levels (chosen own place es) ≤ 1
chosen_alone [] e place es = entry_levels (picked []) 1 place es (λ xs. rw (picked-none xs) (omega arith)) (omega arith)
chosen_alone (p ∷ own) e place es = absurd (omega (arith, e))

pub chosen_within : (own : List Pick) (n : ℕ) → ((xs : List_of) → levels (picked own xs) ≤ n + 1) → (place : ℕ) (es : List_of) → levels (chosen own place es) ≤ 1 + n + 1
chosen_within own n h place es = entry_levels (picked own) (1 + n + 1) place es (λ xs. let a = h xs in let b = deeper_most (levels (picked own xs)) in omega (arith, a, b)) (omega arith)

-- the front of a list that was written over from a place on
pub put_taken : (a n m : ℕ) (xs mid : List Pick) → a ≤ length xs → m ≤ length mid → take (a + m) (take a xs ++ (mid ++ drop n (drop a xs))) ≡ take a xs ++ take m mid
put_taken a n m xs mid h k = go a xs (drop n (drop a xs)) h
  where
    front : (m : ℕ) (mid rest : List Pick) → m ≤ length mid → take m (mid ++ rest) ≡ take m mid
    front zero mid rest h = refl
    front (suc m) [] rest h = absurd (omega arith)
    front (suc m) (q ∷ mid) rest h = ap (λ t. q ∷ t) (front m mid rest (omega arith))

    go : (a : ℕ) (xs rest : List Pick) → a ≤ length xs → take (a + m) (take a xs ++ (mid ++ rest)) ≡ take a xs ++ take m mid
    go zero xs rest h = ap (λ j. take j (mid ++ rest)) (let e : 0 + m ≡ m = omega arith in e) ∙ front m mid rest k
    go (suc a) [] rest h = absurd (omega arith)
    go (suc a) (x ∷ xs) rest h = ap (λ j. take j (x ∷ (take a xs ++ (mid ++ rest)))) (let e : suc a + m ≡ suc (a + m) = omega arith in e) ∙ ap (λ t. x ∷ t) (go a xs rest (omega arith))

-- the pick of a group, with those of its list that stand behind it
pub put_first : (place inside n : ℕ) (xs mid ps : List Pick) → 1 ≤ length xs → inside ≤ length mid → ps ≡ record { place = place; inside = inside } ∷ take inside (drop 1 (take 1 xs ++ (mid ++ drop n (drop 1 xs))))
    → ps ≡ record { place = place; inside = inside } ∷ take inside mid
put_first place inside n [] mid ps h k e = absurd (omega arith)
put_first place inside n (x ∷ xs) mid ps h k e = e ∙ ap (λ t. record { place = place; inside = inside } ∷ t) (front inside mid (drop n xs) k)
  where
    front : (m : ℕ) (mid rest : List Pick) → m ≤ length mid → take m (mid ++ rest) ≡ take m mid
    front zero mid rest h = refl
    front (suc m) [] rest h = absurd (omega arith)
    front (suc m) (q ∷ mid) rest h = ap (λ t. q ∷ t) (front m mid rest (omega arith))

pub closed_by : (place n : ℕ) (mid ps : List Pick) → n ≤ length mid → ps ≡ record { place = place; inside = n } ∷ take n mid → IsClosed ps
closed_by place n mid ps h e = subst IsClosed (sym e) (closed_one (record { place = place; inside = n }) (take n mid) (length-take-le n mid h))

pub put_fits : (a n m : ℕ) (xs mid : List Pick) → a ≤ length xs → m ≤ length mid → a + m ≤ length (take a xs ++ (mid ++ drop n (drop a xs)))
put_fits a n m xs mid h k =
    let t = length-take-le a xs h in
    let q = length-append (take a xs) (mid ++ drop n (drop a xs)) in
    let r = length-append mid (drop n (drop a xs)) in
    omega (arith, t, q, r, k)

-- where something was found, what else holds of it
pub some_by : {A : Type 0} (p q : A → Type 0) (o : Option A) → ((x : A) → p x → q x) → IfSome o p → IfSome o q
some_by p q None f h = tt
some_by p q (Some x) f h = f x h

-- the only pick of a list names a leaf
pub named_alone : (ps own : List Pick) (place : ℕ) (es : List_of) (l : item.Leaf) → length ps ≡ 1 → ((xs : List_of) → picked (drop 0 ps) xs ≡ chosen own place xs ▷ picked (drop (0 + 1 + length own) ps) xs)
    → chosen own place es ≡ leaf l nil → picked ps es ≡ leaf l nil
named_alone ps own place es l n parts h =
    parts es ∙ ap (λ xs. xs ▷ picked (drop (0 + 1 + length own) ps) es) h
    ∙ ap (λ qs. leaf l nil ▷ picked qs es) (drop_all (0 + 1 + length own) ps (omega (arith, n))) ∙ ap (λ xs. leaf l nil ▷ xs) (picked-none es)
