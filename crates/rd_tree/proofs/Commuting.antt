-- Changes of a tree, and where its boxes are drawn.
use Rattle.std.proofs.Common.{◌≡◌, refl, ap, ◌∙◌, sym, subst, ℤ, Bool, true, false, ◌||◌, cond, List, [], ◌∷◌, ◌++◌, inl, inr, arith}
use Rattle.std.proofs.lemmas.Int.{ints}
use Rattle.std.specs.Prelude.{◌+ℤ◌, ◌-ℤ◌, Option, Some, None}
use Rattle.rd_geom.specs.Plane.{Rectangle, no_pixels}
use Rattle.rd_keys.specs.Keys.{same_key}
use Rattle.rd_keys.proofs.Keys.{same_key-sound, same_key-refl}
use Rattle.rd_tree.specs.declared.scroll.Scroll.{Scroll}
use Rattle.rd_tree.specs.Forest.{empty, tree, keys, ◌▷◌, has, children, with_children, insert_before, insert_among, without_branch, branch, map_where, at_box, in_subtree, IsApart}
use Rattle.rd_tree.specs.Document.{Document, BoxKey, Item, BoxForest, contains, with_child, with_all_left}
use Rattle.rd_tree.specs.Changes.{with_rect, shift_item, insertion, removal, placing, shifting}
use Rattle.rd_tree.specs.Touching.{touch, settled, touched_by, edited}
use Rattle.rd_tree.specs.Drawn.{Above, above_of, offset_of, scrolled_by, at, is_none, drawn_below, drawn}
use Rattle.rd_tree.specs.Drawing.{offset_to, above_in, laid_below, IsKnown, DrawingLaw}
use Rattle.rd_tree.proofs.Linking.Standing.{cases, never, join-empty, no_children, has-join, differs, flip}
use Rattle.rd_tree.proofs.Forests.Under.{no_under}
use Rattle.rd_tree.proofs.Forests.EachBranch.{each_none}
use Rattle.rd_tree.proofs.Contexts.Alike.{plain, insertion-touches, removal-touches, placing-touches}
use Rattle.rd_tree.proofs.Drawing.{has-drawn, drawn-each, drawn_shift}

-- There and back.
there_and_back : (x o : ℤ) → (x -ℤ o) +ℤ o ≡ x
there_and_back x o = omega (arith, ints)

back_and_there : (x o : ℤ) → (x +ℤ o) -ℤ o ≡ x
back_and_there x o = omega (arith, ints)

laid-drawn : (above : List Above) (f : BoxForest) → laid_below above (drawn_below above f) ≡ f
laid-drawn above empty = refl
laid-drawn above (tree k d below rest) =
    let o : Scroll = offset_of d.style.position above in
    λ i. tree k (record d { rect = record d.rect { x = there_and_back d.rect.x o.x i; y = there_and_back d.rect.y o.y i } })
    (laid-drawn (above_of (is_none above) d ∷ above) below i) (laid-drawn above rest i)

drawn-laid : (above : List Above) (f : BoxForest) → drawn_below above (laid_below above f) ≡ f
drawn-laid above empty = refl
drawn-laid above (tree k d below rest) =
    let o : Scroll = offset_of d.style.position above in
    λ i. tree k (record d { rect = record d.rect { x = back_and_there d.rect.x o.x i; y = back_and_there d.rect.y o.y i } })
    (drawn-laid (above_of (is_none above) d ∷ above) below i) (drawn-laid above rest i)

pub known : (t : Document) → IsKnown t
known t = record {
  back = λ i. record t { boxes = laid-drawn [] t.boxes i };
  forth = λ i. record t { boxes = drawn-laid [] t.boxes i };
}

-- Siblings, and a forest below a box.
join-drawn : (above : List Above) (f g : BoxForest) → drawn_below above (f ▷ g) ≡ drawn_below above f ▷ drawn_below above g
join-drawn above empty g = refl
join-drawn above (tree k d below rest) g = ap (tree k (with_rect (at above d) d) (drawn_below (above_of (is_none above) d ∷ above) below)) (join-drawn above rest g)

before-drawn : (above : List Above) (j : BoxKey) (g f : BoxForest) → drawn_below above (insert_before same_key j g f) ≡ insert_before same_key j (drawn_below above g) (drawn_below above f)
before-drawn above j g empty = refl
before-drawn above j g (tree k d below rest) =
    elim (cases (same_key j k)) [ inl e ↦ rw e (join-drawn above g (tree k d below rest)) | inr e ↦ rw (e, before-drawn above j g rest) refl ]

among-drawn : (above : List Above) (o : Option BoxKey) (g f : BoxForest) → drawn_below above (insert_among same_key o g f) ≡ insert_among same_key o (drawn_below above g) (drawn_below above f)
among-drawn above None g f = join-drawn above f g
among-drawn above (Some j) g f = before-drawn above j g f

or_else_there : (a b c : Bool) → a ≡ false → (a || (b || c)) ≡ true → b ≡ false → c ≡ true
or_else_there a b c e h n = rw (e, n) at h

-- another box than the one that is sought
missed : (above : List Above) (p i : BoxKey) (d : Item) (g below rest : BoxForest) (b : Bool) → b ≡ false → (x : BoxForest)
    → drawn_below (above_of (is_none above) d ∷ above) (with_children same_key p g below) ≡ with_children same_key p x (drawn_below (above_of (is_none above) d ∷ above) below)
    → drawn_below above (with_children same_key p g rest) ≡ with_children same_key p x (drawn_below above rest)
    → drawn_below above (cond b (tree i d g rest) (tree i d (with_children same_key p g below) (with_children same_key p g rest)))
    ≡ cond b (tree i (with_rect (at above d) d) x (drawn_below above rest))
    (tree i (with_rect (at above d) d) (with_children same_key p x (drawn_below (above_of (is_none above) d ∷ above) below)) (with_children same_key p x (drawn_below above rest)))
missed above p i d g below rest true e x l r = cc
missed above p i d g below rest false e x l r = λ s. tree i (with_rect (at above d) d) (l s) (r s)

under-drawn : (above : List Above) (p : BoxKey) (g f : BoxForest) → IsApart same_key f → has same_key p f ≡ true
    → drawn_below above (with_children same_key p g f) ≡ with_children same_key p (drawn_below (above_in p above f) g) (drawn_below above f)
under-drawn above p g empty a h = absurd (never false h refl)
under-drawn above p g (tree i d below rest) a h =
    let inside : List Above = above_of (is_none above) d ∷ above in
    let A : List Above = above_in p above (tree i d below rest) in
    let no : (f : BoxForest) → has same_key p f ≡ false → (x : BoxForest) → with_children same_key p x f ≡ f = λ f o x. no_under same_key same_key-sound same_key-refl p x f o in
    elim (cases (same_key p i)) [
      | inl e ↦ rw e refl
      | inr e ↦ elim (cases (has same_key p below)) [
        | inl u ↦
            let o : has same_key p rest ≡ false = a.2 p u in
            let is : A ≡ above_in p inside below = rw (e, u) refl in
            missed above p i d g below rest (same_key p i) e (drawn_below A g)
            (under-drawn inside p g below a.3 u ∙ ap (λ z. with_children same_key p (drawn_below z g) (drawn_below inside below)) (sym is))
            (ap (drawn_below above) (no rest o g) ∙ sym (no (drawn_below above rest) (has-drawn above p rest ∙ o) (drawn_below A g)))
        | inr u ↦
            let v : has same_key p rest ≡ true = or_else_there (same_key p i) (has same_key p below) (has same_key p rest) e h u in
            let is : A ≡ above_in p above rest = rw (e, u) refl in
            missed above p i d g below rest (same_key p i) e (drawn_below A g)
            (ap (drawn_below inside) (no below u g) ∙ sym (no (drawn_below inside below) (has-drawn inside p below ∙ u) (drawn_below A g)))
            (under-drawn above p g rest a.4 v ∙ ap (λ z. with_children same_key p (drawn_below z g) (drawn_below above rest)) (sym is))
      ]
    ]

children-drawn : (above : List Above) (p : BoxKey) (f : BoxForest) → IsApart same_key f → has same_key p f ≡ true
    → children same_key p (drawn_below above f) ≡ drawn_below (above_in p above f) (children same_key p f)
children-drawn above p empty a h = absurd (never false h refl)
children-drawn above p (tree i d below rest) a h =
    let inside : List Above = above_of (is_none above) d ∷ above in
    elim (cases (same_key p i)) [
      | inl e ↦ rw e refl
      | inr e ↦ elim (cases (has same_key p below)) [
        | inl u ↦
            let o : has same_key p rest ≡ false = a.2 p u in
            let od : has same_key p (drawn_below above rest) ≡ false = has-drawn above p rest ∙ o in
            rw (e, u, children-drawn inside p below a.3 u, no_children same_key same_key-sound same_key-refl p rest o, no_children same_key same_key-sound same_key-refl p (drawn_below above rest) od)
            (join-empty (drawn_below (above_in p inside below) (children same_key p below)) ∙ ap (drawn_below (above_in p inside below)) (sym (join-empty (children same_key p below))))
        | inr u ↦
            let v : has same_key p rest ≡ true = or_else_there (same_key p i) (has same_key p below) (has same_key p rest) e h u in
            let ud : has same_key p (drawn_below inside below) ≡ false = has-drawn inside p below ∙ u in
            rw (e, u, children-drawn above p rest a.4 v, no_children same_key same_key-sound same_key-refl p below u, no_children same_key same_key-sound same_key-refl p (drawn_below inside below) ud) refl
      ]
    ]

-- A new child.
child-drawn : (p : BoxKey) (before : Option BoxKey) (k : BoxKey) (d : Item) (f : BoxForest) → IsApart same_key f → has same_key p f ≡ true
    → drawn_below [] (with_child p before k d f) ≡ with_child p before k (with_rect (at (above_in p [] f) d) d) (drawn_below [] f)
child-drawn p before k d f a h =
    let above : List Above = above_in p [] f in
    under-drawn [] p (insert_among same_key before (tree k d empty empty) (children same_key p f)) f a h
    ∙ ap (λ g. with_children same_key p g (drawn_below [] f))
    (among-drawn above before (tree k d empty empty) (children same_key p f)
    ∙ ap (insert_among same_key before (tree k (with_rect (at above d) d) empty empty)) (sym (children-drawn [] p f a h)))

-- Drawn boxes are alike but for their rectangles.
plain-drawn : (above : List Above) (f : BoxForest) → plain (drawn_below above f) ≡ plain f
plain-drawn above empty = refl
plain-drawn above (tree k d below rest) =
    λ i. tree k (with_rect no_pixels d) (plain-drawn (above_of (is_none above) d ∷ above) below i) (plain-drawn above rest i)

-- Marks come to the same boxes.
marked-drawn : (p : BoxKey → Bool) (f : BoxForest) → drawn_below [] (map_where p touch f) ≡ map_where p touch (drawn_below [] f)
marked-drawn p f = drawn-each p touch touch (λ root d. refl) (λ above d. refl) [] f

inserted : (t : Document) → IsApart same_key t.boxes → (p : BoxKey) (before : Option BoxKey) (k : BoxKey) (d : Item) → contains t p ≡ true
    → drawn (edited (insertion p before k d) t) ≡ edited (insertion p before k (with_rect (at (above_in p [] t.boxes) d) d)) (drawn t)
inserted t a p before k d h =
    let e : Item = with_rect (at (above_in p [] t.boxes) d) d in
    let q : BoxKey → Bool = touched_by (insertion p before k d) t in
    let q2 : BoxKey → Bool = touched_by (insertion p before k e) (drawn t) in
    let same : q2 ≡ q = λ s j. insertion-touches t (drawn_below [] t.boxes) (plain-drawn [] t.boxes) p before k d e j refl s in
    ap (λ f. record (edited (insertion p before k d) t) { boxes = f })
    (marked-drawn q (with_child p before k d t.boxes)
    ∙ (ap (λ z. map_where z touch (drawn_below [] (with_child p before k d t.boxes))) (sym same) ∙ ap (map_where q2 touch) (child-drawn p before k d t.boxes a h)))

-- A box taken away.
without-drawn : (above : List Above) (k : BoxKey) (f : BoxForest) → drawn_below above (without_branch same_key k f) ≡ without_branch same_key k (drawn_below above f)
without-drawn above k empty = refl
without-drawn above k (tree i d below rest) =
    elim (cases (same_key k i)) [
      | inl e ↦ rw e refl
      | inr e ↦ rw (e, without-drawn (above_of (is_none above) d ∷ above) k below, without-drawn above k rest) refl
    ]

keys-drawn : (above : List Above) (f : BoxForest) → keys (drawn_below above f) ≡ keys f
keys-drawn above empty = refl
keys-drawn above (tree k d below rest) = λ i. k ∷ keys-drawn (above_of (is_none above) d ∷ above) below i ++ keys-drawn above rest i

branch_keys-drawn : (above : List Above) (k : BoxKey) (f : BoxForest) → keys (branch same_key k (drawn_below above f)) ≡ keys (branch same_key k f)
branch_keys-drawn above k empty = refl
branch_keys-drawn above k (tree i d below rest) =
    let inside : List Above = above_of (is_none above) d ∷ above in
    elim (cases (same_key k i)) [
      | inl e ↦ rw (e, keys-drawn inside below) refl
      | inr e ↦ elim (cases (has same_key k below)) [
        | inl u ↦ rw (e, has-drawn inside k below, u) (branch_keys-drawn inside k below)
        | inr u ↦ rw (e, has-drawn inside k below, u) (branch_keys-drawn above k rest)
      ]
    ]

has_children-drawn : (above : List Above) (j k : BoxKey) (f : BoxForest) → has same_key j (children same_key k (drawn_below above f)) ≡ has same_key j (children same_key k f)
has_children-drawn above j k empty = refl
has_children-drawn above j k (tree i d below rest) =
    let inside : List Above = above_of (is_none above) d ∷ above in
    elim (cases (same_key k i)) [
      | inl e ↦ rw e (has-drawn inside j below)
      | inr e ↦
          rw e (has-join same_key same_key-sound same_key-refl j (children same_key k (drawn_below inside below)) (children same_key k (drawn_below above rest))
          ∙ (rw (has_children-drawn inside j k below, has_children-drawn above j k rest) refl
          ∙ sym (has-join same_key same_key-sound same_key-refl j (children same_key k below) (children same_key k rest))))
    ]

in-drawn : (f : BoxForest) (j k : BoxKey) → in_subtree same_key j k (drawn_below [] f) ≡ in_subtree same_key j k f
in-drawn f j k = ap (λ b. same_key j k || b) (has_children-drawn [] j k f)

removed : (t : Document) (k : BoxKey) → drawn (edited (removal k) t) ≡ edited (removal k) (drawn t)
removed t k =
    let q : BoxKey → Bool = touched_by (removal k) t in
    let q2 : BoxKey → Bool = touched_by (removal k) (drawn t) in
    let same : q2 ≡ q = λ s j. removal-touches t (drawn_below [] t.boxes) (plain-drawn [] t.boxes) k j s in
    let boxes : drawn_below [] (map_where q touch (without_branch same_key k t.boxes)) ≡ map_where q2 touch (without_branch same_key k (drawn_below [] t.boxes)) =
    marked-drawn q (without_branch same_key k t.boxes)
    ∙ (ap (λ z. map_where z touch (drawn_below [] (without_branch same_key k t.boxes))) (sym same) ∙ ap (map_where q2 touch) (without-drawn [] k t.boxes)) in
    let slots = ap (with_all_left t.slots) (sym (branch_keys-drawn [] k t.boxes)) in
    λ i. record t { boxes = boxes i; slots = slots i }

-- A box and all below it shifted.
moved : (t : Document) (k : BoxKey) (dx dy : ℤ) → drawn (edited (shifting k dx dy) t) ≡ edited (shifting k dx dy) (drawn t)
moved t k dx dy =
    let p : BoxKey → Bool = λ j. in_subtree same_key j k t.boxes in
    let p2 : BoxKey → Bool = λ j. in_subtree same_key j k (drawn_below [] t.boxes) in
    let same : p2 ≡ p = λ s j. in-drawn t.boxes j k s in
    let boxes : drawn_below [] (map_where (λ j. p j || false) touch (map_where p (shift_item dx dy) t.boxes)) ≡ map_where (λ j. p2 j || false) touch (map_where p2 (shift_item dx dy) (drawn_below [] t.boxes)) =
    marked-drawn (λ j. p j || false) (map_where p (shift_item dx dy) t.boxes)
    ∙ (ap (map_where (λ j. p j || false) touch) (drawn-each p (shift_item dx dy) (shift_item dx dy) (λ root d. refl) (λ above d. ap (λ r. with_rect r d) (drawn_shift dx dy (offset_of d.style.position above) d.rect)) [] t.boxes)
    ∙ ap (λ z. map_where (λ j. z j || false) touch (map_where z (shift_item dx dy) (drawn_below [] t.boxes))) (sym same)) in
    ap (λ f. record t { boxes = f }) boxes

unmarked : (t : Document) → drawn (record t { boxes = map_where (λ _. true) settled t.boxes }) ≡ record (drawn t) { boxes = map_where (λ _. true) settled (drawn t).boxes }
unmarked t = ap (λ f. record t { boxes = f }) (drawn-each (λ _. true) settled settled (λ root d. refl) (λ above d. refl) [] t.boxes)

-- Another rectangle.
still-there : (k : BoxKey) (h : Item → Item) (f : BoxForest) → has same_key k f ≡ false → at_box same_key k h f ≡ f
still-there k h f o = each_none (λ j. same_key j k) h same_key same_key-refl f (λ j u. differs same_key same_key-sound same_key-refl f j k u o)

key_flip : (i j : BoxKey) → same_key i j ≡ same_key j i
key_flip i j = flip same_key same_key-sound same_key-refl i j

-- the box that gets another rectangle, and any other
here : (above : List Above) (k i : BoxKey) (r : Rectangle) (d : Item) (below rest : BoxForest) (b : Bool) → b ≡ true → (q : Rectangle) → scrolled_by (offset_of d.style.position above) r ≡ q
    → drawn_below (above_of (is_none above) d ∷ above) (at_box same_key k (with_rect r) below) ≡ at_box same_key k (with_rect q) (drawn_below (above_of (is_none above) d ∷ above) below)
    → drawn_below above (at_box same_key k (with_rect r) rest) ≡ at_box same_key k (with_rect q) (drawn_below above rest)
    → drawn_below above (tree i (cond b (with_rect r d) d) (at_box same_key k (with_rect r) below) (at_box same_key k (with_rect r) rest))
    ≡ tree i (cond b (with_rect q (with_rect (at above d) d)) (with_rect (at above d) d)) (at_box same_key k (with_rect q) (drawn_below (above_of (is_none above) d ∷ above) below)) (at_box same_key k (with_rect q) (drawn_below above rest))
here above k i r d below rest true e q w l m = λ s. tree i (with_rect (w s) d) (l s) (m s)
here above k i r d below rest false e q w l m = cc

elsewhere : (above : List Above) (k i : BoxKey) (r : Rectangle) (d : Item) (below rest : BoxForest) (b : Bool) → b ≡ false → (q : Rectangle)
    → drawn_below (above_of (is_none above) d ∷ above) (at_box same_key k (with_rect r) below) ≡ at_box same_key k (with_rect q) (drawn_below (above_of (is_none above) d ∷ above) below)
    → drawn_below above (at_box same_key k (with_rect r) rest) ≡ at_box same_key k (with_rect q) (drawn_below above rest)
    → drawn_below above (tree i (cond b (with_rect r d) d) (at_box same_key k (with_rect r) below) (at_box same_key k (with_rect r) rest))
    ≡ tree i (cond b (with_rect q (with_rect (at above d) d)) (with_rect (at above d) d)) (at_box same_key k (with_rect q) (drawn_below (above_of (is_none above) d ∷ above) below)) (at_box same_key k (with_rect q) (drawn_below above rest))
elsewhere above k i r d below rest true e q l m = cc
elsewhere above k i r d below rest false e q l m = λ s. tree i (with_rect (at above d) d) (l s) (m s)

put-drawn : (above : List Above) (k : BoxKey) (r : Rectangle) (f : BoxForest) → IsApart same_key f → has same_key k f ≡ true
    → drawn_below above (at_box same_key k (with_rect r) f) ≡ at_box same_key k (with_rect (scrolled_by (offset_to k above f) r)) (drawn_below above f)
put-drawn above k r empty a h = absurd (never false h refl)
put-drawn above k r (tree i d below rest) a h =
    let inside : List Above = above_of (is_none above) d ∷ above in
    let O : Scroll = offset_to k above (tree i d below rest) in
    let kept : (above : List Above) (f : BoxForest) → has same_key k f ≡ false → drawn_below above (at_box same_key k (with_rect r) f) ≡ at_box same_key k (with_rect (scrolled_by O r)) (drawn_below above f) =
    λ above f o. ap (drawn_below above) (still-there k (with_rect r) f o) ∙ sym (still-there k (with_rect (scrolled_by O r)) (drawn_below above f) (has-drawn above k f ∙ o)) in
    elim (cases (same_key k i)) [
      | inl e ↦
          let n : k ≡ i = same_key-sound k i e in
          let is : O ≡ offset_of d.style.position above = rw e refl in
          here above k i r d below rest (same_key i k) (key_flip i k ∙ e) (scrolled_by O r) (ap (λ z. scrolled_by z r) (sym is))
          (kept inside below (subst (λ x. has same_key x below ≡ false) (sym n) a.0))
          (kept above rest (subst (λ x. has same_key x rest ≡ false) (sym n) a.1))
      | inr e ↦ elim (cases (has same_key k below)) [
        | inl u ↦
            let is : O ≡ offset_to k inside below = rw (e, u) refl in
            elsewhere above k i r d below rest (same_key i k) (key_flip i k ∙ e) (scrolled_by O r)
            (put-drawn inside k r below a.3 u ∙ ap (λ z. at_box same_key k (with_rect (scrolled_by z r)) (drawn_below inside below)) (sym is))
            (kept above rest (a.2 k u))
        | inr u ↦
            let v : has same_key k rest ≡ true = or_else_there (same_key k i) (has same_key k below) (has same_key k rest) e h u in
            let is : O ≡ offset_to k above rest = rw (e, u) refl in
            elsewhere above k i r d below rest (same_key i k) (key_flip i k ∙ e) (scrolled_by O r)
            (kept inside below u)
            (put-drawn above k r rest a.4 v ∙ ap (λ z. at_box same_key k (with_rect (scrolled_by z r)) (drawn_below above rest)) (sym is))
      ]
    ]

placed : (t : Document) → IsApart same_key t.boxes → (k : BoxKey) (r : Rectangle) → contains t k ≡ true
    → drawn (edited (placing k r) t) ≡ edited (placing k (scrolled_by (offset_to k [] t.boxes) r)) (drawn t)
placed t a k r h =
    let r2 : Rectangle = scrolled_by (offset_to k [] t.boxes) r in
    let q : BoxKey → Bool = touched_by (placing k r) t in
    let q2 : BoxKey → Bool = touched_by (placing k r2) (drawn t) in
    let same : q2 ≡ q = λ s j. placing-touches t (drawn_below [] t.boxes) (plain-drawn [] t.boxes) k r r2 j s in
    let boxes : drawn_below [] (map_where q touch (at_box same_key k (with_rect r) t.boxes)) ≡ map_where q2 touch (at_box same_key k (with_rect r2) (drawn_below [] t.boxes)) =
    marked-drawn q (at_box same_key k (with_rect r) t.boxes)
    ∙ (ap (map_where q touch) (put-drawn [] k r t.boxes a h) ∙ ap (λ z. map_where z touch (at_box same_key k (with_rect r2) (drawn_below [] t.boxes))) (sym same)) in
    ap (λ f. record t { boxes = f }) boxes

pub drawing : DrawingLaw
drawing t a = (
  known t,
  record {
    inserted = inserted t a;
    removed = removed t;
    placed = placed t a;
    moved = moved t;
    unmarked = unmarked t;
  },
)
