-- The loop over siblings that adds what touched boxes show.
use Rattle.std.proofs.Common.{◌≡◌, refl, ap, ◌∙◌, sym, subst, Bool, true, false, cond, ◌&&◌, ◌||◌, ℤ, ℕ, ◌+◌, ◌-◌, ◌≤◌, ◌<◌, arith}
use Rattle.std.specs.Prelude.{Option, Some, nat_lt}
use Rattle.rd_geom.specs.Areas.{Region}
use Rattle.rd_keys.specs.Keys.{BoxKey, same_key}
use Rattle.rd_tree.specs.Forest.{empty, tree, starting_at, from_some, size}
use Rattle.rd_tree.specs.Document.{BoxForest, Document}
use Rattle.rd_tree.specs.Hulls.{any_touched, touched_in}
use Rattle.rd_tree.specs.Shown.{Shown, shown}
use Rattle.rd_tree.proofs.Summaries.Sums.{any_touched-is}
use Rattle.rd_stack.specs.Fresh.{box_data}
use Rattle.rd_partial.specs.Internal.Counting.{looks_below}
use Rattle.rd_partial.specs.Internal.BoxLook.{Onward, here_of}
use Rattle.rd_partial.specs.Internal.Inherited.{Inherited, below}
use Rattle.rd_partial.specs.Internal.Touched.{Joins, HasMarks, box_shows, touched_shows, own_shows, shows_below, branch_shows, leads_to_touched, marks_from, looks_under}
use Rattle.rd_partial.specs.declared.look.BoxLook.{BoxLook}
use Rattle.rd_partial.proofs.Adding.{joins_then, joins_same, joins_none}

-- a look tells the marks
pub marks_told : (root : BoxKey) (g : BoxForest) (v : Shown) → Some v ≡ shown root g → HasMarks g v.touched v.touched_below
marks_told root empty v h = tt
marks_told root (tree k d below rest) v h = (cc (h), cc (h))

either : (a b : Bool) → (a || b) ≡ false → (a ≡ false) × (b ≡ false)
either true b h = cc
either false b h = (refl, h)

-- where no box is touched nothing shows
pub none_shows : (s : Inherited) (f : BoxForest) (x y : ℤ) → any_touched f ≡ false → touched_shows s f x y ≡ false
none_shows s empty x y h = refl
none_shows s (tree k d ch nx) x y h =
    let e = either d.touched (any_touched ch || any_touched nx) h in
    let g = either (any_touched ch) (any_touched nx) e.1 in
    rw (e.0, none_shows (below s (box_data k d)) ch x y g.0, none_shows s nx x y g.1) refl

three : (a b c : Bool) → ((a || b) || c) ≡ (a || (b || c))
three true b c = refl
three false b c = refl

-- nor is there a mark
pub no_marks : (f : BoxForest) → any_touched f ≡ false → touched_in f ≡ 0
no_marks f h = let e : nat_lt 0 (touched_in f) ≡ false = sym (any_touched-is f) ∙ h in grind arith

-- what the loop over siblings keeps
pub record Added (s : Inherited) (first next : BoxForest) (before now : Region) (looks0 looks : ℕ) : Type 0 where
  pub fewer : size next ≤ size first
  pub then : (c : Region) → Joins (touched_shows s next) now c → Joins (touched_shows s first) before c
  pub looks_is : looks + looks_below leads_to_touched next ≤ looks0 + looks_below leads_to_touched first

module _ (s : Inherited) (t : Document) (k : BoxKey) (v : BoxLook) (w : Onward t.boxes k (here_of v) v.first_child v.next_sibling v.hull) (m : HasMarks (starting_at same_key k t.boxes) v.touched v.touched_below) where
  marks : (v.touched ≡ w.item.touched) × (v.touched_below ≡ touched_in w.below)
  marks = subst (λ z. HasMarks z v.touched v.touched_below) w.is m

  leads : nat_lt 0 v.touched_below ≡ any_touched w.below
  leads = ap (nat_lt 0) marks.1 ∙ sym (any_touched-is w.below)

  below_is : (x y : ℤ) → shows_below s v t x y ≡ touched_shows (below s (box_data k w.item)) w.below x y
  below_is x y =
      ap (λ b. nat_lt 0 v.touched_below && touched_shows (below s b) (from_some same_key v.first_child t.boxes) x y) w.data_is
      ∙ ap (λ z. nat_lt 0 v.touched_below && touched_shows (below s (box_data k w.item)) z x y) w.child
      ∙ ap (λ z. z && touched_shows (below s (box_data k w.item)) w.below x y) leads
      ∙ by (any_touched w.below) refl
    where
      by : (b : Bool) → any_touched w.below ≡ b → (b && touched_shows (below s (box_data k w.item)) w.below x y) ≡ touched_shows (below s (box_data k w.item)) w.below x y
      by true e = refl
      by false e = sym (none_shows (below s (box_data k w.item)) w.below x y e)

  own_is : (x y : ℤ) → own_shows s v x y ≡ (w.item.touched && box_shows s (box_data k w.item) x y)
  own_is x y = ap (λ b. v.touched && box_shows s b x y) w.data_is ∙ ap (λ z. z && box_shows s (box_data k w.item) x y) marks.0

  pub branch_is : (x y : ℤ) → branch_shows s v t x y ≡ ((w.item.touched && box_shows s (box_data k w.item) x y) || touched_shows (below s (box_data k w.item)) w.below x y)
  branch_is x y = ap (λ z. z || shows_below s v t x y) (own_is x y) ∙ ap (λ z. (w.item.touched && box_shows s (box_data k w.item) x y) || z) (below_is x y)

  here_shows : (x y : ℤ) → (branch_shows s v t x y || touched_shows s (from_some same_key v.next_sibling t.boxes) x y) ≡ touched_shows s (starting_at same_key k t.boxes) x y
  here_shows x y =
      three (own_shows s v x y) (shows_below s v t x y) (touched_shows s (from_some same_key v.next_sibling t.boxes) x y)
      ∙ ap (λ z. z || (shows_below s v t x y || touched_shows s (from_some same_key v.next_sibling t.boxes) x y)) (own_is x y)
      ∙ ap (λ z. (w.item.touched && box_shows s (box_data k w.item) x y) || (z || touched_shows s (from_some same_key v.next_sibling t.boxes) x y)) (below_is x y)
      ∙ ap (λ z. (w.item.touched && box_shows s (box_data k w.item) x y) || (touched_shows (below s (box_data k w.item)) w.below x y || touched_shows s z x y)) w.next
      ∙ ap (λ z. touched_shows s z x y) (sym w.is)

  looks_more : looks_below leads_to_touched (starting_at same_key k t.boxes) ≡ 1 + looks_under v t + looks_below leads_to_touched (from_some same_key v.next_sibling t.boxes)
  looks_more = rw (w.is, leads, w.child, w.next) refl

  marks_more : marks_from (Some k) t ≡ cond v.touched 1 0 + v.touched_below + marks_from v.next_sibling t
  marks_more =
      let here : marks_from (Some k) t ≡ cond w.item.touched 1 0 + (touched_in w.below + touched_in w.rest) = ap touched_in w.is in
      let own : cond v.touched 1 0 ≡ cond w.item.touched 1 0 = ap {B = ℕ} (λ b. cond b 1 0) marks.0 in
      let under = marks.1 in
      let later : marks_from v.next_sibling t ≡ touched_in w.rest = ap touched_in w.next in
      omega (arith, here, own, under, later)

  -- so many are left for the later siblings
  pub left_after : (left own : ℕ) (at : Option BoxKey) → left ≡ marks_from at t → marks_from (Some k) t ≡ marks_from at t → own ≡ cond v.touched 1 0
      → left - (own + v.touched_below) ≡ marks_from v.next_sibling t
  left_after left own at l p o = let m = marks_more in omega (arith, m, l, p, o)

  size_more : size (starting_at same_key k t.boxes) ≡ 1 + (size (from_some same_key v.first_child t.boxes) + size (from_some same_key v.next_sibling t.boxes))
  size_more = rw (w.is, w.child, w.next) refl

  pub added_one : (first : BoxForest) (before now two : Region) (looks0 looks looks1 looks2 : ℕ) (o : Option BoxKey) → o ≡ Some k
      → Added s first (from_some same_key o t.boxes) before now looks0 looks → Joins (branch_shows s v t) now two
      → looks1 ≡ looks + 1 → looks2 ≤ looks1 + looks_under v t → Added s first (from_some same_key v.next_sibling t.boxes) before two looks0 looks2
  added_one first before now two looks0 looks looks1 looks2 o e i h c u =
      let j : Added s first (starting_at same_key k t.boxes) before now looks0 looks = subst (λ z. Added s first (from_some same_key z t.boxes) before now looks0 looks) e i in
      let sm = size_more in
      let lm = looks_more in
      record {
        fewer = omega (arith, sm, j.fewer);
        then = λ r n.
            j.then r (joins_same (λ x y. branch_shows s v t x y || touched_shows s (from_some same_key v.next_sibling t.boxes) x y) (touched_shows s (starting_at same_key k t.boxes)) now r here_shows
            (joins_then (branch_shows s v t) (touched_shows s (from_some same_key v.next_sibling t.boxes)) now two r h n));
        looks_is = omega (arith, lm, j.looks_is, c, u);
      }

  -- also where memory is wanting in it
  pub added_looks : (first : BoxForest) (before now : Region) (looks0 looks looks1 looks2 : ℕ) (o : Option BoxKey) → o ≡ Some k
      → Added s first (from_some same_key o t.boxes) before now looks0 looks → looks1 ≡ looks + 1 → looks2 ≤ looks1 + looks_under v t → looks2 ≤ looks0 + looks_below leads_to_touched first
  added_looks first before now looks0 looks looks1 looks2 o e i c u =
      let j : Added s first (starting_at same_key k t.boxes) before now looks0 looks = subst (λ z. Added s first (from_some same_key z t.boxes) before now looks0 looks) e i in
      let lm = looks_more in
      omega (arith, lm, j.looks_is, c, u)

  -- fewer boxes are below it than there are from it on
  pub fewer_below : (first : BoxForest) (before now : Region) (looks0 looks : ℕ) (o : Option BoxKey) → o ≡ Some k → Added s first (from_some same_key o t.boxes) before now looks0 looks
      → size (from_some same_key v.first_child t.boxes) < size first
  fewer_below first before now looks0 looks o e i =
      let j : Added s first (starting_at same_key k t.boxes) before now looks0 looks = subst (λ z. Added s first (from_some same_key z t.boxes) before now looks0 looks) e i in
      let sm = size_more in
      omega (arith, sm, j.fewer)

pub added_begin : (s : Inherited) (first : BoxForest) (a : Region) (looks : ℕ) → Added s first first a a looks looks
added_begin s first a looks = record { fewer = omega arith; then = λ c h. h; looks_is = omega arith }

-- no mark is left
pub none_left : (left marks : ℕ) → left ≡ marks → left ≤ 0 → marks ≡ 0
none_left left marks e z = omega (arith, e, z)

-- once no mark is left, all is added
pub added_end : (s : Inherited) (first next : BoxForest) (before now : Region) (looks0 looks : ℕ) → touched_in next ≡ 0 → Added s first next before now looks0 looks
    → Joins (touched_shows s first) before now × (looks ≤ looks0 + looks_below leads_to_touched first)
added_end s first next before now looks0 looks e i =
    let off : any_touched next ≡ false = any_touched-is next ∙ ap (nat_lt 0) e in
    (i.then now (joins_none (touched_shows s next) now (λ x y. none_shows s next x y off)), omega (arith, i.looks_is))
