-- One step of the walk over the boxes.
use Rattle.std.proofs.Common.{◌≡◌, ℕ, suc, ◌+◌, ◌<◌, ◌==◌, nat_lt, if◌then◌else◌, Bool, true, false, ◌&&◌, List, [], ◌∷◌, ◌++◌, length, reverse, Option, Some, None, Ok, Err, is_none, refl, sym, ap, ◌∙◌, bytes_eq, arith, unwrap_or, ok_or, append_assoc, append-nil, subst, take, drop, get_or, drop-cons, add-one}
use Rattle.std.specs.Bool.{⊤}
use Rattle.std.proofs.lemmas.List.{take_more, reverse-append, length-reverse}
use Rattle.std.proofs.lemmas.Bool.{ne_eqb}
use Rattle.rd_tree.specs.Figures.{max_depth}
use Rattle.rd_scene.specs.declared.fault.Why.{Why}
use Rattle.rd_scene.specs.declared.fault.Why.TheVariants as why
use Rattle.rd_scene.specs.declared.script.SceneBox.{SceneBox}
use Rattle.rd_scene.specs.Checked.{by_case}
use Rattle.rd_scene.specs.Boxes.{depth_under}
use Rattle.rd_scene.specs.Internal.Steps.{IsNoted}
use Rattle.rd_scene.specs.Order.{depth_of, depth_below, is_first, has_level_below, has_place, are_in_order}

module _ (bs : List SceneBox) (i : ℕ) (b : SceneBox) (within : i < length bs) (is : b ≡ get_or bs i b) where
  -- the boxes so far, and one more
  pub before_more : reverse (take (i + 1) bs) ≡ b ∷ reverse (take i bs)
  before_more = ap reverse (take_more bs i b within) ∙ reverse-append (take i bs) _ ∙ ap (λ c. c ∷ reverse (take i bs)) (sym is)

  -- the next box, and those after it
  pub next_box : drop i bs ≡ b ∷ drop (i + 1) bs
  next_box = rw (add-one i) (drop-cons bs i b within ∙ ap (λ c. c ∷ drop (suc i) bs) (sym is))

-- What a depth says of a parent: the box may stand there, and so deep.
pub record Stands (before : List SceneBox) (parent : Option (List ℕ)) (depth : ℕ) : Type 0 where
  pub place : has_place before parent ≡ true
  pub deep : depth_below before parent ≡ depth

pub stands_under : (before : List SceneBox) (parent : Option (List ℕ)) (depth : ℕ)
    → (depth_under (is_first before) (λ id. depth_of id before) parent).first ≡ Ok depth → Stands before parent depth
unfolding depth_under
stands_under [] None depth h = record { place = refl; deep = cc }
stands_under [] (Some p) depth h = cc
stands_under (b ∷ before) None depth h = cc
stands_under (b ∷ before) (Some p) depth h = by (depth_of p (b ∷ before)) refl h
  where
    level : (above : ℕ) (t : Bool) → depth_of p (b ∷ before) ≡ Some above → nat_lt above max_depth ≡ t
        → by_case {F = Why} {A = ⊤} (λ _. Ok (above + 1)) Err (if t then Ok tt else Err why.Depth) ≡ Ok depth → Stands (b ∷ before) (Some p) depth
    level above true e f g = record { place = ap has_level_below e ∙ f; deep = ap (λ (o : Option ℕ). unwrap_or o 0 + 1) e ∙ cc }
    level above false e f g = cc

    by : (o : Option ℕ) → depth_of p (b ∷ before) ≡ o
        → by_case {F = Why} (λ (above : ℕ). by_case {F = Why} {A = ⊤} (λ _. Ok (above + 1)) Err (if nat_lt above max_depth then Ok tt else Err why.Depth)) Err (ok_or o why.Parent) ≡ Ok depth
        → Stands (b ∷ before) (Some p) depth
    by None e g = cc
    by (Some above) e g = level above (nat_lt above max_depth) e refl g

-- none stands before the first box alone
pub first_at : (bs : List SceneBox) (i : ℕ) → length bs ≡ i → (i == 0) ≡ is_first (reverse bs)
first_at bs i e = by (reverse bs) i (length-reverse bs ∙ e)
  where
    by : (cs : List SceneBox) (i : ℕ) → length cs ≡ i → (i == 0) ≡ is_first cs
    by [] i e = rw (sym e) refl
    by (c ∷ cs) i e = ne_eqb i 0 (λ z. omega (arith, e, z))

-- the depths with one more box
pub depths_more : (before : List SceneBox) (b : SceneBox) (depth : ℕ) (old new : List ℕ → Option ℕ) → ((q : List ℕ) → old q ≡ depth_of q before)
    → depth_below before b.parent ≡ depth → ((q : List ℕ) → new q ≡ (if bytes_eq b.id q then Some depth else old q)) → (q : List ℕ) → new q ≡ depth_of q (b ∷ before)
depths_more before b depth old new tells deep noted q = noted q ∙ rw (tells q, sym deep) refl

turned : (before : List SceneBox) (c : SceneBox) (done : List SceneBox) → reverse (c ∷ done) ++ before ≡ reverse done ++ (c ∷ before)
turned before c done = ap (λ (l : List SceneBox). l ++ before) (reverse-append (c ∷ []) done) ∙ append_assoc (reverse done) (c ∷ []) before

step : (x y p q : Bool) → (p ≡ true → q ≡ true) → (x && y && p) ≡ true → (x && y && q) ≡ true
step true true p q go g = go g
step true false p q go g = cc
step false y p q go g = cc

-- a box more after the others
pub order_more : (before done : List SceneBox) (b : SceneBox) → are_in_order before done ≡ true → depth_of b.id (reverse done ++ before) ≡ None
    → has_place (reverse done ++ before) b.parent ≡ true → are_in_order before (done ++ b ∷ []) ≡ true
order_more before [] b h free place = rw (free, place) refl
order_more before (c ∷ done) b h free place =
    step (is_none (depth_of c.id before)) (has_place before c.parent) (are_in_order (c ∷ before) done) (are_in_order (c ∷ before) (done ++ b ∷ []))
    (λ g. order_more (c ∷ before) done b g (ap (λ (l : List SceneBox). depth_of b.id l) (sym (turned before c done)) ∙ free)
    (ap (λ (l : List SceneBox). has_place l b.parent) (sym (turned before c done)) ∙ place)) h

-- What holds of the depths after one more box.
pub record Noted (done : List SceneBox) (new : List ℕ → Option ℕ) : Type 0 where
  pub depths : (q : List ℕ) → new q ≡ depth_of q (reverse done)
  pub order : are_in_order [] done ≡ true

pub noted_more : (done : List SceneBox) (b : SceneBox) (i : ℕ) (old new : List ℕ → Option ℕ) → length done ≡ i → ((q : List ℕ) → old q ≡ depth_of q (reverse done))
    → are_in_order [] done ≡ true → IsNoted (i == 0) b old new → Noted (done ++ b ∷ []) new
noted_more done b i old new long tells order n =
    let before : List SceneBox = reverse done in
    let told : old ≡ (λ (q : List ℕ). depth_of q before) = λ k q. tells q k in
    let under : (depth_under (is_first before) (λ q. depth_of q before) b.parent).first ≡ Ok n.depth =
    subst (λ (o : List ℕ → Option ℕ). (depth_under (is_first before) o b.parent).first ≡ Ok n.depth) told
    (subst (λ (f : Bool). (depth_under f old b.parent).first ≡ Ok n.depth) (first_at done i long) n.stands) in
    let s : Stands before b.parent n.depth = stands_under before b.parent n.depth under in
    let grown : reverse (done ++ b ∷ []) ≡ b ∷ before = reverse-append done (b ∷ []) in
    let all : before ++ [] ≡ before = append-nil before in
    record {
      depths = λ q. depths_more before b n.depth old new tells s.deep n.noted q ∙ ap (λ (l : List SceneBox). depth_of q l) (sym grown);
      order = order_more [] done b order (ap (λ (l : List SceneBox). depth_of b.id l) all ∙ sym (tells b.id) ∙ n.fresh) (ap (λ (l : List SceneBox). has_place l b.parent) all ∙ s.place);
    }
