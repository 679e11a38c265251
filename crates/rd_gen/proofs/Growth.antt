-- Boxes that stand in order, each at a depth of at most 64.
use Rattle.std.proofs.Common.{◌≡◌, ℕ, ◌+◌, ◌<◌, ◌≤◌, ◌^◌, Bool, true, false, ◌&&◌, nat_le, nat_lt, if◌then◌else◌, List, [], ◌∷◌, ◌++◌, length, reverse, get_or, Option, Some, None, is_none, unwrap_or, refl, sym, ap, ◌∙◌, arith, append_assoc, length-append, below_more}
use Rattle.std.proofs.lemmas.List.{reverse-append, append-nil, get_or_append_left}
use Rattle.std.proofs.lemmas.Grind.{get_or_default_zero}
use Rattle.std.proofs.Math.Seq.{get_or-append_seam}
use Rattle.std.proofs.lemmas.Bool.{lt-ltb, leb-false}
use Rattle.rd_tree.specs.Figures.{max_depth}
use Rattle.rd_scene.specs.declared.script.SceneBox.{SceneBox}
use Rattle.rd_scene.specs.Order.{depth_of, depth_below, has_place, has_level_below, are_in_order}
use Rattle.rd_gen.specs.Names.{box_id}
use Rattle.rd_gen.specs.Boxes.{root, depth_at, parent_by, box_below}
use Rattle.rd_gen.specs.Internal.Depths.{HasDepths}
use Rattle.rd_gen.proofs.Depths.{depth_of_new, depth_of_other}

-- a box at a depth of at most 64
pub record IsAtDepth (o : Option ℕ) (d : ℕ) : Type 0 where
  pub is : o ≡ Some d
  pub some : 1 ≤ d
  pub most : d ≤ 64

-- n boxes in order, under the names from b0 on
pub record IsGrown (n : ℕ) (xs : List SceneBox) : Type 0 where
  pub len : length xs ≡ n
  pub first : depth_of (box_id 0) (reverse xs) ≡ Some 1
  pub there : (k : ℕ) → k < n → (d : ℕ) × IsAtDepth (depth_of (box_id k) (reverse xs)) d
  pub free : (k : ℕ) → n ≤ k → k < 2 ^ 32 → depth_of (box_id k) (reverse xs) ≡ None
  pub order : are_in_order [] xs ≡ true

and_replace : (a b c : Bool) → (a && b) ≡ true → (b ≡ true → c ≡ true) → (a && c) ≡ true
and_replace true b c h f = f h
and_replace false b c h f = h

-- boxes in order, and one more that may follow
order_more : (before xs : List SceneBox) (b : SceneBox) → are_in_order before xs ≡ true
    → depth_of b.id (reverse xs ++ before) ≡ None → has_place (reverse xs ++ before) b.parent ≡ true → are_in_order before (xs ++ b ∷ []) ≡ true
order_more before [] b h free place = rw (free, place) refl
order_more before (x ∷ xs) b h free place =
    let e : reverse (x ∷ xs) ++ before ≡ reverse xs ++ (x ∷ before) = ap (λ l. l ++ before) (reverse-append (x ∷ []) xs) ∙ append_assoc (reverse xs) (x ∷ []) before in
    and_replace (is_none (depth_of x.id before) && has_place before x.parent) (are_in_order (x ∷ before) xs) (are_in_order (x ∷ before) (xs ++ b ∷ [])) h
    (λ rest. order_more (x ∷ before) xs b rest (ap (depth_of b.id) (sym e) ∙ free) (ap (λ l. has_place l b.parent) (sym e) ∙ place))

-- below a box that is not too deep
place_below : (before : List SceneBox) (p : List ℕ) (d : ℕ) → depth_of p before ≡ Some d → d ≤ 63 → has_place before (Some p) ≡ true
place_below [] p d is shallow = cc
place_below (b ∷ before) p d is shallow =
    let e : nat_lt d max_depth ≡ true = lt-ltb d max_depth (omega arith) in
    ap has_level_below is ∙ e

-- the root alone
pub grown_first : IsGrown 1 (root ∷ [])
grown_first = record {
  len = refl;
  first = depth_of_new (box_id 0) [] root refl;
  there = λ k h. let e : 0 ≡ k = omega arith in (1, record { is = rw (← e) (depth_of_new (box_id 0) [] root refl); some = omega arith; most = omega arith });
  free = λ k low high. depth_of_other 0 k [] root (omega arith) high (λ e. omega (arith, e)) refl;
  order = refl;
}

-- the parent that is taken has a depth below 64
pub parent_shallow : (n p : ℕ) (xs : List SceneBox) → IsGrown n xs → p < n
    → (d : ℕ) × IsAtDepth (depth_of (box_id (parent_by xs p)) (reverse xs)) d × (d ≤ 63)
parent_shallow n p xs g h = by (nat_le 64 (depth_at xs p)) refl
  where
    by : (b : Bool) → nat_le 64 (depth_at xs p) ≡ b → (d : ℕ) × IsAtDepth (depth_of (box_id (if b then 0 else p)) (reverse xs)) d × (d ≤ 63)
    by true e = (1, record { is = g.first; some = omega arith; most = omega arith }, omega arith)
    by false e =
        let (d, at) = g.there p h in
        let same : depth_at xs p ≡ d = ap (λ o. unwrap_or o 0) at.is in
        let shallow : d < 64 = leb-false 64 d (sym (ap (nat_le 64) same) ∙ e) in
        (d, at, omega arith)

-- a box more
pub grown_more : (n : ℕ) (xs : List SceneBox) (b : SceneBox) (q : ℕ) → n < 2 ^ 31 → IsGrown n xs → 1 ≤ n
    → (d : ℕ) → IsAtDepth (depth_of (box_id q) (reverse xs)) d → d ≤ 63
    → b.id ≡ box_id n → b.parent ≡ Some (box_id q) → IsGrown (n + 1) (xs ++ b ∷ [])
grown_more n xs b q few g some d at shallow named under =
    let below_it : depth_below (reverse xs) b.parent ≡ d + 1 = rw (under, at.is) refl in
    let apart : (k : ℕ) → (n ≡ k → ⊥) → k < 2 ^ 32 → depth_of (box_id k) (reverse (xs ++ b ∷ [])) ≡ depth_of (box_id k) (reverse xs) =
    λ k ne high. depth_of_other n k xs b (omega arith) high ne named in
    record {
      len = length-append xs (b ∷ []) ∙ ap (λ m. m + 1) g.len;
      first = apart 0 (λ e. omega (arith, e)) (omega arith) ∙ g.first;
      there = below_more (λ k. (x : ℕ) × IsAtDepth (depth_of (box_id k) (reverse (xs ++ b ∷ []))) x) n
          (λ k h. let (x, old) = g.there k h in (x, record { is = apart k (λ e. omega (arith, e, h)) (omega (arith, h)) ∙ old.is; some = old.some; most = old.most }))
          (d + 1, record { is = depth_of_new (box_id n) xs b named ∙ ap Some below_it; some = omega arith; most = omega arith });
      free = λ k low high. apart k (λ e. omega (arith, e, low)) high ∙ g.free k (omega (arith, low)) high;
      order = order_more [] xs b g.order
          (ap (depth_of b.id) (append-nil (reverse xs)) ∙ ap (λ w. depth_of w (reverse xs)) named ∙ g.free n (omega arith) (omega arith))
          (rw (append-nil, under) (place_below (reverse xs) (box_id q) d at.is shallow));
    }

pub parent_at : (n p q : ℕ) (xs : List SceneBox) → IsGrown n xs → p < n → q ≡ parent_by xs p
    → (d : ℕ) × IsAtDepth (depth_of (box_id q) (reverse xs)) d × (d ≤ 63)
parent_at n p q xs g h same = rw same (parent_shallow n p xs g h)

-- what a box knows of itself
pub box_below_id : (i parent s : ℕ) (b : SceneBox) (t : ℕ) → box_below i parent s ≡ (b, t) → b.id ≡ box_id i
unfolding box_below
box_below_id i parent s b t e = sym (ap (λ p. p.0.id) e)

pub box_below_parent : (i parent s : ℕ) (b : SceneBox) (t : ℕ) → box_below i parent s ≡ (b, t) → b.parent ≡ Some (box_id parent)
unfolding box_below
box_below_parent i parent s b t e = sym (ap (λ p. p.0.parent) e)

-- the depth that is read at the parent's number
pub depth_read : (n q d v : ℕ) (xs : List SceneBox) (ds : List ℕ) → HasDepths xs ds → q < length ds
    → IsAtDepth (depth_of (box_id q) (reverse xs)) d → v ≡ get_or ds q v → v ≡ d
depth_read n q d v xs ds has within at read =
    read ∙ get_or_default_zero ds q v within ∙ sym (has q within) ∙ ap (λ o. unwrap_or o 0) at.is

-- the depths of the root alone, and with a box more
pub depths_first : (xs : List SceneBox) (ds : List ℕ) → xs ≡ root ∷ [] → ds ≡ 1 ∷ [] → HasDepths xs ds
depths_first xs ds is one = λ k h.
    let e : k ≡ 0 = omega (arith, rw one at h) in
    rw (is, one, e) (ap (λ o. unwrap_or o 0) (depth_of_new (box_id 0) [] root refl))

pub depths_more : (n : ℕ) (xs : List SceneBox) (ds : List ℕ) (b : SceneBox) (q d : ℕ) → n < 2 ^ 31 → length ds ≡ n → b.id ≡ box_id n
    → b.parent ≡ Some (box_id q) → IsAtDepth (depth_of (box_id q) (reverse xs)) d → HasDepths xs ds → HasDepths (xs ++ b ∷ []) (ds ++ (d + 1) ∷ [])
depths_more n xs ds b q d few len named under at has = λ k h.
    let below_it : depth_below (reverse xs) b.parent ≡ d + 1 = rw (under, at.is) refl in
    let within : k < n + 1 = omega (arith, h, length-append ds ((d + 1) ∷ []), len) in
    below_more (λ k. depth_at (xs ++ b ∷ []) k ≡ get_or (ds ++ (d + 1) ∷ []) k 0) n
    (λ k h. ap (λ o. unwrap_or o 0) (depth_of_other n k xs b (omega arith) (omega (arith, h)) (λ e. omega (arith, e, h)) named)
    ∙ has k (omega (arith, h, len)) ∙ sym (get_or_append_left ds ((d + 1) ∷ []) 0 k (omega (arith, h, len))))
    (ap (λ o. unwrap_or o 0) (depth_of_new (box_id n) xs b named) ∙ below_it
    ∙ sym (ap (λ m. get_or (ds ++ (d + 1) ∷ []) m 0) (sym len) ∙ get_or-append_seam ds (d + 1) [] 0))
    k within
