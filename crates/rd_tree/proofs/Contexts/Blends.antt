-- The walk that looks for a blended box.
use Rattle.std.proofs.Common.{◌≡◌, refl, ap, ◌∙◌, sym, subst, ℕ, zero, suc, ◌+◌, ◌<◌, ◌≤◌, Bool, true, false, not, ◌||◌, cond, arith}
use Rattle.std.specs.Prelude.{Option, Some, None, option_map, unwrap_or}
use Rattle.std.specs.Option.{option_map_or}
use Rattle.rd_geom.specs.declared.blend.Blend.{Blend}
use Rattle.rd_style.specs.declared.styles.StyleChange.{StyleChange}
use Rattle.rd_style.specs.Classes.{blended, is_normal}
use Rattle.rd_keys.specs.Keys.{same_key}
use Rattle.rd_keys.specs.Arena.{Arena}
use Rattle.rd_keys.proofs.Keys.{same_key-sound, same_key-refl}
use Rattle.rd_tree.specs.declared.node.Node as inner
use Rattle.rd_tree.specs.Forest.{empty, tree, top, has, size, starting_at, children, without_siblings, branch, at_box, IsApart}
use Rattle.rd_tree.specs.Internal.Links.{Node, read, child_and_sibling}
use Rattle.rd_tree.specs.Document.{BoxKey, Item, BoxForest}
use Rattle.rd_tree.specs.Changes.{restyle}
use Rattle.rd_tree.specs.Contexts.{any_of}
use Rattle.rd_tree.specs.Internal.Linked.{linked, IsRead, IsTree, seen, seen_from}
use Rattle.rd_tree.specs.Internal.Regrouping.{is_blended_under, names_blended}
use Rattle.rd_tree.proofs.Linking.Standing.{differs}
use Rattle.rd_tree.proofs.Forests.EachBranch.{branch-each, each_none}
use Rattle.rd_tree.proofs.Nodes.Each.{under_box}
use Rattle.rd_tree.proofs.Nodes.Looking.{apart_seen}
use Rattle.rd_tree.proofs.Nodes.Naming.{item_seen}
use Rattle.rd_tree.proofs.Nodes.Works.{Here, here, seen_read}
use Rattle.rd_tree.proofs.Summaries.Within.{not_own}
use Rattle.rd_tree.proofs.Forests.Restoring.{branch_there}

-- Is one of them blended?
abbrev pub any_blended : BoxForest → Bool
any_blended f = any_of (λ d. blended d.style) f

-- From this one on there is a blended box where there is one from the first one on.
pub record Sought (a : Arena inner.Node) (first at : Option BoxKey) : Type 0 where
  pub read : IsRead a at
  pub same : any_blended (seen_from a first) ≡ any_blended (seen_from a at)
  pub smaller : size (seen_from a at) ≤ size (seen_from a first)

-- what a step over one box tells
pub record SoughtStep (a : Arena inner.Node) (first : Option BoxKey) (k : BoxKey) (x z : Option BoxKey) : Type 0 where
  pub read : IsRead a x
  pub smaller : size (seen_from a x) < size (seen_from a first)
  pub later : size (seen_from a z) < size (seen_from a (Some k))
  pub is : any_blended (seen_from a first) ≡ (is_blended_under (linked a k) || any_blended (seen_from a x) || any_blended (seen_from a z))
  pub rest : IsRead a z
  pub fewer : size (seen_from a z) ≤ size (seen_from a first)

pub sought_step : (a : Arena inner.Node) (first : Option BoxKey) (k : BoxKey) (x z : Option BoxKey) → Sought a first (Some k) → (x, z) ≡ child_and_sibling (linked a k)
    → SoughtStep a first k x z
sought_step a first k x z w e =
    let h : Here a k = here a k w.read in
    let ex : x ≡ h.x = ap (λ o. o.0) e ∙ ap (λ o. (child_and_sibling o).0) h.found in
    let ez : z ≡ h.z = ap (λ o. o.1) e ∙ ap (λ o. (child_and_sibling o).1) h.found in
    let low : IsRead a h.x = record {
      boxes = h.below;
      up = Some k;
      prev = None;
      last = h.y;
      stands = h.low;
      apart = h.apart.3;
      small = omega (arith, h.small);
    } in
    let later : IsRead a h.z = record {
      boxes = h.rest;
      up = h.up;
      prev = Some k;
      last = h.last;
      stands = h.later;
      apart = h.apart.4;
      small = omega (arith, h.small);
    } in
    let sl : seen_from a h.x ≡ h.below = seen_read a h.x low in
    let sr : seen_from a h.z ≡ h.rest = seen_read a h.z later in
    let n : size (seen_from a (Some k)) ≡ 1 + (size h.below + size h.rest) = ap size h.seen in
    let m : size (seen_from a h.x) ≡ size h.below = ap size sl in
    let r : size (seen_from a h.z) ≡ size h.rest = ap size sr in
    let own : is_blended_under (linked a k) ≡ blended h.item.style = ap is_blended_under h.found in
    let is : any_blended (seen_from a first) ≡ (blended h.item.style || any_blended h.below || any_blended h.rest) = w.same ∙ ap any_blended h.seen in
    subst (λ o. SoughtStep a first k o z) (sym ex) (subst (λ o. SoughtStep a first k h.x o) (sym ez) (record {
      read = low;
      smaller = omega (arith, n, m, w.smaller);
      later = omega (arith, n, r);
      is = is ∙ sym (λ t. own t || any_blended (sl t) || any_blended (sr t));
      rest = later;
      fewer = omega (arith, n, r, w.smaller);
    }))

pub none_sought : (a : Arena inner.Node) → any_blended (seen_from a None) ≡ false
none_sought a = ap any_blended (nothing a.limit) where
  nothing : (n : ℕ) → read n (linked a) None ≡ empty
  nothing zero = refl
  nothing (suc n) = refl

or_no : (b : Bool) → (b || false) ≡ b
or_no true = refl
or_no false = refl

top-alone : (g : BoxForest) → top g ≡ top (without_siblings g)
top-alone empty = refl
top-alone (tree j d below rest) = refl

-- A branch holds a blended box where its own box is one, or one below it is.
pub branch_blended : (a : Arena inner.Node) (root k : BoxKey) → IsTree a root → has same_key k (seen a root) ≡ true
    → any_blended (branch same_key k (seen a root)) ≡ (is_blended_under (linked a k) || any_blended (seen_from a (child_and_sibling (linked a k)).0))
branch_blended a root k t m =
    let b : (d : Item) × (branch same_key k (seen a root) ≡ tree k d (children same_key k (seen a root)) empty) =
    branch_there same_key same_key-sound same_key-refl k (seen a root) (apart_seen a root t) m in
    let item : option_map (λ n. n.item) (linked a k) ≡ Some b.0 = item_seen a root k t ∙ (top-alone (starting_at same_key k (seen a root)) ∙ ap top b.1) in
    let own : is_blended_under (linked a k) ≡ blended b.0.style = at (linked a k) b.0 item in
    let low : seen_from a (child_and_sibling (linked a k)).0 ≡ children same_key k (seen a root) = (under_box a root k t m).told in
    ap any_blended b.1 ∙ (or_no (blended b.0.style || any_blended (children same_key k (seen a root))) ∙ sym (λ i. own i || any_blended (low i))) where
      at : (o : Option (Node BoxKey Item)) (d : Item) → option_map (λ n. n.item) o ≡ Some d → is_blended_under o ≡ blended d.style
      at None d e = cc (e)
      at (Some n) d e = let q : n.item ≡ d = cc (e) in ap (λ x. blended x.style) q

-- Once the style of a box is changed, its branch holds a blended box where it did before, or where the change names a mode, or both.
pub restyled_blended : (k : BoxKey) (c : StyleChange) (f : BoxForest) → IsApart same_key f → has same_key k f ≡ true
    → (names_blended c || any_blended (branch same_key k f)) ≡ (any_blended (branch same_key k f) || any_blended (branch same_key k (at_box same_key k (restyle c) f)))
restyled_blended k c f a m =
    let low : BoxForest = children same_key k f in
    let b : (d : Item) × (branch same_key k f ≡ tree k d low empty) = branch_there same_key same_key-sound same_key-refl k f a m in
    let still : at_box same_key k (restyle c) low ≡ low = each_none (λ j. same_key j k) (restyle c) same_key same_key-refl low
    (λ j u. differs same_key same_key-sound same_key-refl low j k u (not_own same_key same_key-sound same_key-refl k f a)) in
    let new : branch same_key k (at_box same_key k (restyle c) f) ≡ tree k (restyle c b.0) low empty =
    branch-each (λ j. same_key j k) (restyle c) same_key k f ∙ (ap (at_box same_key k (restyle c)) b.1
    ∙ (λ i. tree k (cond (same_key-refl k i) (restyle c b.0) b.0) (still i) empty)) in
    (λ i. names_blended c || any_blended (b.1 i)) ∙ (named b.0.style.blend (any_blended low) c.blend ∙ sym (λ i. any_blended (b.1 i) || any_blended (new i))) where
      twice : (b : Bool) → b ≡ (b || b)
      twice true = refl
      twice false = refl

      once : (n b l : Bool) → (n || ((b || l) || false)) ≡ (((b || l) || false) || ((n || l) || false))
      once true true l = refl
      once true false true = refl
      once true false false = refl
      once false true l = refl
      once false false true = refl
      once false false false = refl

      named : (m : Blend) (l : Bool) (o : Option Blend) → (option_map_or (λ b. not (is_normal b)) o false || ((not (is_normal m) || l) || false))
          ≡ (((not (is_normal m) || l) || false) || ((not (is_normal (unwrap_or o m)) || l) || false))
      named m l None = twice ((not (is_normal m) || l) || false)
      named m l (Some x) = once (not (is_normal x)) (not (is_normal m)) l
