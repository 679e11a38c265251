-- The hull of some siblings, one after the other.
use Rattle.std.proofs.Common.{◌≡◌, refl, ap, ◌∙◌, sym, subst, ℕ, zero, suc, ◌+◌, ◌<◌, ◌||◌, List, length, arith}
use Rattle.std.specs.Prelude.{Option, Some, None}
use Rattle.rd_geom.specs.Plane.{Rectangle, hull_of, no_pixels}
use Rattle.rd_geom.proofs.Hulls.{normal, normal_hull, hull_assoc, hull_none, none_hull}
use Rattle.rd_keys.specs.Keys.{same_key}
use Rattle.rd_keys.specs.Arena.{Arena}
use Rattle.rd_keys.proofs.Keys.{same_key-refl}
use Rattle.rd_tree.specs.declared.node.Node as inner
use Rattle.rd_tree.specs.declared.table.row.Summary.{Summary}
use Rattle.rd_tree.specs.Forest.{empty, tree, size, has}
use Rattle.rd_tree.specs.Internal.Links.{read, child_and_sibling}
use Rattle.rd_tree.specs.Document.{BoxKey, BoxForest}
use Rattle.rd_tree.specs.Internal.Linked.{linked, IsRead, seen_from}
use Rattle.rd_tree.specs.Internal.Summaries.{summary_at}
use Rattle.rd_tree.specs.Internal.Rows.{HasRows, hulls_by}
use Rattle.rd_tree.proofs.Linking.Standing.{from_left, from_right}
use Rattle.rd_tree.proofs.Nodes.Works.{Here, here, seen_read}

-- The loop has the hull of those siblings that are told from the first one on, and no more from this one on.
pub record Joined (rows : List Summary) (a : Arena inner.Node) (first at : Option BoxKey) (all : Rectangle) : Type 0 where
  pub read : IsRead a at
  pub sum : hull_of all (hulls_by rows (seen_from a at)) ≡ hulls_by rows (seen_from a first)
  pub hull : normal all ≡ all
  pub has_rows : HasRows rows (seen_from a at)

hulls_normal : (rows : List Summary) (f : BoxForest) → normal (hulls_by rows f) ≡ hulls_by rows f
hulls_normal rows empty = refl
hulls_normal rows (tree k d below rest) = normal_hull (summary_at rows k).hull (hulls_by rows rest)

pub joined_begun : (rows : List Summary) (a : Arena inner.Node) (first : Option BoxKey) → IsRead a first → HasRows rows (seen_from a first)
    → Joined rows a first first no_pixels
joined_begun rows a first r h = record {
  read = r;
  sum = none_hull (hulls_by rows (seen_from a first)) ∙ hulls_normal rows (seen_from a first);
  hull =
      refl;
  has_rows = h;
}

pub nothing_seen : (a : Arena inner.Node) → seen_from a None ≡ empty
nothing_seen a = nothing a.limit where
  nothing : (n : ℕ) → read n (linked a) None ≡ empty
  nothing zero = refl
  nothing (suc n) = refl

pub joined_ended : (rows : List Summary) (a : Arena inner.Node) (first : Option BoxKey) (all : Rectangle) → Joined rows a first None all → all
    ≡ hulls_by rows (seen_from a first)
joined_ended rows a first all w = sym w.hull ∙ (sym (hull_none all) ∙ (ap (λ f. hull_of all (hulls_by rows f)) (sym (nothing_seen a)) ∙ w.sum))

pub joined_here : (rows : List Summary) (a : Arena inner.Node) (first : Option BoxKey) (k : BoxKey) (all : Rectangle) → Joined rows a first (Some k) all
    → k.slot < length rows
joined_here rows a first k all w =
    let h : Here a k = here a k w.read in
    w.has_rows k (ap (has same_key k) h.seen ∙ from_left (same_key k k) (has same_key k h.below || has same_key k h.rest) (same_key-refl k))

pub joined_next : (rows : List Summary) (a : Arena inner.Node) (first : Option BoxKey) (k : BoxKey) (all : Rectangle) → Joined rows a first (Some k) all
    → (z : Option BoxKey) → z ≡ (child_and_sibling (linked a k)).1 →
    (j : Joined rows a first z (hull_of all (summary_at rows k).hull)) × (size (seen_from a z) < size (seen_from a (Some k)))
joined_next rows a first k all w z e =
    let h : Here a k = here a k w.read in
    let ez : z ≡ h.z = e ∙ ap (λ o. (child_and_sibling o).1) h.found in
    let later : IsRead a h.z = record {
      boxes = h.rest;
      up = h.up;
      prev = Some k;
      last = h.last;
      stands = h.later;
      apart = h.apart.4;
      small = omega
          (arith, h.small);
    } in
    let sr : seen_from a h.z ≡ h.rest = seen_read a h.z later in
    let n : size (seen_from a (Some k)) ≡ 1 + (size h.below + size h.rest) = ap size h.seen in
    let r : size (seen_from a h.z) ≡ size h.rest = ap size sr in
    subst (λ o. (j : Joined rows a first o (hull_of all (summary_at rows k).hull)) × (size (seen_from a o) < size (seen_from a (Some k)))) (sym ez) (
      record {
        read = later;
        sum = ap (λ f. hull_of (hull_of all (summary_at rows k).hull) (hulls_by rows f)) sr ∙ (hull_assoc all (summary_at rows k).hull (hulls_by rows
            h.rest) ∙ (ap (λ f. hull_of all (hulls_by rows f)) (sym h.seen) ∙ w.sum));
        hull = normal_hull all (summary_at rows k).hull;
        has_rows = λ j u. w.has_rows j (ap (has same_key j) h.seen ∙ from_right (same_key j k) (has same_key j h.below || has same_key j h.rest)
            (from_right (has same_key j h.below) (has same_key j h.rest) (sym (ap (has same_key j) sr) ∙ u)));
      },
      omega (arith, n, r),
    )
