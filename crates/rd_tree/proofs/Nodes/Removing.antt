-- A tree from which a box is taken with all below it.
use Rattle.std.proofs.Common.{◌≡◌, refl, ap, ◌∙◌, sym, subst, ℕ, Bool, true, false, cond, arith, List, ◌⊎◌, inl, inr}
use Rattle.std.specs.Prelude.{Option, Some, None, is_some, option_map, String}
use Rattle.std.specs.HashMap.{HashMap, get_by_text}
use Rattle.rd_keys.specs.Keys.{same_key}
use Rattle.rd_keys.specs.Arena.{Arena, occupied}
use Rattle.rd_keys.proofs.Keys.{same_key-sound, same_key-refl}
use Rattle.rd_keys.proofs.Calls.{live_occupied}
use Rattle.rd_tree.specs.declared.node.Node as inner
use Rattle.rd_tree.specs.Forest.{empty, tree, keys, has, without_branch, branch}
use Rattle.rd_tree.specs.Internal.Links.{Node, Stands, child_and_sibling, unlinked}
use Rattle.rd_tree.specs.Document.{BoxKey, Item, BoxForest, named, with_all_left}
use Rattle.rd_tree.specs.Internal.Linked.{linked, marks, Relinks, IsTree, IsRead, IsConsistent, IsIndexed, EachFits, item_at, seen, seen_from}
use Rattle.rd_tree.specs.Internal.Frees.{Frees, DropsTexts, topped, branch_at}
use Rattle.rd_tree.proofs.Linking.Standing.{cases, never, refute, frame, agree_at}
use Rattle.rd_tree.proofs.Nodes.Grow.{same_occupied, seen_is}
use Rattle.rd_tree.proofs.Nodes.Naming.{named_there, named_some, named_none, item_with_id}
use Rattle.rd_tree.proofs.Nodes.Works.{seen_read}
use Rattle.rd_tree.proofs.Nodes.Unlinking.{Unlinked, cut_out, items_unlinked}

-- Where the items of some boxes are gone, and all others are as before.
abbrev DropsItems : BoxForest → (BoxKey → Option Item) → (BoxKey → Option Item) → Type 0
DropsItems gone old new = (j : BoxKey) → new j ≡ cond (has same_key j gone) None (old j)

-- what is there is none of those that are gone
kept_item : (gone : BoxForest) (old new : BoxKey → Option Item) (j : BoxKey) (d : Item) → DropsItems gone old new → new j ≡ Some d → (has same_key j gone
    ≡ false) × (old j ≡ Some d)
kept_item gone old new j d less h = at (has same_key j gone) (sym (less j) ∙ h) where
  at : (b : Bool) → cond b None (old j) ≡ Some d → (b ≡ false) × (old j ≡ Some d)
  at true e = cc (e)
  at false e = (refl, e)

fits_dropped : (gone : BoxForest) (old new : BoxKey → Option Item) → DropsItems gone old new → EachFits old → EachFits new
fits_dropped gone old new less h j d e = h j d (kept_item gone old new j d less e).1

-- The index without the ids of the boxes that go, which stand in links.
indexed_dropped : {Y S : Type 0} (at : BoxKey → Option (Node BoxKey Item)) (up prev first last after : Option BoxKey) (gone : BoxForest) (old new : BoxKey
    → Option Item) (ids0 ids1 : HashMap (String Y) BoxKey S) →
    Stands at up prev gone first last after → ((j : BoxKey) → option_map (λ n. n.item) (at j) ≡ old j) → DropsItems gone old new
    → DropsTexts gone ids0 ids1 → IsIndexed old ids0 → IsIndexed new ids1
indexed_dropped at up prev first last after gone old new ids0 ids1 s same less drops x = record {
  named = λ j d e. let t : (has same_key j gone ≡ false) × (old j ≡ Some d) = kept_item gone old new j d less e in named_in j d t.0 t.1 (named d.id gone) refl;
  live = λ i j g. live_in i j (named i gone) refl (sym (drops i) ∙ g);
  are = λ j d e. x.are j d (kept_item gone old new j d less e).1;
} where
  named_in : (j : BoxKey) (d : Item) → has same_key j gone ≡ false → old j ≡ Some d → (o : Option BoxKey) → named d.id gone ≡ o → get_by_text ids1 d.id ≡ Some j
  named_in j d out e None h = drops d.id ∙ rw h (x.named j d e)
  named_in j d out e (Some m) h =
      let i : option_map (λ y. y.id) (old m) ≡ Some d.id = ap (option_map (λ y. y.id)) (sym (same m)) ∙ named_some d.id at up prev gone first last after m
      s h in
      let t : (y : Item) × (old m ≡ Some y) × (y.id ≡ d.id) = item_with_id (old m) d.id i in
      let u : get_by_text ids0 d.id ≡ Some m = subst (λ y. get_by_text ids0 y ≡ Some m) t.2 (x.named m t.0 t.1) in
      let n : m ≡ j = cc (u, x.named j d e) in
      absurd (never (has same_key j gone) (subst (λ y. has same_key y gone ≡ true) n (named_there d.id m gone h)) out)

  live_in : (i : List ℕ) (j : BoxKey) (o : Option BoxKey) → named i gone ≡ o → cond (is_some (named i gone)) None (get_by_text ids0 i) ≡ Some j
      → option_map (λ y. y.id) (new j) ≡ Some i
  live_in i j (Some m) h g = let q : None ≡ Some j = rw h at g in cc (q)
  live_in i j None h g =
      let q : get_by_text ids0 i ≡ Some j = rw h at g in
      let o : option_map (λ y. y.id) (old j) ≡ Some i = x.live i j q in
      let out : has same_key j gone ≡ false = refute (has same_key j gone) (λ m. named_none i at up prev gone first last after j s h m (ap (option_map
      (λ y. y.id)) (same j) ∙ o)) in
      ap (option_map (λ y. y.id)) (less j) ∙ rw out o

-- What a box that was cut out has below it.
pub record Ready (a1 : Arena inner.Node) (k : BoxKey) (gone : BoxForest) : Type 0 where
  pub read : IsRead a1 (child_and_sibling (linked a1 k)).0
  pub out : has same_key k (seen_from a1 (child_and_sibling (linked a1 k)).0) ≡ false
  pub told : branch_at a1 k ≡ gone

pub ready : (a0 a1 : Arena inner.Node) (root k : BoxKey) → IsTree a0 root → has same_key k (seen a0 root) ≡ true → same_key k root ≡ false → Relinks a0 a1
    (unlinked same_key k (linked a0)) → Ready a1 k (branch same_key k (seen a0 root))
ready a0 a1 root k t m off r =
    let u : Unlinked a0 a1 root k (seen a0 root) = cut_out a0 a1 root k t m off r in
    let read : IsRead a1 u.node.first = record {
      boxes = u.below;
      up = Some k;
      prev = None;
      last = u.node.last;
      stands = u.low;
      apart = u.branch_apart.3;
      small = omega (arith, u.counted, live_occupied a0, t.most, r.limit);
    } in
    let below : seen_from a1 u.node.first ≡ u.below = seen_read a1 u.node.first read in
    let first : (child_and_sibling (linked a1 k)).0 ≡ u.node.first = ap (λ o. (child_and_sibling o).0) u.found in
    record {
      read = subst (λ o. IsRead a1 o) (sym first) read;
      out = ap (λ o. has same_key k (seen_from a1 o)) first ∙ (ap (has same_key k) below ∙ u.branch_apart.0);
      told = ap (λ o. topped k o (seen_from a1 (child_and_sibling o).0)) u.found ∙ (ap (λ f. tree k u.node.item f empty) below ∙ sym u.is);
    }

-- A box was cut out, and then it went with all below it.
pub removed : {Y S : Type 0} (a0 a1 a2 : Arena inner.Node) (root k : BoxKey) (ids0 ids1 : HashMap (String Y) BoxKey S) →
    IsConsistent a0 root ids0 → has same_key k (seen a0 root) ≡ true → same_key k root ≡ false → Relinks a0 a1 (unlinked same_key k (linked a0))
    → Frees a1 a2 (branch_at a1 k) → DropsTexts (branch_at a1 k) ids0 ids1 →
    IsConsistent a2 root ids1 × (seen a2 root ≡ without_branch same_key k (seen a0 root)) × (marks a2 ≡ with_all_left (marks a0) (keys (branch same_key k
    (seen a0 root))))
removed a0 a1 a2 root k ids0 ids1 s m off r1 r2 drops =
    let u : Unlinked a0 a1 root k (seen a0 root) = cut_out a0 a1 root k s.tree m off r1 in
    let told : branch_at a1 k ≡ branch same_key k (seen a0 root) = (ready a0 a1 root k s.tree m off r1).told in
    let gone : BoxForest = tree k u.node.item u.below empty in
    let g : BoxForest = without_branch same_key k (seen a0 root) in
    let frees : Frees a1 a2 gone = subst (λ f. Frees a1 a2 f) (told ∙ u.is) r2 in
    let texts : DropsTexts gone ids0 ids1 = subst (λ f. DropsTexts f ids0 ids1) (told ∙ u.is) drops in
    let kept : (j : BoxKey) → has same_key j g ≡ true → linked a2 j ≡ linked a1 j = λ j i. let o : has same_key j gone ≡ false = u.between j i
    in frees.links j ∙ rw o refl in
    let inside : (j : BoxKey) → is_some (linked a2 j) ≡ true → has same_key j g ≡ true = λ j i. at g gone (linked a1 j) j (u.inside j) (subst (λ o. is_some
    o ≡ true) (frees.links j) i) in
    let less : DropsItems gone (item_at a0) (item_at a2) = λ j. ap (option_map (λ n. n.item)) (frees.links j) ∙ (pushed (has same_key j gone) (linked a1 j)
    ∙ ap (cond (has same_key j gone) None) (items_unlinked a0 a1 k r1 j)) in
    let occupied_is : occupied a1 ≡ occupied a0 = same_occupied a0 a1 r1.same_slots in
    let t2 : IsTree a2 root = record {
      boxes = g;
      is = record {
        stands = frame (linked a1) (linked a2) None None g (Some root) (Some root) None (agree_at same_key same_key-sound same_key-refl (linked a1)
            (linked a2) g kept) u.stands;
        apart = u.apart;
        inside = inside;
        counted = omega (arith, u.counted, frees.counted, r1.same_live);
      };
      most = omega (arith, frees.most, occupied_is, s.tree.most, frees.limit, r1.limit);
    } in (
      record {
        tree = t2;
        indexed = indexed_dropped (linked a1) u.node.up u.node.prev (Some k) (Some k) u.node.next gone (item_at a0) (item_at a2) ids0 ids1
            (u.node.first, u.node.last, u.node.next, refl, u.found, u.low, (refl, refl)) (items_unlinked a0 a1 k r1) less texts s.indexed;
        fits = fits_dropped gone (item_at a0) (item_at a2) less s.fits;
        limit = frees.limit ∙ (r1.limit ∙ s.limit);
        first = frees.first ∙ (r1.first ∙ s.first);
      },
      seen_is a2 root t2,
      frees.slots ∙ (ap (λ l. with_all_left l (keys gone)) r1.same_slots ∙ ap (λ f. with_all_left (marks a0) (keys f)) (sym u.is)),
    ) where
      at : (g gone : BoxForest) (o : Option (Node BoxKey Item)) (j : BoxKey) → (is_some o ≡ true → (has same_key j g ≡ true) ⊎ (has same_key j gone
          ≡ true)) → is_some (cond (has same_key j gone) None o) ≡ true → has same_key j g ≡ true
      at g gone o j in_one i = elim (cases (has same_key j gone)) [
        | inl e ↦ let n : false ≡ true = rw e at i in cc (n)
        | inr e ↦ elim (in_one (rw e at i)) [ inl v ↦ v | inr v ↦ absurd (never (has same_key j gone) v e) ]
      ]

      pushed : (b : Bool) (o : Option (Node BoxKey Item)) → option_map (λ n. n.item) (cond b None o) ≡ cond b None (option_map (λ n. n.item) o)
      pushed true o = refl
      pushed false o = refl
