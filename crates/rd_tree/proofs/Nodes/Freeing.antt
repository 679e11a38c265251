-- Boxes go, one after the other.
use Rattle.std.proofs.Common.{◌≡◌, refl, ap, ◌∙◌, sym, subst, ℕ, zero, suc, ◌+◌, ◌<◌, ◌≤◌, ◌==◌, Bool, true, false, ◌||◌, cond, arith, List, [], ◌∷◌, ◌++◌, ◌⊎◌, inl, inr}
use Rattle.std.specs.Prelude.{Option, Some, None, is_some, option_map, slice_set, String}
use Rattle.std.specs.HashMap.{HashMap, get_by_text, UpdatesBy}
use Rattle.std.specs.String.{string_bytes, string_eq}
use Rattle.std.specs.Str.{bytes_eq}
use Rattle.std.proofs.lemmas.List.{map-set, append_assoc, append-nil}
use Rattle.std.proofs.lemmas.Map.Text.{hash_map_updates_text}
use Rattle.rd_keys.specs.Keys.{same_key}
use Rattle.rd_keys.specs.Arena.{Arena, value, without_value, left}
use Rattle.rd_keys.proofs.Keys.{same_key-sound, same_key-refl}
use Rattle.rd_keys.proofs.Calls.{value-without, value-gone, live-without, occupied-without}
use Rattle.rd_tree.specs.declared.node.Node as inner
use Rattle.rd_tree.specs.Forest.{Forest, empty, tree, keys, size, ◌▷◌, has, AreApart, IsApart}
use Rattle.rd_tree.specs.Internal.Links.{Node, Stands, read, child_and_sibling}
use Rattle.rd_tree.specs.Document.{BoxKey, Item, BoxForest, Slot, or_else, named, with_left, with_all_left}
use Rattle.rd_tree.specs.Internal.Linked.{plain, linked, mark_of, marks, IsRead, seen_from}
use Rattle.rd_tree.specs.Internal.Frees.{Frees, DropsTexts, topped, branch_at}
use Rattle.rd_tree.proofs.Linking.Standing.{cases, never, frame, agree_at, differs, apart_back, has-join, join-empty}
use Rattle.rd_tree.proofs.Forests.Under.{size-join}
use Rattle.rd_tree.proofs.Nodes.Works.{Here, here, seen_read}

module _ {K D : Type 0} where
  -- siblings after siblings after siblings
  join_assoc : (f g h : Forest K D) → (f ▷ g) ▷ h ≡ f ▷ (g ▷ h)
  join_assoc empty g h = refl
  join_assoc (tree k d below rest) g h = ap (tree k d below) (join_assoc rest g h)

  keys-join : (f g : Forest K D) → keys (f ▷ g) ≡ keys f ++ keys g
  keys-join empty g = refl
  keys-join (tree k d below rest) g =
      ap (λ l. k ∷ l) (ap (λ l. keys below ++ l) (keys-join rest g) ∙ sym (append_assoc (keys below) (keys rest) (keys g)))

-- Nothing is read from no key on.
read-none : (n : ℕ) (at : BoxKey → Option (Node BoxKey Item)) → read n at None ≡ empty
read-none zero at = refl
read-none (suc n) at = refl

left_append : (m : List Slot) (ks ls : List BoxKey) → with_all_left m (ks ++ ls) ≡ with_all_left (with_all_left m ks) ls
left_append m [] ls = refl
left_append m (k ∷ ks) ls = left_append (with_left m k) ks ls

-- the box with an id, among siblings after siblings
or_either : (a b : Option BoxKey) → is_some (or_else a b) ≡ (is_some a || is_some b)
or_either None b = refl
or_either (Some k) b = refl

named_tree : (i : List ℕ) (k : BoxKey) (d : Item) (below rest : BoxForest) → is_some (named i (tree k d below rest)) ≡ (bytes_eq d.id i || (is_some
    (named i below) || is_some (named i rest)))
named_tree i k d below rest = at (bytes_eq d.id i) where
  at : (b : Bool) → is_some (cond b (Some k) (or_else (named i below) (named i rest))) ≡ (b || (is_some (named i below) || is_some (named i rest)))
  at true = refl
  at false = or_either (named i below) (named i rest)

named-join : (i : List ℕ) (f g : BoxForest) → is_some (named i (f ▷ g)) ≡ (is_some (named i f) || is_some (named i g))
named-join i empty g = refl
named-join i (tree k d below rest) g =
    named_tree i k d below (rest ▷ g) ∙ (ap (λ b. bytes_eq d.id i || (is_some (named i below) || b)) (named-join i rest g)
    ∙ (grouped (bytes_eq d.id i) (is_some (named i below)) (is_some (named i rest)) (is_some (named i g)) ∙ ap (λ b. b || is_some (named i g)) (sym
    (named_tree i k d below rest)))) where
      grouped : (a b c d : Bool) → (a || (b || (c || d))) ≡ ((a || (b || c)) || d)
      grouped true b c d = refl
      grouped false true c d = refl
      grouped false false c d = refl

-- what is left of a slot whose key dies
mark-left : (g : ℕ) → mark_of (left g) ≡ cond (g == 4294967295) (record { generation = g; taken = true }) (record { generation = g + 1; taken = false })
mark-left g = at (g == 4294967295) where
  at : (b : Bool) → mark_of (cond b (record { generation = g; holds = None; retired = true }) (record {
    generation = g + 1;
    holds = None;
    retired = false;
  })) ≡ cond b (record { generation = g; taken = true }) (record { generation = g + 1; taken = false })
  at true = refl
  at false = refl

marks-without_branch : (a : Arena inner.Node) (k : BoxKey) → marks (without_value a k.slot k.generation) ≡ with_left (marks a) k
marks-without_branch a k = map-set mark_of a.slots k.slot (left k.generation) ∙ ap (slice_set (marks a) k.slot) (mark-left k.generation)

-- A box goes whose key is live.
gone_one : (a : Arena inner.Node) (k : BoxKey) (x : inner.Node) → value a k.slot k.generation ≡ Some x → Frees a (without_value a k.slot k.generation)
    (tree k x.item empty empty)
gone_one a k x v = record {
  links = λ j. at j (cases (same_key j k));
  slots = marks-without_branch a k;
  counted = omega (arith, live-without a k.slot k.generation x v);
  most = occupied-without a k.slot k.generation x v;
  limit = refl;
  first = refl;
} where
  at : (j : BoxKey) → (same_key j k ≡ true) ⊎ (same_key j k ≡ false) → linked (without_value a k.slot k.generation) j ≡ cond (same_key j k ||
      (false || false)) None (linked a j)
  at j (inl e) = rw e (ap (option_map plain) (ap (λ i. value (without_value a k.slot k.generation) i.slot i.generation) (same_key-sound j k e)
      ∙ value-gone a k.slot k.generation x v))
  at j (inr e) = rw e (ap (option_map plain) (value-without a k.slot k.generation x v j.slot j.generation (λ p. never (same_key j k) (rw (p.0, p.1)
      (same_key-refl k)) e)))

-- The same, as the code knows it.
pub freed_one : (a b : Arena inner.Node) (k : BoxKey) (x : inner.Node) → Some x ≡ value a k.slot k.generation → b ≡ without_value a k.slot k.generation
    → Frees a b (topped k (linked a k) empty)
freed_one a b k x v e =
    let l : linked a k ≡ Some (plain x) = ap (option_map plain) (sym v) in
    subst (λ o. Frees a b (topped k o empty)) (sym l) (subst (λ c. Frees a c (tree k x.item empty empty)) (sym e) (gone_one a k x (sym v)))

-- What a removal from the index does.
pub dropped_one : {Y S : Type 0} (a : Arena inner.Node) (k : BoxKey) (x : inner.Node) (i : List ℕ) (ids0 ids1 : HashMap (String Y) BoxKey S) →
    Some x ≡ value a k.slot k.generation → i ≡ x.item.id → UpdatesBy string_eq (λ s. bytes_eq i (string_bytes s)) ids0 ids1 None → DropsTexts (topped k
    (linked a k) empty) ids0 ids1
dropped_one a k x i ids0 ids1 v e u =
    let l : linked a k ≡ Some (plain x) = ap (option_map plain) (sym v) in
    subst (λ o. DropsTexts (topped k o empty) ids0 ids1) (sym l) (λ j.
    hash_map_updates_text i ids0 ids1 None u j ∙ (ap (λ b. cond (bytes_eq b j) None (get_by_text ids0 j)) e ∙ ap (λ b. cond b None (get_by_text ids0 j))
    (sym (named_tree j k x.item empty empty ∙ no_more (bytes_eq x.item.id j))))) where
      no_more : (b : Bool) → (b || (false || false)) ≡ b
      no_more true = refl
      no_more false = refl

twice : {A : Type 0} (b c : Bool) (n o : A) → cond c n (cond b n o) ≡ cond (b || c) n o
twice true true n o = refl
twice true false n o = refl
twice false c n o = refl

-- Where some boxes go and then others, all of them go.
gone_both : (a b c : Arena inner.Node) (f g h : BoxForest) → ((j : BoxKey) → has same_key j h ≡ (has same_key j f || has same_key j g)) → keys h
    ≡ keys f ++ keys g → size h ≡ size f + size g → Frees a b f → Frees b c g → Frees a c h
gone_both a b c f g h holds ks n r s = record {
  links = λ j. s.links j ∙ (ap (λ o. cond (has same_key j g) None o) (r.links j) ∙ (twice (has same_key j f) (has same_key j g) None (linked a j)
      ∙ ap (λ t. cond t None (linked a j)) (sym (holds j))));
  slots = s.slots ∙ (ap (λ m. with_all_left m (keys g)) r.slots ∙ (sym (left_append (marks a) (keys f) (keys g)) ∙ ap (with_all_left (marks a)) (sym ks)));
  counted = omega (arith, r.counted, s.counted, n);
  most = omega (arith, r.most, s.most);
  limit = s.limit ∙ r.limit;
  first = s.first ∙ r.first;
}

drop_both : {Y S : Type 0} (f g h : BoxForest) (ids0 ids1 ids2 : HashMap (String Y) BoxKey S) → ((i : List ℕ) → is_some (named i h)
    ≡ (is_some (named i f) || is_some (named i g))) → DropsTexts f ids0 ids1 → DropsTexts g ids1 ids2 → DropsTexts h ids0 ids2
drop_both f g h ids0 ids1 ids2 holds r s i =
    s i ∙ (ap (λ o. cond (is_some (named i g)) None o) (r i) ∙ (twice (is_some (named i f)) (is_some (named i g)) None (get_by_text ids0 i)
    ∙ ap (λ t. cond t None (get_by_text ids0 i)) (sym (holds i))))

-- siblings, and then later ones
gone_join : (a b c : Arena inner.Node) (f g : BoxForest) → Frees a b f → Frees b c g → Frees a c (f ▷ g)
gone_join a b c f g = gone_both a b c f g (f ▷ g) (λ j. has-join same_key same_key-sound same_key-refl j f g) (keys-join f g) (size-join f g)

drop_join : {Y S : Type 0} (f g : BoxForest) (ids0 ids1 ids2 : HashMap (String Y) BoxKey S) → DropsTexts f ids0 ids1 → DropsTexts g ids1 ids2 → DropsTexts
    (f ▷ g) ids0 ids2
drop_join f g ids0 ids1 ids2 = drop_both f g (f ▷ g) ids0 ids1 ids2 (λ i. named-join i f g)

-- a box, and then those below it
module _ (k : BoxKey) (d : Item) (low : BoxForest) where
  regroup : (b c : Bool) → (b || (c || false)) ≡ ((b || (false || false)) || c)
  regroup true c = refl
  regroup false true = refl
  regroup false false = refl

  gone_below : (a b c : Arena inner.Node) → Frees a b (tree k d empty empty) → Frees b c low → Frees a c (tree k d low empty)
  gone_below a b c = gone_both a b c (tree k d empty empty) low (tree k d low empty) (λ j. regroup (same_key j k) (has same_key j low)) (ap (λ l. k ∷ l)
      (append-nil (keys low))) (omega arith)

  drop_below : {Y S : Type 0} (ids0 ids1 ids2 : HashMap (String Y) BoxKey S) → DropsTexts (tree k d empty empty) ids0 ids1 → DropsTexts low ids1 ids2
      → DropsTexts (tree k d low empty) ids0 ids2
  drop_below ids0 ids1 ids2 = drop_both (tree k d empty empty) low (tree k d low empty) ids0 ids1 ids2
      (λ i. named_tree i k d low empty ∙ (regroup (bytes_eq d.id i) (is_some (named i low)) ∙ ap (λ b. b || is_some (named i low)) (sym (named_tree i k d
      empty empty))))

-- Boxes that are apart from those that go are told as before.
still_read : (a b : Arena inner.Node) (gone f : BoxForest) (up prev first last : Option BoxKey) → Frees a b gone → AreApart same_key f gone
    → IsApart same_key f → size f ≤ a.limit → Stands (linked a) up prev f first last None →
    (r : IsRead b first) × (seen_from b first ≡ f)
still_read a b gone f up prev first last r away apart small s =
    let t : IsRead b first = record {
      boxes = f;
      up = up;
      prev = prev;
      last = last;
      stands = frame (linked a) (linked b) up prev f first last None (agree_at same_key same_key-sound same_key-refl (linked a) (linked b) f (λ j m. let e
          : has same_key j gone ≡ false = away j m in r.links j ∙ rw e refl)) s;
      apart = apart;
      small = omega (arith, small, r.limit);
    } in
    (t, seen_read b first t)

-- The loop has freed some siblings, and those that are told from here on are all the others.
pub record Freed {Y S : Type 0} (a0 : Arena inner.Node) (first : Option BoxKey) (ids0 : HashMap (String Y) BoxKey S) (a : Arena inner.Node) (ids : HashMap
    (String Y) BoxKey S) (at : Option BoxKey) : Type 0 where
  pub gone : BoxForest
  pub freed : Frees a0 a gone
  pub dropped : DropsTexts gone ids0 ids
  pub whole : gone ▷ seen_from a at ≡ seen_from a0 first
  pub read : IsRead a at

pub ended : {Y S : Type 0} (a0 a : Arena inner.Node) (first : Option BoxKey) (ids0 ids : HashMap (String Y) BoxKey S) (at : Option BoxKey)
    → Freed a0 first ids0 a ids at → at ≡ None → Frees a0 a (seen_from a0 first) × DropsTexts (seen_from a0 first) ids0 ids
ended a0 a first ids0 ids at w0 is =
    let w : Freed a0 first ids0 a ids None = subst (λ q. Freed a0 first ids0 a ids q) is w0 in
    let e : w.gone ≡ seen_from a0 first = sym (join-empty w.gone) ∙ (ap (λ f. w.gone ▷ f) (sym (read-none a.limit (linked a))) ∙ w.whole) in
    (subst (λ f. Frees a0 a f) e w.freed, subst (λ f. DropsTexts f ids0 ids) e w.dropped)

-- What is known after one box went: of those below it, and once they went too.
pub record FreedStep {Y S : Type 0} (a0 : Arena inner.Node) (first : Option BoxKey) (ids0 : HashMap (String Y) BoxKey S) (a a1 : Arena inner.Node)
    (ids1 : HashMap (String Y) BoxKey S) (at x z : Option BoxKey) : Type 0 where
  pub read : IsRead a1 x
  pub smaller : size (seen_from a1 x) < size (seen_from a0 first)
  pub next : (a2 : Arena inner.Node) (ids2 : HashMap (String Y) BoxKey S) → Frees a1 a2 (seen_from a1 x) → DropsTexts (seen_from a1 x) ids1 ids2
      → Freed a0 first ids0 a2 ids2 z × (size (seen_from a2 z) < size (seen_from a at))

pub freed_step : {Y S : Type 0} (a0 a a1 : Arena inner.Node) (first : Option BoxKey) (ids0 ids ids1 : HashMap (String Y) BoxKey S) (at : Option BoxKey)
    (k : BoxKey) (o : Option BoxKey × Option BoxKey) → Freed a0 first ids0 a ids at → at ≡ Some k →
    Frees a a1 (topped k (linked a k) empty) → DropsTexts (topped k (linked a k) empty) ids ids1 → o ≡ child_and_sibling (linked a k)
    → FreedStep a0 first ids0 a a1 ids1 at o.0 o.1
freed_step a0 a a1 first ids0 ids ids1 at k o w0 is r1 t1 e =
    let w : Freed a0 first ids0 a ids (Some k) = subst (λ q. Freed a0 first ids0 a ids q) is w0 in
    let h : Here a k = here a k w.read in
    let both : o ≡ (h.x, h.z) = e ∙ ap child_and_sibling h.found in
    let one : Frees a a1 (tree k h.item empty empty) = subst (λ q. Frees a a1 (topped k q empty)) h.found r1 in
    let text : DropsTexts (tree k h.item empty empty) ids ids1 = subst (λ q. DropsTexts (topped k q empty) ids ids1) h.found t1 in
    let away : AreApart same_key h.below (tree k h.item empty empty) = λ j m. let n : same_key j k ≡ false = differs same_key same_key-sound same_key-refl
    h.below j k m h.apart.0 in rw n refl in
    let low : (r : IsRead a1 h.x) × (seen_from a1 h.x ≡ h.below) = still_read a a1 (tree k h.item empty empty) h.below (Some k) None h.x h.y one away
    h.apart.3 (omega (arith, h.small)) h.low in
    let part : BoxForest = tree k h.item h.below empty in
    let whole : (w.gone ▷ part) ▷ h.rest ≡ seen_from a0 first = join_assoc w.gone part h.rest ∙ (ap (λ f. w.gone ▷ f) (sym h.seen) ∙ w.whole) in
    let all : size (seen_from a0 first) ≡ size w.gone + size (seen_from a (Some k)) = ap size (sym w.whole) ∙ size-join w.gone (seen_from a (Some k)) in
    let n : size (seen_from a (Some k)) ≡ 1 + (size h.below + size h.rest) = ap size h.seen in
    let m : size (seen_from a1 h.x) ≡ size h.below = ap size low.1 in
    subst (λ q. FreedStep a0 first ids0 a a1 ids1 q o.0 o.1) (sym is) (subst (λ q. FreedStep a0 first ids0 a a1 ids1 (Some k) q.0 q.1) (sym both) (record {
      read = low.0;
      smaller = omega (arith, n, m, all);
      next = λ a2 ids2 r2 t2.
          let two : Frees a1 a2 h.below = subst (λ f. Frees a1 a2 f) low.1 r2 in
          let texts : DropsTexts h.below ids1 ids2 = subst (λ f. DropsTexts f ids1 ids2) low.1 t2 in
          let r : Frees a a2 part = gone_below k h.item h.below a a1 a2 one two in
          let t : DropsTexts part ids ids2 = drop_below k h.item h.below ids ids1 ids2 text texts in
          let off : AreApart same_key h.rest part = λ j u.
          let p : same_key j k ≡ false = differs same_key same_key-sound same_key-refl h.rest j k u h.apart.1 in
          let q : has same_key j h.below ≡ false = apart_back same_key same_key-sound same_key-refl h.below h.rest h.apart.2 j u in
          rw (p, q) refl in
          let later : (r : IsRead a2 h.z) × (seen_from a2 h.z ≡ h.rest) = still_read a a2 part h.rest h.up (Some k) h.z h.last r off h.apart.4 (omega
          (arith, h.small)) h.later in
          let v : size (seen_from a2 h.z) ≡ size h.rest = ap size later.1 in (
            record {
              gone = w.gone ▷ part;
              freed = gone_join a0 a a2 w.gone part w.freed r;
              dropped = drop_join w.gone part ids0 ids ids2 w.dropped t;
              whole = ap (λ f. (w.gone ▷ part) ▷ f) later.1 ∙ whole;
              read = later.0;
            },
            omega (arith, v, n),
          );
    }))

-- A box goes, and then all below it.
module _ (a a1 : Arena inner.Node) (k : BoxKey) (o : Option BoxKey × Option BoxKey) (e : o ≡ child_and_sibling (linked a k)) where
  abbrev low : BoxForest
  low = seen_from a (child_and_sibling (linked a k)).0

  pub below_read : Frees a a1 (topped k (linked a k) empty) → IsRead a (child_and_sibling (linked a k)).0 → has same_key k low ≡ false
      → (r : IsRead a1 o.0) × (seen_from a1 o.0 ≡ low)
  below_read freed r out =
      let told : low ≡ r.boxes = seen_read a (child_and_sibling (linked a k)).0 r in
      let off : has same_key k r.boxes ≡ false = sym (ap (has same_key k) told) ∙ out in
      let away : AreApart same_key r.boxes (topped k (linked a k) empty) = λ j m. topped_out (linked a k) j (differs same_key same_key-sound same_key-refl
      r.boxes j k m off) in
      let t : (s : IsRead a1 (child_and_sibling (linked a k)).0) × (seen_from a1 (child_and_sibling (linked a k)).0 ≡ r.boxes) =
      still_read a a1 (topped k (linked a k) empty) r.boxes r.up r.prev (child_and_sibling (linked a k)).0 r.last freed away r.apart r.small r.stands in
      subst (λ q. (s : IsRead a1 q.0) × (seen_from a1 q.0 ≡ low)) (sym e) (t.0, t.1 ∙ sym told) where
        topped_out : (q : Option (Node BoxKey Item)) (j : BoxKey) → same_key j k ≡ false → has same_key j (topped k q empty) ≡ false
        topped_out None j h = refl
        topped_out (Some n) j h = rw h refl

  nothing_below : linked a k ≡ None → low ≡ empty
  nothing_below n = ap (λ q. seen_from a (child_and_sibling q).0) n ∙ read-none a.limit (linked a)

  pub branch_freed : (a2 : Arena inner.Node) → Frees a a1 (topped k (linked a k) empty) → IsRead a (child_and_sibling (linked a k)).0 → has same_key k low
      ≡ false → Frees a1 a2 (seen_from a1 o.0) → Frees a a2 (branch_at a k)
  branch_freed a2 freed r out rest = at (linked a k) nothing_below freed where
    later : Frees a1 a2 low
    later = subst (λ f. Frees a1 a2 f) (below_read freed r out).1 rest

    at : (q : Option (Node BoxKey Item)) → (q ≡ None → low ≡ empty) → Frees a a1 (topped k q empty) → Frees a a2 (topped k q low)
    at None n f = subst (λ g. Frees a a2 g) (n refl) (gone_join a a1 a2 empty low f later)
    at (Some x) n f = gone_below k x.item low a a1 a2 f later

  pub branch_dropped : {Y S : Type 0} (ids0 ids1 ids2 : HashMap (String Y) BoxKey S) → Frees a a1 (topped k (linked a k) empty)
      → IsRead a (child_and_sibling (linked a k)).0 → has same_key k low ≡ false →
      DropsTexts (topped k (linked a k) empty) ids0 ids1 → DropsTexts (seen_from a1 o.0) ids1 ids2 → DropsTexts (branch_at a k) ids0 ids2
  branch_dropped ids0 ids1 ids2 freed r out text rest = at (linked a k) nothing_below text where
    later : DropsTexts low ids1 ids2
    later = subst (λ f. DropsTexts f ids1 ids2) (below_read freed r out).1 rest

    at : (q : Option (Node BoxKey Item)) → (q ≡ None → low ≡ empty) → DropsTexts (topped k q empty) ids0 ids1 → DropsTexts (topped k q low) ids0 ids2
    at None n f = subst (λ g. DropsTexts g ids0 ids2) (n refl) (drop_join empty low ids0 ids1 ids2 f later)
    at (Some x) n f = drop_below k x.item low ids0 ids1 ids2 f later
