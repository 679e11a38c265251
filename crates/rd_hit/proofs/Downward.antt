-- The hit of a list with another on top.
use Rattle.std.specs.Prelude.{option_map, filter}
use Rattle.std.proofs.Common.{◌≡◌, refl, ◌∙◌, sym, ap, subst, ℤ, ℕ, ◌+◌, ◌-◌, ◌≤◌, arith, ◌++◌, ◌<◌, Bool, true, false, not, ◌&&◌, cond, List, [], ◌∷◌, length, take, drop, get_or, Option, Some, None}
use Rattle.std.proofs.lemmas.List.{take-append-drop, drop-drop}
use Rattle.std.specs.Option.{is_some}
use Rattle.rd_geom.specs.Plane.{Rectangle, IsWithin, holds_pixel}
use Rattle.rd_keys.specs.Keys.{BoxKey}
use Rattle.rd_item.specs.declared.leaf.Leaf as item
use Rattle.rd_list.specs.declared.kept.Entry.{Entry}
use Rattle.rd_list.specs.Wrappers.{Wrapper}
use Rattle.rd_list.specs.Displayed.{shown}
use Rattle.rd_list.specs.Entries.{Entries, nil, leaf, group, ◌▷◌, flat}
use Rattle.rd_list.specs.Chunks.{AreHeld, AreWithin, Covers, Tells, total}
use Rattle.rd_list.specs.EntryNames.{kept_leaves}
use Rattle.rd_list.specs.Kept.{Ordered}
use Rattle.rd_list.specs.KeptView.{kept_entries}
use Rattle.rd_list.proofs.Covering.{held_leaves, total_next}
use Rattle.rd_list.proofs.Admitting.{found_told}
use Rattle.rd_list.specs.declared.chunks.Chunk.{Chunk}
use Rattle.rd_item.specs.Items.{Made}
use Rattle.rd_keys.specs.declared.entry.EntryKey.{EntryKey}
use Rattle.rd_list.specs.Lists.{hit, is_hit, is_outline, last}
use Rattle.rd_list.specs.Internal.LastHit.{last_owner}
use Rattle.rd_list.proofs.Displaying.{shown-append, shown_from}
use Rattle.rd_list.proofs.Joins.{flat-join}
use Rattle.rd_list.proofs.Parting.{within_left, within_right}
use Rattle.rd_list.proofs.LastOwner.{last_owner-append, last_owner-last}

-- the first where it is one, else the other
pub or_else : Option BoxKey → Option BoxKey → Option BoxKey
or_else None f = f
or_else (Some k) f = Some k

module _ (p : item.Leaf → Bool) where
  or_owner : (b : Bool) (k : BoxKey) (f g : Option BoxKey) → or_else g (cond b (Some k) f) ≡ or_else (or_else g (cond b (Some k) None)) f
  unfolding or_else
  or_owner true k f None = refl
  or_owner true k f (Some j) = refl
  or_owner false k f None = refl
  or_owner false k f (Some j) = refl

  pub last_owner-else : (f : Option BoxKey) (ls : List item.Leaf) → last_owner p f ls ≡ or_else (last_owner p None ls) f
  unfolding or_else
  last_owner-else f [] = refl
  last_owner-else f (l ∷ ls) =
      last_owner-else (cond (p l) (Some l.owner) f) ls ∙ or_owner (p l) l.owner f (last_owner p None ls)
      ∙ ap (λ g. or_else g f) (sym (last_owner-else (cond (p l) (Some l.owner) None) ls))

pub hit-join : (x y : ℤ) (xs ys : Entries Wrapper item.Leaf) → hit (xs ▷ ys) x y ≡ or_else (hit ys x y) (hit xs x y)
hit-join x y xs ys =
    sym (last_owner-last (is_hit x y) (flat (xs ▷ ys)))
    ∙ ap (last_owner (is_hit x y) None) (flat-join xs ys)
    ∙ last_owner-append (is_hit x y) None (flat xs) (flat ys)
    ∙ last_owner-else (is_hit x y) (last_owner (is_hit x y) None (flat xs)) (flat ys)
    ∙ ap (λ g. or_else g (last_owner (is_hit x y) None (flat xs))) (last_owner-last (is_hit x y) (flat ys))
    ∙ ap (λ g. or_else (hit ys x y) g) (last_owner-last (is_hit x y) (flat xs))

module _ {A : Type 0} where
  -- one entry further down
  pub hit_down : (x y : ℤ) (es : List (Entry A)) (i : ℕ) (e : Entry A) (found : Option BoxKey) → i < length es → e ≡ get_or es i e
      → found ≡ hit (shown (e ∷ [])) x y → hit (shown (drop (i + 1) es)) x y ≡ None → hit (shown (drop i es)) x y ≡ found
  unfolding or_else
  hit_down x y es i e found h k f n =
      ap (λ es. hit es x y) (shown_from es i e h k)
      ∙ hit-join x y (shown (e ∷ [])) (shown (drop (i + 1) es))
      ∙ ap (λ g. or_else g (hit (shown (e ∷ [])) x y)) n ∙ sym f

  -- a hit in the upper part is the hit of the whole
  pub hit_above : (x y : ℤ) (es : List (Entry A)) (i : ℕ) (k : BoxKey) → hit (shown (drop i es)) x y ≡ Some k → hit (shown es) x y ≡ Some k
  unfolding or_else
  hit_above x y es i k h =
      ap (λ es. hit (shown es) x y) (sym (take-append-drop i es)) ∙ ap (λ es. hit es x y) (shown-append (take i es) (drop i es))
      ∙ hit-join x y (shown (take i es)) (shown (drop i es)) ∙ ap (λ g. or_else g (hit (shown (take i es)) x y)) h

  pub found_above : (x y : ℤ) (es : List (Entry A)) (i : ℕ) (found : Option BoxKey) → hit (shown (drop i es)) x y ≡ found → is_some found ≡ true → found ≡ hit (shown es) x y
  found_above x y es i None h s = cc
  found_above x y es i (Some k) h s = sym (hit_above x y es i k h)

pub not_some : (found : Option BoxKey) → is_some found ≡ false → found ≡ None
not_some None s = refl
not_some (Some k) s = cc

pub leaf_hit : (x y : ℤ) (l : item.Leaf) → is_hit x y l ≡ true → Some l.owner ≡ hit (leaf l nil) x y
leaf_hit x y l h = rw h refl

pub leaf_missed : (x y : ℤ) (l : item.Leaf) → is_hit x y l ≡ false → None ≡ hit (leaf l nil) x y
leaf_missed x y l h = rw h refl

unseen : (a b c d e : Bool) → c ≡ false → ((a && b && c) && d && e) ≡ false
unseen true true c d e h = rw h refl
unseen true false c d e h = refl
unseen false b c d e h = refl

-- a leaf that may not be seen at the pixel is not hit there
pub unseen_missed : (x y : ℤ) (l : item.Leaf) → holds_pixel l.visible x y ≡ false → hit (leaf l nil) x y ≡ None
unseen_missed x y l h =
    sym (leaf_missed x y l (unseen (holds_pixel l.shape.outer x y) (not (holds_pixel l.shape.inner x y)) (holds_pixel l.visible x y) (not (is_outline l.part)) l.hits h))

-- ---- chunk by chunk

-- no leaf that lies in a rectangle is hit outside of it
outside : (x y : ℤ) (r : Rectangle) (l : item.Leaf) → IsWithin l.visible r → holds_pixel r x y ≡ false → holds_pixel l.visible x y ≡ false
outside x y r l w f = by (holds_pixel l.visible x y) refl
  where
    by : (b : Bool) → holds_pixel l.visible x y ≡ b → holds_pixel l.visible x y ≡ false
    by false e = e
    by true e = absurd (let t = w x y e in cc)

list_missed : (x y : ℤ) (r : Rectangle) (xs : Entries (Ordered EntryKey Wrapper) Made) → AreWithin r (flat xs) → holds_pixel r x y ≡ false → hit (kept_leaves xs) x y ≡ None
unfolding or_else
list_missed x y r nil h f = refl
list_missed x y r (leaf m rest) h f =
    hit-join x y (leaf m.leaf nil) (kept_leaves rest) ∙ ap (λ g. or_else g (hit (leaf m.leaf nil) x y)) (list_missed x y r rest h.1 f) ∙ unseen_missed x y m.leaf (outside x y r m.leaf h.0 f)
list_missed x y r (group g inner rest) h f =
    ap (λ ls. option_map (λ l. l.owner) (last (filter (is_hit x y) ls))) (sym (flat-join (kept_leaves inner) (kept_leaves rest)))
    ∙ hit-join x y (kept_leaves inner) (kept_leaves rest)
    ∙ ap (λ g. or_else g (hit (kept_leaves inner) x y)) (list_missed x y r rest (within_right r (flat inner) (flat rest) h) f) ∙ list_missed x y r inner (within_left r (flat inner) (flat rest) h) f

module _ {A : Type 0} where
  -- outside of its hull nothing of a chunk is hit
  pub chunk_missed : (x y : ℤ) (r : Rectangle) (es : List (Entry A)) → AreHeld r es → holds_pixel r x y ≡ false → None ≡ hit (shown es) x y
  chunk_missed x y r es h f = sym (list_missed x y r (kept_entries es) (held_leaves r es h) f)

  -- one chunk further down
  pub chunk_down : (x y : ℤ) (es : List (Entry A)) (start end : ℕ) (found : Option BoxKey) → start ≤ end → end ≤ length es → found ≡ hit (shown (take (end - start) (drop start es))) x y → hit (shown (drop end es)) x y ≡ None
      → hit (shown (drop start es)) x y ≡ found
  unfolding or_else
  chunk_down x y es start end found l m f n =
      let parts : drop start es ≡ take (end - start) (drop start es) ++ drop end es =
      sym (take-append-drop (end - start) (drop start es)) ∙ ap (λ zs. take (end - start) (drop start es) ++ zs) (drop-drop (end - start) start es ∙ ap (λ k. drop k es) (let e : start + (end - start) ≡ end = omega (arith, l) in e)) in
      ap (λ zs. hit (shown zs) x y) parts ∙ ap (λ zs. hit zs x y) (shown-append (take (end - start) (drop start es)) (drop end es))
      ∙ hit-join x y (shown (take (end - start) (drop start es))) (shown (drop end es))
      ∙ ap (λ g. or_else g (hit (shown (take (end - start) (drop start es))) x y)) n ∙ sym f

  -- the chunk below a number of chunks
  pub chunk_below : (bs : List Chunk) (es : List (Entry A)) (number end : ℕ) (b : Chunk) → Covers bs es → 0 < number → number ≤ length bs → end ≡ total (take number bs) → b ≡ get_or bs (number - 1) b
      → (b.count ≤ end) × (end - b.count ≡ total (take (number - 1) bs)) × (b.is_open ≡ false → Tells b (take (end - (end - b.count)) (drop (end - b.count) es)))
  chunk_below bs es number end b c some few e is =
      let i : ℕ = number - 1 in
      let n = total_next bs i b (omega (arith, some, few)) is in
      let same : i + 1 ≡ number = omega (arith, some) in
      let whole : total (take number bs) ≡ total (take i bs) + b.count = ap (λ k. total (take k bs)) (sym same) ∙ n in
      let start : end - b.count ≡ total (take i bs) = omega (arith, e, whole) in
      let t = found_told bs es i (end - b.count) b c (omega (arith, few), start) (omega (arith, some, few)) is in
      (omega (arith, e, whole), start, (λ f. subst (λ k. Tells b (take k (drop (end - b.count) es))) (let q : b.count ≡ end - (end - b.count) = omega (arith, e, whole) in q) (t.1 f)))

pub is_not : (b : Bool) → not b ≡ true → b ≡ false
is_not true e = cc
is_not false e = refl
