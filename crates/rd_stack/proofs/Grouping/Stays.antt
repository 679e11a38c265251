-- A change leaves which boxes are grouped, but for those that it touches.
use Rattle.std.proofs.Common.{◌≡◌, refl, ap, ◌∙◌, sym, subst, Bool, true, false, not, ◌&&◌, ◌||◌, cond, inl, inr, nat_lt}
use Rattle.std.specs.Prelude.{Option, Some, None}
use Rattle.std.specs.Option.{option_map_or}
use Rattle.rd_style.specs.declared.styles.StyleChange.{StyleChange}
use Rattle.rd_style.specs.Classes.{real, blended}
use Rattle.rd_style.specs.Changes.{names_class, names_any, whole}
use Rattle.rd_keys.specs.Keys.{BoxKey, same_key}
use Rattle.rd_keys.proofs.Keys.{same_key-sound, same_key-refl}
use Rattle.rd_tree.specs.Forest.{empty, tree, ◌▷◌, has, starting_at, children, with_children, insert_among, insert_before, without_siblings, branch, map_where, at_box, in_subtree, IsApart}
use Rattle.rd_tree.specs.Forest as forest
use Rattle.rd_tree.specs.declared.node.Item.{Item}
use Rattle.rd_tree.specs.Document.{Document, BoxForest, or_else}
use Rattle.rd_tree.specs.Changes.{Change, insertion, removal, moving, styling, placing, shifting, scrolling, restyle, with_rect, with_scroll, shift_item, after}
use Rattle.rd_tree.specs.Contexts.{nearest_context, own_context, below_root, context_of, context_round, in_context, any_of, holds_blended, blends, blends_in}
use Rattle.rd_tree.specs.Touching.{reached_by, regrouped_by, touched_by}
use Rattle.rd_tree.proofs.Linking.Standing.{cases, either, has-join, join-empty, differs}
use Rattle.rd_tree.proofs.Linking.Cutting.{no_without}
use Rattle.rd_tree.proofs.Forests.Under.{no_under}
use Rattle.rd_tree.proofs.Forests.Without.{apart_without, stays, out_of_without}
use Rattle.rd_tree.proofs.Forests.EachBranch.{branch-each}
use Rattle.rd_tree.proofs.Summaries.Nearby.{below_first, children-from}
use Rattle.rd_stack.specs.Pruning.{CanChange}
use Rattle.rd_stack.proofs.Left.Alone.{has_item, unnamed, NamesNone, names_none}
use Rattle.rd_stack.proofs.Grouping.Apart.{out_of_branch}
use Rattle.rd_stack.proofs.Grouping.Shape.{grouped_box, grouped_root, grouped_low, grouped_tree, low-absent}
use Rattle.rd_stack.proofs.Grouping.Holes.{IsSpared, hole_at, hole_below, after_first, with_first, low-spared, filled, without-fill, box-fill, under-fill, children-fill, above-round, at-round, off_key, in_rest}

abbrev is_blended : Item → Bool
is_blended d = blended d.style

none_of : (b : Bool) → ((b && false) || false) ≡ false
none_of true = refl
none_of false = refl

-- Where no box is blended, none blends.
quiet : (f : BoxForest) → any_of is_blended f ≡ false → blends_in f ≡ false
quiet empty h = refl
quiet (tree k d below rest) h =
    let s = either (is_blended d || any_of is_blended below) (any_of is_blended rest) h in
    let t = either (is_blended d) (any_of is_blended below) s.0 in
    (λ i. (t.0 i || (not (real d.style false) && quiet below t.1 i)) || quiet rest s.1 i) ∙ none_of (not (real d.style false))

-- a box, and what stands below it and after it
record Starts (k : BoxKey) (f : BoxForest) : Type 0 where
  item : Item
  below : BoxForest
  rest : BoxForest
  is : starting_at same_key k f ≡ tree k item below rest

starts : (k : BoxKey) (f : BoxForest) → has same_key k f ≡ true → Starts k f
starts k empty h = cc
starts k (tree i d below rest) h =
    elim (cases (same_key k i)) [
      | inl e ↦ record { item = d; below = below; rest = rest; is = rw e (ap (λ x. tree x d below rest) (sym (same_key-sound k i e))) }
      | inr e ↦ elim (cases (has same_key k below)) [
        | inl u ↦ let s = starts k below u in record { item = s.item; below = s.below; rest = s.rest; is = rw (e, u) s.is }
        | inr u ↦ let s = starts k rest (in_rest k i below rest e u h) in record { item = s.item; below = s.below; rest = s.rest; is = rw (e, u) s.is }
      ]
    ]

first_quiet : (k : BoxKey) (d : Item) (below rest : BoxForest) → any_of is_blended (tree k d below empty) ≡ false → blends d (blends_in below) ≡ false
first_quiet k d below rest h =
    let s = either (is_blended d || any_of is_blended below) false h in
    let t = either (is_blended d) (any_of is_blended below) s.0 in
    (λ i. t.0 i || (not (real d.style false) && quiet below t.1 i)) ∙ and_none (not (real d.style false))
  where
    and_none : (b : Bool) → (b && false) ≡ false
    and_none true = refl
    and_none false = refl

-- Among siblings.
low-join : (j : BoxKey) (f g : BoxForest) → grouped_low g j ≡ false → grouped_low (f ▷ g) j ≡ grouped_low f j
low-join j empty g h = h
low-join j (tree k d below rest) g h = ap (λ b. (same_key j k && grouped_box d (blends_in below)) || (grouped_low below j || b)) (low-join j rest g h)

low-ahead : (j : BoxKey) (b f : BoxForest) → grouped_low b j ≡ false → grouped_low (b ▷ f) j ≡ grouped_low f j
low-ahead j empty f h = refl
low-ahead j (tree k d below rest) f h =
    let s = either (same_key j k && grouped_box d (blends_in below)) (grouped_low below j || grouped_low rest j) h in
    let t = either (grouped_low below j) (grouped_low rest j) s.1 in
    rw (s.0, t.0) (low-ahead j rest f t.1)

low-before : (j i : BoxKey) (b f : BoxForest) → grouped_low b j ≡ false → grouped_low (insert_before same_key i b f) j ≡ grouped_low f j
low-before j i b empty h = h
low-before j i b (tree k d below rest) h =
    elim (same_key i k) as (λ t. grouped_low (cond t (b ▷ tree k d below rest) (tree k d below (insert_before same_key i b rest))) j ≡ grouped_low (tree k d below rest) j) [
      | true ↦ low-ahead j b (tree k d below rest) h
      | false ↦ ap (λ t. (same_key j k && grouped_box d (blends_in below)) || (grouped_low below j || t)) (low-before j i b rest h)
    ]

low-among : (j : BoxKey) (o : Option BoxKey) (b f : BoxForest) → grouped_low b j ≡ false → grouped_low (insert_among same_key o b f) j ≡ grouped_low f j
low-among j None b f h = low-join j f b h
low-among j (Some i) b f h = low-before j i b f h

blends-join : (f g : BoxForest) → blends_in g ≡ false → blends_in (f ▷ g) ≡ blends_in f
blends-join empty g h = h
blends-join (tree k d below rest) g h = ap (λ b. blends d (blends_in below) || b) (blends-join rest g h)

blends-ahead : (b f : BoxForest) → blends_in b ≡ false → blends_in (b ▷ f) ≡ blends_in f
blends-ahead empty f h = refl
blends-ahead (tree k d below rest) f h =
    let s = either (blends d (blends_in below)) (blends_in rest) h in
    rw s.0 (blends-ahead rest f s.1)

blends-before : (i : BoxKey) (b f : BoxForest) → blends_in b ≡ false → blends_in (insert_before same_key i b f) ≡ blends_in f
blends-before i b empty h = h
blends-before i b (tree k d below rest) h =
    elim (same_key i k) as (λ t. blends_in (cond t (b ▷ tree k d below rest) (tree k d below (insert_before same_key i b rest))) ≡ blends_in (tree k d below rest)) [
      | true ↦ blends-ahead b (tree k d below rest) h
      | false ↦ ap (λ t. blends d (blends_in below) || t) (blends-before i b rest h)
    ]

blends-among : (o : Option BoxKey) (b f : BoxForest) → blends_in b ≡ false → blends_in (insert_among same_key o b f) ≡ blends_in f
blends-among None b f h = blends-join f b h
blends-among (Some i) b f h = blends-before i b f h

-- Boxes below the root.
module _ (j : BoxKey) where
  abbrev context_above : BoxKey → BoxForest → Option BoxKey
  context_above k f = nearest_context (λ i below. has same_key k below) f

  abbrev context_at : BoxKey → BoxForest → Option BoxKey
  context_at p f = nearest_context (λ i below. same_key p i || has same_key p below) f

  removed-low : (k : BoxKey) (f : BoxForest) → IsApart same_key f → same_key j k ≡ false → has same_key j (children same_key k f) ≡ false
      → (has same_key k f ≡ true → IsSpared j (any_of is_blended (branch same_key k f)) (context_above k f)) → grouped_low (forest.without_branch same_key k f) j ≡ grouped_low f j
  removed-low k f a n o s =
      elim (cases (has same_key k f)) [
        | inr u ↦ ap (λ z. grouped_low z j) (no_without same_key same_key-sound same_key-refl k f u)
        | inl u ↦
            let w = starts k f u in
            let low : has same_key j w.below ≡ false = sym (ap (has same_key j) (children-from same_key same_key-sound same_key-refl k f a u ∙ ap below_first w.is)) ∙ o in
            let calm : any_of is_blended (branch same_key k f) ≡ false → blends_in (after_first (starting_at same_key k f)) ≡ blends_in (starting_at same_key k f) =
            λ q. subst (λ z. blends_in (after_first z) ≡ blends_in z) (sym w.is)
            (let b : blends w.item (blends_in w.below) ≡ false = first_quiet k w.item w.below w.rest (sym (ap (λ z. any_of is_blended (without_siblings z)) w.is) ∙ q) in rw b refl) in
            let off : grouped_low (after_first (starting_at same_key k f)) j ≡ grouped_low (starting_at same_key k f) j =
            subst (λ z. grouped_low (after_first z) j ≡ grouped_low z j) (sym w.is) (rw (n, low-absent j w.below low) refl) in
            ap (λ z. grouped_low z j) (without-fill k f a u)
            ∙ (low-spared j (hole_at k f) (after_first (starting_at same_key k f)) (starting_at same_key k f) (any_of is_blended (branch same_key k f)) (context_above k f) (above-round k f a u) (s u) calm off
            ∙ ap (λ z. grouped_low z j) (filled k f))
      ]

  restyled-low : (k : BoxKey) (h : Item → Item) (f : BoxForest) → IsApart same_key f → same_key j k ≡ false
      → (has same_key k f ≡ true → IsSpared j (any_of is_blended (branch same_key k f) || any_of is_blended (branch same_key k (at_box same_key k h f))) (context_above k f))
      → grouped_low (at_box same_key k h f) j ≡ grouped_low f j
  restyled-low k h f a n s =
      elim (cases (has same_key k f)) [
        | inr u ↦ ap (λ z. grouped_low z j) (off_key k h f u)
        | inl u ↦
            let w = starts k f u in
            let both = any_of is_blended (branch same_key k f) || any_of is_blended (branch same_key k (at_box same_key k h f)) in
            let calm : both ≡ false → blends_in (with_first h (starting_at same_key k f)) ≡ blends_in (starting_at same_key k f) = λ q.
            let t = either (any_of is_blended (branch same_key k f)) (any_of is_blended (branch same_key k (at_box same_key k h f))) q in
            let old : any_of is_blended (tree k w.item w.below empty) ≡ false = sym (ap (λ z. any_of is_blended (without_siblings z)) w.is) ∙ t.0 in
            let shape : branch same_key k (at_box same_key k h f) ≡ tree k (h w.item) (at_box same_key k h w.below) empty =
            branch-each (λ i. same_key i k) h same_key k f ∙ (ap (λ z. at_box same_key k h (without_siblings z)) w.is ∙ rw (same_key-refl k) refl) in
            let new : any_of is_blended (tree k (h w.item) (at_box same_key k h w.below) empty) ≡ false = sym (ap (any_of is_blended) shape) ∙ t.1 in
            subst (λ z. blends_in (with_first h z) ≡ blends_in z) (sym w.is) (changed w.item (h w.item) w.below (at_box same_key k h w.below) w.rest old new) in
            let off : grouped_low (with_first h (starting_at same_key k f)) j ≡ grouped_low (starting_at same_key k f) j =
            subst (λ z. grouped_low (with_first h z) j ≡ grouped_low z j) (sym w.is) (rw n refl) in
            ap (λ z. grouped_low z j) (box-fill k h f a u)
            ∙ (low-spared j (hole_at k f) (with_first h (starting_at same_key k f)) (starting_at same_key k f) both (context_above k f) (above-round k f a u) (s u) calm off
            ∙ ap (λ z. grouped_low z j) (filled k f))
      ]
    where
      not_first : (d : Item) (below : BoxForest) → any_of is_blended (tree k d below empty) ≡ false → is_blended d ≡ false
      not_first d below h = (either (is_blended d) (any_of is_blended below) (either (is_blended d || any_of is_blended below) false h).0).0

      calm_low : (b r : Bool) → b ≡ false → (b || (r && false)) ≡ false
      calm_low true r h = cc
      calm_low false true h = refl
      calm_low false false h = refl

      changed : (d e : Item) (below low rest : BoxForest) → any_of is_blended (tree k d below empty) ≡ false → any_of is_blended (tree k e low empty) ≡ false
          → blends_in (tree k e below rest) ≡ blends_in (tree k d below rest)
      changed d e below low rest p q =
          let t = either (is_blended d || any_of is_blended below) false p in
          let b : blends_in below ≡ false = quiet below (either (is_blended d) (any_of is_blended below) t.0).1 in
          rw b (ap (λ z. z || blends_in rest) (calm_low (is_blended e) (not (real e.style false)) (not_first e low q) ∙ sym (calm_low (is_blended d) (not (real d.style false)) (not_first d below p))))

  grafted-low : (p : BoxKey) (o : Option BoxKey) (b f : BoxForest) (blending : Bool) → IsApart same_key f → grouped_low b j ≡ false → (blending ≡ false → blends_in b ≡ false) → IsSpared j blending (context_at p f)
      → grouped_low (with_children same_key p (insert_among same_key o b (children same_key p f)) f) j ≡ grouped_low f j
  grafted-low p o b f blending a n q s =
      elim (cases (has same_key p f)) [
        | inr u ↦ ap (λ z. grouped_low z j) (no_under same_key same_key-sound same_key-refl p (insert_among same_key o b (children same_key p f)) f u)
        | inl u ↦
            let c = children same_key p f in
            ap (λ z. grouped_low z j) (under-fill p (insert_among same_key o b c) f a u)
            ∙ (low-spared j (hole_below p f) (insert_among same_key o b c) c blending (context_at p f) (at-round p f a u) s (λ h. blends-among o b c (q h)) (low-among j o b c n)
            ∙ ap (λ z. grouped_low z j) (children-fill p f a u))
      ]

  -- The context of the children of p stays where another box is taken away.
  context-without : (p k : BoxKey) (f : BoxForest) → same_key p k ≡ false → has same_key p (children same_key k f) ≡ false → context_at p (forest.without_branch same_key k f) ≡ context_at p f
  context-without p k empty n o = refl
  context-without p k (tree i d below rest) n o =
      elim (cases (same_key k i)) [
        | inl e ↦
            let pi : same_key p i ≡ false = subst (λ x. same_key p x ≡ false) (same_key-sound k i e) n in
            let out : has same_key p below ≡ false = rw e at o in
            rw (e, pi, out) refl
        | inr e ↦
            let c : (has same_key p (children same_key k below) || has same_key p (children same_key k rest)) ≡ false =
            sym (has-join same_key same_key-sound same_key-refl p (children same_key k below) (children same_key k rest)) ∙ (rw e at o) in
            let t = either (has same_key p (children same_key k below)) (has same_key p (children same_key k rest)) c in
            let low = context-without p k below n t.0 in
            let later = context-without p k rest n t.1 in
            let there : has same_key p (forest.without_branch same_key k below) ≡ has same_key p below = same_there p k below n t.0 in
            rw (e, there) (λ t. cond (same_key p i || has same_key p below) (or_else (low t) (own_context i d)) (later t))
      ]
    where
      same_there : (p k : BoxKey) (f : BoxForest) → same_key p k ≡ false → has same_key p (children same_key k f) ≡ false → has same_key p (forest.without_branch same_key k f) ≡ has same_key p f
      same_there p k f n o = elim (cases (has same_key p f)) [
        | inl u ↦ stays same_key same_key-sound same_key-refl p k f u n o ∙ sym u
        | inr u ↦ out_of_without same_key same_key-sound same_key-refl p k f u ∙ sym u
      ]

-- Items that change and stay grouped.
pub record IsAlike (d e : Item) : Type 0 where
  pub blend : blended d.style ≡ blended e.style
  pub context : real d.style false ≡ real e.style false
  pub opacity : nat_lt d.style.opacity 255 ≡ nat_lt e.style.opacity 255

module _ (q : BoxKey → Bool) (h : Item → Item) (alike : (d : Item) → IsAlike (h d) d) where
  one_alike : (b : Bool) (d : Item) → IsAlike (cond b (h d) d) d
  one_alike true d = alike d
  one_alike false d = record { blend = refl; context = refl; opacity = refl }

  blends-each : (f : BoxForest) → blends_in (map_where q h f) ≡ blends_in f
  blends-each empty = refl
  blends-each (tree k d below rest) =
      let a = one_alike (q k) d in
      λ i. (a.blend i || (not (a.context i) && blends-each below i)) || blends-each rest i

  low-each : (j : BoxKey) (f : BoxForest) → grouped_low (map_where q h f) j ≡ grouped_low f j
  low-each j empty = refl
  low-each j (tree k d below rest) =
      let a = one_alike (q k) d in
      λ i. (same_key j k && (a.context i && (a.opacity i || a.blend i || blends-each below i))) || (low-each j below i || low-each j rest i)

  pub tree-each : (j : BoxKey) (f : BoxForest) → grouped_tree (map_where q h f) j ≡ grouped_tree f j
  tree-each j empty = refl
  tree-each j (tree k d below rest) =
      let a = one_alike (q k) d in
      λ i. (same_key j k && (a.opacity i || a.blend i || false)) || (low-each j below i || false)

-- A change of style that names no class keeps a box grouped as it is.
pub alike_named : (c : StyleChange) (d : Item) → names_class c ≡ false → IsAlike (restyle c d) d
alike_named c d h =
    let n : NamesNone c = names_none c h in
    let s = d.style in
    record {
      blend = λ i. blended (record s { blend = unnamed c.blend s.blend n.blend i });
      context = λ i. real (record s {
        position = unnamed c.position s.position n.position i;
        z = unnamed c.z s.z n.z i;
        opacity = unnamed c.opacity s.opacity n.opacity i;
        display = unnamed c.display s.display n.display i;
        float = unnamed c.float s.float n.float i;
        blend = unnamed c.blend s.blend n.blend i;
        isolation = unnamed c.isolation s.isolation n.isolation i;
      }) false;
      opacity = λ i. nat_lt (unnamed c.opacity s.opacity n.opacity i) 255;
    }

-- A box that is not touched is spared.
spared_from : (t : Document) (j : BoxKey) (blending : Bool) (o : Option BoxKey) → (blending && in_context o t j) ≡ false → IsSpared j blending o
spared_from t j false o h = inl refl
spared_from t j true o h = inr (λ e q. (either (same_key j e) (has same_key j (children same_key e t.boxes)) (sym (ap (λ x. in_context x t j) q) ∙ h)).0)

both_false : (a b c : Bool) → (a && (b || c)) ≡ false → ((a && b) ≡ false) × ((a && c) ≡ false)
both_false true b c h = either b c h
both_false false b c h = (refl, refl)

-- A tree of which the root is known.
module _ (t : Document) (d : Item) (low : BoxForest) (a : IsApart same_key (tree t.root d low empty)) (j : BoxKey) where
  abbrev old : Document
  old = record t { boxes = tree t.root d low empty }

  below_is : below_root old ≡ low
  below_is = rw (same_key-refl t.root) refl

  branch_is : (k : BoxKey) → same_key k t.root ≡ false → has same_key k low ≡ true → branch same_key k old.boxes ≡ branch same_key k low
  branch_is k n u = rw (n, u) refl

  children_is : (k : BoxKey) → same_key k t.root ≡ false → children same_key k old.boxes ≡ children same_key k low
  children_is k n = rw n (join-empty (children same_key k low))

  abbrev IsOut : BoxKey → Type 0
  IsOut k = in_subtree same_key j k old.boxes ≡ false

  out_key : (k : BoxKey) → IsOut k → same_key j k ≡ false
  out_key k h = (either (same_key j k) (has same_key j (children same_key k old.boxes)) h).0

  out_low : (k : BoxKey) → same_key k t.root ≡ false → IsOut k → has same_key j (children same_key k low) ≡ false
  out_low k n h = sym (ap (has same_key j) (children_is k n)) ∙ (either (same_key j k) (has same_key j (children same_key k old.boxes)) h).1

  root_not : (k : BoxKey) → same_key k t.root ≡ true → has same_key k low ≡ false
  root_not k e = subst (λ x. has same_key x low ≡ false) (sym (same_key-sound k t.root e)) a.0

  -- without a subtree
  taken-stays : (k : BoxKey) → same_key k t.root ≡ false → IsOut k → IsSpared j (holds_blended k old) (context_round k old)
      → grouped_low (forest.without_branch same_key k low) j ≡ grouped_low low j
  taken-stays k n o s =
      removed-low j k low a.3 (out_key k o) (out_low k n o)
      (λ u. subst (λ b. IsSpared j (any_of is_blended b) (context_above j k low)) (branch_is k n u) (subst (λ z. IsSpared j (holds_blended k old) (context_above j k z)) below_is s))

  abbrev with_low : BoxForest → Bool
  with_low f = (same_key j t.root && grouped_root d) || (grouped_low f j || false)

  removal-stays : (k : BoxKey) → same_key k t.root ≡ false → touched_by (removal k) old j ≡ false → grouped_tree (forest.without_branch same_key k old.boxes) j ≡ grouped_tree old.boxes j
  removal-stays k n h =
      let s = either (reached_by (removal k) old j) (regrouped_by (removal k) old j) h in
      rw n (ap (λ b. (same_key j t.root && grouped_root d) || (b || false)) (taken-stays k n s.0 (spared_from old j (holds_blended k old) (context_round k old) s.1)))

  -- with others below a box
  grafted-tree : (p : BoxKey) (o : Option BoxKey) (b f : BoxForest) (blending : Bool) → IsApart same_key f → grouped_low b j ≡ false → (blending ≡ false → blends_in b ≡ false) → IsSpared j blending (context_at j p f)
      → let g : BoxForest = tree t.root d f empty in grouped_tree (with_children same_key p (insert_among same_key o b (children same_key p g)) g) j ≡ grouped_tree g j
  grafted-tree p o b f blending af n q s =
      let g : BoxForest = tree t.root d f empty in
      elim (cases (same_key p t.root)) [
        | inl e ↦
            let c : children same_key p g ≡ f = rw e refl in
            ap (λ z. grouped_tree (with_children same_key p (insert_among same_key o b z) g) j) c
            ∙ rw e (ap (λ b. (same_key j t.root && grouped_root d) || (b || false)) (low-among j o b f n))
        | inr e ↦
            let c : children same_key p g ≡ children same_key p f = rw e (join-empty (children same_key p f)) in
            ap (λ z. grouped_tree (with_children same_key p (insert_among same_key o b z) g) j) c
            ∙ rw e (ap (λ b. (same_key j t.root && grouped_root d) || (b || false)) (grafted-low j p o b f blending af n q s))
      ]

  insertion-stays : (p : BoxKey) (before : Option BoxKey) (k : BoxKey) (e : Item) → touched_by (insertion p before k e) old j ≡ false
      → grouped_tree (with_children same_key p (insert_among same_key before (tree k e empty empty) (children same_key p old.boxes)) old.boxes) j ≡ grouped_tree old.boxes j
  insertion-stays p before k e h =
      let s = either (reached_by (insertion p before k e) old j) (regrouped_by (insertion p before k e) old j) h in
      let sp : IsSpared j (blended e.style) (context_at j p low) = subst (λ z. IsSpared j (blended e.style) (context_at j p z)) below_is (spared_from old j (blended e.style) (context_of p old) s.1) in
      let n : same_key j k ≡ false = s.0 in
      grafted-tree p before (tree k e empty empty) low (blended e.style) a.3 (rw n refl) (λ q. (λ i. (q i || (not (real e.style false) && false)) || false) ∙ none_of (not (real e.style false))) sp

  moving-stays : (k p : BoxKey) (before : Option BoxKey) → same_key k t.root ≡ false → in_subtree same_key p k old.boxes ≡ false → touched_by (moving k p before) old j ≡ false
      → let g : BoxForest = forest.without_branch same_key k old.boxes in
      grouped_tree (with_children same_key p (insert_among same_key before (branch same_key k old.boxes) (children same_key p g)) g) j ≡ grouped_tree old.boxes j
  moving-stays k p before n out h =
      let s = either (reached_by (moving k p before) old j) (regrouped_by (moving k p before) old j) h in
      let r = both_false (holds_blended k old) (in_context (context_round k old) old j) (in_context (context_of p old) old j) s.1 in
      let b : BoxForest = branch same_key k old.boxes in
      let f : BoxForest = forest.without_branch same_key k low in
      let g_is : forest.without_branch same_key k old.boxes ≡ tree t.root d f empty = rw n refl in
      let po = either (same_key p k) (has same_key p (children same_key k old.boxes)) out in
      let ctx : context_of p old ≡ context_at j p f =
      ap (context_at j p) below_is ∙ sym (context-without j p k low po.0 (sym (ap (has same_key p) (children_is k n)) ∙ po.1)) in
      let sp : IsSpared j (holds_blended k old) (context_at j p f) = subst (λ o. IsSpared j (holds_blended k old) o) ctx (spared_from old j (holds_blended k old) (context_of p old) r.1) in
      let none : grouped_low b j ≡ false = low-absent j b (out_of_branch j k old.boxes (out_key k s.0) (either (same_key j k) (has same_key j (children same_key k old.boxes)) s.0).1) in
      subst (λ g. grouped_tree (with_children same_key p (insert_among same_key before b (children same_key p g)) g) j ≡ grouped_tree old.boxes j) (sym g_is)
      (grafted-tree p before b f (holds_blended k old) (apart_without same_key same_key-sound same_key-refl k low a.3) none (quiet b) sp
      ∙ ap (λ b. (same_key j t.root && grouped_root d) || (b || false)) (taken-stays k n s.0 (spared_from old j (holds_blended k old) (context_round k old) r.0)))

  -- with another style of a box
  named-stays : (k : BoxKey) (c : StyleChange) → names_class c ≡ true → IsOut k → regrouped_by (styling k c) old j ≡ false
      → grouped_tree (at_box same_key k (restyle c) old.boxes) j ≡ grouped_tree old.boxes j
  named-stays k c nc o h =
      let n : same_key j k ≡ false = out_key k o in
      let new : BoxForest = at_box same_key k (restyle c) low in
      let sp : IsSpared j (holds_blended k old || holds_blended k (after (styling k c) old)) (context_above j k low) =
      subst (λ z. IsSpared j (holds_blended k old || holds_blended k (after (styling k c) old)) (context_above j k z)) below_is
      (spared_from old j (holds_blended k old || holds_blended k (after (styling k c) old)) (context_round k old) (rw nc at h)) in
      let low_stays : grouped_low new j ≡ grouped_low low j = restyled-low j k (restyle c) low a.3 n (λ u. by k c u sp) in
      λ i. root_same k c n i || (low_stays i || false)
    where
      root_same : (k : BoxKey) (c : StyleChange) → same_key j k ≡ false → (same_key j t.root && grouped_root (cond (same_key t.root k) (restyle c d) d)) ≡ (same_key j t.root && grouped_root d)
      root_same k c n = elim (cases (same_key t.root k)) [
        | inl e ↦
            let o : same_key j t.root ≡ false = subst (λ x. same_key j x ≡ false) (sym (same_key-sound t.root k e)) n in
            rw o refl
        | inr e ↦ rw e refl
      ]

      by : (k : BoxKey) (c : StyleChange) → has same_key k low ≡ true → IsSpared j (holds_blended k old || holds_blended k (after (styling k c) old)) (context_above j k low)
          → IsSpared j (any_of is_blended (branch same_key k low) || any_of is_blended (branch same_key k (at_box same_key k (restyle c) low))) (context_above j k low)
      by k c u s =
          let n : same_key k t.root ≡ false = differs same_key same_key-sound same_key-refl low k t.root u a.0 in
          let was : branch same_key k old.boxes ≡ branch same_key k low = branch_is k n u in
          let is : branch same_key k (at_box same_key k (restyle c) old.boxes) ≡ branch same_key k (at_box same_key k (restyle c) low) =
          branch-each (λ i. same_key i k) (restyle c) same_key k old.boxes ∙ (ap (at_box same_key k (restyle c)) was ∙ sym (branch-each (λ i. same_key i k) (restyle c) same_key k low)) in
          subst (λ z. IsSpared j (any_of is_blended z || any_of is_blended (branch same_key k (at_box same_key k (restyle c) low))) (context_above j k low)) was
          (subst (λ z. IsSpared j (any_of is_blended (branch same_key k old.boxes) || any_of is_blended z) (context_above j k low)) is s)

  styling-stays : (k : BoxKey) (c : StyleChange) → has same_key k old.boxes ≡ true → touched_by (styling k c) old j ≡ false
      → grouped_tree (at_box same_key k (restyle c) old.boxes) j ≡ grouped_tree old.boxes j
  styling-stays k c there h =
      elim (cases (names_class c)) [
        | inr n ↦ tree-each (λ i. same_key i k) (restyle c) (λ e. alike_named c e n) j old.boxes
        | inl n ↦
            let s = either (reached_by (styling k c) old j) (regrouped_by (styling k c) old j) h in
            let i = has_item k old.boxes there in
            let w : whole i.0.style (same_key k t.root) c ≡ true = rw n refl in
            named-stays k c n (sym (reached_is k c i.0 i.1 w) ∙ s.0) s.1
      ]
    where
      reached_is : (k : BoxKey) (c : StyleChange) (x : Item) → forest.item_of same_key k old.boxes ≡ Some x → whole x.style (same_key k t.root) c ≡ true → reached_by (styling k c) old j ≡ in_subtree same_key j k old.boxes
      reached_is k c x e w = ap (λ o. option_map_or (λ y. cond (whole y.style (same_key k t.root) c) (in_subtree same_key j k old.boxes) (names_any c && same_key j k)) o false) e ∙ rw w refl

  pub change-stays : (c : Change) → CanChange c old → touched_by c old j ≡ false → grouped_tree (after c old).boxes j ≡ grouped_tree old.boxes j
  change-stays (insertion p before k e) can h = insertion-stays p before k e h
  change-stays (removal k) n h = removal-stays k n h
  change-stays (moving k p before) (n, out) h = moving-stays k p before n out h
  change-stays (styling k c) there h = styling-stays k c there h
  change-stays (placing k r) there h = tree-each (λ i. same_key i k) (with_rect r) (λ e. record { blend = refl; context = refl; opacity = refl }) j old.boxes
  change-stays (shifting k dx dy) there h = tree-each (λ i. in_subtree same_key i k old.boxes) (shift_item dx dy) (λ e. record { blend = refl; context = refl; opacity = refl }) j old.boxes
  change-stays (scrolling k v) there h = tree-each (λ i. same_key i k) (with_scroll v) (λ e. record { blend = refl; context = refl; opacity = refl }) j old.boxes
