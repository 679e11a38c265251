-- Each place of a way is true of the leaf.
use Rattle.std.proofs.Common.{◌≡◌, refl, sym, subst, ℤ, pos, Bool, true, false, not, ◌&&◌, ◌||◌, cond, List, [], ◌∷◌, ◌++◌, map, inl, inr}
use Rattle.std.specs.Prelude.{filter, flat_map, int_lt, Option, Some, None}
use Rattle.std.specs.List.{AllByRecursion}
use Rattle.rd_style.specs.declared.kinds.Class.TheVariants.{Float, Atom, Block, Inline}
use Rattle.rd_keys.specs.declared.entry.Part.{Part}
use Rattle.rd_keys.specs.declared.entry.Part.TheVariants.{Back, Border, Content, Outline}
use Rattle.rd_geom.specs.Canvas.{canvas_of}
use Rattle.rd_item.specs.declared.leaf.Leaf.{Leaf}
use Rattle.rd_item.specs.Leaves.{covers}
use Rattle.rd_graph.proofs.Lists.Listing.{Has, contains_from, has_left, has_right, has_map, filter_has}
use Rattle.rd_list.specs.Wrappers.{Wrapper}
use Rattle.rd_list.specs.Entries.{Entries, flat, routes}
use Rattle.rd_tree.specs.Forest.{empty, tree}
use Rattle.rd_tree.specs.Document.{BoxForest, Document}
use Rattle.rd_tree.specs.Drawn.{drawn}
use Rattle.rd_stack.specs.Paths.{BoxData, BoxPath, is_root, is_context, has_class, is_local, is_layer, is_in_line}
use Rattle.rd_stack.specs.Painting.{Painted, is_blocky}
use Rattle.rd_stack.specs.Fresh.{Subtree, box_data, preorder, grouping, painted}
use Rattle.rd_trace.specs.declared.placing.PaintStep.{PaintStep}
use Rattle.rd_trace.specs.declared.placing.PaintStep.TheVariants as at
use Rattle.rd_trace.specs.declared.placing.Placing.{Placing}
use Rattle.rd_trace.specs.declared.placing.Sight.{Sight}
use Rattle.rd_trace.specs.Ways.{Traced, TracedBox, place, placing, layer_place, level_at, passed, within, entry_of}
use Rattle.rd_trace.specs.Steps as spec
use Rattle.rd_trace.specs.Traces.{traced_at, traced_below, root_traces, sight}
use Rattle.rd_trace.specs.Laws.{untraced, step_of, painted_in, IsPlaced, PlacesLaw}
use Rattle.rd_trace.proofs.Told.{Told, over, flat-routes}
use Rattle.rd_trace.proofs.Alike.{AreAlike}
use Rattle.rd_trace.proofs.TenTold.{told_layers, told_root, told_own, told_blocks, told_floats, told_inlines, told_contents, told_outlines, alike_below}

-- ---- what holds of each element of a list

module _ {A : Type 0} where
  all_append : (P : A → Type 0) (xs ys : List A) → AllByRecursion P xs → AllByRecursion P ys → AllByRecursion P (xs ++ ys)
  all_append P [] ys h k = k
  all_append P (x ∷ xs) ys h k = (h.0, all_append P xs ys h.1 k)

  all_filter : (P : A → Type 0) (q : A → Bool) (xs : List A) → AllByRecursion P xs → AllByRecursion P (filter q xs)
  all_filter P q [] h = tt
  all_filter P q (x ∷ xs) h = elim (q x) as (λ b. AllByRecursion P (cond b (x ∷ filter q xs) (filter q xs))) [ true ↦ (h.0, all_filter P q xs h.1) | false ↦ all_filter P q xs h.1 ]

  all_from : (P : A → Type 0) (xs : List A) → ((x : A) → Has xs x → P x) → AllByRecursion P xs
  all_from P [] h = tt
  all_from P (x ∷ xs) h = (h x (inl refl), all_from P xs (λ y k. h y (inr k)))

  all_both : (P Q R : A → Type 0) (xs : List A) → ((x : A) → P x → Q x → R x) → AllByRecursion P xs → AllByRecursion Q xs → AllByRecursion R xs
  all_both P Q R [] f h k = tt
  all_both P Q R (x ∷ xs) f h k = (f x h.0 k.0, all_both P Q R xs f h.1 k.1)

all_if : (P : Traced → Type 0) (b : Bool) (ts : List Traced) → AllByRecursion P ts → AllByRecursion P (spec.trace_if b ts)
all_if P true ts h = h
all_if P false ts h = tt

all_either : (P : Traced → Type 0) (b : Bool) (ts us : List Traced) → AllByRecursion P ts → AllByRecursion P us → AllByRecursion P (cond b ts us)
all_either P true ts us h k = h
all_either P false ts us h k = k

all_each : (P : Traced → Type 0) (Q : TracedBox → Type 0) (f : TracedBox → List Traced) (xs : List TracedBox) → AllByRecursion Q xs → ((x : TracedBox) → Q x → AllByRecursion P (f x)) → AllByRecursion P (flat_map f xs)
all_each P Q f [] h k = tt
all_each P Q f (x ∷ xs) h k = all_append P (f x) (flat_map f xs) (k x h.0) (all_each P Q f xs h.1 k)

all_insert : (Q : TracedBox → Type 0) (x : TracedBox) (ys : List TracedBox) → Q x → AllByRecursion Q ys → AllByRecursion Q (spec.insert_by_level x ys)
all_insert Q x [] q h = (q, tt)
all_insert Q x (y ∷ ys) q h =
    elim (int_lt (level_at y.at) (level_at x.at)) as (λ b. AllByRecursion Q (cond b (y ∷ spec.insert_by_level x ys) (x ∷ y ∷ ys))) [
      | true ↦ (h.0, all_insert Q x ys q h.1)
      | false ↦ (q, h)
    ]

all_by_level : (Q : TracedBox → Type 0) (xs : List TracedBox) → AllByRecursion Q xs → AllByRecursion Q (spec.by_level xs)
all_by_level Q [] h = tt
all_by_level Q (x ∷ xs) h = all_insert Q x (spec.by_level xs) h.0 (all_by_level Q xs h.1)

-- a leaf that is told is one of the list
told_has : (s : Sight) (ts : List Traced) (a : Entries Wrapper Leaf) → Told s ts a → (t : Traced) → Has ts t → Has (flat a) t.leaf
told_has s ts a h t k =
    let m : Has (filter (over s) (routes [] a)) (untraced t) = subst (λ zs. Has zs (untraced t)) h.is (has_map untraced ts t k) in
    let r : Has (routes [] a) (untraced t) = (filter_has (over s) (routes [] a) (untraced t) m).0 in
    subst (λ ls. Has ls t.leaf) (flat-routes [] a) (has_map (λ (r : List Wrapper × Leaf). r.1) (routes [] a) (untraced t) r)

-- ---- places

module _ (s : Sight) (ok : Leaf → Placing → Type 0) where
  -- each place of the way is true
  abbrev IsOk : Traced → Type 0
  IsOk t = AllByRecursion (ok t.leaf) t.way

  abbrev AreOk : List Traced → Type 0
  AreOk ts = AllByRecursion IsOk ts

  -- the outermost place is in this step of e, and each other one is true
  abbrev Ends : PaintStep → BoxPath → Traced → Type 0
  Ends k e t = (front : List Placing) × (w : Placing) × (t.way ≡ front ++ w ∷ []) × (w.step ≡ k) × (w.context ≡ e.here.key) × AllByRecursion (ok t.leaf) front

  -- so it is of a leaf of that step
  ends_ok : (k : PaintStep) (e : BoxPath) (ts : List Traced) (a : Entries Wrapper Leaf) → Told s ts a → AllByRecursion (Ends k e) ts
      → ((l : Leaf) → Has (flat a) l → (w : Placing) → w.step ≡ k → w.context ≡ e.here.key → ok l w) → AreOk ts
  ends_ok k e ts a told ends h =
      all_both (Ends k e) (λ t. Has (flat a) t.leaf) IsOk ts
      (λ t n m. subst (λ ws. AllByRecursion (ok t.leaf) ws) (sym n.2) (all_append (ok t.leaf) n.0 (n.1 ∷ []) n.5 (h t.leaf m n.1 n.3 n.4, tt)))
      ends (all_from (λ t. Has (flat a) t.leaf) ts (told_has s ts a told))

  module _ (k : PaintStep) (e : BoxPath) where
    ends_seen : (w : Placing) (o : Option Leaf) → w.step ≡ k → w.context ≡ e.here.key → AllByRecursion (Ends k e) (spec.seen s w o)
    ends_seen w None p q = tt
    ends_seen w (Some l) p q =
        elim (covers l s.x s.y) as (λ b. AllByRecursion (Ends k e) (cond b (record { leaf = l; way = w ∷ []; groups = [] } ∷ []) [])) [
          | true ↦ (([], w, refl, p, q, tt), tt)
          | false ↦ tt
        ]

    ends_part : (c x : BoxPath) (part : Part) (y : BoxPath) → AllByRecursion (Ends k e) (spec.trace s (placing k e c x) part y)
    ends_part c x part y = ends_seen (placing k e c x) _ refl refl

    ends_back_border : (c x y : BoxPath) → AllByRecursion (Ends k e) (spec.back_border s (placing k e c x) y)
    ends_back_border c x y = all_append (Ends k e) _ _ (ends_part c x Back y) (ends_part c x Border y)

    ends_passed : (w : Placing) (ts : List Traced) → w.step ≡ k → w.context ≡ e.here.key → AreOk ts → AllByRecursion (Ends k e) (passed w ts)
    ends_passed w [] p q h = tt
    ends_passed w (t ∷ ts) p q h = ((t.way, w, refl, p, q, h.0), ends_passed w ts p q h.1)

    ends_inline : (c : BoxPath) (x : TracedBox) → AreOk x.order → AllByRecursion (Ends k e) (spec.inline_part s k e c x)
    ends_inline c x h =
        all_either (Ends k e) (has_class Atom x.at) _ _ (ends_passed (placing k e c x.at) x.order refl refl h)
        (all_append (Ends k e) _ _ (ends_back_border c x.at x.at) (ends_part c x.at Content x.at))

    ends_content : (xs : List TracedBox) (c : BoxPath) → AllByRecursion (λ x. AreOk x.order) xs → AllByRecursion (Ends k e) (spec.content_and_line s k e xs c)
    ends_content xs c h =
        all_append (Ends k e) _ _ (ends_part c c Content c)
        (all_each (Ends k e) (λ x. AreOk x.order) (spec.inline_part s k e c) _ (all_filter (λ x. AreOk x.order) (λ x. is_in_line e c x.at) xs h) (ends_inline c))

  within_ok : (g : Wrapper) (ts : List Traced) → AreOk ts → AreOk (map (within g) ts)
  within_ok g [] h = tt
  within_ok g (t ∷ ts) h = (h.0, within_ok g ts h.1)

  entry_ok : (x : TracedBox) → AreOk x.order → AreOk (entry_of x)
  entry_ok x h = all_either IsOk x.grouped _ _ (within_ok _ x.order h) h

  module _ (e : BoxPath) (xs : List TracedBox) (ys : List Painted) (alike : AreAlike s xs ys) (below : AllByRecursion (λ x. AreOk x.order) xs)
      (true_of : (k : PaintStep) (l : Leaf) → Has (flat (step_of k s.canvas e ys)) l → (w : Placing) → w.step ≡ k → w.context ≡ e.here.key → ok l w) where
    abbrev Q : TracedBox → Type 0
    Q x = AreOk x.order

    local : AllByRecursion Q (spec.local_boxes e xs)
    local = all_filter Q (λ x. is_local e x.at) xs below

    blocks : AllByRecursion Q (spec.of_class Block (spec.local_boxes e xs))
    blocks = all_filter Q (λ x. has_class Block x.at) _ local

    ends_layers : (p : TracedBox → Bool) (k : PaintStep) → AllByRecursion (Ends k e) (spec.layers_where p k e xs)
    ends_layers p k =
        all_if (Ends k e) (is_context e) _
        (all_each (Ends k e) Q (spec.layer k e) _ (all_by_level Q _ (all_filter Q p _ (all_filter Q (λ x. is_layer e x.at) xs below)))
        (λ x h. ends_passed k e (layer_place k e x.at) (entry_of x) refl refl (entry_ok x h)))

    one : AreOk (spec.root_background s e)
    one = ends_ok at.RootBackground e _ _ (told_root s e) (all_if (Ends at.RootBackground e) (is_root e) _ (ends_part at.RootBackground e e e Back e)) (true_of at.RootBackground)

    two : AreOk (spec.own_background_and_border s e)
    two =
        ends_ok at.OwnBackground e _ _ (told_own s e)
        (all_if (Ends at.OwnBackground e) (is_blocky e) _
        (all_append (Ends at.OwnBackground e) _ _ (all_if (Ends at.OwnBackground e) (not (is_root e)) _ (ends_part at.OwnBackground e e e Back e)) (ends_part at.OwnBackground e e e Border e)))
        (true_of at.OwnBackground)

    three : AreOk (spec.negative_layers e xs)
    three = ends_ok at.NegativeLayers e _ _ (told_layers s (λ p. int_lt (level_at p) (pos 0)) at.NegativeLayers e xs ys alike) (ends_layers spec.is_negative at.NegativeLayers) (true_of at.NegativeLayers)

    four : AreOk (spec.block_backgrounds s e xs)
    four =
        ends_ok at.BlockBackgrounds e _ _ (told_blocks s e xs ys alike)
        (all_each (Ends at.BlockBackgrounds e) Q (λ x. spec.back_border s (place at.BlockBackgrounds e x.at) x.at) _ blocks (λ x h. ends_back_border at.BlockBackgrounds e x.at x.at x.at))
        (true_of at.BlockBackgrounds)

    five : AreOk (spec.floats e xs)
    five =
        ends_ok at.Floats e _ _ (told_floats s e xs ys alike)
        (all_each (Ends at.Floats e) Q (spec.whole at.Floats e) _ (all_filter Q (λ x. has_class Float x.at) _ local) (λ x h. ends_passed at.Floats e (place at.Floats e x.at) x.order refl refl h))
        (true_of at.Floats)

    six : AreOk (spec.inline_context s e xs)
    six =
        ends_ok at.InlineContext e _ _ (told_inlines s e xs ys alike)
        (all_if (Ends at.InlineContext e) (not (is_blocky e)) _
        (all_append (Ends at.InlineContext e) _ _ (ends_back_border at.InlineContext e e e e) (ends_content at.InlineContext e xs e below)))
        (true_of at.InlineContext)

    seven : AreOk (spec.block_contents s e xs)
    seven =
        ends_ok at.BlockContents e _ _ (told_contents s e xs ys alike)
        (all_append (Ends at.BlockContents e) _ _ (all_if (Ends at.BlockContents e) (is_blocky e) _ (ends_content at.BlockContents e xs e below))
        (all_each (Ends at.BlockContents e) Q (λ x. spec.content_and_line s at.BlockContents e xs x.at) _ blocks (λ x h. ends_content at.BlockContents e xs x.at below)))
        (true_of at.BlockContents)

    eight : AreOk (spec.zero_layers e xs)
    eight = ends_ok at.ZeroLayers e _ _ (told_layers s (λ p. not (int_lt (level_at p) (pos 0)) && not (int_lt (pos 0) (level_at p))) at.ZeroLayers e xs ys alike) (ends_layers spec.is_zero at.ZeroLayers) (true_of at.ZeroLayers)

    nine : AreOk (spec.positive_layers e xs)
    nine = ends_ok at.PositiveLayers e _ _ (told_layers s (λ p. int_lt (pos 0) (level_at p)) at.PositiveLayers e xs ys alike) (ends_layers spec.is_positive at.PositiveLayers) (true_of at.PositiveLayers)

    last : AreOk (spec.outlines s e xs)
    last =
        ends_ok at.Outlines e _ _ (told_outlines s e xs ys alike)
        (all_append (Ends at.Outlines e) _ _ (ends_part at.Outlines e e e Outline e)
        (all_each (Ends at.Outlines e) Q (λ x. spec.trace s (place at.Outlines e x.at) Outline x.at) _ (all_filter Q (λ x. has_class Block x.at || has_class Inline x.at) _ local) (λ x h. ends_part at.Outlines e x.at x.at Outline x.at)))
        (true_of at.Outlines)

    steps_ok : AreOk (spec.steps s e xs)
    unfolding spec.steps
    steps_ok =
        all_append IsOk _ _ (all_append IsOk _ _ (all_append IsOk _ _ (all_append IsOk _ _ (all_append IsOk _ _
        (all_append IsOk _ _ (all_append IsOk _ _ (all_append IsOk _ _ (all_append IsOk _ _ one two) three) four) five) six) seven) eight) nine) last

module _ (x y : ℤ) (t : Document) where
  abbrev s : Sight
  s = sight x y t

  -- a step of a box of the tree
  true_of : (b : Subtree) → Has (preorder [] t.boxes) b → (k : PaintStep) (l : Leaf) → Has (flat (painted_in k s.canvas b)) l → (w : Placing) → w.step ≡ k → w.context ≡ b.at.here.key → IsPlaced t l w
  true_of b there k l h w p q = record {
    box = b;
    there = contains_from (preorder [] t.boxes) b there;
    named = sym q;
    paints = contains_from (flat (painted_in w.step (canvas_of t.canvas) b)) l (subst (λ (j : PaintStep). Has (flat (painted_in j (canvas_of t.canvas) b)) l) (sym p) h);
  }

  all_placed : (above : List BoxData) (f : BoxForest) → ((b : Subtree) → Has (preorder above f) b → Has (preorder [] t.boxes) b)
      → AllByRecursion (λ b. AreOk s (IsPlaced t) b.order) (traced_below s above f)
  all_placed above empty there = tt
  all_placed above (tree k d children next) there =
      let b = box_data k d in
      let e : BoxPath = record { above = above; here = b } in
      let inner : AllByRecursion (λ b. AreOk s (IsPlaced t) b.order) (traced_below s (b ∷ above) children) =
      all_placed (b ∷ above) children (λ c h. there c (inr (has_left (preorder (b ∷ above) children) (preorder above next) c h))) in (
        steps_ok s (IsPlaced t) e (traced_below s (b ∷ above) children) (painted grouping s.canvas (b ∷ above) children) (alike_below s (b ∷ above) children) inner
            (true_of (record { at = e; below = children }) (there (record { at = e; below = children }) (inl refl))),
        all_append (λ b. AreOk s (IsPlaced t) b.order) _ _ inner (all_placed above next (λ c h. there c (inr (has_right (preorder (b ∷ above) children) (preorder above next) c h)))),
      )

  first_placed : (f : BoxForest) → f ≡ t.boxes → AreOk s (IsPlaced t) (root_traces s f)
  first_placed empty e = tt
  first_placed (tree k d children next) e =
      let all = all_placed [] (tree k d children next) (λ b h. subst (λ (g : BoxForest). Has (preorder [] g) b) e h) in
      entry_ok s (IsPlaced t) (traced_at s (record { above = []; here = box_data k d }) (traced_below s (box_data k d ∷ []) children)) all.0

pub placed : PlacesLaw
placed x y t = first_placed x y (drawn t) (drawn t).boxes refl
