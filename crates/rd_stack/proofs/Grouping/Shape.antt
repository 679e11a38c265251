-- Which boxes of a tree are grouped, told by the boxes below them.
use Rattle.std.proofs.Common.{◌≡◌, refl, ap, ◌∙◌, sym, Bool, true, false, not, ◌&&◌, ◌||◌, List, [], ◌∷◌, ◌++◌}
use Rattle.std.specs.Prelude.{nat_lt}
use Rattle.std.specs.List.{list_all, list_any}
use Rattle.std.proofs.lemmas.List.Folds.{list_any-append}
use Rattle.rd_style.specs.declared.styles.Style.{Style}
use Rattle.rd_style.specs.declared.kinds.Class.TheVariants.{Layer}
use Rattle.rd_style.specs.Classes.{class, real, blended, makes_layer}
use Rattle.rd_keys.specs.Keys.{BoxKey, same_key}
use Rattle.rd_tree.specs.Forest.{empty, tree, has}
use Rattle.rd_tree.specs.declared.node.Item.{Item}
use Rattle.rd_tree.specs.Document.{BoxForest}
use Rattle.rd_tree.specs.Contexts.{blends_in}
use Rattle.rd_tree.proofs.Linking.Standing.{either}
use Rattle.rd_stack.specs.Paths.{BoxData, BoxPath, is_class, is_no_context, is_blended_layer}
use Rattle.rd_stack.specs.Fresh.{box_data, Subtree, preorder, is_grouped_at, grouped_in}
use Rattle.rd_stack.proofs.Counting.Paths.{between-path, is_none-path}

-- is a box that is not the root grouped?
abbrev pub grouped_box : Item → Bool → Bool
grouped_box d low = real d.style false && (nat_lt d.style.opacity 255 || blended d.style || low)

-- is the root?
abbrev pub grouped_root : Item → Bool
grouped_root d = nat_lt d.style.opacity 255 || blended d.style || false

-- the box of a key below the root
abbrev pub grouped_low : BoxForest → BoxKey → Bool
grouped_low empty j = false
grouped_low (tree k d below rest) j = (same_key j k && grouped_box d (blends_in below)) || (grouped_low below j || grouped_low rest j)

-- the box of a key in a tree
abbrev pub grouped_tree : BoxForest → BoxKey → Bool
grouped_tree empty j = false
grouped_tree (tree k d below rest) j = (same_key j k && grouped_root d) || (grouped_low below j || false)

and_none : (p : Bool) → (p && false) ≡ false
and_none true = refl
and_none false = refl

-- A blended box is a layer.
layered : (s : Style) → blended s ≡ true → is_class Layer (class s false) ≡ true
layered s h = let m : makes_layer s false ≡ true = rw h (whole _ _ _) in rw m refl
  where
    whole : (a o c : Bool) → (a || (o || true || c)) ≡ true
    whole true o c = refl
    whole false true c = refl
    whole false false c = refl

layer_first : (s : Style) (p : Bool) → ((is_class Layer (class s false) && p) && blended s) ≡ (p && blended s)
layer_first s p = by (blended s) refl
  where
    last : (c p : Bool) → ((c && p) && false) ≡ (p && false)
    last true p = refl
    last false p = sym (and_none p)

    by : (b : Bool) → blended s ≡ b → ((is_class Layer (class s false) && p) && b) ≡ (p && b)
    by true e = ap (λ c. (c && p) && true) (layered s e)
    by false e = last (is_class Layer (class s false)) p

gathered : (p bl r b1 b2 : Bool) → ((p && bl) || (((not r && p) && b1) || (p && b2))) ≡ (p && ((bl || (not r && b1)) || b2))
gathered true true r b1 b2 = refl
gathered true false true b1 b2 = refl
gathered true false false b1 b2 = refl
gathered false bl true b1 b2 = refl
gathered false bl false b1 b2 = refl

-- The blended layers of a box are those that stand under no stacking context.
pub layers-found : (e : BoxPath) (path : List BoxData) (f : BoxForest) → list_any (λ x. is_blended_layer e x.at) (preorder (path ++ e.here ∷ e.above) f) ≡ (list_all is_no_context path && blends_in f)
layers-found e path empty = sym (and_none (list_all is_no_context path))
layers-found e path (tree k d below rest) =
    let above = path ++ e.here ∷ e.above in
    let x : BoxPath = record { above = above; here = box_data k d } in
    let p : Subtree → Bool = λ x. is_blended_layer e x.at in
    let free = list_all is_no_context path in
    let here : is_blended_layer e x ≡ (free && blended d.style) =
    (λ i. (is_class Layer (class d.style (is_none-path path e.here e.above i)) && list_all is_no_context (between-path e x path refl i)) && blended d.style) ∙ layer_first d.style free in
    let low = layers-found e (box_data k d ∷ path) below in
    let later = layers-found e path rest in
    ap (λ b. is_blended_layer e x || b) (list_any-append p (preorder (box_data k d ∷ above) below) (preorder above rest))
    ∙ ((λ i. here i || (low i || later i)) ∙ gathered free (blended d.style) (real d.style false) (blends_in below) (blends_in rest))

pub box-found : (b : BoxData) (up : List BoxData) (k : BoxKey) (d : Item) (below : BoxForest)
    → is_grouped_at (record { at = record { above = b ∷ up; here = box_data k d }; below = below }) ≡ grouped_box d (blends_in below)
box-found b up k d below = ap (grouped_box d) (layers-found (record { above = b ∷ up; here = box_data k d }) [] below)

abbrev of_key : BoxKey → Subtree → Bool
of_key j s = same_key j s.at.here.key && is_grouped_at s

low-found : (j : BoxKey) (b : BoxData) (up : List BoxData) (f : BoxForest) → list_any (of_key j) (preorder (b ∷ up) f) ≡ grouped_low f j
low-found j b up empty = refl
low-found j b up (tree k d below rest) =
    let here = box-found b up k d below in
    let low = low-found j (box_data k d) (b ∷ up) below in
    let later = low-found j b up rest in
    ap (λ t. (same_key j k && is_grouped_at (record { at = record { above = b ∷ up; here = box_data k d }; below = below })) || t)
    (list_any-append (of_key j) (preorder (box_data k d ∷ b ∷ up) below) (preorder (b ∷ up) rest))
    ∙ (λ i. (same_key j k && here i) || (low i || later i))

-- So it is told of each box of a tree.
pub tree-found : (k j : BoxKey) (d : Item) (below : BoxForest) → grouped_in (tree k d below empty) j ≡ grouped_tree (tree k d below empty) j
tree-found k j d below =
    ap (λ t. (same_key j k && grouped_root d) || t) (list_any-append (of_key j) (preorder (box_data k d ∷ []) below) [])
    ∙ ap (λ t. (same_key j k && grouped_root d) || (t || false)) (low-found j (box_data k d) [] below)

-- What is not there is not grouped.
pub low-absent : (j : BoxKey) (f : BoxForest) → has same_key j f ≡ false → grouped_low f j ≡ false
low-absent j empty h = refl
low-absent j (tree k d below rest) h =
    let s = either (same_key j k) (has same_key j below || has same_key j rest) h in
    let t = either (has same_key j below) (has same_key j rest) s.1 in
    rw (s.0, low-absent j below t.0, low-absent j rest t.1) refl
