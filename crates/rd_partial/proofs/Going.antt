-- What a look at a box tells of the walk over a tree.
use Rattle.std.proofs.Common.{◌≡◌, refl, ap, ◌∙◌, sym}
use Rattle.std.specs.Prelude.{Some}
use Rattle.rd_keys.specs.Keys.{BoxKey, same_key}
use Rattle.rd_tree.specs.Forest.{tree, starting_at, from_some, head, IsApart}
use Rattle.rd_tree.specs.declared.node.Item.{Item}
use Rattle.rd_tree.specs.Document.{BoxForest}
use Rattle.rd_tree.specs.Contexts.{blends_in}
use Rattle.rd_tree.specs.Shown.{Shown, shown}
use Rattle.rd_stack.proofs.Walk.Going as going
use Rattle.rd_stack.specs.Paths.{BoxData}
use Rattle.rd_partial.specs.Internal.BoxLook.{Onward}
use Rattle.rd_partial.specs.Looks.{hull_at}

hull_told : (root : BoxKey) (f : BoxForest) (k : BoxKey) (v : Shown) (d : Item) (below rest : BoxForest) → starting_at same_key k f ≡ tree k d below rest → Some v ≡ shown root (starting_at same_key k f) → v.hull ≡ hull_at d below
hull_told root f k v d below rest is h = let e : Some v ≡ shown root (tree k d below rest) = rw is at h in cc

first_told : (root : BoxKey) (f : BoxForest) (k : BoxKey) (v : Shown) (d : Item) (below rest : BoxForest) → starting_at same_key k f ≡ tree k d below rest → Some v ≡ shown root (starting_at same_key k f) → v.first_child ≡ head below
first_told root f k v d below rest is h = let e : Some v ≡ shown root (tree k d below rest) = rw is at h in cc

next_told : (root : BoxKey) (f : BoxForest) (k : BoxKey) (v : Shown) (d : Item) (below rest : BoxForest) → starting_at same_key k f ≡ tree k d below rest → Some v ≡ shown root (starting_at same_key k f) → v.next_sibling ≡ head rest
next_told root f k v d below rest is h = let e : Some v ≡ shown root (tree k d below rest) = rw is at h in cc

low_told : (root : BoxKey) (f : BoxForest) (k : BoxKey) (v : Shown) (d : Item) (below rest : BoxForest) → starting_at same_key k f ≡ tree k d below rest → Some v ≡ shown root (starting_at same_key k f) → v.blend_below ≡ blends_in below
low_told root f k v d below rest is h = let e : Some v ≡ shown root (tree k d below rest) = rw is at h in cc

pub onward : (root : BoxKey) (f : BoxForest) (k : BoxKey) (v : Shown) (here : BoxData) → IsApart same_key f → Some v ≡ shown root (starting_at same_key k f) → here ≡ record { key = v.key; rect = v.at; style = v.style }
    → Onward f k here v.first_child v.next_sibling v.hull
onward root f k v here a h e =
    let w = going.onward root f k v here a h e in
    record { item = w.item; below = w.below; rest = w.rest; is = w.is; data_is = w.data_is; child = w.child; next = w.next; child_first = first_told root f k v w.item w.below w.rest w.is h; next_first = next_told root f k v w.item w.below w.rest w.is h; hull_is = hull_told root f k v w.item w.below w.rest w.is h }

-- whether a blended layer is below it
pub low_first : (root : BoxKey) (f : BoxForest) (k : BoxKey) (v : Shown) → IsApart same_key f → Some v ≡ shown root (starting_at same_key k f) → v.blend_below ≡ blends_in (from_some same_key v.first_child f)
low_first root f k v a h =
    let w = going.onward root f k v (record { key = v.key; rect = v.at; style = v.style }) a h refl in
    low_told root f k v w.item w.below w.rest w.is h ∙ ap blends_in (sym w.child)
