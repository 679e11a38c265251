-- LayerLists laid one on another in a loop.
use Rattle.std.proofs.Common.{◌≡◌, ◌∙◌, sym, List, [], ◌∷◌, length, map, arith}
use Rattle.rd_item.specs.Items.{Made}
use Rattle.rd_list.specs.Entries.{Entries, ◌▷◌, each}
use Rattle.rd_list.proofs.Joins.{join-nil, join_assoc}
use Rattle.rd_list.specs.Nested.{laid_out}
use Rattle.rd_list.specs.Wrappers.{Wrapper}
use Rattle.rd_partial.specs.declared.lists.LayerOrder.{LayerOrder}
use Rattle.rd_partial.specs.Internal.Held.{held_stack}

pub lay_more : {A : Type 0} (ps qs : List (LayerOrder A)) (x : LayerOrder A) (out whole new : Entries Wrapper Made) → ps ≡ x ∷ qs → new ≡ out ▷ laid_out x.order
    → out ▷ each (λ y. y.order) (map held_stack ps) ≡ whole → new ▷ each (λ y. y.order) (map held_stack qs) ≡ whole
lay_more ps qs x out whole new e n h =
    let same : out ▷ each (λ y. y.order) (map held_stack (x ∷ qs)) ≡ whole = rw e at h in
    rw n (join_assoc out (laid_out x.order) (each (λ y. y.order) (map held_stack qs)) ∙ same)

pub none_left : {A : Type 0} (ps : List (LayerOrder A)) (out whole : Entries Wrapper Made) → length ps ≡ 0 → out ▷ each (λ y. y.order) (map held_stack ps) ≡ whole → out ≡ whole
none_left [] out whole e h = sym (join-nil out) ∙ h
none_left (x ∷ ps) out whole e h = absurd (omega (arith, e))
