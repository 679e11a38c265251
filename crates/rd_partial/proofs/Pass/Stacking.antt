-- A layer is put among those of its stacking context.
use Rattle.std.proofs.Common.{◌≡◌, refl, ap, ◌∙◌, sym, Bool, true, false, not, ◌&&◌, List, [], ◌∷◌, ◌++◌, ℤ, pos, map}
use Rattle.std.proofs.lemmas.List.{append-nil, map-append}
use Rattle.std.specs.Prelude.{int_lt}
use Rattle.rd_item.specs.Items.{Made}
use Rattle.rd_list.specs.Entries.{Entries, nil, ◌▷◌, is_empty}
use Rattle.rd_list.proofs.Joins.{join-nil}
use Rattle.rd_list.specs.Nested.{Nested, laid_out}
use Rattle.rd_list.specs.Wrappers.{Wrapper}
use Rattle.rd_partial.specs.declared.lists.LayerOrder as code
use Rattle.rd_partial.specs.declared.lists.LayerLists.{LayerLists}
use Rattle.rd_partial.specs.Internal.ContextLists.{ContextLists, LayerOrder, ◌⊕◌, entries_if, list_if}
use Rattle.rd_partial.specs.Internal.Held.{held_stack}
use Rattle.rd_partial.specs.Internal.Work.{layer_lists, held_layers}
use Rattle.rd_partial.proofs.Pass.Levels.{none_there, turned}

abbrev of_layers : List (LayerOrder Made) → Entries Wrapper Made → List (LayerOrder Made) → ContextLists Made
of_layers u m o = record { negatives = u; backgrounds = nil; floats = nil; line = nil; contents = nil; zeros = m; positives = o; outlines = nil }

none_put : (u : List (LayerOrder Made)) (m : Entries Wrapper Made) (o : List (LayerOrder Made)) (s t r : Bool) → of_layers (u ++ list_if s []) (m ▷ entries_if t nil) (o ++ list_if r []) ≡ of_layers u m o
none_put u m o true true true = rw (append-nil u, join-nil m, append-nil o) refl
none_put u m o true true false = rw (append-nil u, join-nil m, append-nil o) refl
none_put u m o true false true = rw (append-nil u, join-nil m, append-nil o) refl
none_put u m o true false false = rw (append-nil u, join-nil m, append-nil o) refl
none_put u m o false true true = rw (append-nil u, join-nil m, append-nil o) refl
none_put u m o false true false = rw (append-nil u, join-nil m, append-nil o) refl
none_put u m o false false true = rw (append-nil u, join-nil m, append-nil o) refl
none_put u m o false false false = rw (append-nil u, join-nil m, append-nil o) refl

pub empty_layer : {A : Type 0} (l : LayerLists A) (z : ℤ) (order : Entries Wrapper Made) → is_empty order ≡ true → held_layers l ≡ held_layers l ⊕ layer_lists z order
empty_layer l z order e =
    sym (ap (λ x. held_layers l ⊕ layer_lists z x) (none_there order e)
    ∙ none_put (map held_stack l.negatives.items) (laid_out l.zeros) (map held_stack l.positives.items) (int_lt z (pos 0)) (not (int_lt z (pos 0)) && not (int_lt (pos 0) z)) (int_lt (pos 0) z))

pub under_layer : {A : Type 0} (l m : LayerLists A) (y : code.LayerOrder A) (z : ℤ) (order : Nested Wrapper Made) → y.level ≡ z → y.order ≡ order → laid_out m.zeros ≡ laid_out l.zeros → m.positives.items ≡ l.positives.items → m.negatives.items ≡ l.negatives.items ++ y ∷ [] → int_lt z (pos 0) ≡ true → is_empty (laid_out order) ≡ false
    → held_layers m ≡ held_layers l ⊕ layer_lists z (laid_out order)
under_layer l m y z order a b h k e s f = rw (h, k, e, map-append held_stack l.negatives.items (y ∷ []), a, b, s, turned z (pos 0) s, f, join-nil (laid_out l.zeros), append-nil (map held_stack l.positives.items)) refl

pub over_layer : {A : Type 0} (l m : LayerLists A) (y : code.LayerOrder A) (z : ℤ) (order : Nested Wrapper Made) → y.level ≡ z → y.order ≡ order → laid_out m.zeros ≡ laid_out l.zeros → m.negatives.items ≡ l.negatives.items → m.positives.items ≡ l.positives.items ++ y ∷ [] → int_lt (pos 0) z ≡ true → is_empty (laid_out order) ≡ false
    → held_layers m ≡ held_layers l ⊕ layer_lists z (laid_out order)
over_layer l m y z order a b h k e s f = rw (h, k, e, map-append held_stack l.positives.items (y ∷ []), a, b, s, turned (pos 0) z s, f, join-nil (laid_out l.zeros), append-nil (map held_stack l.negatives.items)) refl

pub zero_layer : {A : Type 0} (l m : LayerLists A) (z : ℤ) (order : Entries Wrapper Made) → m.negatives.items ≡ l.negatives.items → m.positives.items ≡ l.positives.items → laid_out m.zeros ≡ laid_out l.zeros ▷ order → int_lt z (pos 0) ≡ false → int_lt (pos 0) z ≡ false
    → held_layers m ≡ held_layers l ⊕ layer_lists z order
zero_layer l m z order h k e s t = rw (h, k, e, s, t, append-nil (map held_stack l.negatives.items), append-nil (map held_stack l.positives.items)) refl
