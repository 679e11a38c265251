-- The pixel and the hit of a wire with one entry more on top.
use Rattle.std.proofs.Common.{◌≡◌, ap, ◌∙◌, sym, Bool, List, [], ◌∷◌, ◌++◌, ℕ, ℤ, ◌<◌, ◌+◌, length, take, get_or, Option}
use Rattle.std.proofs.lemmas.List.{take_more}
use Rattle.rd_geom.specs.Colors.{Premultiplied}
use Rattle.rd_keys.specs.Keys.{BoxKey}
use Rattle.rd_item.specs.declared.leaf.Leaf as item
use Rattle.rd_list.specs.Entries.{flat, ◌▷◌}
use Rattle.rd_list.specs.EntryNames.{new_leaves}
use Rattle.rd_list.specs.Lists.{composed}
use Rattle.rd_list.specs.Internal.LastHit.{last_owner}
use Rattle.rd_list.proofs.Joins.{flat-join}
use Rattle.rd_list.proofs.Composing.{composed-join}
use Rattle.rd_list.proofs.LastOwner.{last_owner-append}
use Rattle.rd_wire.specs.declared.wire.WireEntry.{WireEntry}
use Rattle.rd_wire.specs.Internal.Listed.{listed}
use Rattle.rd_wire.proofs.Bared.{leaves-join}
use Rattle.rd_wire.proofs.Going.{listed-append}

last_one : (es : List WireEntry) (i : ℕ) (e : WireEntry) → i < length es → e ≡ get_or es i e → take (i + 1) es ≡ take i es ++ e ∷ []
last_one es i e h k = take_more es i e h ∙ ap (λ y. take i es ++ y ∷ []) (sym k)

shown_more : (es : List WireEntry) (i : ℕ) (e : WireEntry) → i < length es → e ≡ get_or es i e
    → new_leaves (listed (take (i + 1) es)) ≡ new_leaves (listed (take i es)) ▷ new_leaves (listed (e ∷ []))
shown_more es i e h k =
    ap (λ ys. new_leaves (listed ys)) (last_one es i e h k) ∙ ap new_leaves (listed-append (take i es) (e ∷ [])) ∙ leaves-join (listed (take i es)) (listed (e ∷ []))

pub composed_more : (x y : ℤ) (es : List WireEntry) (i : ℕ) (e : WireEntry) (d before after : Premultiplied) → i < length es → e ≡ get_or es i e
    → before ≡ composed x y d (new_leaves (listed (take i es))) → after ≡ composed x y before (new_leaves (listed (e ∷ []))) → after ≡ composed x y d (new_leaves (listed (take (i + 1) es)))
composed_more x y es i e d before after h k a b =
    b ∙ ap (λ p. composed x y p (new_leaves (listed (e ∷ [])))) a
    ∙ sym (composed-join x y d (new_leaves (listed (take i es))) (new_leaves (listed (e ∷ []))))
    ∙ ap (composed x y d) (sym (shown_more es i e h k))

pub hits_more : (p : item.Leaf → Bool) (es : List WireEntry) (i : ℕ) (e : WireEntry) (f before after : Option BoxKey) → i < length es → e ≡ get_or es i e
    → before ≡ last_owner p f (flat (new_leaves (listed (take i es)))) → after ≡ last_owner p before (flat (new_leaves (listed (e ∷ [])))) → after ≡ last_owner p f (flat (new_leaves (listed (take (i + 1) es))))
hits_more p es i e f before after h k a b =
    b ∙ ap (λ g. last_owner p g (flat (new_leaves (listed (e ∷ []))))) a
    ∙ sym (last_owner-append p f (flat (new_leaves (listed (take i es)))) (flat (new_leaves (listed (e ∷ [])))))
    ∙ ap (last_owner p f) (sym (flat-join (new_leaves (listed (take i es))) (new_leaves (listed (e ∷ [])))))
    ∙ ap (λ ys. last_owner p f (flat ys)) (sym (shown_more es i e h k))
