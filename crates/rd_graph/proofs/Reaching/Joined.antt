-- The loops that add a chain.
use Rattle.std.proofs.Common.{◌≡◌, ap, ◌∙◌, sym, ℕ, ◌+◌, ◌<◌, Bool, cond, List, [], ◌∷◌, ◌++◌, length, take, get_or, append_assoc, Option, Some, is_some}
use Rattle.std.proofs.lemmas.List.{take_more, map-append, append-nil}
use Rattle.rd_keys.specs.declared.entry.EntryKey.{EntryKey}
use Rattle.rd_graph.specs.Graphs.{Graph, nodes}
use Rattle.rd_graph.specs.Names.{is_in}
use Rattle.rd_graph.specs.Internal.Chains.{just_before, new_among, old_part, new_part}
use Rattle.rd_graph.specs.Internal.Seen.{seen, labelled}
use Rattle.rd_graph.specs.declared.graph.Node.{Node}
use Rattle.rd_graph.specs.Names.{same_entry}
use Rattle.rd_graph.proofs.Lists.Entries.{named_one}

module _ {E : Type 0} (same : E → E → Bool) (stands : E → Bool) (chain : List E) where
  new_among-more : (ks : List E) (k : E) → new_among same stands chain (ks ++ k ∷ []) ≡ new_among same stands chain ks ++ cond (stands k) [] ((k, just_before same chain k) ∷ [])
  new_among-more [] k = append-nil _
  new_among-more (x ∷ ks) k = rw (new_among-more ks k) (sym (append_assoc (cond (stands x) [] ((x, just_before same chain x) ∷ [])) _ _))

labelled-append : (f : EntryKey → ℕ) (xs ys : Graph EntryKey) → labelled f (xs ++ ys) ≡ labelled f xs ++ labelled f ys
labelled-append f xs ys = map-append {B = ℕ × (EntryKey × List EntryKey)} (λ (x : EntryKey × List EntryKey). (f x.0, x)) xs ys

pub joins_next : (stands : EntryKey → Bool) (chain : List EntryKey) (label : EntryKey → ℕ) (i : ℕ) (d : EntryKey) (start now then : List (ℕ × (EntryKey × List EntryKey))) → i < length chain
    → now ≡ start ++ labelled label (new_among same_entry stands chain (take i chain))
    → then ≡ now ++ labelled label (cond (stands (get_or chain i d)) [] ((get_or chain i d, just_before same_entry chain (get_or chain i d)) ∷ []))
    → then ≡ start ++ labelled label (new_among same_entry stands chain (take (i + 1) chain))
joins_next stands chain label i d start now then h was is =
    let k : EntryKey = get_or chain i d in
    rw (is, was, take_more chain i d h, new_among-more same_entry stands chain (take i chain) k, labelled-append label (new_among same_entry stands chain (take i chain)) (cond (stands k) [] ((k, just_before same_entry chain k) ∷ [])))
    (append_assoc start (labelled label (new_among same_entry stands chain (take i chain))) (labelled label (cond (stands k) [] ((k, just_before same_entry chain k) ∷ []))))

pub keys_next : (ns : List Node) (i : ℕ) (x : Node) (v : ℕ) (old new : EntryKey → Option ℕ) → i < length ns → x ≡ get_or ns i x → ((k : EntryKey) → is_some (old k) ≡ is_in same_entry (nodes (seen (take i ns))) k)
    → ((k : EntryKey) → new k ≡ cond (same_entry x.key k) (Some v) (old k)) → (k : EntryKey) → is_some (new k) ≡ is_in same_entry (nodes (seen (take (i + 1) ns))) k
keys_next ns i x v old new h is was now = named_one (nodes (seen (take i ns))) (nodes (seen (take (i + 1) ns))) x.key v old new was now more
  where
    more : nodes (seen (take (i + 1) ns)) ≡ nodes (seen (take i ns)) ++ x.key ∷ []
    more = ap (λ ms. nodes (seen ms)) (take_more ns i x h ∙ ap (λ y. take i ns ++ y ∷ []) (sym is))
        ∙ ap nodes (map-append {B = EntryKey × List EntryKey} (λ (n : Node). (n.key, n.before.items)) (take i ns) (x ∷ []))
        ∙ map-append {B = EntryKey} (λ (p : EntryKey × List EntryKey). p.0) (seen (take i ns)) ((x.key, x.before.items) ∷ [])

pub joins_all : (stands : EntryKey → Bool) (chain : List EntryKey) (label : EntryKey → ℕ) (g : Graph EntryKey) (old all : List (ℕ × (EntryKey × List EntryKey)))
    → ((k : EntryKey) → stands k ≡ is_in same_entry (nodes g) k) → old ≡ labelled label (old_part same_entry chain g) → all ≡ old ++ labelled label (new_among same_entry stands chain chain)
    → all ≡ labelled label (old_part same_entry chain g ++ new_part same_entry chain g)
joins_all stands chain label g old all same was is =
    let e : stands ≡ is_in same_entry (nodes g) = λ i k. same k i in
    rw (is, was, e) (sym (labelled-append label (old_part same_entry chain g) (new_part same_entry chain g)))
