-- The list of the engine, as the machine keeps it.
use Rattle.std.proofs.Common.{◌≡◌, suc, false, List, [], ◌∷◌, length, map, refl, sym, ◌∙◌, ap, ap₂, subst, arith}
use Rattle.std.specs.Prelude.{AllPairs, Contains}
use Rattle.std.specs.List.{AllByRecursion}
use Rattle.std.specs.Prelude.{find}
use Rattle.std.specs.Option.{option_map_or}
use Rattle.std.proofs.lemmas.List.{get_or-map, length-map, map-append}
use Rattle.rd_keys.specs.declared.entry.EntryKey.{EntryKey}
use Rattle.rd_item.specs.declared.leaf.Leaf.{Leaf}
use Rattle.rd_item.specs.Items.{Made}
use Rattle.rd_list.specs.Wrappers.{Wrapper}
use Rattle.rd_list.specs.Entries.{Entries, nil, leaf, group, flat}
use Rattle.rd_list.specs.EntryNames.{kept_leaves, new_leaves}
use Rattle.rd_list.specs.Kept.{Ordered}
use Rattle.rd_list.specs.Lists.{same_leaf}
use Rattle.rd_list.specs.Unordered.{unordered}
use Rattle.rd_report.proofs.Dumping.{flat-unordered}
use Rattle.rd_run.proofs.Numbers.{found}

-- without its graphs a kept list has the same leaves
pub unordered_leaves : (xs : Entries (Ordered EntryKey Wrapper) Made) → new_leaves (unordered xs) ≡ kept_leaves xs
unordered_leaves nil = refl
unordered_leaves (leaf m xs) = ap (leaf m.leaf) (unordered_leaves xs)
unordered_leaves (group g inner xs) = rw (unordered_leaves inner, unordered_leaves xs) refl

kept_flat : (xs : Entries (Ordered EntryKey Wrapper) Made) → flat (kept_leaves xs) ≡ map (λ m. m.leaf) (flat xs)
kept_flat nil = refl
kept_flat (leaf m xs) = ap (λ z. m.leaf ∷ z) (kept_flat xs)
kept_flat (group g inner xs) = rw (kept_flat inner, kept_flat xs) (sym (map-append {B = Leaf} (λ (m : Made). m.leaf) (flat inner) (flat xs)))

pairs_back : (ms : List Made) → AllPairs (λ a b. same_leaf a b ≡ false) (map (λ m. m.leaf) ms) → AllPairs (λ a b. same_leaf a.leaf b.leaf ≡ false) ms
pairs_back ms h = λ i j d l k.
    let n : length (map (λ (m : Made). m.leaf) ms) ≡ length ms = length-map ms (λ (m : Made). m.leaf) in
    ap₂ same_leaf (sym (get_or-map (λ (m : Made). m.leaf) ms i d d.leaf (omega (arith, l, k)))) (sym (get_or-map (λ (m : Made). m.leaf) ms j d d.leaf k))
    ∙ h i j d.leaf l (omega (arith, k, n))

-- an item of a kept list whose leaves are there once is found by its leaf
pub kept_number : (xs : Entries (Ordered EntryKey Wrapper) Made) (i : Made) → AllPairs (λ a b. same_leaf a b ≡ false) (flat (kept_leaves xs))
    → Contains (flat xs) i
    → option_map_or (λ j. j.made_at) (find (λ j. same_leaf j.leaf i.leaf) (flat (unordered xs))) 0 ≡ i.made_at
kept_number xs i once c =
    let apart = pairs_back (flat xs) (subst (λ (ls : List Leaf). AllPairs (λ a b. same_leaf a b ≡ false) ls) (kept_flat xs) once) in
    ap (λ z. option_map_or (λ j. j.made_at) (find (λ j. same_leaf j.leaf i.leaf) z) 0) (flat-unordered xs)
    ∙ found (flat xs) i c.0 c.1 c.2 apart

-- what holds of each item of a list
pub all_items : (P : Made → Type 0) (ms : List Made) → ((i : Made) → Contains ms i → P i) → AllByRecursion P ms
all_items P [] h = tt
all_items P (m ∷ ms) h = (h m (0, omega arith, refl), all_items P ms (λ i c. h i (suc c.0, (let l = c.1 in omega (arith, l)), c.2)))
