-- Entries that are told one after another.
use Rattle.std.proofs.Common.{◌≡◌, ℕ, ◌+◌, ◌<◌, List, [], ◌∷◌, ◌++◌, length, take, get_or, refl, sym, ◌∙◌, ap, arith, append_assoc, append-nil}
use Rattle.std.proofs.lemmas.List.{take_more}
use Rattle.rd_item.specs.Items.{Made}
use Rattle.rd_keys.specs.declared.entry.EntryKey.{EntryKey}
use Rattle.rd_list.specs.Wrappers.{Wrapper}
use Rattle.rd_list.specs.Entries.{Entries, nil, leaf, group, ◌▷◌}
use Rattle.rd_list.specs.Kept.{Ordered}
use Rattle.rd_list.specs.KeptView.{kept_entries}
use Rattle.rd_list.specs.declared.kept.Entry.{Entry}
use Rattle.rd_list.specs.declared.kept.Entry.TheVariants as kept
use Rattle.rd_list.proofs.News.{kept-append}
use Rattle.rd_c.specs.Listed.{listed, told_leaf, told_group, count_of}
use Rattle.rd_c.specs.declared.listing.RdEntry.{RdEntry}

abbrev KeptEntries : Type 0
KeptEntries = Entries (Ordered EntryKey Wrapper) Made

pub count-kept : {A : Type 0} (es : List (Entry A)) → count_of (kept_entries es) ≡ length es
count-kept [] = refl
count-kept (kept.Leaf i ∷ es) = let r = count-kept es in omega (arith, r)
count-kept (kept.Group g ∷ es) = let r = count-kept es in omega (arith, r)

listed-join : (xs ys : KeptEntries) → listed (xs ▷ ys) ≡ listed xs ++ listed ys
listed-join nil ys = refl
listed-join (leaf m xs) ys = ap (λ z. told_leaf m ∷ z) (listed-join xs ys)
listed-join (group g inner xs) ys =
    ap (λ z. told_group g.of (count_of inner) ∷ (listed inner ++ z)) (listed-join xs ys)
    ∙ ap (λ z. told_group g.of (count_of inner) ∷ z) (sym (append_assoc (listed inner) (listed xs) (listed ys)))

-- one more entry
pub listed_more : {A : Type 0} (es : List (Entry A)) (i : ℕ) (x : Entry A) → i < length es → x ≡ get_or es i x → (begun before after : List RdEntry)
    → before ≡ begun ++ listed (kept_entries (take i es)) → after ≡ before ++ listed (kept_entries (x ∷ [])) → after ≡ begun ++ listed (kept_entries (take (i + 1) es))
listed_more es i x h e begun before after p q =
    let more : kept_entries (take (i + 1) es) ≡ kept_entries (take i es) ▷ kept_entries (x ∷ []) =
    ap kept_entries (take_more es i x h ∙ ap (λ y. take i es ++ y ∷ []) (sym e)) ∙ kept-append (take i es) (x ∷ []) in
    q ∙ ap (λ z. z ++ listed (kept_entries (x ∷ []))) p ∙ append_assoc begun (listed (kept_entries (take i es))) (listed (kept_entries (x ∷ [])))
    ∙ ap (λ z. begun ++ z) (sym (ap listed more ∙ listed-join (kept_entries (take i es)) (kept_entries (x ∷ []))))

pub ruleset telling = (count-kept, append_assoc, append-nil)
