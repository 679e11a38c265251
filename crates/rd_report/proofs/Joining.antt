-- Texts that are put one after another, and the widths of lists.
use Rattle.std.proofs.Common.{◌≡◌, ℕ, ◌+◌, List, [], ◌∷◌, length, refl, ap, arith, append_assoc, append-nil}
use Rattle.rd_list.specs.Entries.{Entries, nil, leaf, group}
use Rattle.rd_list.specs.KeptView.{kept_entries}
use Rattle.rd_list.specs.Unordered.{unordered}
use Rattle.rd_list.specs.declared.kept.Entry.{Entry}
use Rattle.rd_list.specs.declared.kept.Entry.TheVariants.{Leaf, Group}
use Rattle.rd_item.specs.Items.{Made}
use Rattle.rd_list.specs.Wrappers.{Wrapper}
use Rattle.rd_tree.specs.Document.{BoxForest}
use Rattle.rd_report.specs.Dumps.{width, named_list}

pub width-kept : {A : Type 0} (es : List (Entry A)) → width (unordered (kept_entries es)) ≡ length es
width-kept [] = refl
width-kept (Leaf i ∷ es) = let r = width-kept es in omega (arith, r)
width-kept (Group g ∷ es) = let r = width-kept es in omega (arith, r)

-- a list has as many entries by ids
pub width-named : (t : BoxForest) (xs : Entries Wrapper Made) → width (named_list t xs) ≡ width xs
width-named t nil = refl
width-named t (leaf i xs) = let r = width-named t xs in omega (arith, r)
width-named t (group g inner xs) = let r = width-named t xs in omega (arith, r)

pub ruleset joining = (width-named, width-kept, append_assoc, append-nil)
