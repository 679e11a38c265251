-- Lists of items, and the leaves that they show.
use Rattle.std.proofs.Common.{◌≡◌, refl, ap}
use Rattle.rd_keys.specs.declared.entry.EntryKey.{EntryKey}
use Rattle.rd_item.specs.Items.{Made}
use Rattle.rd_list.specs.Wrappers.{Wrapper}
use Rattle.rd_list.specs.Entries.{Entries, nil, leaf, group, ◌▷◌}
use Rattle.rd_list.specs.EntryNames.{kept_leaves, new_leaves}
use Rattle.rd_list.specs.Kept.{Ordered}
use Rattle.rd_list.specs.Unordered.{unordered}

pub same_leaves : (kept : Entries (Ordered EntryKey Wrapper) Made) → new_leaves (unordered kept) ≡ kept_leaves kept
same_leaves nil = refl
same_leaves (leaf m xs) = ap (leaf m.leaf) (same_leaves xs)
same_leaves (group g inner xs) = rw (same_leaves inner, same_leaves xs) refl

pub leaves-join : (xs ys : Entries Wrapper Made) → new_leaves (xs ▷ ys) ≡ new_leaves xs ▷ new_leaves ys
leaves-join nil ys = refl
leaves-join (leaf m xs) ys = ap (leaf m.leaf) (leaves-join xs ys)
leaves-join (group g inner xs) ys = ap (group g (new_leaves inner)) (leaves-join xs ys)
