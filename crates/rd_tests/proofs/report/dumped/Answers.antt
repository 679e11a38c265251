use Rattle.std.proofs.Common.{◌≡◌, ◌∙◌, ap, arith, length}
use Rattle.rd_item.specs.Items.{Made}
use Rattle.rd_keys.specs.declared.entry.EntryKey.{EntryKey}
use Rattle.rd_list.specs.Entries.{Entries, nil, leaf, group, flat}
use Rattle.rd_list.specs.GroupDepth.{group_depth}
use Rattle.rd_list.specs.Kept.{KeptList, Ordered}
use Rattle.rd_list.specs.Views.{larger}
use Rattle.rd_list.specs.Wrappers.{Wrapper}
use Rattle.rd_tests.proofs.report.dumped.Goals as goal

-- a group of one leaf has that leaf, and is one group deep
one : (g : Ordered EntryKey Wrapper) (m : Made) (inner whole : Entries (Ordered EntryKey Wrapper) Made) → inner ≡ leaf m nil → whole ≡ group g inner nil → (length (flat whole) ≡ 1) × (group_depth whole ≡ 1)
one g m inner whole e f = rw (f, e) (omega arith, omega arith)

pub push_dump-requires-clause-leaves : goal.push_dump-requires-clause-leaves
push_dump-requires-clause-leaves g c =
    let n = (one _ _ _ _ c.list_of-inner.ensures (ap (λ (k : KeptList EntryKey Wrapper Made). k.entries) c.view.ensures ∙ c.list_of-list.ensures)).0 in
    omega (arith, n)

pub push_dump-requires-clause-groups : goal.push_dump-requires-clause-groups
push_dump-requires-clause-groups g c =
    let n = (one _ _ _ _ c.list_of-inner.ensures (ap (λ (k : KeptList EntryKey Wrapper Made). k.entries) c.view.ensures ∙ c.list_of-list.ensures)).1 in
    omega (arith, n)
