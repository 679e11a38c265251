-- Small lists for the tests.
use Rattle.std.specs.Prelude.{ℕ, true, [], ◌||◌}
use Rattle.rd_geom.specs.Plane.{Rectangle}
use Rattle.rd_geom.specs.declared.color.Color.{Color}
use Rattle.rd_keys.specs.Keys.{BoxKey, same_key}
use Rattle.rd_keys.specs.declared.entry.EntryKey.{EntryKey}
use Rattle.rd_keys.specs.declared.entry.Part.{Part}
use Rattle.rd_keys.specs.declared.entry.Part.TheVariants.{Back, Border, Content}
use Rattle.rd_item.specs.Items.{Made}
use Rattle.rd_geom.specs.declared.blend.Blend.TheVariants.{Multiply}
use Rattle.rd_list.specs.Wrappers.{Wrapper, wrapper}
use Rattle.rd_list.specs.Entries.{Entries, nil, leaf, group}
use Rattle.rd_list.specs.Kept.{KeptList}
use Rattle.rd_merge.specs.Merging.{MergedInto}

-- one item of a full rectangle
abbrev pub one_item : BoxKey → Part → Rectangle → Color → ℕ → Made
one_item owner part r ink at = record { leaf = record { owner = owner; part = part; visible = r; shape = record { outer = r; inner = r }; color = ink; hits = true }; made_at = at }

-- the back of one box, its group with its border and the back of another box, and its content
abbrev pub whole_list : BoxKey → BoxKey → Rectangle → Rectangle → Color → Entries Wrapper Made
whole_list one other r s ink =
    leaf (one_item one Back r ink 1) (group (wrapper one 128 Multiply) (leaf (one_item one Border s ink 1) (leaf (one_item other Back s ink 1) nil)) (leaf (one_item one Content r ink 1) nil))

-- of these what stands in the group, made anew
abbrev pub part_list : BoxKey → BoxKey → Rectangle → Color → Entries Wrapper Made
part_list one other s ink = group (wrapper one 128 Multiply) (leaf (one_item one Border s ink 2) (leaf (one_item other Back s ink 2) nil)) nil

-- the whole list without the other box
abbrev pub less_list : BoxKey → Rectangle → Rectangle → Color → Entries Wrapper Made
less_list one r s ink = leaf (one_item one Back r ink 1) (group (wrapper one 128 Multiply) (leaf (one_item one Border s ink 1) nil) (leaf (one_item one Content r ink 1) nil))

-- the whole list with content of the other box above the group
abbrev pub more_list : BoxKey → BoxKey → Rectangle → Rectangle → Color → Entries Wrapper Made
more_list one other r s ink =
    leaf (one_item one Back r ink 1)
    (group (wrapper one 128 Multiply) (leaf (one_item one Border s ink 1) (leaf (one_item other Back s ink 1) nil)) (leaf (one_item other Content s ink 1) (leaf (one_item one Content r ink 1) nil)))

-- of these what is of the other box, and the content, made anew
abbrev pub late_list : BoxKey → BoxKey → Rectangle → Rectangle → Color → Entries Wrapper Made
late_list one other r s ink = group (wrapper one 128 Multiply) (leaf (one_item other Back s ink 2) nil) (leaf (one_item other Content s ink 2) (leaf (one_item one Content r ink 2) nil))

-- a first merge of nothing with the whole list
abbrev pub IsFirst : BoxKey → BoxKey → Rectangle → Rectangle → Color → KeptList EntryKey Wrapper Made → Type 0
IsFirst one other r s ink kept = MergedInto (λ k. true || same_key other k) (record { graph = []; entries = nil }) (whole_list one other r s ink) kept
