-- The items that a box gives, of those that are wanted.
use Rattle.std.specs.Prelude.{Bool, ℕ, ◌+◌, Option, Some, None}
use Rattle.rd_geom.specs.Plane.{Rectangle}
use Rattle.rd_keys.specs.declared.entry.Part.{Part}
use Rattle.rd_keys.specs.declared.entry.Part.TheVariants.{Back, Border}
use Rattle.rd_list.specs.Entries.{Entries, option_entry, ◌▷◌}
use Rattle.rd_list.specs.Wrappers.{Wrapper}
use Rattle.rd_item.specs.declared.leaf.Leaf.{Leaf}
use Rattle.rd_item.specs.Items.{Made}
use Rattle.rd_stack.specs.Paths.{BoxData}
use Rattle.rd_partial.specs.Internal.Counting.{leaves_in}
use Rattle.rd_partial.specs.Internal.Picking.{made_if}
use Rattle.rd_partial.specs.Internal.Inherited.{Inherited, leaf_in}

-- the item of a leaf, where there is one and it is wanted
abbrev pub if_wanted : (Rectangle → Bool) → ℕ → Option Leaf → Option Made
if_wanted wants n None = None
if_wanted wants n (Some l) = made_if (λ x. wants x.visible) n l

-- the item of a part of a box, made by paint n
abbrev pub gives : (Rectangle → Bool) → ℕ → Inherited → BoxData → Part → Entries Wrapper Made
gives wants n s b part = option_entry (if_wanted wants n (leaf_in s b part))

-- the items of its background, and of its border on top
abbrev pub gives_back_border : (Rectangle → Bool) → ℕ → Inherited → BoxData → Entries Wrapper Made
gives_back_border wants n s b = gives wants n s b Back ▷ gives wants n s b Border

-- how many they are
abbrev pub back_border_cost : (Rectangle → Bool) → ℕ → Inherited → BoxData → ℕ
back_border_cost wants n s b = leaves_in (gives wants n s b Back) + leaves_in (gives wants n s b Border)
