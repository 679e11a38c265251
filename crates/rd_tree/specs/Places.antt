-- Where a box stands: below which other, and before which sibling.
use Rattle.std.specs.Prelude.{Bool, if◌then◌else◌, Option, Some, None}
use Rattle.rd_tree.specs.Forest.{Forest, empty, tree, head, has, is_among, starting_at}

module _ {K D : Type 0} where
  -- the siblings after the first
  abbrev pub after_first : Forest K D → Forest K D
  after_first empty = empty
  after_first (tree k d below rest) = rest

  module _ (same : K → K → Bool) where
    -- the box that has j as a child
    abbrev pub parent_of : K → Forest K D → Option K
    parent_of j empty = None
    parent_of j (tree k d below rest) = if is_among same j below then Some k else if has same j
        below then parent_of j below else parent_of j rest

    -- the next sibling of j
    abbrev pub next_of : K → Forest K D → Option K
    next_of j f = head (after_first (starting_at same j f))
