-- The ids of a generated script. They are this project's own choice.
use Rattle.std.specs.Prelude.{ℕ, List, ◌++◌, codes, decimal}

-- the id of the box with this number, from 0
unfoldable pub box_id : ℕ → List ℕ
box_id i = codes "b" ++ decimal i

-- the id of the box that the edit with this number inserts, from 0
unfoldable pub new_id : ℕ → List ℕ
new_id j = codes "n" ++ decimal j
