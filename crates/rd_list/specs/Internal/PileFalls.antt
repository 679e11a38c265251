-- No list below is as large as the whole.
use Rattle.std.specs.Prelude.{◌≤◌, ◌+◌, List, [], ◌∷◌}
use Rattle.std.proofs.Common.{arith}
use denote.Param.Weighed.{most}
use Rattle.rd_item.specs.Items.{Made}
use Rattle.rd_list.specs.Wrappers.{Wrapper}
use Rattle.rd_list.specs.Nested.{Nested}
use Rattle.rd_list.specs.Internal.Piled.{piled, nested_size}
use Rattle.rd_list.specs.declared.fresh.NewEntry.{NewEntry}

pub most_le-nested_size : {A : Type 0} (bs : List (Nested Wrapper Made)) (top : List (NewEntry A)) → most (λ b. nested_size b + 1) bs ≤ nested_size (piled bs top)
most_le-nested_size [] top = omega arith
most_le-nested_size (b ∷ bs) top = omega (arith, most_le-nested_size bs top)
