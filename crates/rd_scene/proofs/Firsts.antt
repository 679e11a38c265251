-- The first broken rule, and all of them.
use Rattle.std.proofs.Common.{◌≡◌, [], ◌∷◌, Err, ap}
use Rattle.rd_scene.specs.Checked.{Checked, by_case, faults}

pub first_fault : {F A : Type 0} (c : Checked F A) (w : F) → c.first ≡ Err w → faults c ≡ w ∷ c.later
first_fault c w e = ap (by_case (λ a. []) (λ v. v ∷ c.later)) e
