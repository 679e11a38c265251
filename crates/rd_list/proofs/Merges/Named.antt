-- Names that tell entries apart.
use Rattle.std.proofs.Common.{◌≡◌, true, false}
use Rattle.rd_list.specs.Levels.{Names}

-- Names are told apart.
pub record AreNames {E G L : Type 0} (n : Names E G L) : Type 0 where
  pub sound : (a b : E) → n.same a b ≡ true → a ≡ b
  pub reflexive : (a : E) → n.same a a ≡ true
  pub apart : (l : L) (g : G) → n.same (n.leaf l) (n.group g) ≡ false
