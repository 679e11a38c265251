use Rattle.std.proofs.Common.{refl, inl, inr}
use Rattle.rd_run.proofs.Splitting.{last_checked, unchecked}
use Rattle.rd_run.proofs.checking.check_script.Goals as goal

pub returns : goal.returns
returns g c = λ text r.
    let l = c.in-Ok.ensures.last in
    inr (l.0, l.1, last_checked _ _ _ _ _ _ _ text (l.0) _ _ l.2 l.3 l.4 (c.check_tree.ensures text r))

pub returns-in-Err : goal.returns-in-Err
returns-in-Err g c = λ text r. elim c.in-Err.ensures.part [
  | inl e ↦ inl ((refl, e.0, e.1), refl)
  | inr f ↦ inr (f.0, f.1, unchecked text (f.0) _ _ _ _ _ _ f.2 f.3)
]
