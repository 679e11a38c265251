use Rattle.std.proofs.Common.{refl, ◌∙◌, inl, inr}
use Rattle.rd_run.proofs.Planted.{picture_unwritten, picture_written}
use Rattle.rd_run.proofs.performing.render.Goals as goal

pub returns-in-Ok : goal.returns-in-Ok
returns-in-Ok g c =
    let told = c.in-Ok.ensures.told in
    picture_written _ _ _ _ _ _ _ _ _ c.args.script.now told.0 _ _ told.1 (c.deref.ensures.value ∙ told.2) c.write.ensures

pub returns-in-Err : goal.returns-in-Err
returns-in-Err g c = elim c.in-Err.ensures.part [
  | inl e ↦ inl (refl, e.0, e.1)
  | inr f ↦ picture_unwritten _ _ _ _ _ c.args.script.now _ _ f
]
