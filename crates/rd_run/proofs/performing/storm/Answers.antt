use Rattle.std.proofs.Common.{refl, ◌∙◌, inl, inr}
use Rattle.rd_run.proofs.Planted.{storm_unwritten, storm_written}
use Rattle.rd_run.proofs.performing.storm.Goals as goal

pub returns-in-Ok-end_of : goal.returns-in-Ok-end_of
returns-in-Ok-end_of g c =
    let told = c.in-Ok-end_of.ensures.told in
    storm_written _ _ _ _ _ _ _ _ _ c.args.seed c.args.boxes c.args.edits c.in-Ok.script told.0 _ _ c.in-Ok.ensures.drawn told.1
    (λ t h. c.deref.ensures.value ∙ told.2 t h) c.write.ensures

pub returns : goal.returns
returns g c = elim c.in-Err.ensures.part [
  | inl e ↦ inl (refl, e.0, e.1)
  | inr f ↦ storm_unwritten _ _ _ _ _ c.args.seed c.args.boxes c.args.edits c.in-Ok.script _ _ c.in-Ok.ensures.drawn f
]
