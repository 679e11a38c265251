use Rattle.std.proofs.Common.{List, ℕ, refl, sym, subst, inl, inr}
use Rattle.rd_run.specs.Tiled.{IsScriptTiles}
use Rattle.rd_run.proofs.Planted.{ends_written}
use Rattle.rd_run.proofs.TiledAnswers.{tiles_unwritten}
use Rattle.rd_run.proofs.tiling.tiles.Goals as goal

pub returns-in-Ok : goal.returns-in-Ok
returns-in-Ok g c =
    let a = c.in-Ok.ensures.all in
    ends_written _ (IsScriptTiles c.args.script.now) _ _ _ _ _ _ _ _ _ (a.0) _
    (subst (λ (text : List ℕ). IsScriptTiles c.args.script.now text (a.0)) (sym c.as_bytes.ensures.value) a.1) a.2 a.3 c.write.ensures

pub returns-in-Err : goal.returns-in-Err
returns-in-Err g c = elim c.in-Err.ensures.part [
  | inl e ↦ inl (refl, e.0, e.1)
  | inr f ↦ tiles_unwritten _ _ _ _ _ c.args.script.now _ _ f
]
