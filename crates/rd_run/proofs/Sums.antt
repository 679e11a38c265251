-- What a paint adds to sums is little.
use Rattle.std.proofs.Common.{◌≡◌, ◌^◌, ◌≤◌, ℤ, pos, negsuc, ◌≤ℤ◌, ◌∙◌, ap, subst, arith, unsigned_abs}
use Rattle.std.proofs.lemmas.Int.{ints}
use Rattle.std.proofs.Math.Nat.{mul-le-mul_left, mul-le-mul_right}
use Rattle.rd_geom.specs.Canvas.{IsCanvas}
use Rattle.rd_geom.specs.declared.rect.Size.{Size}
use Rattle.rd_list.specs.EntryNames.{kept_leaves}
use Rattle.rd_list.specs.Lists.{StandsFor}
use Rattle.rd_stack.specs.Fresh.{fresh_list}
use Rattle.rd_engine.specs.State.{EngineState, IsEngine}
use Rattle.rd_engine.specs.Painted.{IsNoted, IsSettled}
use Rattle.rd_engine.specs.declared.note.PaintNote.{PaintNote}
use Rattle.rd_engine.proofs.Alike.{same_length, kept_length}
use Rattle.rd_run.proofs.Dues.{area-within}

side : (z : ℤ) → z ≤ℤ pos 4096 → pos 1 ≤ℤ z → unsigned_abs z ≤ 4096
side (pos n) h k = omega (arith, ints)
side (negsuc n) h k = omega (arith, ints)

module _ (old now : EngineState) (note : PaintNote) (noted : IsNoted old note) where
  -- a paint makes no more items than its list has
  pub built_little : StandsFor (kept_leaves now.kept.entries) (fresh_list old.tree) → IsEngine now → note.built ≤ 2 ^ 34
  built_little stands is =
      let a = noted.kept in
      let b = same_length (kept_leaves now.kept.entries) (fresh_list old.tree) stands.leaves in
      let c = kept_length now.kept.entries in
      let d = is.few in
      omega (arith, a, b, c, d)

  -- its area is within the canvas
  pub area_little : (size : Size) → IsCanvas size → size ≡ now.tree.canvas → IsSettled old now → note.area ≤ 2 ^ 24
  area_little size canvas is settled =
      let at : size ≡ old.tree.canvas = is ∙ ap (λ t. t.canvas) settled.tree in
      let limits : IsCanvas old.tree.canvas = subst IsCanvas at canvas in
      let w = side old.tree.canvas.w limits.wide limits.some_wide in
      let h = side old.tree.canvas.h limits.high limits.some_high in
      let a = area-within old in
      let b = mul-le-mul_right (unsigned_abs old.tree.canvas.w) h in
      let c = mul-le-mul_left 4096 w in
      let n = noted.area in
      omega (arith, a, b, c, n)
