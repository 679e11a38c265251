use Rattle.std.proofs.Common.{◌≡◌, ◌∙◌, subst, length, ℤ, to_z, of_z, w32}
use Rattle.std.specs.Prelude.{Option, IfSome}
use Rattle.std.proofs.lemmas.Int.{to_z-of_z}
use Rattle.rd_c.specs.Reading.{settled_answer}
use Rattle.rd_c.specs.Shown.{hit_id}
use Rattle.rd_c.specs.declared.painter.Painter.{Painter}
use Rattle.rd_c.proofs.reading.rd_c_hit.Goals as goal

pub returns-clause-answer : goal.returns-clause-answer
returns-clause-answer c =
    let room = length c.args.out.now in let seen = c.deref.result.now.engine in
    let x : ℤ = to_z w32 (of_z w32 c.args.x) in let y : ℤ = to_z w32 (of_z w32 c.args.y) in
    let right : x ≡ c.args.x = to_z-of_z w32 c.args.x c.ranges.x in let down : y ≡ c.args.y = to_z-of_z w32 c.args.y c.ranges.y in
    let answer : c.status.result ≡ settled_answer seen.pending (hit_id seen.tree x y) room = c.status.ensures.value ∙ c.hit-done.ensures.answer in
    subst (λ (held : Option Painter). IfSome held (λ p. c.status.result ≡ settled_answer p.engine.pending (hit_id p.engine.tree c.args.x c.args.y) room)) c.in-Some.ensures.taken
    (subst (λ (p : Painter). c.status.result ≡ settled_answer p.engine.pending (hit_id p.engine.tree c.args.x c.args.y) room) c.deref.ensures
    (subst (λ (z : ℤ). c.status.result ≡ settled_answer seen.pending (hit_id seen.tree z c.args.y) room) right
    (subst (λ (z : ℤ). c.status.result ≡ settled_answer seen.pending (hit_id seen.tree x z) room) down answer)))
