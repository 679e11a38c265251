use Rattle.std.proofs.Common.{◌≡◌, ◌∙◌, subst, length}
use Rattle.std.specs.Prelude.{Option, IfSome}
use Rattle.rd_keys.specs.Keys.{BoxKey}
use Rattle.rd_tree.specs.Document.{id_of}
use Rattle.rd_c.specs.Held.{Holds}
use Rattle.rd_c.specs.Reading.{text_answer, IsTextWritten}
use Rattle.rd_c.specs.Shown.{box_key}
use Rattle.rd_c.specs.declared.painter.Painter.{Painter}
use Rattle.rd_c.proofs.Answering.{key_is, on_ok}
use Rattle.rd_c.proofs.reading.rd_c_id.Goals as goal

pub returns-clause-id : goal.returns-clause-id
returns-clause-id c z =
    let now = c.args.out.now in let then = c.id-done.new.out in let n = c.id-done.new.length in
    let is : c.new.result ≡ box_key c.args.slot c.args.generation = key_is c.new.result c.args.slot c.args.generation c.new.ensures.slot c.new.ensures.generation in
    let w : IsTextWritten (id_of c.new.result c.deref.result.now.engine.tree.boxes) now then n = on_ok c.id-done.result c.status.result _ z c.status.ensures.late c.id-done.ensures.id in
    subst (λ (held : Option Painter). Holds (λ p. IsTextWritten (id_of (box_key c.args.slot c.args.generation) p.engine.tree.boxes) now then n) held) c.in-Some.ensures.taken
    (subst (λ (p : Painter). IsTextWritten (id_of (box_key c.args.slot c.args.generation) p.engine.tree.boxes) now then n) c.deref.ensures
    (subst (λ (k : BoxKey). IsTextWritten (id_of k c.deref.result.now.engine.tree.boxes) now then n) is w))

pub returns-clause-answer : goal.returns-clause-answer
returns-clause-answer c =
    let room = length c.args.out.now in
    let is : c.new.result ≡ box_key c.args.slot c.args.generation = key_is c.new.result c.args.slot c.args.generation c.new.ensures.slot c.new.ensures.generation in
    subst (λ (held : Option Painter). IfSome held (λ p. c.status.result ≡ text_answer (id_of (box_key c.args.slot c.args.generation) p.engine.tree.boxes) room)) c.in-Some.ensures.taken
    (subst (λ (p : Painter). c.status.result ≡ text_answer (id_of (box_key c.args.slot c.args.generation) p.engine.tree.boxes) room) c.deref.ensures
    (subst (λ (k : BoxKey). c.status.result ≡ text_answer (id_of k c.deref.result.now.engine.tree.boxes) room) is (c.status.ensures.value ∙ c.id-done.ensures.answer)))
