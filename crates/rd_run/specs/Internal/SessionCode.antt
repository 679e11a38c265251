-- Sessions as lists of numbers, so that proofs can tell them apart.
use Rattle.std.specs.Prelude.{refl, ℕ, Bool, List}
use Rattle.std.specs.Coded.{Coded, code_by, coded×, coded_ℕ, coded_bool}
use Rattle.circular_buffer.specs.Buffer.{Buffer}
use Rattle.rd_edits.specs.declared.edit.Edit.{Edit}
use Rattle.rd_engine.specs.State.{EngineState}
use Rattle.rd_run.specs.Internal.Session.{SessionState}

abbrev pub session_code : Coded EngineState → Coded (Buffer (List Edit)) → Coded SessionState
session_code e u =
    code_by (EngineState × (ℕ × (ℕ × (ℕ × (ℕ × (Bool × Buffer (List Edit)))))))
    (coded× e (coded× coded_ℕ (coded× coded_ℕ (coded× coded_ℕ (coded× coded_ℕ (coded× coded_bool u))))))
    (λ x. (x.engine, (x.accepted, (x.refused, (x.built, (x.area, (x.keeps, x.undo)))))))
    (λ p. record {
      engine = p.0;
      accepted = p.1.0;
      refused = p.1.1.0;
      built = p.1.1.1.0;
      area = p.1.1.1.1.0;
      keeps = p.1.1.1.1.1.0;
      undo = p.1.1.1.1.1.1;
    }) (λ _. refl)
