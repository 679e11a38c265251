use Rattle.std.proofs.Common.{List, ℕ, refl, subst, inl, ◌∙◌}
use Rattle.std.proofs.lemmas.List.{take_rest}
use Rattle.rd_run.specs.Internal.Answered.{RefusesText}
use Rattle.rd_run.proofs.Splitting.{few_before, parts_checked}
use Rattle.rd_run.proofs.checking.check_bytes.Goals as goal

pub check_dump-requires : goal.check_dump-requires
check_dump-requires g c = few_before c.script_start-start.result c.args.bytes.now c.requires

pub returns-in-Ok : goal.returns-in-Ok
returns-in-Ok g c =
    let start = c.script_start-start in
    parts_checked _ _ _ _ c.args.bytes.now _ _ c.in-Ok.script _ (take_rest c.args.bytes.now start.result ∙ start.ensures.script) start.ensures.dump
    c.in-Ok.ensures.script c.check_dump.ensures

pub returns-in-Err : goal.returns-in-Err
returns-in-Err g c =
    let start = c.script_start-start in
    inl ((refl, refl, refl), subst (λ (z : List ℕ). RefusesText z c.in-Err.status) (take_rest c.args.bytes.now start.result ∙ start.ensures.script) c.in-Err.ensures.refused)
