use Rattle.std.proofs.Common.{arith, Ok, Err}
use Rattle.std.proofs.lemmas.List.Sorted.{searched}
use Rattle.rd_area.proofs.Banded.{never_falling}
use Rattle.rd_area.proofs.bands.ends_before.Goals as goal

pub returns-in-Ok-clause-before : goal.returns-in-Ok-clause-before
returns-in-Ok-clause-before c =
    let s = searched c.args.ends.now c.args.y (Ok c.in-Ok.i) c.in-Ok.ensures.position (never_falling c.args.ends.now c.requires) in
    λ k l. let r = c.requires k c.in-Ok.i l s.0 in omega (arith, r, s.1)

pub returns-in-Ok-clause-rest : goal.returns-in-Ok-clause-rest
returns-in-Ok-clause-rest c =
    let s = searched c.args.ends.now c.args.y (Ok c.in-Ok.i) c.in-Ok.ensures.position (never_falling c.args.ends.now c.requires) in
    λ k l m. let r = never_falling c.args.ends.now c.requires c.in-Ok.i k l m in omega (arith, r, s.1)

pub returns-in-Err-clause-before : goal.returns-in-Err-clause-before
returns-in-Err-clause-before c =
    let s = searched c.args.ends.now c.args.y (Err c.in-Err.i) c.in-Err.ensures.position (never_falling c.args.ends.now c.requires) in
    s.1

pub returns-in-Err-clause-rest : goal.returns-in-Err-clause-rest
returns-in-Err-clause-rest c =
    let s = searched c.args.ends.now c.args.y (Err c.in-Err.i) c.in-Err.ensures.position (never_falling c.args.ends.now c.requires) in
    λ k l m. let r = s.2 k l m in omega (arith, r)
