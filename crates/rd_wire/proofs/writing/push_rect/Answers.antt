use Rattle.std.proofs.Common.{◌∙◌, FitsSigned, w32, rules}
use Rattle.std.proofs.lemmas.Int.{to_z-of_z}
use Rattle.std.proofs.lemmas.Result.{on_ok_weaker}
use Rattle.rd_wire.proofs.Spelling.{two_pairs}
use Rattle.rd_wire.proofs.writing.push_rect.Goals as goal

pub returns-clause-spelled : goal.returns-clause-spelled
returns-clause-spelled c =
    let fx : FitsSigned w32 c.x.result = search rules in
    let fy : FitsSigned w32 c.y.result = search rules in
    let fw : FitsSigned w32 c.w.result = search rules in
    let fh : FitsSigned w32 c.h.result = search rules in
    on_ok_weaker c.push_pair-2.result (λ e.
    two_pairs c.args.out.now.items c.push_pair.new.out.items c.push_pair-2.new.out.items _ _ _ _ c.args.rect (to_z-of_z w32 c.x.result fx ∙ c.x.ensures.value) (to_z-of_z w32 c.y.result fy ∙ c.y.ensures.value)
    (to_z-of_z w32 c.w.result fw ∙ c.w.ensures.value) (to_z-of_z w32 c.h.result fh ∙ c.h.ensures.value) c.in_ok-push_pair.ensures e)
    c.push_pair-2.ensures
