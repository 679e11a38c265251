use Rattle.std.proofs.Common.{FitsSigned, w32, rules}
use Rattle.std.proofs.lemmas.Int.{to_z-of_z}
use Rattle.rd_paint.proofs.Shown.Seen.{wider}
use Rattle.rd_paint.proofs.reaching.together.Goals as goal

pub returns-clause-first : goal.returns-clause-first
returns-clause-first c = λ x h.
    let f0 : FitsSigned w32 c.min.result = search rules in
    let f1 : FitsSigned w32 c.max.result = search rules in
    let fa : FitsSigned w32 c.args.a.x0 = search rules in
    let fb : FitsSigned w32 c.args.a.x1 = search rules in
    let least = simp to_z-of_z at c.min.ensures.self_bound in
    let most = simp to_z-of_z at c.max.ensures.self_bound in
    wider c.args.a.x0 c.args.a.x1 c.min.result c.max.result x least most (simp to_z-of_z at h)

pub returns-clause-second : goal.returns-clause-second
returns-clause-second c = λ x h.
    let f0 : FitsSigned w32 c.min.result = search rules in
    let f1 : FitsSigned w32 c.max.result = search rules in
    let fa : FitsSigned w32 c.args.b.x0 = search rules in
    let fb : FitsSigned w32 c.args.b.x1 = search rules in
    let least = simp to_z-of_z at c.min.ensures.other_bound in
    let most = simp to_z-of_z at c.max.ensures.other_bound in
    wider c.args.b.x0 c.args.b.x1 c.min.result c.max.result x least most (simp to_z-of_z at h)
