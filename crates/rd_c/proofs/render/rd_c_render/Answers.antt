use Rattle.std.proofs.Common.{◌≡◌, subst, ℤ, to_z, of_z, w32}
use Rattle.std.proofs.lemmas.Int.{to_z-of_z}
use Rattle.rd_c.specs.Rendered.{IsBuilt}
use Rattle.rd_c.proofs.Answering.{on_ok, on_err, no_test}
use Rattle.rd_c.proofs.Rendering.{rendered}
use Rattle.rd_c.proofs.render.rd_c_render.Goals as goal

pub returns-in-Ok-clause-shown : goal.returns-in-Ok-clause-shown
returns-in-Ok-clause-shown c z =
    let names = c.args.names.now in let boxes = c.args.boxes.now in let scene = c.in-Ok.painter in
    let x : ℤ = to_z w32 (of_z w32 c.args.width) in let y : ℤ = to_z w32 (of_z w32 c.args.height) in
    let wide : x ≡ c.args.width = to_z-of_z w32 c.args.width c.ranges.width in let high : y ≡ c.args.height = to_z-of_z w32 c.args.height c.ranges.height in
    let built : IsBuilt c.args.width c.args.height names boxes scene =
    subst (λ (w : ℤ). IsBuilt w c.args.height names boxes scene) wide (subst (λ (h : ℤ). IsBuilt x h names boxes scene) high c.in-Ok.ensures.built) in
    rendered c.args.width c.args.height names boxes scene c.show.new.note c.args.out.now c.show.new.out built (on_ok c.show.result c.status.result _ z c.status.ensures.late c.show.ensures.shown)

pub returns-in-Ok-clause-kept : goal.returns-in-Ok-clause-kept
returns-in-Ok-clause-kept c some = on_err c.show.result c.status.result _ some c.status.ensures.done c.show.ensures.kept

pub returns-in-Ok-clause-refused : goal.returns-in-Ok-clause-refused
returns-in-Ok-clause-refused c some few = no_test c.show.result c.status.result c.status.ensures.done c.status.ensures.late some few
