use Rattle.std.proofs.Common.{◌≡◌, ◌∙◌, sym, ap, refl, Bool, true, false, cond, FitsSigned, w32, rules}
use Rattle.std.proofs.lemmas.Int.{to_z-of_z}
use Rattle.rd_geom.specs.Colors.{Premultiplied, laid_over}
use Rattle.rd_wire.proofs.shows.lay_leaf.Goals as goal

first : (b : Bool) (r a d : Premultiplied) → b ≡ true → r ≡ a → r ≡ cond b a d
first b r a d h e = rw h e

second : (b : Bool) (a d : Premultiplied) → b ≡ false → d ≡ cond b a d
second b a d h = rw h refl

pub returns-then-covers : goal.returns-then-covers
returns-then-covers c =
    let fx : FitsSigned w32 c.args.x = search rules in
    let fy : FitsSigned w32 c.args.y = search rules in
    let e = simp to_z-of_z at c.covers.ensures in
    first _ _ _ _ (sym e ∙ c.if-covers.true) (c.over.ensures.value ∙ ap (λ (p : Premultiplied). laid_over p c.args.backdrop) c.px_of.ensures.value)

pub returns-else-covers : goal.returns-else-covers
returns-else-covers c =
    let fx : FitsSigned w32 c.args.x = search rules in
    let fy : FitsSigned w32 c.args.y = search rules in
    let e = simp to_z-of_z at c.covers.ensures in
    second _ _ _ (sym e ∙ c.if-covers.false)
