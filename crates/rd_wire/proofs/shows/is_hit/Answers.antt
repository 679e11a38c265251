use Rattle.std.proofs.Common.{◌≡◌, ◌∙◌, sym, refl, Bool, true, false, not, ◌&&◌, FitsSigned, w32, rules}
use Rattle.std.proofs.lemmas.Int.{to_z-of_z}
use Rattle.rd_wire.proofs.shows.is_hit.Goals as goal

third : (a b c : Bool) → a ≡ true → b ≡ false → c ≡ (a && not b && c)
third true false c p q = refl
third true true c p q = cc
third false b c p q = cc

second : (a b c : Bool) → a ≡ true → b ≡ true → false ≡ (a && not b && c)
second true true c p q = refl
second true false c p q = cc
second false b c p q = cc

first : (a b c : Bool) → a ≡ false → false ≡ (a && not b && c)
first true b c p = cc
first false b c p = refl

pub returns-then-not-covers : goal.returns-then-not-covers
returns-then-not-covers c =
    let fx : FitsSigned w32 c.args.x = search rules in
    let fy : FitsSigned w32 c.args.y = search rules in
    let e1 = simp to_z-of_z at c.covers.ensures in
    first _ _ _ (sym e1 ∙ c.if-not-covers.true)

pub returns-then-is_outline : goal.returns-then-is_outline
returns-then-is_outline c =
    let fx : FitsSigned w32 c.args.x = search rules in
    let fy : FitsSigned w32 c.args.y = search rules in
    let e1 = simp to_z-of_z at c.covers.ensures in
    second _ _ _ (sym e1 ∙ c.if-not-covers.false) (sym c.is_outline.ensures ∙ c.if-is_outline.true)

pub returns : goal.returns
returns c =
    let fx : FitsSigned w32 c.args.x = search rules in
    let fy : FitsSigned w32 c.args.y = search rules in
    let e1 = simp to_z-of_z at c.covers.ensures in
    third _ _ _ (sym e1 ∙ c.if-not-covers.false) (sym c.is_outline.ensures ∙ c.if-is_outline.false)
