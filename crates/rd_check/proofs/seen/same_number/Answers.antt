use Rattle.std.proofs.Common.{◌≡◌, ℤ, Bool, true, false, nat_eq, refl, sym, ap, ◌∙◌, to_z, of_z, w32}
use Rattle.std.specs.Ordering.{int_eq}
use Rattle.std.proofs.lemmas.Bool.Decides.{Decides-eqb, Decides-int_eq}
use Rattle.std.proofs.lemmas.Int.{to_z-of_z}
use Rattle.rd_check.proofs.seen.same_number.Goals as goal

same_bits : (x y : ℤ) → to_z w32 (of_z w32 x) ≡ x → to_z w32 (of_z w32 y) ≡ y → (b d : Bool) → nat_eq (of_z w32 x) (of_z w32 y) ≡ b → int_eq x y ≡ d → b ≡ d
same_bits x y p q true true e f = refl
same_bits x y p q false false e f = refl
same_bits x y p q true false e f =
    let bits : of_z w32 x ≡ of_z w32 y = (Decides-eqb (of_z w32 x) (of_z w32 y)).0 e in
    let same : x ≡ y = sym p ∙ ap (to_z w32) bits ∙ q in
    sym ((Decides-int_eq x y).1 same) ∙ f
same_bits x y p q false true e f =
    let same : x ≡ y = (Decides-int_eq x y).0 f in
    sym e ∙ (Decides-eqb (of_z w32 x) (of_z w32 y)).1 (ap (of_z w32) same)

pub returns : goal.returns
returns c =
    same_bits c.args.a c.args.b (to_z-of_z w32 c.args.a c.ranges.a) (to_z-of_z w32 c.args.b c.ranges.b)
    (nat_eq (of_z w32 c.args.a) (of_z w32 c.args.b)) (int_eq c.args.a c.args.b) refl refl
