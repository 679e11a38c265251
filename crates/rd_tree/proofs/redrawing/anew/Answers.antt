use Rattle.std.proofs.Common.{◌≡◌, ◌∙◌, arith, refl, sym, subst}
use Rattle.std.proofs.lemmas.Int.{ints}
use Rattle.rd_geom.specs.Plane.{Rectangle, IsPlaced}
use Rattle.rd_tree.specs.Internal.Redraws.{drawn_anew}
use Rattle.rd_tree.proofs.redrawing.anew.Goals as goal

same_sides : (a b : Rectangle) → a.x ≡ b.x → a.y ≡ b.y → a.w ≡ b.w → a.h ≡ b.h → a ≡ b
same_sides a b x y w h = rw (sym x, sym y, sym w, sym h) refl

pub unreachable-requires : goal.unreachable-requires
unreachable-requires c =
    c.in-None.ensures.none
    (subst IsPlaced
    (same_sides (drawn_anew c.args.old c.args.new c.args.r.now) _
    (omega (arith, ints, c.side.ensures, c.x.ensures.value)) (omega (arith, ints, c.side-2.ensures, c.y.ensures.value)) (omega (
      arith,
      ints,
      c.w.ensures.value,
    )) (omega (arith, ints, c.h.ensures.value)))
    c.requires.fits)

pub returns : goal.returns
returns c =
    c.in-Some.ensures.made
    ∙ same_sides _ (drawn_anew c.args.old c.args.new c.args.r.now) (omega (arith, ints, c.side.ensures, c.x.ensures.value)) (omega (
      arith,
      ints,
      c.side-2.ensures,
      c.y.ensures.value,
    )) (omega (arith, ints, c.w.ensures.value)) (omega (arith, ints, c.h.ensures.value))
