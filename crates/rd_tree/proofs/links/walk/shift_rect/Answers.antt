use Rattle.std.proofs.Common.{◌≡◌, ◌∙◌, arith, refl, sym, subst}
use Rattle.std.proofs.lemmas.Int.{ints}
use Rattle.rd_geom.specs.Plane.{Rectangle, IsPlaced}
use Rattle.rd_tree.specs.Limits.{IsNear}
use Rattle.rd_tree.specs.Changes.{shifted}
use Rattle.rd_tree.proofs.links.walk.shift_rect.Goals as goal

near_is_placed : (r : Rectangle) → IsNear r → IsPlaced r
near_is_placed r f = record {
  wide = f.wide;
  high = f.high;
  from_left = omega (arith, ints, f.left);
  from_top = omega (arith, ints, f.up);
  to_right = omega (arith, ints, f.right, f.broad);
  to_bottom = omega (arith, ints, f.down, f.tall);
}

same_sides : (a b : Rectangle) → a.x ≡ b.x → a.y ≡ b.y → a.w ≡ b.w → a.h ≡ b.h → a ≡ b
same_sides a b x y w h = rw (sym x, sym y, sym w, sym h) refl

pub unreachable-requires : goal.unreachable-requires
unreachable-requires c =
    c.in-None.ensures.none
    (subst IsPlaced
    (same_sides (shifted c.args.dx c.args.dy c.args.r.now) _
    (omega (arith, ints, c.shift_side.ensures, c.x.ensures.value)) (omega (arith, ints, c.shift_side-2.ensures, c.y.ensures.value)) (omega (
      arith,
      ints,
      c.w.ensures.value,
    )) (omega (arith, ints, c.h.ensures.value)))
    (near_is_placed (shifted c.args.dx c.args.dy c.args.r.now) c.requires))

pub returns : goal.returns
returns c =
    c.in-Some.ensures.made
    ∙ same_sides _ (shifted c.args.dx c.args.dy c.args.r.now) (omega (arith, ints, c.shift_side.ensures, c.x.ensures.value)) (omega (
      arith,
      ints,
      c.shift_side-2.ensures,
      c.y.ensures.value,
    )) (omega (arith, ints, c.w.ensures.value)) (omega (arith, ints, c.h.ensures.value))

pub shift_side-requires-clause-low : goal.shift_side-requires-clause-low
shift_side-requires-clause-low c = omega (arith, ints, c.x.ensures.value, c.requires.left)

pub shift_side-requires-clause-high : goal.shift_side-requires-clause-high
shift_side-requires-clause-high c = omega (arith, ints, c.x.ensures.value, c.requires.right)

pub shift_side-requires-2-clause-low : goal.shift_side-requires-2-clause-low
shift_side-requires-2-clause-low c = omega (arith, ints, c.y.ensures.value, c.requires.up)

pub shift_side-requires-2-clause-high : goal.shift_side-requires-2-clause-high
shift_side-requires-2-clause-high c = omega (arith, ints, c.y.ensures.value, c.requires.down)
