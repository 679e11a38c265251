-- Trees whose boxes stand where they are drawn.
use Rattle.std.proofs.Common.{◌≡◌, refl, ap, ◌∙◌, sym, ℤ, Bool, true, List, [], ◌∷◌, inl, inr, arith}
use Rattle.std.proofs.lemmas.Int.{ints}
use Rattle.std.specs.Prelude.{◌+ℤ◌, ◌-ℤ◌}
use Rattle.rd_geom.specs.Plane.{Rectangle}
use Rattle.rd_keys.specs.Keys.{same_key}
use Rattle.rd_tree.specs.declared.scroll.Scroll.{Scroll}
use Rattle.rd_tree.specs.Forest.{empty, tree, size, has, map_where, IsApart}
use Rattle.rd_tree.specs.Document.{Document, BoxKey, Item, BoxForest, IsRooted}
use Rattle.rd_tree.specs.Changes.{with_rect, shifted}
use Rattle.rd_tree.specs.Drawn.{Above, above_of, at, is_none, scrolled_by, drawn_below, drawn}
use Rattle.rd_tree.specs.Internal.Works.{move_by}
use Rattle.rd_tree.proofs.Linking.Standing.{cases}

-- The boxes are the same ones.
pub has-drawn : (above : List Above) (j : BoxKey) (f : BoxForest) → has same_key j (drawn_below above f) ≡ has same_key j f
has-drawn above j empty = refl
has-drawn above j (tree k d below rest) = rw (has-drawn (above_of (is_none above) d ∷ above) j below, has-drawn above j rest) refl

pub size-drawn : (above : List Above) (f : BoxForest) → size (drawn_below above f) ≡ size f
size-drawn above empty = refl
size-drawn above (tree k d below rest) = rw (size-drawn (above_of (is_none above) d ∷ above) below, size-drawn above rest) refl

pub apart_drawn : (above : List Above) (f : BoxForest) → IsApart same_key f → IsApart same_key (drawn_below above f)
apart_drawn above empty a = tt
apart_drawn above (tree k d below rest) a =
    let inside : List Above = above_of (is_none above) d ∷ above in (
      has-drawn inside k below ∙ a.0,
      has-drawn above k rest ∙ a.1,
      (λ j u. has-drawn above j rest ∙ a.2 j (sym (has-drawn inside j below) ∙ u)),
      apart_drawn inside below a.3,
      apart_drawn above rest a.4,
    )

pub rooted_drawn : (t : Document) → IsRooted t → IsRooted (drawn t)
rooted_drawn t r = (with_rect (at [] r.0) r.0, drawn_below (above_of true r.0 ∷ []) r.1, ap (drawn_below []) r.2)

-- Items that change so that what is drawn below them stays where it is.
module _ (p : BoxKey → Bool) (g h : Item → Item) (keeps : (root : Bool) (d : Item) → above_of root (g d) ≡ above_of root d)
    (moves : (above : List Above) (d : Item) → with_rect (at above (g d)) (g d) ≡ h (with_rect (at above d) d)) where
  pub drawn-each : (above : List Above) (f : BoxForest) → drawn_below above (map_where p g f) ≡ map_where p h (drawn_below above f)
  drawn-each above empty = refl
  drawn-each above (tree k d below rest) =
      elim (cases (p k)) [
        | inl e ↦ rw (e, keeps (is_none above) d, moves above d, drawn-each (above_of (is_none above) d ∷ above) below, drawn-each above rest) refl
        | inr e ↦ rw (e, drawn-each (above_of (is_none above) d ∷ above) below, drawn-each above rest) refl
      ]

-- What is shifted is drawn as far shifted.
past : (x o d : ℤ) → (x +ℤ d) -ℤ o ≡ (x -ℤ o) +ℤ d
past x o d = omega (arith, ints)

pub drawn_shift : (dx dy : ℤ) (s : Scroll) (r : Rectangle) → scrolled_by s (shifted dx dy r) ≡ shifted dx dy (scrolled_by s r)
drawn_shift dx dy s r = rw (past r.x s.x dx, past r.y s.y dy) refl

pub drawn-moved : (p : BoxKey → Bool) (dx dy : ℤ) (above : List Above) (f : BoxForest) → drawn_below above (map_where p (move_by dx dy) f)
    ≡ map_where p (move_by dx dy) (drawn_below above f)
drawn-moved p dx dy above f = drawn-each p (move_by dx dy) (move_by dx dy) (λ root d. refl) (λ above d. rw (drawn_shift dx dy _ d.rect) refl) above f
