-- Leaves within edges, and what is told by these.
use Rattle.std.proofs.Common.{◌≡◌, refl, sym, subst, ℕ, ◌≤◌, List, [], ◌∷◌, ◌++◌, length, arith}
use Rattle.std.proofs.lemmas.Int.{ints}
use Rattle.rd_geom.specs.Plane.{Rectangle, IsWithin}
use Rattle.rd_geom.proofs.Pixels.{edges_within}
use Rattle.rd_item.specs.Items.{Made}
use Rattle.rd_keys.specs.Ranges.{IsAmong}
use Rattle.rd_list.specs.Chunks.{AreHeld, AreMadeBy, AreNamed, IsTold, leaf_count}
use Rattle.rd_list.specs.Entries.{flat}
use Rattle.rd_list.specs.Internal.Edged.{AreInside, IsBetween, IsFurther, IsInside, IsSpanned}
use Rattle.rd_list.specs.KeptView.{kept_entries}
use Rattle.rd_list.specs.declared.edges.Edges.{Edges}
use Rattle.rd_list.specs.declared.kept.Entry.{Entry}
use Rattle.rd_list.specs.declared.kept.Entry.TheVariants.{Leaf, Group}

between_further : (a b : Edges) (r : Rectangle) → IsFurther a b → IsBetween a r → IsBetween b r
between_further a b r f h = record {
  from_left = omega (arith, ints, f.left, h.from_left);
  from_top = omega (arith, ints, f.top, h.from_top);
  to_right = omega (arith, ints, f.right, h.to_right);
  to_bottom = omega (arith, ints, f.bottom, h.to_bottom);
}

between_within : (e : Edges) (s r : Rectangle) → IsSpanned e s → IsBetween e r → IsWithin r s
between_within e s r h b =
    edges_within r s (omega (arith, ints, h.x, b.from_left)) (omega (arith, ints, h.y, b.from_top)) (omega (arith, ints, h.x, h.w, b.to_right)) (omega (arith, ints, h.y, h.h, b.to_bottom))

module _ {A : Type 0} where
  pub inside_leaf : (e : Edges) (x : Entry A) (i : Made) → x ≡ Leaf i → IsBetween e i.leaf.visible → IsAmong e.keys i.leaf.owner → i.made_at ≤ e.newest → IsInside e x
  inside_leaf e x i is b k m = subst (IsInside e) (sym is) (b, k, m)

  inside_further : (a b : Edges) (x : Entry A) → IsFurther a b → IsInside a x → IsInside b x
  inside_further a b (Leaf i) f h = (between_further a b i.leaf.visible f h.0, f.keys i.leaf.owner h.1, (let n = f.newest in let m = h.2 in omega (arith, n, m)))
  inside_further a b (Group g) f h = h

  -- leaves, and one more
  pub inside_more : (a b : Edges) (xs : List (Entry A)) (x : Entry A) → IsFurther a b → AreInside a xs → IsInside b x → AreInside b (xs ++ x ∷ [])
  inside_more a b [] x f h k = (k, tt)
  inside_more a b (y ∷ ys) x f h k = (inside_further a b y f h.0, inside_more a b ys x f h.1 k)

  -- what is told by edges
  inside_held : (e : Edges) (s : Rectangle) (xs : List (Entry A)) → IsSpanned e s → AreInside e xs → AreHeld s xs
  inside_held e s [] h k = tt
  inside_held e s (Leaf i ∷ xs) h k = (between_within e s i.leaf.visible h k.0.0, inside_held e s xs h k.1)
  inside_held e s (Group g ∷ xs) h k = absurd k.0

  inside_count : (e : Edges) (xs : List (Entry A)) → AreInside e xs → leaf_count xs ≡ length xs
  inside_count e [] k = refl
  inside_count e (Leaf i ∷ xs) k = let n = inside_count e xs k.1 in omega (arith, n)
  inside_count e (Group g ∷ xs) k = absurd k.0

  inside_named : (e : Edges) (xs : List (Entry A)) → AreInside e xs → AreNamed e.keys (kept_entries xs)
  inside_named e [] k = tt
  inside_named e (Leaf i ∷ xs) k = (k.0.1, inside_named e xs k.1)
  inside_named e (Group g ∷ xs) k = absurd k.0

  inside_made : (e : Edges) (xs : List (Entry A)) → AreInside e xs → AreMadeBy e.newest (flat (kept_entries xs))
  inside_made e [] k = tt
  inside_made e (Leaf i ∷ xs) k = (k.0.2, inside_made e xs k.1)
  inside_made e (Group g ∷ xs) k = absurd k.0

  pub inside_told : (e : Edges) (n : ℕ) (s : Rectangle) (xs : List (Entry A)) → IsSpanned e s → AreInside e xs → length xs ≡ n → IsTold (record { hull = s; leaves = n; keys = e.keys; newest = e.newest }) xs
  inside_told e n s xs h k l = let c = inside_count e xs k in (inside_held e s xs h k, omega (arith, c, l), inside_named e xs k, inside_made e xs k)
