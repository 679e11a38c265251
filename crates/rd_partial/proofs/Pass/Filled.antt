-- What a box paints has a leaf where it has an entry.
use Rattle.std.proofs.Common.{◌≡◌, refl, ap, ◌∙◌, sym, subst, not, Bool, ℕ}
use Rattle.std.specs.Prelude.{Option, Some, None}
use Rattle.rd_geom.specs.Plane.{Rectangle}
use Rattle.rd_keys.specs.declared.entry.Part.{Part}
use Rattle.rd_item.specs.declared.leaf.Leaf.{Leaf}
use Rattle.rd_item.specs.Items.{Made}
use Rattle.rd_list.specs.Entries.{Entries, option_entry, has_leaf, flat, is_empty}
use Rattle.rd_list.proofs.Joins.{join-nil}
use Rattle.rd_list.specs.Wrappers.{Wrapper}
use Rattle.rd_tree.specs.Document.{BoxForest}
use Rattle.rd_stack.specs.Paths.{BoxData}
use Rattle.rd_partial.specs.Internal.Inherited.{Inherited}
use Rattle.rd_partial.specs.Internal.Pass.{order_of, pass}
use Rattle.rd_partial.specs.Internal.Inherited.{below, leaf_in}
use Rattle.rd_partial.specs.Internal.Given.{gives, if_wanted}
use Rattle.rd_partial.specs.Internal.Picking.{picked, made_if}
use Rattle.rd_partial.specs.Internal.Work.{passes, paints}
use Rattle.rd_partial.proofs.Pass.Picked.{on-order, on-pass, on-filled, give_on}
use Rattle.rd_partial.proofs.Pass.Handed.{Stands, order-handed, pass-handed}

abbrev pub give_all : Inherited → BoxData → Part → Entries Wrapper Leaf
give_all s b part = option_entry (leaf_in s b part)

module _ (wants : Rectangle → Bool) (n : ℕ) where
  abbrev pub pick : Leaf → Option Made
  pick l = made_if (λ x. wants x.visible) n l

  same_give : (s : Inherited) (b : BoxData) (p : Part) → give_on pick below give_all s b p ≡ gives wants n s b p
  same_give s b p = elim (leaf_in s b p) as (λ o. picked pick (option_entry o) ≡ option_entry (if_wanted wants n o)) [ None ↦ refl | Some l ↦ join-nil (option_entry (pick l)) ]

  pub stands : Stands below (give_on pick below give_all) below (gives wants n) (λ s t. s ≡ t)
  stands = record {
    down = λ s t b r. ap (λ z. below z b) r;
    same = λ s t b p r. same_give s b p ∙ ap (λ z. gives wants n z b p) r;
  }

  -- what the wanted leaves paint is picked out of what all leaves paint
  pub paints_picked : (s : Inherited) (b : BoxData) (f : BoxForest) → picked pick (order_of below give_all s.root s b (pass below give_all (below s b) f)) ≡ paints wants n s b (passes wants n (below s b) f)
  unfolding passes
  paints_picked s b f =
      (on-order pick below give_all s.root s b (pass below give_all (below s b) f)).is
      ∙ ap (order_of below (give_on pick below give_all) s.root s b) (on-pass pick below give_all (below s b) f)
      ∙ order-handed below (give_on pick below give_all) below (gives wants n) (λ x y. x ≡ y) stands s.root s s b (pass below (give_on pick below give_all) (below s b) f) refl
      ∙ ap (order_of below (gives wants n) s.root s b) (pass-handed below (give_on pick below give_all) below (gives wants n) (λ x y. x ≡ y) stands (below s b) (below s b) f refl)

  pub filled : (s : Inherited) (b : BoxData) (f : BoxForest) (order : Entries Wrapper Made) → order ≡ paints wants n s b (passes wants n (below s b) f) → has_leaf (flat order) ≡ not (is_empty order)
  filled s b f order e = subst (λ z. has_leaf (flat z) ≡ not (is_empty z)) (paints_picked s b f ∙ sym e) (on-filled pick (order_of below give_all s.root s b (pass below give_all (below s b) f)))
