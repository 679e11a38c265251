-- What each kind of box does to the lists.
use Rattle.std.proofs.Common.{◌≡◌, refl, ap, ◌∙◌, sym, Bool, true, false, not, ◌&&◌, ◌||◌, [], ◌++◌, ℤ, pos, ℕ}
use Rattle.std.specs.Prelude.{Option, Some, None, is_some, int_lt, map}
use Rattle.std.proofs.lemmas.List.{append-nil}
use Rattle.rd_geom.specs.Plane.{Rectangle}
use Rattle.rd_style.specs.Classes.{class, real, level, blocky}
use Rattle.rd_style.specs.declared.kinds.Class.TheVariants.{Layer, Float, Atom, Block, Inline}
use Rattle.rd_keys.specs.declared.entry.Part.TheVariants.{Back, Border, Content, Outline}
use Rattle.rd_item.specs.Items.{Made}
use Rattle.rd_list.specs.Entries.{Entries, nil, ◌▷◌, each}
use Rattle.rd_list.proofs.Joins.{join-nil, join_assoc}
use Rattle.rd_stack.specs.Paths.{BoxData, is_class}
use Rattle.rd_stack.specs.Painting.{stack_level}
use Rattle.rd_stack.proofs.Counting.Takes.{unreal}
use Rattle.rd_list.specs.Nested.{Nested, laid_out}
use Rattle.rd_list.specs.Wrappers.{Wrapper}
use Rattle.rd_partial.specs.Internal.Inherited.{Inherited}
use Rattle.rd_partial.specs.declared.lists.FlowLists.{FlowLists}
use Rattle.rd_partial.specs.declared.lists.LayerLists.{LayerLists}
use Rattle.rd_partial.specs.Internal.ContextLists.{ContextLists, no_lists, ◌⊕◌, entries_if, list_if, stacked, by_level}
use Rattle.rd_partial.specs.Internal.Pass.{order_of, box_lists, as_group, level_in}
use Rattle.rd_partial.specs.Internal.Inherited.{below}
use Rattle.rd_partial.specs.Internal.Given.{gives}
use Rattle.rd_partial.specs.Internal.Held.{held, held_stack}
use Rattle.rd_partial.proofs.Pass.Same.{same_lists}
use Rattle.rd_partial.specs.Internal.Work.{paints, boxed, layers_of, held_layers, layer_lists}

-- one list on another, where the lower one is known
pub over_known : (a b c d : Entries Wrapper Made) → a ≡ b ▷ c → b ≡ d → a ≡ d ▷ c
over_known a b c d h k = h ∙ ap (λ z. z ▷ c) k

pub two_joined : (j2 j f1 f0 l1 l0 w1 w0 : Nested Wrapper Made) → laid_out j2 ≡ laid_out j ▷ laid_out w1 → laid_out j ≡ laid_out f1 ▷ laid_out l1 → f1 ≡ f0 → l1 ≡ l0 → w1 ≡ w0 → laid_out j2 ≡ (laid_out f0 ▷ laid_out l0) ▷ laid_out w0
two_joined j2 j f1 f0 l1 l0 w1 w0 h k e f g = h ∙ ap (λ z. z ▷ laid_out w1) k ∙ ap (λ z. (laid_out z ▷ laid_out l1) ▷ laid_out w1) e ∙ ap (λ z. (laid_out f0 ▷ laid_out z) ▷ laid_out w1) f ∙ ap (λ z. (laid_out f0 ▷ laid_out l0) ▷ laid_out z) g

module _ (wants : Rectangle → Bool) (n : ℕ) (s : Inherited) (b : BoxData) (inner : ContextLists Made) where
  abbrev Bk : Entries Wrapper Made
  Bk = gives wants n s b Back

  abbrev Bd : Entries Wrapper Made
  Bd = gives wants n s b Border

  abbrev Ct : Entries Wrapper Made
  Ct = gives wants n s b Content

  abbrev Ol : Entries Wrapper Made
  Ol = gives wants n s b Outline

  own_order : (root block : Bool) (bk bd ct u k f l w z o ol t : Entries Wrapper Made) → (root ≡ true → block ≡ true)
      → entries_if block (bk ▷ bd) ▷ u ▷ k ▷ f ▷ ((entries_if (not block) (bk ▷ bd) ▷ ct) ▷ l) ▷ w ▷ z ▷ o ▷ (ol ▷ t)
      ≡ entries_if root bk ▷ entries_if block (entries_if (not root) bk ▷ bd) ▷ u ▷ k ▷ f ▷ entries_if (not block) ((bk ▷ bd) ▷ (ct ▷ l)) ▷ entries_if block (ct ▷ l) ▷ w ▷ z ▷ o ▷ ol ▷ t
  own_order true true bk bd ct u k f l w z o ol t h = join_assoc bk bd _
  own_order true false bk bd ct u k f l w z o ol t h = let e : false ≡ true = h refl in cc
  own_order false true bk bd ct u k f l w z o ol t h = refl
  own_order false false bk bd ct u k f l w z o ol t h = rw (join_assoc (bk ▷ bd) ct l) refl

  root_block : s.root ≡ true → blocky b.style s.root ≡ true
  root_block h = rw h refl

  abbrev begun : ContextLists Made
  begun = record { negatives = []; backgrounds = nil; floats = nil; line = entries_if (not (blocky b.style s.root)) (Bk ▷ Bd) ▷ Ct; contents = nil; zeros = nil; positives = []; outlines = Ol }

  -- all that a stacking context paints
  pub context_order : (out : Entries Wrapper Made) (old new : ContextLists Made) → real b.style s.root ≡ true → out ≡ entries_if (blocky b.style s.root) (Bk ▷ Bd) → old ≡ begun → new ≡ old ⊕ inner
      → out ▷ each (λ y. y.order) (by_level new.negatives) ▷ new.backgrounds ▷ new.floats ▷ new.line ▷ new.contents ▷ new.zeros ▷ each (λ y. y.order) (by_level new.positives) ▷ new.outlines ≡ paints wants n s b inner
  context_order out old new r e o h =
      rw (h, o, e, r)
      (own_order s.root (blocky b.style s.root) Bk Bd Ct (each (λ y. y.order) (by_level inner.negatives)) inner.backgrounds inner.floats inner.line inner.contents inner.zeros (each (λ y. y.order) (by_level inner.positives)) Ol inner.outlines root_block)

  -- all that a box paints that makes none
  pub aside_order : (out : Entries Wrapper Made) (old new : ContextLists Made) → real b.style s.root ≡ false → out ≡ entries_if (blocky b.style s.root) (Bk ▷ Bd)
      → old ≡ record begun { negatives = old.negatives; zeros = old.zeros; positives = old.positives } → new ≡ old ⊕ inner
      → out ▷ nil ▷ new.backgrounds ▷ new.floats ▷ new.line ▷ new.contents ▷ nil ▷ nil ▷ new.outlines ≡ paints wants n s b inner
  aside_order out old new r e o h =
      rw (h, ap (λ x. x.backgrounds) o, ap (λ x. x.floats) o, ap (λ x. x.line) o, ap (λ x. x.contents) o, ap (λ x. x.outlines) o, e, r)
      (own_order s.root (blocky b.style s.root) Bk Bd Ct nil inner.backgrounds inner.floats inner.line inner.contents nil nil Ol inner.outlines root_block)

  module _ (grouped : Bool) where
    abbrev parts_given : Entries Wrapper Made → ContextLists Made
    parts_given order = box_lists below (gives wants n) s b grouped order inner

    box_float : (order : Entries Wrapper Made) → class b.style false ≡ Float → parts_given order ≡ record (layers_of inner) { floats = order }
    box_float order h = rw (unreal b.style (rw h refl), h, join-nil order) refl

    box_atom : (order : Entries Wrapper Made) → class b.style false ≡ Atom → parts_given order ≡ record (layers_of inner) { line = order }
    box_atom order h = rw (unreal b.style (rw h refl), h, join-nil order) refl

    box_inline : (order : Entries Wrapper Made) → class b.style false ≡ Inline → parts_given order ≡ record inner { line = ((Bk ▷ Bd) ▷ Ct) ▷ inner.line; outlines = Ol ▷ inner.outlines }
    box_inline order h = rw (unreal b.style (rw h refl), h, join-nil ((Bk ▷ Bd) ▷ Ct)) refl

    box_block : (order : Entries Wrapper Made) → class b.style false ≡ Block → parts_given order ≡ record inner { backgrounds = (Bk ▷ Bd) ▷ inner.backgrounds; line = nil; contents = (Ct ▷ inner.line) ▷ inner.contents; outlines = Ol ▷ inner.outlines }
    box_block order h = rw (unreal b.style (rw h refl), h) refl

    -- what a box that is not the root gives, where order is what it paints
    pub boxed_by : (order : Entries Wrapper Made) → s.root ≡ false → order ≡ paints wants n s b inner → boxed wants n s b grouped inner ≡ parts_given order
    boxed_by order r e = ap parts_given (ap (λ t. order_of below (gives wants n) t s b inner) (sym r) ∙ sym e)

    no_level : (o : Option ℤ) → is_some o ≡ false → stack_level o ≡ pos 0
    no_level None h = refl
    no_level (Some z) h = cc

    box_auto : (order : Entries Wrapper Made) → class b.style false ≡ Layer → real b.style false ≡ false → grouped ≡ false → parts_given order ≡ record (layers_of inner) { zeros = order ▷ inner.zeros }
    box_auto order c r o = rw (c, no_level (level b.style false) r, r, o) refl

    box_real : (order : Entries Wrapper Made) → class b.style false ≡ Layer → real b.style false ≡ true → parts_given order ≡ layer_lists (level_in b) (as_group grouped b order)
    box_real order c r = wrapped (as_group grouped b order)
      where
        wrapped : (x : Entries Wrapper Made) → ◌≡◌ {A = ContextLists Made} (record {
          negatives = list_if (is_class Layer (class b.style false) && int_lt (level_in b) (pos 0)) (stacked (level_in b) x) ++ list_if (not (real b.style false)) inner.negatives;
          backgrounds = entries_if (is_class Block (class b.style false)) (Bk ▷ Bd) ▷ entries_if (is_class Block (class b.style false) || is_class Inline (class b.style false)) inner.backgrounds;
          floats = entries_if (is_class Float (class b.style false)) order ▷ entries_if (is_class Block (class b.style false) || is_class Inline (class b.style false)) inner.floats;
          line = (entries_if (is_class Inline (class b.style false)) ((Bk ▷ Bd) ▷ Ct) ▷ entries_if (is_class Atom (class b.style false)) order) ▷ entries_if (is_class Inline (class b.style false)) inner.line;
          contents = entries_if (is_class Block (class b.style false)) (Ct ▷ inner.line) ▷ entries_if (is_class Block (class b.style false) || is_class Inline (class b.style false)) inner.contents;
          zeros = entries_if (is_class Layer (class b.style false) && (not (int_lt (level_in b) (pos 0)) && not (int_lt (pos 0) (level_in b)))) x ▷ entries_if (not (real b.style false)) inner.zeros;
          positives = list_if (is_class Layer (class b.style false) && int_lt (pos 0) (level_in b)) (stacked (level_in b) x) ++ list_if (not (real b.style false)) inner.positives;
          outlines = entries_if (is_class Block (class b.style false) || is_class Inline (class b.style false)) Ol ▷ entries_if (is_class Block (class b.style false) || is_class Inline (class b.style false)) inner.outlines;
        }) (layer_lists (level_in b) x)
        wrapped x = rw (c, r, append-nil (list_if (int_lt (level_in b) (pos 0)) (stacked (level_in b) x)), append-nil (list_if (int_lt (pos 0) (level_in b)) (stacked (level_in b) x)), join-nil (entries_if (not (int_lt (level_in b) (pos 0)) && not (int_lt (pos 0) (level_in b))) x)) refl

    module _ {A : Type 0} (loc : FlowLists A) (l1 : LayerLists A) where
      pub float_arm : (l2 : LayerLists A) (x : Nested Wrapper Made) (order : Entries Wrapper Made) → class b.style false ≡ Float → s.root ≡ false → order ≡ paints wants n s b inner → held_layers l2 ≡ held_layers l1 ⊕ layers_of inner → laid_out x ≡ laid_out loc.floats ▷ order
          → held (record loc { floats = x }) l2 ≡ held loc l1 ⊕ boxed wants n s b grouped inner
      float_arm l2 x order c r e h k =
          same_lists (held (record loc { floats = x }) l2) (held loc l1 ⊕ record (layers_of inner) { floats = order })
          (ap (λ z. z.negatives) h) (sym (join-nil (laid_out loc.backgrounds))) k (sym (join-nil (laid_out loc.line))) (sym (join-nil (laid_out loc.contents))) (ap (λ z. z.zeros) h) (ap (λ z. z.positives) h) (sym (join-nil (laid_out loc.outlines)))
          ∙ ap (λ z. held loc l1 ⊕ z) (sym (boxed_by order r e ∙ box_float order c))

      pub atom_arm : (l2 : LayerLists A) (x : Nested Wrapper Made) (order : Entries Wrapper Made) → class b.style false ≡ Atom → s.root ≡ false → order ≡ paints wants n s b inner → held_layers l2 ≡ held_layers l1 ⊕ layers_of inner → laid_out x ≡ laid_out loc.line ▷ order
          → held (record loc { line = x }) l2 ≡ held loc l1 ⊕ boxed wants n s b grouped inner
      atom_arm l2 x order c r e h k =
          same_lists (held (record loc { line = x }) l2) (held loc l1 ⊕ record (layers_of inner) { line = order })
          (ap (λ z. z.negatives) h) (sym (join-nil (laid_out loc.backgrounds))) (sym (join-nil (laid_out loc.floats))) k (sym (join-nil (laid_out loc.contents))) (ap (λ z. z.zeros) h) (ap (λ z. z.positives) h) (sym (join-nil (laid_out loc.outlines)))
          ∙ ap (λ z. held loc l1 ⊕ z) (sym (boxed_by order r e ∙ box_atom order c))

      pub inline_arm : (x y : Nested Wrapper Made) (new : ContextLists Made) → class b.style false ≡ Inline → new ≡ held (record loc { line = x; outlines = y }) l1 ⊕ inner → laid_out x ≡ (laid_out loc.line ▷ (Bk ▷ Bd)) ▷ Ct → laid_out y ≡ laid_out loc.outlines ▷ Ol
          → new ≡ held loc l1 ⊕ boxed wants n s b grouped inner
      inline_arm x y new c h k m =
          h
          ∙ same_lists (held (record loc { line = x; outlines = y }) l1 ⊕ inner) (held loc l1 ⊕ record inner { line = ((Bk ▷ Bd) ▷ Ct) ▷ inner.line; outlines = Ol ▷ inner.outlines })
          refl refl refl (ap (λ z. z ▷ inner.line) (k ∙ join_assoc (laid_out loc.line) (Bk ▷ Bd) Ct) ∙ join_assoc (laid_out loc.line) ((Bk ▷ Bd) ▷ Ct) inner.line) refl refl refl
          (ap (λ z. z ▷ inner.outlines) m ∙ join_assoc (laid_out loc.outlines) Ol inner.outlines)
          ∙ ap (λ z. held loc l1 ⊕ z) (sym (box_inline (order_of below (gives wants n) false s b inner) c))

      pub block_arm : (loc1 loc2 loc3 loc4 : FlowLists A) (l3 : LayerLists A) (line : Nested Wrapper Made) → class b.style false ≡ Block
          → loc1.floats ≡ loc.floats → laid_out loc1.backgrounds ≡ laid_out loc.backgrounds ▷ (Bk ▷ Bd) → loc1.line ≡ loc.line → laid_out loc1.contents ≡ laid_out loc.contents ▷ Ct → laid_out loc1.outlines ≡ laid_out loc.outlines ▷ Ol
          → line ≡ loc1.line → loc2.backgrounds ≡ loc1.backgrounds → loc2.floats ≡ loc1.floats → loc2.line ≡ loc1.contents → laid_out loc2.contents ≡ nil → loc2.outlines ≡ loc1.outlines
          → held loc3 l3 ≡ held loc2 l1 ⊕ inner
          → loc4.backgrounds ≡ loc3.backgrounds → loc4.floats ≡ loc3.floats → loc4.line ≡ line → laid_out loc4.contents ≡ laid_out loc3.line ▷ laid_out loc3.contents → loc4.outlines ≡ loc3.outlines
          → held loc4 l3 ≡ held loc l1 ⊕ boxed wants n s b grouped inner
      block_arm loc1 loc2 loc3 loc4 l3 line c f1 k1 e1 k3 k4 o1 o2 o3 o4 o5 o6 h g1 g2 g3 g4 g5 =
          same_lists (held loc4 l3) (held loc l1 ⊕ record inner { backgrounds = (Bk ▷ Bd) ▷ inner.backgrounds; line = nil; contents = (Ct ▷ inner.line) ▷ inner.contents; outlines = Ol ▷ inner.outlines })
          (ap (λ q. q.negatives) h)
          (ap laid_out g1 ∙ ap (λ q. q.backgrounds) h ∙ ap (λ q. q ▷ inner.backgrounds) (ap laid_out o2 ∙ k1) ∙ join_assoc (laid_out loc.backgrounds) (Bk ▷ Bd) inner.backgrounds)
          (ap laid_out g2 ∙ ap (λ q. q.floats) h ∙ ap (λ q. laid_out q ▷ inner.floats) (o3 ∙ f1))
          (ap laid_out (g3 ∙ o1 ∙ e1) ∙ sym (join-nil (laid_out loc.line)))
          (g4 ∙ ap (λ q. q ▷ laid_out loc3.contents) (ap (λ q. q.line) h ∙ ap (λ q. q ▷ inner.line) (ap laid_out o4 ∙ k3) ∙ join_assoc (laid_out loc.contents) Ct inner.line)
          ∙ ap (λ q. (laid_out loc.contents ▷ (Ct ▷ inner.line)) ▷ q) (ap (λ q. q.contents) h ∙ ap (λ q. q ▷ inner.contents) o5)
          ∙ join_assoc (laid_out loc.contents) (Ct ▷ inner.line) inner.contents)
          (ap (λ q. q.zeros) h)
          (ap (λ q. q.positives) h)
          (ap laid_out g5 ∙ ap (λ q. q.outlines) h ∙ ap (λ q. q ▷ inner.outlines) (ap laid_out o6 ∙ k4) ∙ join_assoc (laid_out loc.outlines) Ol inner.outlines)
          ∙ ap (λ q. held loc l1 ⊕ q) (sym (box_block (order_of below (gives wants n) false s b inner) c))

      -- a block without boxes below it
      pub lone_arm : (loc1 : FlowLists A) → class b.style false ≡ Block → inner ≡ no_lists
          → loc1.floats ≡ loc.floats → laid_out loc1.backgrounds ≡ laid_out loc.backgrounds ▷ (Bk ▷ Bd) → loc1.line ≡ loc.line → laid_out loc1.contents ≡ laid_out loc.contents ▷ Ct → laid_out loc1.outlines ≡ laid_out loc.outlines ▷ Ol
          → held loc1 l1 ≡ held loc l1 ⊕ boxed wants n s b grouped inner
      lone_arm loc1 c e f1 k1 e1 k3 k4 =
          same_lists (held loc1 l1) (held loc l1 ⊕ record inner { backgrounds = (Bk ▷ Bd) ▷ inner.backgrounds; line = nil; contents = (Ct ▷ inner.line) ▷ inner.contents; outlines = Ol ▷ inner.outlines })
          (rw (e) (sym (append-nil (map held_stack l1.negatives.items))))
          (k1 ∙ rw (e, join-nil (Bk ▷ Bd)) refl)
          (ap laid_out f1 ∙ rw (e, join-nil (laid_out loc.floats)) refl)
          (ap laid_out e1 ∙ sym (join-nil (laid_out loc.line)))
          (k3 ∙ rw (e, join-nil Ct, join-nil Ct) refl)
          (rw (e) (sym (join-nil (laid_out l1.zeros))))
          (rw (e) (sym (append-nil (map held_stack l1.positives.items))))
          (k4 ∙ rw (e, join-nil Ol) refl)
          ∙ ap (λ q. held loc l1 ⊕ q) (sym (box_block (order_of below (gives wants n) false s b inner) c))

      pub auto_arm : (l2 : LayerLists A) (z v : Nested Wrapper Made) (order : Entries Wrapper Made) → class b.style false ≡ Layer → real b.style false ≡ false → grouped ≡ false → s.root ≡ false → order ≡ paints wants n s b inner
          → held_layers l2 ≡ held_layers (record l1 { zeros = z }) ⊕ layers_of inner → laid_out z ≡ nil → laid_out v ≡ (laid_out l1.zeros ▷ order) ▷ laid_out l2.zeros
          → held loc (record l2 { zeros = v }) ≡ held loc l1 ⊕ boxed wants n s b grouped inner
      auto_arm l2 z v order c u o r e h kz kv =
          same_lists (held loc (record l2 { zeros = v })) (held loc l1 ⊕ record (layers_of inner) { zeros = order ▷ inner.zeros })
          (ap (λ q. q.negatives) h) (sym (join-nil (laid_out loc.backgrounds))) (sym (join-nil (laid_out loc.floats))) (sym (join-nil (laid_out loc.line))) (sym (join-nil (laid_out loc.contents)))
          (kv ∙ ap (λ q. (laid_out l1.zeros ▷ order) ▷ q) (ap (λ q. q.zeros) h ∙ ap (λ q. q ▷ inner.zeros) kz) ∙ join_assoc (laid_out l1.zeros) order inner.zeros)
          (ap (λ q. q.positives) h) (sym (join-nil (laid_out loc.outlines)))
          ∙ ap (λ q. held loc l1 ⊕ q) (sym (boxed_by order r e ∙ box_auto order c u o))

      pub real_arm : (l2 : LayerLists A) (z : ℤ) (order whole : Entries Wrapper Made) → class b.style false ≡ Layer → real b.style false ≡ true → s.root ≡ false → order ≡ paints wants n s b inner
          → whole ≡ as_group grouped b order → z ≡ level_in b → held_layers l2 ≡ held_layers l1 ⊕ layer_lists z whole
          → held loc l2 ≡ held loc l1 ⊕ boxed wants n s b grouped inner
      real_arm l2 z order whole c u r e w k h =
          let m : held_layers l2 ≡ held_layers l1 ⊕ layer_lists (level_in b) (as_group grouped b order) =
          h ∙ ap (λ q. held_layers l1 ⊕ layer_lists q whole) k ∙ ap (λ q. held_layers l1 ⊕ layer_lists (level_in b) q) w in
          same_lists (held loc l2) (held loc l1 ⊕ layer_lists (level_in b) (as_group grouped b order))
          (ap (λ q. q.negatives) m) (sym (join-nil (laid_out loc.backgrounds))) (sym (join-nil (laid_out loc.floats))) (sym (join-nil (laid_out loc.line))) (sym (join-nil (laid_out loc.contents))) (ap (λ q. q.zeros) m) (ap (λ q. q.positives) m) (sym (join-nil (laid_out loc.outlines)))
          ∙ ap (λ q. held loc l1 ⊕ q) (sym (boxed_by order r e ∙ box_real order c u))
