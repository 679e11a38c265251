-- Boxes that give no leaf may be left out.
use Rattle.std.proofs.Common.{◌≡◌, refl, ap, ◌∙◌, Bool, true, false, not, ◌&&◌, cond, List, [], ◌++◌}
use Rattle.rd_style.specs.Classes.{blocky, real}
use Rattle.rd_style.specs.declared.kinds.Class.TheVariants.{Layer, Float, Atom, Block, Inline}
use Rattle.rd_keys.specs.declared.entry.Part.{Part}
use Rattle.rd_keys.specs.declared.entry.Part.TheVariants.{Back, Border, Content, Outline}
use Rattle.rd_list.specs.Entries.{Entries, nil, group, ◌▷◌}
use Rattle.rd_list.specs.Wrappers.{Wrapper, wrapper}
use Rattle.rd_tree.specs.Forest.{empty, tree}
use Rattle.rd_tree.specs.Document.{BoxForest}
use Rattle.rd_tree.specs.Contexts.{blends_in}
use Rattle.rd_stack.specs.Paths.{BoxData, is_plain}
use Rattle.rd_stack.specs.Fresh.{box_data}
use Rattle.rd_partial.specs.Internal.ContextLists.{ContextLists, LayerOrder, no_lists, ◌⊕◌, entries_if, list_if}
use Rattle.rd_partial.specs.Internal.Pass.{order_of, pass, box_lists, is_one, as_group, is_of, has_negative_level, has_positive_level, has_zero_level}

module _ {L : Type 0} where
  so-nil : (t : Bool) → ◌≡◌ {A = Entries Wrapper L} (entries_if t nil) nil
  so-nil true = refl
  so-nil false = refl

  some-nil : (t : Bool) → ◌≡◌ {A = List (LayerOrder L)} (list_if t []) []
  some-nil true = refl
  some-nil false = refl

  no_group : (grouped : Bool) (b : BoxData) → ◌≡◌ {A = Entries Wrapper L} (as_group grouped b nil) nil
  no_group grouped b = by grouped
    where
      by : (t : Bool) → ◌≡◌ {A = Entries Wrapper L} (cond (t && false) (group (wrapper b.key b.style.opacity b.style.blend) nil nil) nil) nil
      by true = refl
      by false = refl

  module _ {S : Type 0} (enter : S → BoxData → S) (give : S → BoxData → Part → Entries Wrapper L) where
    -- no box of the forest gives a leaf
    abbrev pub GiveNone : S → BoxForest → Type 0
    GiveNone s empty = Unit {0}
    GiveNone s (tree k d ch nx) = ((p : Part) → give s (box_data k d) p ≡ nil) × GiveNone (enter s (box_data k d)) ch × GiveNone s nx

    no_order : (root : Bool) (s : S) (b : BoxData) → ((p : Part) → give s b p ≡ nil) → order_of enter give root s b no_lists ≡ nil
    no_order root s b h =
        rw (h Back, h Border, h Content, h Outline, so-nil root, so-nil (not root), so-nil (blocky b.style root), so-nil (real b.style root), so-nil (not (blocky b.style root))) refl

    pub no_box : (s : S) (b : BoxData) (grouped : Bool) → ((p : Part) → give s b p ≡ nil) → box_lists enter give s b grouped (order_of enter give false s b no_lists) no_lists ≡ no_lists
    no_box s b grouped h =
        ap (λ z. box_lists enter give s b grouped z no_lists) (no_order false s b h)
        ∙ rw (h Back, h Border, h Content, h Outline, no_group grouped b) (none (is_of Block b) (is_of Float b) (is_of Atom b) (is_of Inline b) (is_plain b) (not (real b.style false)) (is_of Layer b && has_negative_level b) (is_of Layer b && has_zero_level b) (is_of Layer b && has_positive_level b))
      where
        none : (block float atom inline opened unreal under zero over : Bool)
            → ◌≡◌ {A = ContextLists L} (record {
              negatives = list_if under [] ++ list_if unreal [];
              backgrounds = entries_if block nil ▷ entries_if opened nil;
              floats = entries_if float nil ▷ entries_if opened nil;
              line = (entries_if inline nil ▷ entries_if atom nil) ▷ entries_if inline nil;
              contents = entries_if block nil ▷ entries_if opened nil;
              zeros = entries_if zero nil ▷ entries_if unreal nil;
              positives = list_if over [] ++ list_if unreal [];
              outlines = entries_if opened nil ▷ entries_if opened nil;
            }) no_lists
        none block float atom inline opened unreal under zero over =
            rw (so-nil block, so-nil float, so-nil atom, so-nil inline, so-nil opened, so-nil unreal, so-nil zero, some-nil unreal, some-nil under, some-nil over) refl

    -- what gives no leaf gives nothing
    pub pass-none : (s : S) (f : BoxForest) → GiveNone s f → pass enter give s f ≡ no_lists
    pass-none s empty h = refl
    pass-none s (tree k d ch nx) h =
        let b = box_data k d in
        let one = is_one false (blends_in ch) b in
        ap (λ z. box_lists enter give s b one (order_of enter give false s b z) z ⊕ pass enter give s nx) (pass-none (enter s b) ch h.1)
        ∙ ap (λ z. z ⊕ pass enter give s nx) (no_box s b one h.0)
        ∙ pass-none s nx h.2
