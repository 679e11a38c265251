-- The painting order in one downward pass, which drops each box into the lists of the box that paints it.
use Rattle.std.specs.Prelude.{ℤ, pos, int_lt, nat_lt, Bool, true, false, not, ◌&&◌, ◌||◌, if◌then◌else◌, ◌++◌}
use Rattle.rd_style.specs.declared.kinds.Class.{Class}
use Rattle.rd_style.specs.declared.kinds.Class.TheVariants.{Layer, Float, Atom, Block, Inline}
use Rattle.rd_style.specs.Classes.{class, real, level, blocky, blended}
use Rattle.rd_keys.specs.declared.entry.Part.{Part}
use Rattle.rd_keys.specs.declared.entry.Part.TheVariants.{Back, Border, Content, Outline}
use Rattle.rd_list.specs.Entries.{Entries, nil, group, ◌▷◌, each, flat, has_leaf}
use Rattle.rd_list.specs.Wrappers.{Wrapper, wrapper}
use Rattle.rd_tree.specs.Forest.{empty, tree}
use Rattle.rd_tree.specs.Document.{BoxForest}
use Rattle.rd_tree.specs.Contexts.{blends_in}
use Rattle.rd_stack.specs.Paths.{BoxData, is_class, is_plain}
use Rattle.rd_stack.specs.Painting.{stack_level}
use Rattle.rd_stack.specs.Fresh.{box_data}
use Rattle.rd_partial.specs.Internal.ContextLists.{ContextLists, no_lists, ◌⊕◌, entries_if, list_if, stacked, by_level}

-- CSS 2.2 Appendix E.2: of a box that is not the root
abbrev pub is_of : Class → BoxData → Bool
is_of c b = is_class c (class b.style false)

-- CSS 2.2 section 9.9.1: the level of a layer, auto being 0
abbrev pub level_in : BoxData → ℤ
level_in b = stack_level (level b.style false)

-- CSS 2.2 section 9.9.1: below the level of the stacking context
abbrev pub has_negative_level : BoxData → Bool
has_negative_level b = int_lt (level_in b) (pos 0)

-- CSS 2.2 section 9.9.1: above the level of the stacking context
abbrev pub has_positive_level : BoxData → Bool
has_positive_level b = int_lt (pos 0) (level_in b)

-- CSS 2.2 section 9.9.1: at the level of the stacking context, or auto
abbrev pub has_zero_level : BoxData → Bool
has_zero_level b = not (has_negative_level b) && not (has_positive_level b)

-- CSS Color 3 section 3.2 and CSS Compositing 1 section 3.2: is a box put as one group, where it is told whether it is the root
-- and whether a blended layer is below it? A stacking context is that is translucent or blended, or has a blended layer and is not
-- the root.
abbrev pub is_one : Bool → Bool → BoxData → Bool
is_one root low b = real b.style root && (nat_lt b.style.opacity 255 || blended b.style || (not root && low))

module _ {L : Type 0} where
  -- what a box paints, as one group where it is grouped and paints anything
  abbrev pub as_group : Bool → BoxData → Entries Wrapper L → Entries Wrapper L
  as_group grouped b order = if grouped && has_leaf (flat order) then group (wrapper b.key b.style.opacity b.style.blend) order nil else order

  module _ {S : Type 0} (enter : S → BoxData → S) (give : S → BoxData → Part → Entries Wrapper L) where
    -- CSS 2.2 Appendix E.2: all that a box paints, from what the boxes below it give it
    abbrev pub order_of : Bool → S → BoxData → ContextLists L → Entries Wrapper L
    order_of root s b below =
        entries_if root (give s b Back)
        ▷ entries_if (blocky b.style root) (entries_if (not root) (give s b Back) ▷ give s b Border)
        ▷ entries_if (real b.style root) (each (λ y. y.order) (by_level below.negatives))
        ▷ below.backgrounds
        ▷ below.floats
        ▷ entries_if (not (blocky b.style root)) ((give s b Back ▷ give s b Border) ▷ (give s b Content ▷ below.line))
        ▷ entries_if (blocky b.style root) (give s b Content ▷ below.line)
        ▷ below.contents
        ▷ entries_if (real b.style root) below.zeros
        ▷ entries_if (real b.style root) (each (λ y. y.order) (by_level below.positives))
        ▷ give s b Outline
        ▷ below.outlines

    -- What a box gives to the box that paints it, where order is all that it would paint itself, and it is told whether that is
    -- one group: who receives what.
    abbrev pub box_lists : S → BoxData → Bool → Entries Wrapper L → ContextLists L → ContextLists L
    box_lists s b grouped order below = record {
      negatives = list_if (is_of Layer b && has_negative_level b) (stacked (level_in b) (as_group grouped b order)) ++ list_if (not (real b.style false)) below.negatives;
      backgrounds = entries_if (is_of Block b) (give s b Back ▷ give s b Border) ▷ entries_if (is_plain b) below.backgrounds;
      floats = entries_if (is_of Float b) order ▷ entries_if (is_plain b) below.floats;
      line = (entries_if (is_of Inline b) ((give s b Back ▷ give s b Border) ▷ give s b Content) ▷ entries_if (is_of Atom b) order) ▷ entries_if (is_of Inline b) below.line;
      contents = entries_if (is_of Block b) (give s b Content ▷ below.line) ▷ entries_if (is_plain b) below.contents;
      zeros = entries_if (is_of Layer b && has_zero_level b) (as_group grouped b order) ▷ entries_if (not (real b.style false)) below.zeros;
      positives = list_if (is_of Layer b && has_positive_level b) (stacked (level_in b) (as_group grouped b order)) ++ list_if (not (real b.style false)) below.positives;
      outlines = entries_if (is_plain b) (give s b Outline) ▷ entries_if (is_plain b) below.outlines;
    }

    abbrev pub pass : S → BoxForest → ContextLists L
    pass s empty = no_lists
    pass s (tree k d children next) =
        let b = box_data k d in
        let below = pass (enter s b) children in
        box_lists s b (is_one false (blends_in children) b) (order_of false s b below) below ⊕ pass s next

    -- CSS 2.2 Appendix E: what a tree of boxes paints; the first box is the root
    abbrev pub whole : S → BoxForest → Entries Wrapper L
    whole s empty = nil
    whole s (tree k d children next) = let b = box_data k d in as_group (is_one true (blends_in children) b) b (order_of true s b (pass (enter s b) children))
