-- What the boxes of a forest give to the box that paints them: six lists, of which two have two parts.
use Rattle.std.specs.Prelude.{ℤ, int_lt, Bool, not, if◌then◌else◌, List, [], ◌∷◌, ◌++◌}
use Rattle.rd_list.specs.Entries.{Entries, nil, ◌▷◌, is_empty}
use Rattle.rd_list.specs.Wrappers.{Wrapper}

-- CSS 2.2 section 9.9.1: a layer's level in its stacking context, auto being 0, and all that it paints
pub record LayerOrder (L : Type 0) : Type 0 where
  pub level : ℤ
  pub order : Entries Wrapper L

pub record ContextLists (L : Type 0) : Type 0 where
  -- the layers of negative level, in tree order
  pub negatives : List (LayerOrder L)
  -- the backgrounds and borders of blocks
  pub backgrounds : Entries Wrapper L
  -- what floats paint
  pub floats : Entries Wrapper L
  -- what lies in the line of the box that these boxes are in
  pub line : Entries Wrapper L
  -- the contents and lines of blocks
  pub contents : Entries Wrapper L
  -- the layers at auto or 0
  pub zeros : Entries Wrapper L
  -- the layers of positive level, in tree order
  pub positives : List (LayerOrder L)
  -- the outlines
  pub outlines : Entries Wrapper L

-- a list where a condition holds, and else nothing
abbrev pub list_if : {A : Type 0} → Bool → List A → List A
list_if b xs = if b then xs else []

module _ {L : Type 0} where
  abbrev pub no_lists : ContextLists L
  no_lists = record { negatives = []; backgrounds = nil; floats = nil; line = nil; contents = nil; zeros = nil; positives = []; outlines = nil }

  infixr 5 ◌⊕◌
  -- list by list, one on top of another
  abbrev pub ◌⊕◌ : ContextLists L → ContextLists L → ContextLists L
  a ⊕ b = record {
    negatives = a.negatives ++ b.negatives;
    backgrounds = a.backgrounds ▷ b.backgrounds;
    floats = a.floats ▷ b.floats;
    line = a.line ▷ b.line;
    contents = a.contents ▷ b.contents;
    zeros = a.zeros ▷ b.zeros;
    positives = a.positives ++ b.positives;
    outlines = a.outlines ▷ b.outlines;
  }

  -- a list where a condition holds, and else nothing
  abbrev pub entries_if : Bool → Entries Wrapper L → Entries Wrapper L
  entries_if b xs = if b then xs else nil

  -- a layer, if it paints anything
  abbrev pub stacked : ℤ → Entries Wrapper L → List (LayerOrder L)
  stacked n order = list_if (not (is_empty order)) (record { level = n; order = order } ∷ [])

  -- x before the first that is not lower
  abbrev pub insert_layer : LayerOrder L → List (LayerOrder L) → List (LayerOrder L)
  insert_layer x [] = x ∷ []
  insert_layer x (y ∷ ys) = if int_lt y.level x.level then y ∷ insert_layer x ys else x ∷ y ∷ ys

  -- CSS 2.2 Appendix E.2: the lowest level first, and those of one level as they stood
  abbrev pub by_level : List (LayerOrder L) → List (LayerOrder L)
  by_level [] = []
  by_level (x ∷ xs) = insert_layer x (by_level xs)
