-- The pass of the code: what is handed down, the wanted items, and what they cost.
use Rattle.std.specs.Prelude.{ℕ, ℤ, pos, int_lt, not, ◌&&◌, ◌+◌, Bool, false, map, Option, if◌then◌else◌}
use Rattle.rd_geom.specs.Plane.{Rectangle}
use Rattle.rd_style.specs.Classes.{real}
use Rattle.rd_list.specs.Entries.{Entries, nil}
use Rattle.rd_item.specs.Items.{Made}
use Rattle.rd_keys.specs.Keys.{BoxKey, same_key}
use Rattle.rd_tree.specs.Forest.{from_some}
use Rattle.rd_tree.specs.Document.{BoxForest, Document}
use Rattle.rd_tree.specs.Contexts.{blends_in}
use Rattle.rd_stack.specs.Paths.{BoxData}
use Rattle.rd_list.specs.Nested.{laid_out}
use Rattle.rd_list.specs.Wrappers.{Wrapper}
use Rattle.rd_partial.specs.Internal.Inherited.{Inherited}
use Rattle.rd_partial.specs.declared.lists.LayerLists.{LayerLists}
use Rattle.rd_partial.specs.Internal.ContextLists.{ContextLists, no_lists, entries_if, list_if, stacked}
use Rattle.rd_partial.specs.Internal.Pass as by_pass
use Rattle.rd_partial.specs.Internal.Counting as counting
use Rattle.rd_partial.specs.Internal.Inherited.{below}
use Rattle.rd_partial.specs.Internal.Given.{gives}
use Rattle.rd_partial.specs.Internal.Held.{held_stack}

-- without what goes to the stacking context, and that alone
abbrev pub layers_of : ContextLists Made → ContextLists Made
layers_of b = record { negatives = b.negatives; backgrounds = nil; floats = nil; line = nil; contents = nil; zeros = b.zeros; positives = b.positives; outlines = nil }

-- the layers that the code holds
abbrev pub held_layers : {A : Type 0} → LayerLists A → ContextLists Made
held_layers layers = record { negatives = map held_stack layers.negatives.items; backgrounds = nil; floats = nil; line = nil; contents = nil; zeros = laid_out layers.zeros; positives = map held_stack layers.positives.items; outlines = nil }

-- what one layer of a level gives to its stacking context
abbrev pub layer_lists : ℤ → Entries Wrapper Made → ContextLists Made
layer_lists z order = record {
  negatives = list_if (int_lt z (pos 0)) (stacked z order);
  backgrounds = nil;
  floats = nil;
  line = nil;
  contents = nil;
  zeros = entries_if (not (int_lt z (pos 0)) && not (int_lt (pos 0) z)) order;
  positives = list_if (int_lt (pos 0) z) (stacked z order);
  outlines = nil;
}

-- CSS Compositing 1 section 3.2: is a blended layer among some siblings and those below them, from one on, in the stacking
-- context round them?
abbrev pub blends_from : Option BoxKey → Document → Bool
blends_from first t = blends_in (from_some same_key first t.boxes)

module _ (wants : Rectangle → Bool) (n : ℕ) where
  -- what a forest gives
  unfoldable pub passes : Inherited → BoxForest → ContextLists Made
  passes s f = by_pass.pass below (gives wants n) s f

  -- all that a box paints
  abbrev pub paints : Inherited → BoxData → ContextLists Made → Entries Wrapper Made
  paints s b inner = by_pass.order_of below (gives wants n) s.root s b inner

  -- what a box gives with those below it, where it is told whether it is grouped
  abbrev pub boxed : Inherited → BoxData → Bool → ContextLists Made → ContextLists Made
  boxed s b grouped inner = by_pass.box_lists below (gives wants n) s b grouped (by_pass.order_of below (gives wants n) false s b inner) inner

  -- how many items a box gives
  abbrev pub own_cost : Inherited → BoxData → ℕ
  own_cost s b = counting.given_of below (gives wants n) s b

  -- how many items a forest gives
  unfoldable pub cost : Inherited → BoxForest → ℕ
  cost s f = counting.given below (gives wants n) s f

  -- what a box hands on to its stacking context
  abbrev pub passed_on : Inherited → BoxData → ContextLists Made → ContextLists Made
  passed_on s b inner = if real b.style s.root then no_lists else layers_of inner

  -- what some siblings give, from one on
  abbrev pub passes_from : Inherited → Option BoxKey → Document → ContextLists Made
  passes_from s first t = passes s (from_some same_key first t.boxes)

  -- how many items some siblings give, from one on
  abbrev pub siblings_cost : Inherited → Option BoxKey → Document → ℕ
  siblings_cost s first t = cost s (from_some same_key first t.boxes)

-- the looks at some siblings, from one on
abbrev pub visits_from : (Rectangle → Bool) → Option BoxKey → Document → ℕ
visits_from wants first t = counting.visits wants (from_some same_key first t.boxes)
