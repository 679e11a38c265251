-- What the pass of the code gives at a box that it comes to, of what is wanted, and what that costs.
use Rattle.std.specs.Prelude.{◌≡◌, ℕ, ◌+◌, ◌≤◌, Bool, false, Result, OnOk}
use Rattle.rd_geom.specs.Plane.{Rectangle}
use Rattle.rd_keys.specs.declared.entry.Part.{Part}
use Rattle.rd_item.specs.Items.{Made}
use Rattle.rd_list.specs.Entries.{Entries}
use Rattle.rd_list.specs.Wrappers.{Wrapper}
use Rattle.rd_tree.specs.Document.{Document}
use Rattle.rd_partial.specs.declared.visit.Visit.{Visit}
use Rattle.rd_partial.specs.declared.lists.FlowLists.{FlowLists}
use Rattle.rd_partial.specs.declared.lists.LayerLists.{LayerLists}
use Rattle.rd_partial.specs.Internal.ContextLists.{ContextLists, ◌⊕◌}
use Rattle.rd_partial.specs.Internal.Held.{held}
use Rattle.rd_partial.specs.Internal.Pass.{is_one}
use Rattle.rd_partial.specs.Internal.Inherited.{below}
use Rattle.rd_partial.specs.Internal.Given.{gives, gives_back_border, back_border_cost}
use Rattle.rd_partial.specs.Internal.Work.{paints, boxed, own_cost, blends_from, passes_from, siblings_cost, visits_from}

module _ (wants : Rectangle → Bool) (n : ℕ) where
  -- the item of a part of the box
  abbrev pub part_at : Visit → Part → Entries Wrapper Made
  part_at v part = gives wants n v.inherited.now v.here.now part

  -- the items of its background, and of its border on top
  abbrev pub back_border_at : Visit → Entries Wrapper Made
  back_border_at v = gives_back_border wants n v.inherited.now v.here.now

  -- how many they are
  abbrev pub back_border_cost_at : Visit → ℕ
  back_border_cost_at v = back_border_cost wants n v.inherited.now v.here.now

  -- how many items it gives itself
  abbrev pub own_cost_at : Visit → ℕ
  own_cost_at v = own_cost wants n v.inherited.now v.here.now

  -- what the boxes below it give
  abbrev pub passes_below : Visit → Document → ContextLists Made
  passes_below v t = passes_from wants n (below v.inherited.now v.here.now) v.first_child t

  -- how many items they give
  abbrev pub cost_below : Visit → Document → ℕ
  cost_below v t = siblings_cost wants n (below v.inherited.now v.here.now) v.first_child t

  -- all that it paints
  abbrev pub paints_at : Visit → Document → Entries Wrapper Made
  paints_at v t = paints wants n v.inherited.now v.here.now (passes_below v t)

  -- what it gives with those below it
  abbrev pub boxed_at : Visit → Document → ContextLists Made
  boxed_at v t = boxed wants n v.inherited.now v.here.now (is_one false (blends_from v.first_child t) v.here.now) (passes_below v t)

  -- how many items it gives with those below it
  abbrev pub cost_at : Visit → Document → ℕ
  cost_at v t = own_cost_at v + cost_below v t

-- the looks at those below it
abbrev pub visits_below : (Rectangle → Bool) → Visit → Document → ℕ
visits_below wants v t = visits_from wants v.first_child t

-- What the lists hold, the items that were made and the boxes that were looked at.
pub record Tally : Type 0 where
  pub lists : ContextLists Made
  pub made : ℕ
  pub looks : ℕ

abbrev pub tally : {A : Type 0} → FlowLists A → LayerLists A → ℕ → ℕ → Tally
tally local layers made looks = record { lists = held local layers; made = made; looks = looks }

-- The lists are given the box with those below it, where memory serves; no more is made and looked at than that takes.
pub record GivesBox {R E : Type 0} (wants : Rectangle → Bool) (n : ℕ) (v : Visit) (t : Document) (result : Result R E) (old new : Tally) : Type 0 where
  pub list : OnOk result (new.lists ≡ old.lists ⊕ boxed_at wants n v t)
  pub made : OnOk result (new.made ≡ old.made + cost_at wants n v t)
  pub most : new.made ≤ old.made + cost_at wants n v t
  pub looks : new.looks ≤ old.looks + visits_below wants v t
