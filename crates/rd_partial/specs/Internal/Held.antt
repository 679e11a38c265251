-- What the lists of the code stand for.
use Rattle.std.specs.Prelude.{map}
use Rattle.rd_item.specs.Items.{Made}
use Rattle.rd_list.specs.Nested.{laid_out}
use Rattle.rd_partial.specs.Internal.ContextLists.{ContextLists, LayerOrder}
use Rattle.rd_partial.specs.declared.lists.LayerOrder as code
use Rattle.rd_partial.specs.declared.lists.FlowLists.{FlowLists}
use Rattle.rd_partial.specs.declared.lists.LayerLists.{LayerLists}

abbrev pub held_stack : {A : Type 0} → code.LayerOrder A → LayerOrder Made
held_stack s = record { level = s.level; order = laid_out s.order }

abbrev pub held : {A : Type 0} → FlowLists A → LayerLists A → ContextLists Made
held local layers = record {
  negatives = map held_stack layers.negatives.items;
  backgrounds = laid_out local.backgrounds;
  floats = laid_out local.floats;
  line = laid_out local.line;
  contents = laid_out local.contents;
  zeros = laid_out layers.zeros;
  positives = map held_stack layers.positives.items;
  outlines = laid_out local.outlines;
}
