use Rattle.std.proofs.Common.{option_map, ap, sym, ◌∙◌}
use Rattle.serde_json.specs.Find.{get}
use Rattle.serde_json.specs.View.{view}
use Rattle.serde_json.proofs.Views.{view-lookup, view-Object}
use Rattle.rd_scene.proofs.members.take_member.Goals as goal

pub returns-in-Object : goal.returns-in-Object
returns-in-Object c =
    ap (option_map view) c.remove.ensures.value ∙ view-lookup c.args.name.now _ ∙ sym (ap (get c.args.name.now) (ap view c.in-Object.is ∙ view-Object _))
