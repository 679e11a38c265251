use Rattle.std.proofs.Common.{◌∙◌, ap, List, [], ◌∷◌, ◌++◌}
use Rattle.std.proofs.lemmas.Result.{on_ok_weaker}
use Rattle.rd_keys.specs.declared.entry.EntryKey.{EntryKey}
use Rattle.rd_graph.specs.Internal.Patching.{lists_seen}
use Rattle.rd_graph.proofs.trimming.push_trimmed.Goals as goal

pub returns : goal.returns
returns c = on_ok_weaker c.push_list.result (λ h. h ∙ ap (λ (ks : List EntryKey). lists_seen c.args.all.now.items ++ (c.args.place, ks) ∷ []) c.in_ok-keys.ensures) c.push_list.ensures
