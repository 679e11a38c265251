use Rattle.std.proofs.Common.{◌∙◌, ap, List, [], ◌∷◌, ◌++◌}
use Rattle.std.proofs.lemmas.Result.{on_ok_weaker}
use Rattle.rd_keys.specs.declared.entry.EntryKey.{EntryKey}
use Rattle.rd_graph.specs.Internal.Patching.{lists_seen}
use Rattle.rd_graph.specs.Internal.Words.{resolved_by}
use Rattle.rd_graph.proofs.changing.relist.Goals as goal

pub returns : goal.returns
returns c =
    let before = c.in_ok-before.ensures ∙ ap (λ (ks : List EntryKey). resolved_by c.args.gone.now.names c.args.notes.now ks) c.deref.ensures in
    on_ok_weaker c.push_list.result (λ h. h ∙ ap (λ (ks : List EntryKey). lists_seen c.args.lists.now.items ++ (c.args.place, ks) ∷ []) before) c.push_list.ensures
