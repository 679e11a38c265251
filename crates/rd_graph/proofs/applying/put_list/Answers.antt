use Rattle.std.proofs.Common.{◌<◌, ◌∙◌, List, ap, arith, length, refl, subst, sym}
use Rattle.rd_keys.specs.declared.entry.EntryKey.{EntryKey}
use Rattle.rd_graph.specs.Patches.{with_list}
use Rattle.rd_graph.specs.Internal.Chunks.{Tells}
use Rattle.rd_graph.specs.Internal.Seen.{seen}
use Rattle.rd_graph.proofs.Patches.PutInPlace.{list_put}
use Rattle.rd_graph.proofs.applying.put_list.Goals as goal

pub returns-clause-put : goal.returns-clause-put
returns-clause-put c =
    let ok = c.args.nodes.now.ok in
    list_put c.args.nodes.now.items c.args.place c.index_mut-node.result.now (record { key = c.index_mut-node.result.now.key; before = c.args.before }) (omega (arith, c.requires, ok.0)) c.index_mut-node.ensures.value refl

pub returns-clause-told : goal.returns-clause-told
returns-clause-told c = λ told.
    let ns = c.args.nodes.now.items in
    let size = c.args.nodes.now.ok.0 in
    let place = c.args.place in
    let within : place < length ns = omega (arith, c.requires, size) in
    let put = list_put ns place c.index_mut-node.result.now (record { key = c.index_mut-node.result.now.key; before = c.args.before }) within c.index_mut-node.ensures.value refl in
    subst (Tells c.put_names.new.chunks.items) (ap (λ (ps : List EntryKey). with_list place ps (seen ns)) c.deref.ensures ∙ sym put) (c.put_names.ensures (seen ns) told)
