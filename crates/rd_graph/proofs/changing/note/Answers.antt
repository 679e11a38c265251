use Rattle.std.proofs.Common.{◌∙◌, ap, sym, subst, List, true}
use Rattle.smallvec.specs.SmallVec.{SmallVec}
use Rattle.rd_keys.specs.declared.entry.EntryKey.{EntryKey}
use Rattle.rd_graph.specs.Internal.Words.{NotesBy, resolved_by}
use Rattle.rd_graph.proofs.Patches.Numbers.{noted_at}
use Rattle.rd_graph.proofs.changing.note.Goals as goal

pub put_note-requires : goal.put_note-requires
put_note-requires c = (c.requires.numbered c.args.node.now.key c.args.number c.requires.number).0

pub returns-clause-notes : goal.returns-clause-notes
returns-clause-notes c =
    let names = c.args.gone.now.names in
    let old = c.args.notes.now.items in
    let found = resolved_by names old c.args.node.now.before.items in
    let is = c.in_ok-before.ensures ∙ ap (λ (ns : List (SmallVec EntryKey)). resolved_by names ns c.deref-2.result.now) c.deref.ensures.value ∙ ap (resolved_by names old) c.deref-2.ensures in
    subst (λ (ns : List (SmallVec EntryKey)). NotesBy names true c.args.node.now.key found old ns) (sym c.put_note.ensures)
    (noted_at names old c.args.number c.in_ok-before.before c.args.node.now.key found c.requires.numbered c.requires.number is)
