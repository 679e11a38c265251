use Rattle.std.proofs.Common.{◌∙◌, ap, subst, List, Bool, ◌++◌}
use Rattle.std.proofs.lemmas.Result.{on_ok_weaker}
use Rattle.rd_keys.specs.declared.entry.EntryKey.{EntryKey}
use Rattle.rd_graph.specs.Internal.Seen.{seen}
use Rattle.rd_graph.specs.Internal.Words.{NotesIf, left_if, resolved_once}
use Rattle.rd_graph.proofs.stitch.stitch_one.Goals as goal

pub returns-clause-notes : goal.returns-clause-notes
returns-clause-notes c =
    let key = c.args.node.now.key in
    let old = c.args.notes.now in
    let new = c.pass.new.notes in
    let before = c.in_ok-before.ensures ∙ ap (λ (ks : List EntryKey). resolved_once c.args.gone.now old ks) c.deref.ensures in
    on_ok_weaker c.pass.result
    (λ h. subst (λ (b : Bool). NotesIf b key (resolved_once c.args.gone.now old c.args.node.now.before.items) old new) c.has.ensures (subst (λ (ks : List EntryKey). NotesIf c.has.result key ks old new) before h))
    c.pass.ensures.notes

pub returns-clause-left : goal.returns-clause-left
returns-clause-left c =
    let key = c.args.node.now.key in
    let old = c.args.notes.now in
    let left = seen c.args.left.now.items in
    let before = c.in_ok-before.ensures ∙ ap (λ (ks : List EntryKey). resolved_once c.args.gone.now old ks) c.deref.ensures in
    on_ok_weaker c.pass.result
    (λ h. h ∙ ap (λ (ks : List EntryKey). left ++ left_if c.has.result key ks) before ∙ ap (λ (b : Bool). left ++ left_if b key (resolved_once c.args.gone.now old c.args.node.now.before.items)) c.has.ensures)
    c.pass.ensures.left
