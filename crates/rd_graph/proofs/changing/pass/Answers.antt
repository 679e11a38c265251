use Rattle.std.proofs.Common.{◌≡◌, sym, ap, subst, Bool, cond, [], ◌∷◌, ◌++◌, is_some, false}
use Rattle.std.proofs.lemmas.List.{append-nil}
use Rattle.rd_graph.specs.Internal.Patching.{lists_seen}
use Rattle.rd_graph.specs.Internal.Relisting.{some_gone}
use Rattle.rd_graph.specs.Internal.Tables.{has_it}
use Rattle.rd_graph.specs.Internal.Words.{NotesBy, resolved_by}
use Rattle.rd_graph.proofs.changing.pass.Goals as goal

pub note-requires-clause-number : goal.note-requires-clause-number
note-requires-clause-number c = sym c.in-Some.ensures

pub returns-in-Some-clause-notes : goal.returns-in-Some-clause-notes
returns-in-Some-clause-notes c =
    subst (λ (b : Bool). NotesBy c.args.gone.now.names b c.args.node.now.key (resolved_by c.args.gone.now.names c.args.notes.now.items c.args.node.now.before.items) c.args.notes.now.items c.note.new.notes.items)
    (ap is_some c.in-Some.ensures) c.in_ok-note.ensures.notes

pub returns-in-Some-clause-lists : goal.returns-in-Some-clause-lists
returns-in-Some-clause-lists c =
    let found = resolved_by c.args.gone.now.names c.args.notes.now.items c.args.node.now.before.items in
    let late = some_gone (has_it c.args.gone.now.names) c.args.node.now.before.items in
    let lists = lists_seen c.args.lists.now.items in
    subst (λ (b : Bool). lists ≡ lists ++ cond (cond b false late) ((c.args.place, found) ∷ []) []) (ap is_some c.in-Some.ensures) (sym (append-nil lists))
