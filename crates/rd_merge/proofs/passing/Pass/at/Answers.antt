use Rattle.std.proofs.Common.{◌∙◌, ap, ◌++◌, is_some}
use Rattle.rd_graph.specs.Names.{place_of, same_entry}
use Rattle.rd_merge.proofs.Looks.{inner_one, name_is, place_within}
use Rattle.rd_merge.proofs.passing.Pass.at.Goals as goal

pub note-requires : goal.note-requires
note-requires g c = place_within c.in_ok-name.name c.args.self.now.names.now c.key_of.result _ c.in_ok-name.ensures.place c.requires.found

pub returns-clause-inner : goal.returns-clause-inner
returns-clause-inner g c =
    let names = c.args.self.now.names.now in
    c.in_ok-push_if-2.ensures
    ∙ ap (λ ps. c.args.looked.now.inner.items ++ ps) (inner_one (g.T.Touches.is_touched c.args.self.now.tree.now) names c.args.entry.now c.args.place c.stays_at-stays.result c.is_some.result c.is_inner-is_inner.result c.stays_at-stays.ensures
    (c.is_some.ensures ∙ ap is_some (c.in_ok-name.ensures.place ∙ ap (place_of same_entry names) (name_is c.args.entry.now c.key_of.result c.key_of.ensures)))
    c.is_inner-is_inner.ensures)
