use Rattle.std.proofs.Common.{arith}
use Rattle.rd_merge.proofs.InPlace.{group_within, no_leaf_there, named_there, inner_there, same_but}
use Rattle.rd_merge.proofs.opening.take_group.Goals as goal

pub take_at-requires : goal.take_at-requires
take_at-requires g c =
    let ok = c.args.entries.now.ok in
    let w = group_within c.args.entries.now.items c.args.place c.requires in
    omega (arith, ok.0, w)

pub unreachable-requires : goal.unreachable-requires
unreachable-requires g c = no_leaf_there c.args.entries.now.items c.args.place c.take_at.result c.in-Leaf.field-0 c.requires c.take_at.ensures.taken c.in-Leaf.is

pub returns-clause-named : goal.returns-clause-named
returns-clause-named g c =
    named_there c.args.entries.now.items c.args.place c.take_at.result c.in-Group.group (group_within c.args.entries.now.items c.args.place c.requires) c.take_at.ensures.taken c.in-Group.is

pub returns-clause-inner : goal.returns-clause-inner
returns-clause-inner g c =
    inner_there c.args.entries.now.items c.args.place c.take_at.result c.in-Group.group (group_within c.args.entries.now.items c.args.place c.requires) c.take_at.ensures.taken c.in-Group.is

pub returns-clause-others : goal.returns-clause-others
returns-clause-others g c = same_but c.args.place c.args.entries.now.items c.take_at.new.elements.items (group_within c.args.entries.now.items c.args.place c.requires) c.take_at.ensures.kept
