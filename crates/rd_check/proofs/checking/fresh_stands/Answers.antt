use Rattle.rd_check.proofs.checking.fresh_stands.Goals as goal

pub returns : goal.returns
returns g c = c.stands_for_itself.ensures c.args.tree.now c.root-root.ensures.apart
