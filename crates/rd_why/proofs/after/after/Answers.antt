use Rattle.rd_why.proofs.after.after.Goals as goal

pub returns : goal.returns
returns g c =
    let p = c.in_ok-tree.ensures.last in
    (p.0, p.1, p.2)
