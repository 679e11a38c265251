use Rattle.std.proofs.Common.{subst}
use Rattle.rd_tree.specs.Proper.{IsProper}
use Rattle.rd_c.proofs.Back.{proper_of}
use Rattle.rd_c.proofs.painter.Painter.change.Goals as goal

pub returns-in-Ok-clause-done : goal.returns-in-Ok-clause-done
returns-in-Ok-clause-done c _ =
    let r = c.root-before.ensures in let s = c.root-after.ensures in
    record {
      accepted = c.in-Ok.ensures.accepted;
      edited = c.in-Ok.ensures.done;
      others = c.in-Ok.ensures.others;
      before = subst IsProper c.tree.ensures (proper_of c.tree.result.now r.rooted r.apart r.keyed r.ids r.limits r.depth r.most);
      after = subst IsProper c.tree-2.ensures (proper_of c.tree-2.result.now s.rooted s.apart s.keyed s.ids s.limits s.depth s.most);
    }
