use Rattle.std.proofs.Common.{◌∙◌, ◌+◌, sym, ap}
use Rattle.rd_tree.proofs.Nodes.Grow.{size_seen}
use Rattle.rd_tree.proofs.Nodes.Marks.{taken-marks}
use Rattle.rd_tree.proofs.drawn_tree.DrawnTree.retired.Goals as goal

pub returns : goal.returns
returns g c = rw (← c.self.view_is) (ap (λ n. n + c.retired.result) (size_seen c.self.inside.nodes c.self.inside.root c.self.invariant.sound.tree)
    ∙ (c.retired.ensures.together ∙ sym (taken-marks c.self.inside.nodes)))
