use Rattle.std.proofs.Common.{◌∙◌, sym, arith}
use Rattle.rd_keys.proofs.Calls.{live_occupied}
use Rattle.rd_tree.proofs.Nodes.Grow.{size_seen}
use Rattle.rd_tree.proofs.drawn_tree.DrawnTree.boxes.Goals as goal

pub returns-clause-count : goal.returns-clause-count
returns-clause-count g c = rw (← c.self.view_is) (c.live.ensures ∙ sym (size_seen c.self.inside.nodes c.self.inside.root c.self.invariant.sound.tree))

pub returns-clause-most : goal.returns-clause-most
returns-clause-most g c =
    let most = c.self.invariant.sound.tree.most in
    let limit = c.self.invariant.sound.limit in
    omega (arith, c.live.ensures, most, limit, live_occupied c.self.inside.nodes)
