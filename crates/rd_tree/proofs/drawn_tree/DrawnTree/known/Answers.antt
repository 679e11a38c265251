use Rattle.std.proofs.Common.{arith}
use Rattle.rd_tree.proofs.Nodes.Marks.{taken-marks}
use Rattle.rd_tree.proofs.Nodes.Rooting.{rooted_seen}
use Rattle.rd_tree.proofs.Nodes.Naming.{fits_seen, ids_seen}
use Rattle.rd_tree.proofs.Nodes.Looking.{apart_seen}
use Rattle.rd_tree.proofs.Tables.TreeRows.{seen_keyed}
use Rattle.rd_tree.proofs.drawn_tree.DrawnTree.known.Goals as goal

pub returns-clause-rooted : goal.returns-clause-rooted
returns-clause-rooted g c = rw (← c.self.view_is) (rooted_seen c.self.inside.nodes c.self.inside.root c.self.invariant.sound.tree)

pub returns-clause-limits : goal.returns-clause-limits
returns-clause-limits g c = rw (← c.self.view_is) (fits_seen c.self.inside.nodes c.self.inside.root c.self.inside.ids c.self.invariant.sound)

pub returns-clause-apart : goal.returns-clause-apart
returns-clause-apart g c = rw (← c.self.view_is) (apart_seen c.self.inside.nodes c.self.inside.root c.self.invariant.sound.tree)

pub returns-clause-keyed : goal.returns-clause-keyed
returns-clause-keyed g c = rw (← c.self.view_is) (λ k h. seen_keyed c.self.inside.nodes c.self.inside.root k c.self.invariant.sound.tree h)

pub returns-clause-depth : goal.returns-clause-depth
returns-clause-depth g c = rw (← c.self.view_is) c.self.invariant.shallow

pub returns-clause-ids : goal.returns-clause-ids
returns-clause-ids g c = rw (← c.self.view_is) (ids_seen c.self.inside.nodes c.self.inside.root c.self.inside.ids c.self.invariant.sound)

pub returns-clause-most : goal.returns-clause-most
returns-clause-most g c =
    let most = c.self.invariant.sound.tree.most in
    let limit = c.self.invariant.sound.limit in
    let t = taken-marks c.self.inside.nodes in
    rw (← c.self.view_is) (omega (arith, most, limit, t))
