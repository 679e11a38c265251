use Rattle.std.proofs.Common.{◌∙◌, ap}
use Rattle.rd_tree.proofs.Laying.Kept.{settling}
use Rattle.rd_tree.specs.Forest.{map_where}
use Rattle.rd_tree.specs.Document.{Document}
use Rattle.rd_tree.specs.Touching.{settled}
use Rattle.std.proofs.Common.{true}
use Rattle.rd_tree.proofs.tree.Tree.settle.Goals as goal

pub invariant_of-self : goal.invariant_of-self
invariant_of-self g c = (settling c.self.inside.drawn c.settle.new.self c.self.inside.hands.items (record { rooted = c.known.ensures.rooted; apart = c.known.ensures.apart; keyed = c.known.ensures.keyed; shallow = c.known.ensures.depth }) c.self.invariant c.known-2.ensures.rooted c.known-2.ensures.apart c.settle.ensures).0

pub returns : goal.returns
returns g c = (settling c.self.inside.drawn c.settle.new.self c.self.inside.hands.items (record { rooted = c.known.ensures.rooted; apart = c.known.ensures.apart; keyed = c.known.ensures.keyed; shallow = c.known.ensures.depth }) c.self.invariant c.known-2.ensures.rooted c.known-2.ensures.apart c.settle.ensures).1 ∙ ap {A = Document} (λ t. record t { boxes = map_where (λ _. true) settled t.boxes }) c.self.view_is
