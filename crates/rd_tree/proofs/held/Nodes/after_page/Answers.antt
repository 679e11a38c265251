use Rattle.std.proofs.Common.{◌≡◌, sym, subst, true}
use Rattle.std.specs.Prelude.{is_some, IfSome}
use Rattle.rd_keys.specs.Arena.{value}
use Rattle.rd_tree.specs.Internal.Calm.{IsPassed}
use Rattle.rd_tree.proofs.Nodes.Passing.{if_passes}
use Rattle.rd_tree.proofs.held.Nodes.after_page.Goals as goal

pub returns : goal.returns
returns c =
    let live = subst (λ a. is_some (value a c.args.key.slot c.args.key.generation) ≡ true) (sym c.self.view_is) c.requires.live in
    let passed = subst (λ s. IfSome c.after_page.result (IsPassed c.self.inside.glances.rows s)) c.slot.ensures c.after_page.ensures in
    rw (← c.self.view_is) (if_passes c.self.inside.held c.self.inside.glances.rows c.args.key c.after_page.result c.self.invariant live passed)
