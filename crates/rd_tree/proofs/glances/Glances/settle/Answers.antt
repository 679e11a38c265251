use Rattle.std.proofs.Common.{◌≡◌, sym, subst, ◌<◌, length, true}
use Rattle.rd_tree.specs.Internal.Glances.{seen_at}
use Rattle.rd_tree.proofs.Nodes.Calm.{calm_settled}
use Rattle.rd_tree.proofs.Nodes.Shared.{words_settled}
use Rattle.rd_tree.proofs.glances.Glances.settle.Goals as goal

pub invariant_of-self : goal.invariant_of-self
invariant_of-self c =
    let here = subst (λ r. c.args.slot < length r.rows) (sym c.self.view_is) c.requires.here in
    let touched = subst (λ r. (seen_at r.rows c.args.slot).touched ≡ true) (sym c.self.view_is) c.requires.touched in
    record {
      words = words_settled c.self.inside.rows.items c.self.inside.words.items c.self.inside.shared.items c.args.slot c.from.result _
          c.self.invariant.words here touched (sym c.from.ensures);
      calm = calm_settled c.self.inside.rows.items c.self.inside.calm.items c.args.slot _ c.self.invariant.calm here touched;
    }
