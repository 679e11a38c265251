use Rattle.std.proofs.Common.{◌∙◌, ap}
use Rattle.rd_stack.specs.Parts.{leaf_of}
use Rattle.rd_partial.proofs.Pass.Stood.{clip_stood}
use Rattle.rd_partial.proofs.inherited.Inherited.leaf.Goals as goal

pub returns : goal.returns
returns c =
    rw (← c.self.view_is)
    (c.leaf_of.ensures
    ∙ ap (λ z. leaf_of c.self.inside.canvas c.self.inside.root z c.args.b.now c.args.part) (clip_stood _ c.self.invariant c.for_box.result c.style.result.now c.args.b.now.style c.style.ensures c.for_box.ensures))
