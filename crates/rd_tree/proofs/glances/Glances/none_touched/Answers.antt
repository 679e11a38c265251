use Rattle.std.proofs.Common.{subst, arith}
use Rattle.rd_tree.specs.Internal.Glances.{HasWord, known_of}
use Rattle.rd_tree.proofs.Nodes.Shared.{quiet_range}
use Rattle.rd_tree.proofs.glances.Glances.none_touched.Goals as goal

pub returns-then-last-len : goal.returns-then-last-len
returns-then-last-len c = λ t. rw (← c.self.view_is) (quiet_range c.self.inside.rows.items c.self.inside.words.items c.self.inside.shared.items c.args.keys
    c.self.invariant.words (grind arith) (grind arith) (omega arith) (λ b f l bit.
    subst (λ ks. HasWord (known_of ks b) c.args.keys.slots c.args.keys.oldest) c.deref.ensures.value
    (subst (HasWord (known_of c.deref.result.now b) c.args.keys.slots) c.from.ensures (c.all_share.ensures t b f l bit))))
