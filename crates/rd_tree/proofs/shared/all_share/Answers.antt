use Rattle.std.proofs.Common.{sym, subst}
use Rattle.rd_tree.specs.Internal.Glances.{HasWord, known_of}
use Rattle.rd_tree.proofs.Nodes.Shared.{plain_word}
use Rattle.rd_tree.proofs.shared.all_share.Goals as goal

pub returns-then-none_stirred : goal.returns-then-none_stirred
returns-then-none_stirred c = λ t b low high bit.
    let p = c.requires.plain b (c.if-none_stirred.ensures t b low high bit) in
    subst (HasWord (known_of c.args.shared.now b) c.args.keys.slots) (sym c.if-word-eq0.true)
    (plain_word (known_of c.args.shared.now b) c.args.keys.slots p.0 p.1)
