use Rattle.std.proofs.Common.{◌≡◌, length, drop, arith}
use Rattle.std.proofs.Math.Seq.{take-append_seam}
use Rattle.rd_tree.proofs.shared.extend.Goals as goal

pub returns-then-words-len : goal.returns-then-words-len
returns-then-words-len c = λ w.
    let sh = c.extend_page.new.shared in
    let rest = drop (length c.extend_page.new.shared) c.args.shared.now.items in
    let all : c.args.shared.now.len ≡ length c.extend_page.new.shared = omega arith in
    rw (all, take-append_seam sh rest) (c.extend_page.ensures w)
