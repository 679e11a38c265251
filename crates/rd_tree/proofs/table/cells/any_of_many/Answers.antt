use Rattle.std.proofs.Common.{◌≡◌, ◌+◌, ap, ◌∙◌, sym, arith, inl, inr, get_or}
use Rattle.std.proofs.lemmas.Bool.{cases_lt}
use Rattle.std.specs.Int.{bit_at}
use Rattle.rd_keys.proofs.Bits.{bit_left, bit_right}
use Rattle.rd_tree.specs.Internal.Cells.{word_at}
use Rattle.rd_tree.proofs.Tables.Cells.{turn}
use Rattle.rd_tree.proofs.table.cells.any_of_many.Goals as goal

pub loop-i-preserved : goal.loop-i-preserved
loop-i-preserved c = λ j s l h. elim (cases_lt j c.loop-i.i) [
  | inl u ↦ bit_left c.loop-i.all _ s (c.loop-i.invariant j s u h)
  | inr u ↦ bit_right c.loop-i.all _ s (sym (ap (λ z. bit_at (word_at c.args.words.now (c.args.from + z)) s) (let e : j ≡ c.loop-i.i = omega (arith, l, u) in e)) ∙ h)
]

pub returns : goal.returns
returns c = λ cell s a b h.
    let e = c.min-i-end.ensures in
    let t = c.loop-i-test.false in
    let k = turn c.args.from c.args.to c.loop-i.i cell (omega (arith, e, t)) a b in
    c.loop-i.invariant _ s k.0 (ap (λ z. bit_at (get_or c.args.words.now z 0) s) k.1 ∙ h)
