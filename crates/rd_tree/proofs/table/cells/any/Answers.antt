use Rattle.std.proofs.Common.{◌≡◌, ◌∙◌, ap, arith, inl, inr, sym}
use Rattle.std.proofs.lemmas.Bool.{cases_lt}
use Rattle.std.specs.Int.{bit_at}
use Rattle.rd_keys.proofs.Bits.{bit_left, bit_right}
use Rattle.rd_tree.specs.Internal.Cells.{word_at}
use Rattle.rd_tree.proofs.table.cells.any.Goals as goal

pub returns-then-to-from-lt2 : goal.returns-then-to-from-lt2
returns-then-to-from-lt2 c = λ cell s a b h.
    let t = c.if-to-from-lt2.true in
    let at = word_at c.args.words.now in
    elim (cases_lt c.args.from cell) [
      | inl u ↦ bit_right (at c.args.from) (at c.args.to) s (sym (ap (λ z. bit_at (at z) s) (let e : cell ≡ c.args.to = omega (arith, t, u, b) in e)) ∙ h)
      | inr u ↦ bit_left (at c.args.from) (at c.args.to) s (sym (ap (λ z. bit_at (at z) s) (let e : cell ≡ c.args.from = omega (arith, a, u) in e)) ∙ h)
    ]
