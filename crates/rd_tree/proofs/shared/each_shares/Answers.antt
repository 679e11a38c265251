use Rattle.std.proofs.Common.{◌≡◌, refl, ◌%◌, sym, subst, arith, inl, inr}
use Rattle.std.specs.Int.{bit_at}
use Rattle.std.proofs.lemmas.Bool.{cases_lt}
use Rattle.rd_tree.specs.Internal.Glances.{HasWord, known_of}
use Rattle.rd_tree.proofs.shared.each_shares.Goals as goal

pub loop-page-preserved : goal.loop-page-preserved
loop-page-preserved c = λ b low high bit. elim (cases_lt b c.loop-page.page) [
  | inl l ↦ c.loop-page.invariant b low l bit
  | inr m ↦
      let e : b ≡ c.loop-page.page = omega (arith, high, m) in
      subst (λ n. bit_at c.args.keys.pages (n % 64) ≡ 1 → HasWord (known_of c.args.shared.now n) c.args.keys.slots c.args.word) (sym e)
      (c.if-not-page_shares.ensures refl) bit
]
