use Rattle.std.proofs.Common.{◌≡◌, ◌∙◌, ap, sym, ◌%◌, ◌/◌, ◌^◌, ◌+◌, ◌-◌, ℕ, Bool, arith, inl, inr}
use Rattle.std.specs.Int.{trailing_zeros, w64}
use Rattle.std.proofs.lemmas.Bool.{cases_lt}
use Rattle.rd_tree.specs.Seeking.{reaches}
use Rattle.rd_tree.specs.Internal.Summaries.{row_at}
use Rattle.rd_tree.proofs.Tables.Cells.{none_before, none_on, passed}
use Rattle.rd_tree.proofs.table.rows.Table.far_reaching.Goals as goal

pub returns-then-left-eq0-clause-apart : goal.returns-then-left-eq0-clause-apart
returns-then-left-eq0-clause-apart c = λ s a b.
    let P : ℕ → Bool = λ j. reaches c.args.rect.now (row_at c.args.self.now.rows j).hull in
    let rows = c.requires.rows in
    elim (cases_lt s c.loop-slot.slot) [
      | inl u ↦ c.loop-slot.invariant.apart s a u
      | inr u ↦ passed P c.near-near.result c.args.from c.args.end c.loop-slot.slot (c.args.end - c.loop-slot.slot) s (λ j l. c.near-near.ensures j (omega (arith, l, rows))) c.requires.page c.loop-slot.invariant.from u b
          (λ k l. none_on c.near-near.result (c.loop-slot.slot % 64) k c.if-left-eq0.true) (omega (arith, b, u))
    ]

pub returns-then-skipped-end-clause-apart : goal.returns-then-skipped-end-clause-apart
returns-then-skipped-end-clause-apart c = λ s a b.
    let P : ℕ → Bool = λ j. reaches c.args.rect.now (row_at c.args.self.now.rows j).hull in
    let rows = c.requires.rows in
    let some = c.if-left-eq0.false in
    let far = c.if-skipped-end.true in
    elim (cases_lt s c.loop-slot.slot) [
      | inl u ↦ c.loop-slot.invariant.apart s a u
      | inr u ↦ passed P c.near-near.result c.args.from c.args.end c.loop-slot.slot _ s (λ j l. c.near-near.ensures j (omega (arith, l, rows))) c.requires.page c.loop-slot.invariant.from u b
          (λ k l. none_before c.near-near.result (c.loop-slot.slot % 64) k (omega (arith, some)) c.near-near.type_inv l) (omega (arith, b, far))
    ]

pub returns-then-reaches-clause-apart : goal.returns-then-reaches-clause-apart
returns-then-reaches-clause-apart c = λ s a b.
    let P : ℕ → Bool = λ j. reaches c.args.rect.now (row_at c.args.self.now.rows j).hull in
    let rows = c.requires.rows in
    let some = c.if-left-eq0.false in
    let near = c.if-skipped-end.false in
    elim (cases_lt s c.loop-slot.slot) [
      | inl u ↦ c.loop-slot.invariant.apart s a u
      | inr u ↦ passed P c.near-near.result c.args.from c.args.end c.loop-slot.slot _ s (λ j l. c.near-near.ensures j (omega (arith, l, rows))) c.requires.page c.loop-slot.invariant.from u (omega (arith, b, near))
          (λ k l. none_before c.near-near.result (c.loop-slot.slot % 64) k (omega (arith, some)) c.near-near.type_inv l) b
    ]

pub loop-slot-preserved : goal.loop-slot-preserved
loop-slot-preserved c =
    let P : ℕ → Bool = λ j. reaches c.args.rect.now (row_at c.args.self.now.rows j).hull in
    let rows = c.requires.rows in
    let some = c.if-left-eq0.false in
    let near = c.if-skipped-end.false in
    let from = c.loop-slot.invariant.from in
    record {
      from = omega (arith, from);
      apart = λ s a b. elim (cases_lt s c.loop-slot.slot) [
        | inl u ↦ c.loop-slot.invariant.apart s a u
        | inr u ↦ elim (cases_lt s (c.loop-slot.slot + trailing_zeros w64 (c.near-near.result / 2 ^ (c.loop-slot.slot % 64)))) [
          | inl v ↦ passed P c.near-near.result c.args.from c.args.end c.loop-slot.slot _ s (λ j l. c.near-near.ensures j (omega (arith, l, rows))) c.requires.page from u (omega (arith, b, near))
              (λ k l. none_before c.near-near.result (c.loop-slot.slot % 64) k (omega (arith, some)) c.near-near.type_inv l) v
          | inr v ↦ ap P (let e : s ≡ c.loop-slot.slot + trailing_zeros w64 (c.near-near.result / 2 ^ (c.loop-slot.slot % 64)) = omega (arith, b, v) in e) ∙ (ap (λ y. reaches c.args.rect.now y.hull) (sym c.at-row.ensures) ∙ (sym c.reaches.ensures ∙ c.if-reaches.false))
        ]
      ];
    }
