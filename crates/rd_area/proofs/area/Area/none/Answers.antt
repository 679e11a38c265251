use Rattle.std.proofs.Common.{◌≡◌, [], ◌∷◌, arith, rules}
use Rattle.std.specs.Prelude.{unsigned_abs, vec_len}
use Rattle.std.proofs.lemmas.Int.{ints}
use Rattle.rd_area.specs.Internal.Bands.{row_at, rows_of}
use Rattle.rd_area.specs.Internal.Normal.{spans_of}
use Rattle.rd_area.proofs.Banded.{none_rows, one_banded, table_length}
use Rattle.rd_area.proofs.Pixels.{none_sound, none_on, none_filled, none_in}
use Rattle.rd_area.proofs.area.Area.none.Goals as goal

pub invariant_of-result-3 : goal.invariant_of-result-3
invariant_of-result-3 c =
    let e : c.push.new.self.items ≡ unsigned_abs c.args.size.h ∷ [] = search rules in
    let b : spans_of c.push-2.new.self.items ≡ [] ∷ [] = search rules in
    let n : vec_len c.push-2.new.self ≡ 1 = search rules in (
      none_sound c.args.size (rows_of (unsigned_abs c.args.size.h) c.push.new.self.items (spans_of c.push-2.new.self.items)) c.requires
          (table_length (unsigned_abs c.args.size.h) (row_at c.push.new.self.items (spans_of c.push-2.new.self.items)))
          (λ y. none_rows (unsigned_abs c.args.size.h) c.push.new.self.items (spans_of c.push-2.new.self.items) y b),
      rw n (one_banded (unsigned_abs c.args.size.h) c.push.new.self.items (omega (arith, ints, c.requires.some_high)) e),
      λ t. cc,
      none_on c.args.size c.requires,
      none_filled (rows_of (unsigned_abs c.args.size.h) c.push.new.self.items (spans_of c.push-2.new.self.items)),
    )

pub returns-clause-pixels : goal.returns-clause-pixels
returns-clause-pixels c = λ x y.
    let b : spans_of c.push-2.new.self.items ≡ [] ∷ [] = search rules in
    none_in (rows_of (unsigned_abs c.args.size.h) c.push.new.self.items (spans_of c.push-2.new.self.items)) x y
    (λ n. none_rows (unsigned_abs c.args.size.h) c.push.new.self.items (spans_of c.push-2.new.self.items) n b)
