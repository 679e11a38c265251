use Rattle.std.proofs.Common.{◌≡◌, vec_len, arith, ◌∙◌}
use Rattle.rd_area.specs.Internal.Bands.{AreBetween}
use Rattle.rd_area.proofs.Banded.{between_starts, starts_order}
use Rattle.rd_area.proofs.bands.prepare.Goals as goal

pub returns-in_err-first-clause-banded : goal.returns-in_err-first-clause-banded
returns-in_err-first-clause-banded c = λ height t b. c.split.ensures.banded height (omega (arith, c.requires.order, t)) b

pub split-requires-2-clause-count : goal.split-requires-2-clause-count
split-requires-2-clause-count c =
    (c.split.ensures.banded c.requires.banded.0 (omega (arith, c.requires.order, c.requires.banded.1)) c.requires.banded.2).count

pub split-requires-2-clause-rising : goal.split-requires-2-clause-rising
split-requires-2-clause-rising c =
    (c.split.ensures.banded c.requires.banded.0 (omega (arith, c.requires.order, c.requires.banded.1)) c.requires.banded.2).rising

pub split-requires-2-clause-all : goal.split-requires-2-clause-all
split-requires-2-clause-all c = λ z l.
    (c.split.ensures.banded c.requires.banded.0 (omega (arith, c.requires.order, c.requires.banded.1)) c.requires.banded.2).all z (omega (arith, l, c.requires.banded.1))

pub returns-in_err-last-clause-banded : goal.returns-in_err-last-clause-banded
returns-in_err-last-clause-banded c = λ height t b. c.split-2.ensures.banded height t (c.split.ensures.banded height (omega (arith, c.requires.order, t)) b)

pub returns-in_err-last-clause-same : goal.returns-in_err-last-clause-same
returns-in_err-last-clause-same c = λ z. c.split-2.ensures.same z ∙ c.split.ensures.same z

pub reserve-requires : goal.reserve-requires
reserve-requires c =
    let b = c.split-2.ensures.banded c.requires.banded.0 c.requires.banded.1
    (c.split.ensures.banded c.requires.banded.0 (omega (arith, c.requires.order, c.requires.banded.1)) c.requires.banded.2) in
    omega (arith, c.in_ok-last.ensures.begins.within, b.count)

pub returns-in_err-reserve-clause-banded : goal.returns-in_err-reserve-clause-banded
returns-in_err-reserve-clause-banded c = λ height t b.
    let n : vec_len c.reserve.new.rows ≡ vec_len c.split-2.new.bands = c.reserve.ensures.len in
    rw n (c.split-2.ensures.banded height t (c.split.ensures.banded height (omega (arith, c.requires.order, t)) b))

pub returns-clause-banded : goal.returns-clause-banded
returns-clause-banded c = λ height t b.
    let n : vec_len c.reserve.new.rows ≡ vec_len c.split-2.new.bands = c.reserve.ensures.len in
    rw n (c.split-2.ensures.banded height t (c.split.ensures.banded height (omega (arith, c.requires.order, t)) b))

pub returns-clause-between : goal.returns-clause-between
returns-clause-between c =
    between_starts c.split.new.ends.items c.split-2.new.ends.items c.args.from c.args.to c.in_ok-first.first c.in_ok-last.last c.requires.order
    c.split-2.ensures.before c.in_ok-first.ensures.begins c.in_ok-last.ensures.begins

pub returns-clause-order : goal.returns-clause-order
returns-clause-order c =
    let b : AreBetween c.split-2.new.ends.items c.args.from c.args.to c.in_ok-first.first c.in_ok-last.last =
    between_starts c.split.new.ends.items c.split-2.new.ends.items c.args.from c.args.to c.in_ok-first.first c.in_ok-last.last c.requires.order
    c.split-2.ensures.before c.in_ok-first.ensures.begins c.in_ok-last.ensures.begins in
    starts_order c.split-2.new.ends.items c.args.from c.args.to c.in_ok-first.first c.in_ok-last.last c.requires.order b

pub returns-clause-within : goal.returns-clause-within
returns-clause-within c =
    let b = c.split-2.ensures.banded c.requires.banded.0 c.requires.banded.1
    (c.split.ensures.banded c.requires.banded.0 (omega (arith, c.requires.order, c.requires.banded.1)) c.requires.banded.2) in
    omega (arith, c.in_ok-last.ensures.begins.within, b.count, c.reserve.ensures.len)
