use Rattle.std.proofs.Common.{◌≡◌, ◌+◌, arith}
use Rattle.rd_area.proofs.Banded.{EndsBefore, end_in, bands_within, band_has_row, band_before_next}
use Rattle.rd_area.specs.Internal.Bands.{band_of}
use Rattle.rd_area.proofs.bands.between.Goals as goal

pub ends_before_from-requires-clause-before : goal.ends_before_from-requires-clause-before
ends_before_from-requires-clause-before c = λ i l. let t = c.ends_before-first.ensures.before i l in omega (arith, t, c.requires.order)

pub returns-clause-within : goal.returns-clause-within
returns-clause-within c =
    let e : EndsBefore c.args.ends.now c.args.to c.ends_before_from.result =
    record { before = c.ends_before_from.ensures.before; rest = c.ends_before_from.ensures.rest } in
    let h = end_in c.args.ends.now c.args.to c.ends_before_from.result (omega (arith, c.requires.order)) c.requires.all e in
    omega (arith, h)

pub returns-clause-bands : goal.returns-clause-bands
returns-clause-bands c =
    let f : EndsBefore c.args.ends.now (c.args.from + 1) c.ends_before-first.result =
    record { before = c.ends_before-first.ensures.before; rest = c.ends_before-first.ensures.rest } in
    let b : c.ends_before-first.result ≡ band_of c.args.ends.now c.args.from =
    band_before_next c.args.ends.now c.args.from c.ends_before-first.result c.ends_before-first.ensures.within f in
    let e : EndsBefore c.args.ends.now c.args.to c.ends_before_from.result =
    record { before = c.ends_before_from.ensures.before; rest = c.ends_before_from.ensures.rest } in
    let h = end_in c.args.ends.now c.args.to c.ends_before_from.result (omega (arith, c.requires.order)) c.requires.all e in
    λ y f l. rw b (bands_within c.args.ends.now c.args.from c.args.to c.ends_before_from.result y h e f l)

pub returns-clause-rows : goal.returns-clause-rows
returns-clause-rows c =
    let f : EndsBefore c.args.ends.now (c.args.from + 1) c.ends_before-first.result =
    record { before = c.ends_before-first.ensures.before; rest = c.ends_before-first.ensures.rest } in
    let b : c.ends_before-first.result ≡ band_of c.args.ends.now c.args.from =
    band_before_next c.args.ends.now c.args.from c.ends_before-first.result c.ends_before-first.ensures.within f in
    let e : EndsBefore c.args.ends.now c.args.to c.ends_before_from.result =
    record { before = c.ends_before_from.ensures.before; rest = c.ends_before_from.ensures.rest } in
    let h = end_in c.args.ends.now c.args.to c.ends_before_from.result (omega (arith, c.requires.order)) c.requires.all e in
    λ k f l. band_has_row c.args.ends.now c.args.from c.args.to c.ends_before_from.result k c.requires.rising c.requires.order h e (omega (arith, f, b)) l
