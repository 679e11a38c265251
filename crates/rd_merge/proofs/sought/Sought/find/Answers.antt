use Rattle.std.proofs.Common.{◌∙◌, sym, arith, ◌-◌}
use Rattle.rd_merge.proofs.Chained.{starts, place_within, place_found, falls, goes_on, none_found}
use Rattle.rd_merge.proofs.sought.Sought.find.Goals as goal

pub loop-number-init : goal.loop-number-init
loop-number-init c = let s = c.args.self.now in record { at = starts s.is_wide c.args.names.now s.lasts.items s.befores.items c.requires.chained c.args.name c.last-number.result c.last-number.ensures }

pub bounds-names-place : goal.bounds-names-place
bounds-names-place c =
    let s = c.args.self.now in
    let test = c.loop-number-test.true in
    place_within s.is_wide c.args.names.now s.lasts.items s.befores.items c.requires.chained c.args.name c.loop-number.number (c.loop-number.number - 1) c.loop-number.invariant.at (omega (arith, test))

pub offset_bounds-names-place : goal.offset_bounds-names-place
offset_bounds-names-place c =
    let s = c.args.self.now in
    let test = c.loop-number-test.true in
    let ok = s.befores.ok in
    let size = c.requires.chained.size in
    let within = place_within s.is_wide c.args.names.now s.lasts.items s.befores.items c.requires.chained c.args.name c.loop-number.number (c.loop-number.number - 1) c.loop-number.invariant.at (omega (arith, test)) in
    omega (arith, within, ok.0, ok.1, s.befores.small, size)

pub index-number-requires : goal.index-number-requires
index-number-requires c =
    let s = c.args.self.now in
    let test = c.loop-number-test.true in
    let ok = s.befores.ok in
    let size = c.requires.chained.size in
    let within = place_within s.is_wide c.args.names.now s.lasts.items s.befores.items c.requires.chained c.args.name c.loop-number.number (c.loop-number.number - 1) c.loop-number.invariant.at (omega (arith, test)) in
    omega (arith, within, ok.0, size)

pub returns-then-is_same : goal.returns-then-is_same
returns-then-is_same c =
    let s = c.args.self.now in
    let test = c.loop-number-test.true in
    sym (
    place_found s.is_wide c.args.names.now s.lasts.items s.befores.items c.requires.chained c.args.name c.loop-number.number (c.loop-number.number - 1) c.loop-number.invariant.at (omega (arith, test)) c.requires.once _
    (sym c.is_same.ensures ∙ c.if-is_same.true)
    )

pub loop-number-smaller : goal.loop-number-smaller
loop-number-smaller c =
    let s = c.args.self.now in
    let test = c.loop-number-test.true in
    falls s.is_wide c.args.names.now s.lasts.items s.befores.items c.requires.chained c.args.name c.loop-number.number (c.loop-number.number - 1) c.loop-number.invariant.at (omega (arith, test)) c.index-number.result.now c.index-number.ensures

pub loop-number-preserved : goal.loop-number-preserved
loop-number-preserved c =
    let s = c.args.self.now in
    let test = c.loop-number-test.true in
    record {
      at = goes_on s.is_wide c.args.names.now s.lasts.items s.befores.items c.requires.chained c.args.name c.loop-number.number (c.loop-number.number - 1) c.loop-number.invariant.at (omega (arith, test)) _ c.index-number.result.now
          (sym c.is_same.ensures ∙ c.if-is_same.false) c.index-number.ensures;
    }

pub returns : goal.returns
returns c =
    let s = c.args.self.now in
    let test = c.loop-number-test.false in
    sym (none_found s.is_wide c.args.names.now s.lasts.items s.befores.items c.requires.chained c.args.name c.loop-number.number c.loop-number.invariant.at (omega (arith, test)))
