use Rattle.std.proofs.Common.{◌≡◌, ◌-◌, ◌<◌, true, false, refl, sym, subst, ◌∙◌, inl, inr, length, arith}
use Rattle.std.proofs.lemmas.Bool.{cases_lt}
use Rattle.rd_list.specs.Displayed.{shown}
use Rattle.rd_tiles.specs.Covering.{HasLid}
use Rattle.rd_tiles.proofs.Lids.{at_lid, lid_at, no_lid_past}
use Rattle.rd_tiles.proofs.covering.topmost.Goals as goal

pub loop-i-init : goal.loop-i-init
loop-i-init g c = record { within = omega arith; none = λ k h. no_lid_past c.args.tile c.args.entries.now k h }

pub returns-then-is_entry_lid-clause-at : goal.returns-then-is_entry_lid-clause-at
returns-then-is_entry_lid-clause-at g c =
    let l : c.loop-i.i - 1 < length c.args.entries.now = let w = c.loop-i.invariant.within in omega (arith, w) in
    inl (lid_at c.args.tile c.args.entries.now (c.loop-i.i - 1) c.index-entries-i.result l c.index-entries-i.is (c.is_entry_lid.ensures.0 c.if-is_entry_lid.true))

pub returns-then-is_entry_lid-clause-greatest : goal.returns-then-is_entry_lid-clause-greatest
returns-then-is_entry_lid-clause-greatest g c = λ k b h p. c.loop-i.invariant.none k (omega arith) p

pub loop-i-preserved : goal.loop-i-preserved
loop-i-preserved g c =
    let l : c.loop-i.i - 1 < length c.args.entries.now = let w = c.loop-i.invariant.within in omega (arith, w) in
    record {
      within = omega arith;
      none = λ k h p. elim (cases_lt k c.loop-i.i) [
        | inl j ↦
            let e : k ≡ c.loop-i.i - 1 = omega arith in
            let q : HasLid c.args.tile (shown c.args.entries.now) (c.loop-i.i - 1) = subst (HasLid c.args.tile (shown c.args.entries.now)) e p in
            let t : c.is_entry_lid.result ≡ true = c.is_entry_lid.ensures.1 (at_lid c.args.tile c.args.entries.now (c.loop-i.i - 1) c.index-entries-i.result l c.index-entries-i.is q) in
            let no : true ≡ false = sym t ∙ c.if-is_entry_lid.false in cc
        | inr j ↦ c.loop-i.invariant.none k j p
      ];
    }

pub returns-clause-greatest : goal.returns-clause-greatest
returns-clause-greatest g c = λ k b h p. c.loop-i.invariant.none k (omega (arith, b, c.loop-i-test.false)) p

pub returns-clause-at : goal.returns-clause-at
returns-clause-at g c = inr refl
