use Rattle.std.proofs.Common.{◌<◌, sym, subst, take, arith}
use Rattle.rd_c.specs.Asked.{DoneBy, RefusedBy, AreDone}
use Rattle.rd_c.specs.Batched.{Spells}
use Rattle.rd_c.specs.declared.painter.Painter.{Painter}
use Rattle.rd_c.proofs.Turning.{turn_more, first_now}
use Rattle.rd_c.proofs.painter.Painter.edit_all.Goals as goal

pub loop-i-preserved : goal.loop-i-preserved
loop-i-preserved c = record {
  done = turn_more (λ e. DoneBy (Spells c.args.texts.now e)) c.args.edits.now c.loop-i.i _ c.args.self.now c.loop-i.self c.edit_spelled-number.new.self c.loop-i-test.true c.loop-i.invariant.done (c.edit_spelled-number.ensures.done c.if-number-ne0.false);
}

pub returns-then-number-ne0-clause-order : goal.returns-then-number-ne0-clause-order
returns-then-number-ne0-clause-order c =
    let some : 0 < c.edit_spelled-number.result = omega arith in
    subst (λ (z : Painter). AreDone (Spells c.args.texts.now) (take c.loop-i.i c.args.edits.now) c.args.self.now z) (sym (c.edit_spelled-number.ensures.kept some)) c.loop-i.invariant.done

pub returns-then-number-ne0-clause-refused : goal.returns-then-number-ne0-clause-refused
returns-then-number-ne0-clause-refused c some few =
    first_now (λ e p. RefusedBy (Spells c.args.texts.now e) c.edit_spelled-number.result p) c.args.edits.now c.loop-i.i _ c.loop-i.self c.edit_spelled-number.new.self c.loop-i-test.true
    (c.edit_spelled-number.ensures.kept some) (c.edit_spelled-number.ensures.refused some few)
