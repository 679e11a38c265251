use Rattle.std.proofs.Common.{◌<◌, ◌∙◌, sym, subst, take, arith}
use Rattle.rd_c.specs.Held.{IsChanged, IsRefusedBy}
use Rattle.rd_c.specs.Turns.{InTurn}
use Rattle.rd_c.specs.declared.painter.Painter.{Painter}
use Rattle.rd_c.proofs.Turning.{turn_more, first_from}
use Rattle.rd_c.proofs.painter.Painter.change_all.Goals as goal

pub loop-i-preserved : goal.loop-i-preserved
loop-i-preserved c = record {
  done = turn_more IsChanged c.args.edits.now c.loop-i.i c.index-edits-i.result c.args.self.now.engine c.loop-i.self.engine c.change-number.new.self.engine c.loop-i-test.true c.loop-i.invariant.done (subst (λ e. IsChanged e c.loop-i.self.engine c.change-number.new.self.engine) c.index-edits-i.is (c.change-number.ensures.done c.if-number-ne0.false));
  undo = c.change-number.ensures.undo ∙ c.loop-i.invariant.undo;
}

pub returns-then-number-ne0-clause-order : goal.returns-then-number-ne0-clause-order
returns-then-number-ne0-clause-order c =
    let some : 0 < c.change-number.result = omega arith in
    subst (λ (z : Painter). InTurn IsChanged (take c.loop-i.i c.args.edits.now) c.args.self.now.engine z.engine) (sym (c.change-number.ensures.kept some)) c.loop-i.invariant.done

pub returns-then-number-ne0-clause-undo : goal.returns-then-number-ne0-clause-undo
returns-then-number-ne0-clause-undo c = c.change-number.ensures.undo ∙ c.loop-i.invariant.undo

pub returns-then-number-ne0-clause-refused : goal.returns-then-number-ne0-clause-refused
returns-then-number-ne0-clause-refused c some =
    let n = c.change-number.result in let x = c.index-edits-i.result in
    first_from (λ e. IsRefusedBy n e c.change-number.new.self) c.args.edits.now c.loop-i.i x c.loop-i-test.true
    (subst (λ e. IsRefusedBy n e c.change-number.new.self) c.index-edits-i.is (subst (λ (z : Painter). IsRefusedBy n x z) (sym (c.change-number.ensures.kept some)) (c.change-number.ensures.refused some)))
