use Rattle.rd_c.specs.Asked.{DoneBy}
use Rattle.rd_c.specs.Rendered.{IsPlanting}
use Rattle.rd_c.proofs.Rendering.{refused_at}
use Rattle.rd_c.proofs.Turning.{turn_more}
use Rattle.rd_c.proofs.painter.Painter.plant_all.Goals as goal

pub loop-child-preserved : goal.loop-child-preserved
loop-child-preserved c = record {
  planted = turn_more (λ b. DoneBy (IsPlanting c.args.names.now b)) c.args.boxes.now c.loop-child.child-index _ c.args.self.now c.loop-child.self c.plant-number.new.self c.loop-child-test.true c.loop-child.invariant.planted (c.plant-number.ensures.done c.if-number-ne0.false);
}

pub returns-then-number-ne0-clause-refused : goal.returns-then-number-ne0-clause-refused
returns-then-number-ne0-clause-refused c some few =
    refused_at c.args.names.now c.args.boxes.now c.loop-child.child-index _ c.plant-number.result c.args.self.now c.loop-child.self c.loop-child-test.true c.loop-child.invariant.planted (c.plant-number.ensures.refused some few)
