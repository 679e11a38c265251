use Rattle.std.proofs.Common.{◌≡◌}
use Rattle.rd_run.specs.Endings.{stream, counter}
use Rattle.rd_cli.proofs.Weaker.{weaker, from_zero}
use Rattle.rd_cli.proofs.run_counted.Goals as goal

pub returns : goal.returns
returns g c =
    let e = c.run.ensures.runs in
    let source = stream (g.S.Source.left c.args.source.now) (g.S.Source.left c.run.new.source) (g.S.Source.faults c.args.source.now) (g.S.Source.faults c.run.new.source) in
    let out = stream (g.O.Sink.written c.args.out.now) (g.O.Sink.written c.run.new.out) (g.O.Sink.faults c.args.out.now) (g.O.Sink.faults c.run.new.out) in (
      c.run.new.made,
      c.run.new.looks,
      record {
        status = e.status;
        numbered = e.numbered;
        ends = from_zero (c.run.new.source ≡ c.args.source.now) (c.run.new.out ≡ c.args.out.now) source out c.new-made.result c.run.new.made c.new-looks.result c.run.new.looks
            _ e.status c.new-made.ensures c.new-looks.ensures
            (weaker (c.run.new.source ≡ c.args.source.now) (c.run.new.out ≡ c.args.out.now × c.run.new.made ≡ c.new-made.result × c.run.new.looks ≡ c.new-looks.result) (c.run.new.out ≡ c.args.out.now) source out
            (counter c.new-made.result c.run.new.made) (counter c.new-looks.result c.run.new.looks) (λ u. u.0) _ e.status e.ends);
        complete = e.complete;
        line = e.line;
      },
    )
