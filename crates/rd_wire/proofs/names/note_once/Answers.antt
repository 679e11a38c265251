use Rattle.rd_wire.proofs.Naming.{noted_once, noted_twice}
use Rattle.rd_wire.proofs.names.note_once.Goals as goal

pub returns-clause-once : goal.returns-clause-once
returns-clause-once c = λ t once. noted_once c.args.name c.args.seen.now.keys c.note.new.seen.keys c.in_ok-fresh.fresh c.in_ok-fresh.ensures.fresh c.in_ok-fresh.ensures.noted t once

pub returns-clause-twice : goal.returns-clause-twice
returns-clause-twice c = λ f once. noted_twice c.args.name c.args.seen.now.keys c.note.new.seen.keys c.in_ok-fresh.fresh c.in_ok-fresh.ensures.fresh f once
