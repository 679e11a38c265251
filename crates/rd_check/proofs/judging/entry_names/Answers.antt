use Rattle.std.proofs.Common.{sym, ◌∙◌}
use Rattle.rd_check.specs.Internal.Keyed.{shown}
use Rattle.rd_check.specs.Internal.Lines.{row_name}
use Rattle.rd_check.proofs.Searching.{made_more, made_all, map_map}
use Rattle.rd_check.proofs.judging.entry_names.Goals as goal

pub loop-entry-preserved : goal.loop-entry-preserved
loop-entry-preserved c =
    made_more (λ e. row_name (shown e)) c.args.entries.now c.loop-entry.entry-index c.entry-item.result c.loop-entry.names.items c.push.new.self.items c.name_of.result
    c.loop-entry-test.true c.entry-item.is c.loop-entry.invariant c.in_ok-push.ensures.items c.name_of.ensures

pub returns : goal.returns
returns c =
    made_all (λ e. row_name (shown e)) c.args.entries.now c.loop-entry.entry-index c.loop-entry.names.items c.loop-entry.invariant c.loop-entry-test.false
    ∙ sym (map_map row_name shown c.args.entries.now)
