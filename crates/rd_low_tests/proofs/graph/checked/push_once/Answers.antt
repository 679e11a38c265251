use Rattle.std.proofs.Common.{◌∙◌, ap, sym, List}
use Rattle.rd_keys.specs.declared.entry.EntryKey.{EntryKey}
use Rattle.rd_graph.specs.Names.{is_in, same_entry}
use Rattle.rd_low_tests.proofs.Graphs.{once_pushed}
use Rattle.rd_low_tests.proofs.graph.checked.push_once.Goals as goal

pub returns-in_ok-push : goal.returns-in_ok-push
returns-in_ok-push c = once_pushed c.args.names.now.items c.push.new.self.items c.args.name c.requires
    (ap (λ (zs : List EntryKey). is_in same_entry zs c.args.name) (sym c.deref.ensures.value) ∙ sym c.is_among.ensures ∙ c.if-not-is_among.true) c.in_ok-push.ensures.items
