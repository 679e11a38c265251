use Rattle.std.proofs.Common.{◌∙◌, sym, refl, inl}
use Rattle.rd_graph.specs.Names.{same_entry}
use Rattle.rd_graph.proofs.Lists.Entries.{in_has, same_entry-sound}
use Rattle.rd_graph.proofs.Lists.Listing.{contains_from}
use Rattle.rd_graph.proofs.thinning.leave_one.Goals as goal

pub returns-then-is_among : goal.returns-then-is_among
returns-then-is_among c = inl (refl, contains_from c.args.names.now c.args.key (in_has same_entry same_entry-sound c.args.names.now c.args.key (sym c.is_among.ensures ∙ c.if-is_among.true)))
