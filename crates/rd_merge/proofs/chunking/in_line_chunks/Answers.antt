use Rattle.std.proofs.Common.{ap, sym, subst, List, ℕ, Option, ◌++◌}
use Rattle.std.specs.Prelude.{option_map}
use Rattle.rd_graph.specs.Gathered.{arranged}
use Rattle.rd_graph.specs.Runs.{places_of}
use Rattle.rd_list.specs.Chunks.{AreCovered}
use Rattle.rd_list.proofs.Covering.{covers_more}
use Rattle.rd_merge.proofs.chunking.in_line_chunks.Goals as goal

pub returns-in-None : goal.returns-in-None
returns-in-None g c =
    subst (λ (line : Option (List ℕ)). AreCovered c.args.had (arranged line (c.args.entries.now ++ c.args.made.now))) (sym (ap (option_map (λ l. places_of l.now)) c.in-None.is))
    (record { chunks = covers_more c.args.had.chunks.items c.args.entries.now c.args.made.now c.requires.had.chunks; blocks = covers_more c.args.had.blocks.items c.args.entries.now c.args.made.now c.requires.had.blocks; eights = c.requires.had.eights })
