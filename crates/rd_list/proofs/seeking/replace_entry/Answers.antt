use Rattle.std.proofs.Common.{subst, sym, inl, inr, ℕ, List, Option}
use Rattle.rd_list.specs.Chunks.{AreEights, ChangesTo, counts}
use Rattle.rd_list.specs.declared.told.ChunkBounds.{ChunkBounds}
use Rattle.rd_list.proofs.Blocking.{changes_any}
use Rattle.rd_list.proofs.seeking.replace_entry.Goals as goal

pub returns : goal.returns
returns g c =
    let chunk = c.replace_in-chunk.ensures in
    let block = c.replace_in-block.ensures in
    let old = c.args.chunks.now in
    let eights : AreEights (counts c.replace_in-block.new.chunks.items) (counts c.replace_in-chunk.new.chunks.items) =
    subst (λ (ms : List ℕ). AreEights ms (counts c.replace_in-chunk.new.chunks.items)) (sym block.counts) (subst (λ (ns : List ℕ). AreEights (counts old.blocks.items) ns) (sym chunk.counts) c.requires.eights) in
    record {
      eights = eights;
      at = record { block = block.at; chunk = chunk.at };
      covers = λ xs ys h k. record {
        chunks = chunk.covers xs ys h.chunks k;
        blocks = block.covers xs ys h.blocks (elim c.told_unless-of_block.ensures [
          | inl e ↦ subst (λ (o : Option ChunkBounds). ChangesTo c.args.place o xs ys) (sym e) k
          | inr e ↦ subst (λ (o : Option ChunkBounds). ChangesTo c.args.place o xs ys) (sym e) (changes_any c.args.place c.args.told xs ys k)
        ]);
        eights = eights;
      };
    }
