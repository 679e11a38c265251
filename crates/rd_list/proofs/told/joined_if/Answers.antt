use Rattle.std.proofs.Common.{subst, Option}
use Rattle.std.specs.Prelude.{IfSome}
use Rattle.std.proofs.lemmas.Option.{IfSome_then}
use Rattle.rd_list.specs.Chunks.{IsTold}
use Rattle.rd_list.specs.declared.told.ChunkBounds.{ChunkBounds}
use Rattle.rd_list.proofs.Covering.{told_both}
use Rattle.rd_list.proofs.told.joined_if.Goals as goal

pub returns : goal.returns
returns g c = λ xs ys h k.
    let first : IsTold c.in_ok-told.told xs = subst (λ (o : Option ChunkBounds). IfSome o (λ t. IsTold t xs)) c.in_ok-told.was h in
    IfSome_then c.joined.result c.joined.ensures (λ t j. told_both c.in_ok-told.told c.args.chunk.now.told t xs ys first (k c.if-chunk.false) j)
