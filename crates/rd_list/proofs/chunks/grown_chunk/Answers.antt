use Rattle.std.proofs.Common.{◌∙◌, ◌++◌, ◌∷◌, [], ap, sym, subst, take, arith}
use Rattle.std.proofs.lemmas.List.{take_more}
use Rattle.rd_list.specs.Chunks.{IsTold}
use Rattle.rd_list.proofs.chunks.grown_chunk.Goals as goal

pub loop-count-preserved : goal.loop-count-preserved
loop-count-preserved g c =
    let es = c.args.entries.now in
    let i = c.loop-count.count in
    let x = c.index-entries-count.result in
    record {
      within = omega (arith, c.if-count-entries.true);
      told = subst (IsTold c.in-Some.more) (sym (take_more es i x c.if-count-entries.true ∙ ap (λ y. take i es ++ y ∷ []) (sym c.index-entries-count.is))) (c.in-Some.ensures (take i es) c.loop-count.invariant.told);
    }
