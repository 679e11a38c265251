use Rattle.std.proofs.Common.{◌∙◌, ◌++◌, ◌∷◌, [], ap, sym, subst, take, arith}
use Rattle.std.proofs.lemmas.List.{take_more}
use Rattle.rd_list.specs.Internal.Edged.{AreInside}
use Rattle.rd_list.proofs.Edging.{inside_more}
use Rattle.rd_list.proofs.edges.first_leaves.Goals as goal

pub loop-count-preserved : goal.loop-count-preserved
loop-count-preserved g c =
    let es = c.args.entries.now in
    let i = c.loop-count.count in
    let x = c.index-entries-count.result in
    let w = c.loop-count.invariant.within in
    let t = c.loop-count-test.true in
    record {
      within = w;
      inside =
          subst (AreInside c.widened-edges.result) (sym (take_more es i x (omega (arith, w, t)) ∙ ap (λ y. take i es ++ y ∷ []) (sym c.index-entries-count.is)))
          (inside_more c.loop-count.edges c.widened-edges.result (take i es) x c.widened-edges.ensures.before c.loop-count.invariant.inside (c.widened-edges.ensures.leaf x c.in-Leaf.is));
      least = omega (arith, t);
    }
