use Rattle.std.proofs.Common.{◌∙◌, sym, subst}
use Rattle.std.specs.Prelude.{Contains}
use Rattle.std.proofs.lemmas.Result.{IfOk-weaker}
use Rattle.rd_graph.specs.Names.{place_of, same_entry}
use Rattle.rd_graph.specs.Internal.Patching.{lists_seen}
use Rattle.rd_graph.specs.Internal.Tables.{at}
use Rattle.rd_graph.proofs.Lists.Listing.{contains_from}
use Rattle.rd_graph.proofs.Patches.Thinned.Trims.{all_short, all_trimmed_same}
use Rattle.rd_graph.proofs.trimming.trimmed.Goals as goal

pub returns : goal.returns
returns c = IfOk-weaker c.trim_all.result _ _ (λ v h. h
    ∙ all_trimmed_same (at c.in_ok-places.places) (place_of same_entry c.args.chain.now) (lists_seen c.args.lists.items)
    (λ l m n k i. c.in_ok-places.ensures l (subst (λ ls. Contains (lists_seen ls) l) (sym c.deref-2.ensures.value) (contains_from _ l m)) n k (contains_from l.1 k i))) c.trim_all.ensures

pub returns-then-are_short : goal.returns-then-are_short
returns-then-are_short c = all_short (place_of same_entry c.args.chain.now) (lists_seen c.args.lists.items)
    (λ l h. c.are_short.ensures c.if-are_short.true l (subst (λ ls. Contains (lists_seen ls) l) (sym c.deref.ensures.value) (contains_from _ l h)))
