use Rattle.std.proofs.Common.{rules, [], ◌∷◌, inl, inr}
use Rattle.rd_graph.specs.Orders.{Before, Once}
use Rattle.rd_graph.proofs.Lists.Listing.{has_from, contains_from}
use Rattle.rd_keys.specs.Keys.{BoxKey}
use Rattle.rd_keys.specs.declared.entry.EntryKey.{EntryKey}
use Rattle.rd_keys.specs.declared.entry.EntryKey.TheVariants as key
use Rattle.rd_keys.specs.declared.entry.Part.TheVariants.{Back, Border, Content, Outline}
use Rattle.rd_low_tests.proofs.graph.joined.Goals as goal

two_of_four : {E : Type 0} (x y z w a b : E) → Before (x ∷ z ∷ []) a b → Before (x ∷ y ∷ z ∷ w ∷ []) a b
two_of_four x y z w a b (inl (e, c)) = inl (e, contains_from (y ∷ z ∷ w ∷ []) b (elim (has_from (z ∷ []) b c) [ inl f ↦ inr (inl f) | inr f ↦ absurd f ]))
two_of_four x y z w a b (inr (inl (e, c))) = absurd (has_from [] b c)
two_of_four x y z w a b (inr (inr n)) = absurd n

once_all : (k : BoxKey) → Once (key.Leaf k Back ∷ key.Leaf k Border ∷ key.Leaf k Content ∷ key.Leaf k Outline ∷ [])
once_all k = search rules

pub add_chain-requires-clause-forward : goal.add_chain-requires-clause-forward
add_chain-requires-clause-forward c =
    let k : BoxKey = c.args.owner in
    let back : EntryKey = key.Leaf k Back in
    let border : EntryKey = key.Leaf k Border in
    let content : EntryKey = key.Leaf k Content in
    let outline : EntryKey = key.Leaf k Outline in
    record {
      line = back ∷ border ∷ content ∷ outline ∷ [];
      once = once_all k;
      old = λ a b h. two_of_four back border content outline a b ((c.in_ok-line.ensures.linear.reach a b).0 h);
      added = λ a b h. inr h;
    }
