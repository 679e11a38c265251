-- The line of a merge whose graph has no node: the made ones, in their order.
use Rattle.std.proofs.Common.{◌≡◌, refl, ap, ◌∙◌, sym, subst, ℕ, ◌+◌, List, [], ◌∷◌, length, Option, Some, arith}
use Rattle.rd_keys.specs.declared.entry.EntryKey.{EntryKey}
use Rattle.rd_graph.specs.Graphs.{Graph, IsInOrder}
use Rattle.rd_graph.specs.Patches.{CanBePatched, IsArranged, found_in}
use Rattle.rd_graph.specs.Runs.{up_from}
use Rattle.rd_graph.specs.Internal.Walks.{counted, RisesWhere}
use Rattle.rd_graph.specs.Internal.Seen.{seen}
use Rattle.rd_graph.specs.declared.graph.Node.{Node}
use Rattle.rd_graph.proofs.LinedUp.Markings.{walk_none}
use Rattle.rd_graph.proofs.LinedUp.WalkedLines.{walked_line}

none_found : (chain : List EntryKey) (n : ℕ) → counted n (found_in chain []) ≡ up_from n (length (found_in chain []))
none_found [] n = refl
none_found (k ∷ ks) n = ap (λ ps. n ∷ ps) (none_found ks (n + 1))

rises_none : (from : ℕ) (ps : List ℕ) → RisesWhere [] from ps
rises_none from [] = tt
rises_none from (p ∷ ps) = ((λ t. cc), rises_none from ps)

made_line : (gone : List ℕ) (chain : List EntryKey) (found : List (Option ℕ)) (g : Graph EntryKey) → CanBePatched gone chain found g → IsInOrder g → length g ≡ 0
    → IsArranged gone chain found g (Some (up_from 0 (length found)))
made_line gone chain found [] can sound e =
    let are : counted 0 found ≡ up_from 0 (length found) = subst (λ (fs : List (Option ℕ)). counted 0 fs ≡ up_from 0 (length fs)) (sym can.found_are) (none_found chain 0) in
    subst (λ (ps : List ℕ). IsArranged gone chain found [] (Some ps)) (walk_none [] (counted 0 found) refl ∙ are)
    (walked_line gone chain found [] can sound [] (counted 0 found) refl (λ p l. absurd (omega (arith, l))) refl (rises_none 0 (counted 0 found)))
made_line gone chain found (x ∷ xs) can sound e = absurd (omega (arith, e))

pub made_line_of : (gone : List ℕ) (chain : List EntryKey) (found : List (Option ℕ)) (g : Graph EntryKey) → CanBePatched gone chain found g → IsInOrder g
    → (ns now : List Node) (line : List ℕ) → seen ns ≡ g → now ≡ ns → length now ≡ 0 → line ≡ up_from 0 (length found) → IsArranged gone chain found g (Some line)
made_line_of gone chain found g can sound [] now line seen_is now_is e is =
    subst (λ (ps : List ℕ). IsArranged gone chain found g (Some ps)) (sym is) (made_line gone chain found g can sound (ap length (sym seen_is)))
made_line_of gone chain found g can sound (n ∷ ns) now line seen_is now_is e is = let l = ap length now_is in absurd (omega (arith, l, e))
