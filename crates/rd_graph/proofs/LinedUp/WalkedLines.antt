-- The line by one walk along the old places.
use Rattle.std.proofs.Common.{◌≡◌, ap, ◌∙◌, sym, subst, ℕ, ◌<◌, Bool, List, length, Option, Some, arith}
use Rattle.std.specs.Prelude.{◌↔◌, Contains, IsTrue}
use Rattle.rd_keys.specs.declared.entry.EntryKey.{EntryKey}
use Rattle.rd_graph.specs.Graphs.{Graph, IsInOrder}
use Rattle.rd_graph.specs.Patches.{CanBePatched, IsArranged}
use Rattle.rd_graph.specs.Internal.Walks.{stays_at, counted, walk, RisesWhere}
use Rattle.rd_graph.specs.Internal.Seen.{seen}
use Rattle.rd_graph.specs.declared.graph.Node.{Node}
use Rattle.rd_graph.proofs.LinedUp.LineFacts.{seen_length}
use Rattle.rd_graph.proofs.LinedUp.PlacedLines.{placed_line, once_places}
use Rattle.rd_graph.proofs.LinedUp.Walks.{walk_chain, walk_in_chain, walk_to, walk_stays, walk_before, walk_once}

module _ (gone : List ℕ) (chain : List EntryKey) (found : List (Option ℕ)) (g : Graph EntryKey) (can : CanBePatched gone chain found g) (sound : IsInOrder g)
    (stays : List Bool) (places : List ℕ) (size : length stays ≡ length g) (marked : (p : ℕ) → p < length g → IsTrue (stays_at stays p) ↔ (Contains gone p → ⊥))
    (are : places ≡ counted (length g) found) (rises : RisesWhere stays 0 places) where
  pub walked_line : IsArranged gone chain found g (Some (walk stays 0 places))
  walked_line = placed_line gone chain found g can sound stays places size marked are (walk stays 0 places)
      (λ p h. walk_to stays 0 places p h)
      (λ p t. walk_stays stays 0 places p rises t (omega arith))
      (λ p h. walk_chain stays 0 places p h)
      (walk_once stays 0 places rises (once_places gone chain found g can sound stays places size marked are))
      (λ a b p q s l u v e f t w. walk_before stays 0 places p q rises t w (omega arith) l)
      (λ p q h. walk_in_chain stays 0 places p q h)

pub walked_by : (gone : List ℕ) (chain : List EntryKey) (found : List (Option ℕ)) (ns : List Node) (can : CanBePatched gone chain found (seen ns)) (sound : IsInOrder (seen ns)) (stays : List Bool) (places line : List ℕ)
    → length stays ≡ length ns → ((p : ℕ) → p < length ns → IsTrue (stays_at stays p) ↔ (Contains gone p → ⊥)) → places ≡ counted (length ns) found
    → RisesWhere stays 0 places → line ≡ walk stays 0 places → IsArranged gone chain found (seen ns) (Some line)
walked_by gone chain found ns can sound stays places line size marked are rises line_is =
    let e = seen_length ns in
    subst (λ (ls : List ℕ). IsArranged gone chain found (seen ns) (Some ls)) (sym line_is)
    (walked_line gone chain found (seen ns) can sound stays places (omega (arith, e, size)) (λ p l. marked p (omega (arith, e, l))) (are ∙ ap (λ m. counted m found) (sym e)) rises)
