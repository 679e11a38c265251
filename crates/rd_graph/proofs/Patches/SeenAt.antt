-- Nodes by their places, as a graph.
use Rattle.std.proofs.Common.{◌≡◌, refl, ap, sym, subst, ℕ, zero, suc, ◌<◌, ◌≤◌, List, [], ◌∷◌, length, get_or, arith}
use Rattle.rd_graph.specs.Internal.Relisting.{IsAt}
use Rattle.rd_graph.specs.Internal.Seen.{seen}
use Rattle.rd_graph.specs.declared.graph.Node.{Node}

pub seen_length : (ns : List Node) → length (seen ns) ≡ length ns
seen_length [] = refl
seen_length (n ∷ ns) = ap suc (seen_length ns)

seen_get : (ns : List Node) (k : ℕ) (n : Node) → k < length ns → n ≡ get_or ns k n → get_or (seen ns) k (n.key, n.before.items) ≡ (n.key, n.before.items)
seen_get [] k n l e = refl
seen_get (m ∷ ns) zero n l e = ap (λ (x : Node). (x.key, x.before.items)) (sym e)
seen_get (m ∷ ns) (suc k) n l e = seen_get ns k n (omega arith) e

pub seen_at : (ns : List Node) (k : ℕ) (n : Node) → k < length ns → n ≡ get_or ns k n → IsAt (seen ns) k (n.key, n.before.items)
seen_at ns k n l e = (subst (λ m. k < m) (sym (seen_length ns)) l, seen_get ns k n l e)

pub seen_whole : (ns : List Node) (k : ℕ) → length ns ≤ k → length (seen ns) ≤ k
seen_whole ns k l = subst (λ m. m ≤ k) (sym (seen_length ns)) l
