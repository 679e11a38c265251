-- The names of nodes by their places.
use Rattle.std.proofs.Common.{◌≡◌, refl, ℕ, zero, suc, List, [], ◌∷◌, length, get_or, arith}
use Rattle.rd_graph.specs.Graphs.{nodes}
use Rattle.rd_graph.specs.Internal.Seen.{seen}
use Rattle.rd_graph.specs.declared.graph.Node.{Node}

pub node_name : (ns : List Node) (p : ℕ) (x : Node) → get_or (nodes (seen ns)) p x.key ≡ (get_or ns p x).key
node_name [] p x = refl
node_name (n ∷ ns) zero x = refl
node_name (n ∷ ns) (suc p) x = node_name ns p x

pub node_count : (ns : List Node) → length (nodes (seen ns)) ≡ length ns
node_count [] = refl
node_count (n ∷ ns) = let e = node_count ns in omega (arith, e)
