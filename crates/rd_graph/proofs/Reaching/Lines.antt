-- The graph of a chain, node by node.
use Rattle.std.proofs.Common.{◌≡◌, ◌∙◌, ◌≤◌, zero, suc, arith, refl, ap, sym, subst, List, [], ◌∷◌, ◌++◌, ℕ, ◌<◌, ◌+◌, length, take, get_or}
use Rattle.std.proofs.lemmas.List.{take_more, map-append}
use Rattle.rd_keys.specs.declared.entry.EntryKey.{EntryKey}
use Rattle.rd_graph.specs.Orders as spec
use Rattle.rd_graph.specs.Graphs.{Graph, nodes, linked, chain_graph, IsLinear, IsInOrder, IsOrder, Precedes}
use Rattle.rd_graph.proofs.Reaching.Chains.{chain_next, next_to, forward_all}
use Rattle.rd_graph.specs.Internal.Seen.{seen}
use Rattle.rd_graph.specs.declared.graph.Node.{Node}
use Rattle.rd_graph.proofs.Reaching.Calls.{lining, once_of}

module _ {E : Type 0} where
  -- the last element, alone
  abbrev pub ending : List E → List E
  ending [] = []
  ending (x ∷ []) = x ∷ []
  ending (x ∷ y ∷ ys) = ending (y ∷ ys)

  pub ending-push : (xs : List E) (x : E) → ending (xs ++ x ∷ []) ≡ x ∷ []
  ending-push [] x = refl
  ending-push (y ∷ []) x = refl
  ending-push (y ∷ z ∷ zs) x = ending-push (z ∷ zs) x

  linked-push : (p : E) (xs : List E) (x : E) → linked p (xs ++ x ∷ []) ≡ linked p xs ++ (x, ending (p ∷ xs)) ∷ []
  linked-push p [] x = refl
  linked-push p (y ∷ ys) x = ap (λ zs. (y, p ∷ []) ∷ zs) (linked-push y ys x)

  pub graph-push : (xs : List E) (x : E) → chain_graph (xs ++ x ∷ []) ≡ chain_graph xs ++ (x, ending xs) ∷ []
  graph-push [] x = refl
  graph-push (y ∷ ys) x = ap (λ zs. (y, []) ∷ zs) (linked-push y ys x)

  nodes-linked : (p : E) (xs : List E) → nodes (linked p xs) ≡ xs
  nodes-linked p [] = refl
  nodes-linked p (x ∷ xs) = ap (λ zs. x ∷ zs) (nodes-linked x xs)

  pub nodes-chain : (xs : List E) → nodes (chain_graph xs) ≡ xs
  nodes-chain [] = refl
  nodes-chain (x ∷ xs) = ap (λ zs. x ∷ zs) (nodes-linked x xs)

  pub chain_is_linear : (xs : List E) → spec.Once xs → IsLinear xs (chain_graph xs)
  chain_is_linear xs o = record { nodes_are = nodes-chain xs; reach = lining E xs o }

-- one more node of a chain; d stands for a key past the end
pub line_more : (chain : List EntryKey) (i : ℕ) (d : EntryKey) (before after : List Node) (n : Node) → i < length chain
    → n.key ≡ get_or chain i d → n.before.items ≡ ending (take i chain) → seen before ≡ chain_graph (take i chain) → after ≡ before ++ n ∷ [] → seen after ≡ chain_graph (take (i + 1) chain)
line_more chain i d before after n h k b s a =
    rw (a, map-append {B = EntryKey × List EntryKey} (λ (m : Node). (m.key, m.before.items)) before (n ∷ []), s, k, b, take_more chain i d h, graph-push (take i chain) (get_or chain i d)) refl

pub ending_more : (chain : List EntryKey) (i : ℕ) (d : EntryKey) → i < length chain → ending (take (i + 1) chain) ≡ get_or chain i d ∷ []
ending_more chain i d h = rw (take_more chain i d h) (ending-push (take i chain) (get_or chain i d))

pub chain_in_order : (g : Graph EntryKey) (chain : List EntryKey) → spec.Once chain → g ≡ chain_graph chain → IsInOrder g
chain_in_order g chain once is =
    subst (λ n. IsInOrder n) (sym is) (record {
      once = subst (λ ks. spec.Once ks) (sym (nodes-chain chain)) once;
      forward = λ a b s. subst (λ ks. spec.Before ks a b) (sym (nodes-chain chain)) (next_to chain a b (chain_next chain a b s));
    })

-- ---- the nodes in their order

pub order_more : (ns : List Node) (i : ℕ) (x : Node) (now then : List EntryKey) → i < length ns → x ≡ get_or ns i x → now ≡ nodes (seen (take i ns)) → then ≡ now ++ x.key ∷ [] → then ≡ nodes (seen (take (i + 1) ns))
order_more ns i x now then h is was new =
    new ∙ ap (λ ks. ks ++ x.key ∷ []) was ∙ sym (ap (λ ms. nodes (seen ms)) (take_more ns i x h ∙ ap (λ y. take i ns ++ y ∷ []) (sym is))
    ∙ ap nodes (map-append {B = EntryKey × List EntryKey} (λ (n : Node). (n.key, n.before.items)) (take i ns) (x ∷ []))
    ∙ map-append {B = EntryKey} (λ (p : EntryKey × List EntryKey). p.0) (seen (take i ns)) ((x.key, x.before.items) ∷ []))

take_all : {A : Type 0} (xs : List A) (i : ℕ) → length xs ≤ i → take i xs ≡ xs
take_all [] zero h = refl
take_all [] (suc i) h = refl
take_all (x ∷ xs) zero h = absurd (omega arith)
take_all (x ∷ xs) (suc i) h = ap (λ ys. x ∷ ys) (take_all xs i (omega arith))

pub order_all : (ns now : List Node) (g : Graph EntryKey) (i : ℕ) (keys : List EntryKey) → length now ≤ i → now ≡ ns → seen ns ≡ g → keys ≡ nodes (seen (take i now)) → keys ≡ nodes g
order_all ns now g i keys h same seen_is is = is ∙ ap (λ ms. nodes (seen ms)) (take_all now i h ∙ same) ∙ ap nodes seen_is

pub ordered : (g now : Graph EntryKey) (keys : List EntryKey) → IsInOrder now → now ≡ g → keys ≡ nodes g → IsOrder g keys
ordered g now keys sound same is =
    let good : IsInOrder g = subst (λ n. IsInOrder n) same sound in
    subst (λ ks. IsOrder g ks) (sym is) (record {
      nodes_are = record { moves = []; below = tt; is = refl };
      once = good.once;
      forward = forward_all (Precedes g) (nodes g) (once_of (nodes g) good.once) good.forward;
    })
