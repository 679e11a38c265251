-- A new list with the chains of its levels is the merge of nothing with it.
use Rattle.std.proofs.Common.{◌≡◌, refl, ap, ◌∙◌, sym, subst, Bool, cond, List, [], ◌∷◌, inl, inr}
use Rattle.std.specs.Prelude.{Contains, ◌↔◌}
use Rattle.rd_graph.specs.Orders.{Before, last}
use Rattle.rd_graph.specs.Graphs.{Graph, nodes, Reaches, chain_graph}
use Rattle.rd_graph.proofs.Lists.Listing.{Has, Once, cases, has_from, pairs_from}
use Rattle.rd_graph.proofs.Reaching.Chains.{chain_reach, forward_all}
use Rattle.rd_graph.proofs.Reaching.Lines.{nodes-chain}
use Rattle.rd_list.specs.Entries.{Entries, nil, leaf, group, flat, heads}
use Rattle.rd_list.specs.Levels.{Names, keys, inside, level_at}
use Rattle.rd_list.specs.Joining.{Among, Step, IsJoinedAt}
use Rattle.rd_list.proofs.Merges.Named.{AreNames}
use Rattle.rd_list.specs.Kept.{KeptList, bare, bare_new, within, kept_at, reach_of, HasNodes, IsMerged}
use Rattle.rd_list.specs.Linear.{linear, lined}
use Rattle.rd_list.proofs.Merges.Levelling.{join-nil}
use Rattle.rd_list.proofs.Merges.Onces.{names_in, inside_none, once_keys, once_inside, once_level}

module _ {E G M L : Type 0} (n : Names E G L) (leaf_of : M → L) (names : AreNames n) where
  abbrev new_within : E → Entries G M → Entries G M
  new_within e nil = nil
  new_within e (leaf m rest) = new_within e rest
  new_within e (group g inner rest) = cond (n.same e (n.group g)) inner (new_within e rest)

  abbrev new_at : List E → Entries G M → Entries G M
  new_at [] xs = xs
  new_at (e ∷ path) xs = new_at path (new_within e xs)

  bare-linear : (xs : Entries G M) → bare n leaf_of (linear n leaf_of xs) ≡ bare_new n leaf_of xs
  bare-linear nil = refl
  bare-linear (leaf m xs) = ap (leaf (leaf_of m)) (bare-linear xs)
  bare-linear (group g inner xs) = rw (bare-linear inner, bare-linear xs) refl

  flat-linear : (xs : Entries G M) → flat (linear n leaf_of xs) ≡ flat xs
  flat-linear nil = refl
  flat-linear (leaf m xs) = ap (λ zs. m ∷ zs) (flat-linear xs)
  flat-linear (group g inner xs) = rw (flat-linear inner, flat-linear xs) refl

  within-linear : (e : E) (xs : Entries G M) → within n leaf_of e (linear n leaf_of xs) ≡ lined n leaf_of (new_within e xs)
  within-linear e nil = refl
  within-linear e (leaf m xs) = within-linear e xs
  within-linear e (group g inner xs) = elim (cases (n.same e (n.group g))) [ inl t ↦ rw t refl | inr f ↦ rw f (within-linear e xs) ]

  at-linear : (path : List E) (xs : Entries G M) → kept_at n leaf_of path (lined n leaf_of xs) ≡ lined n leaf_of (new_at path xs)
  at-linear [] xs = refl
  at-linear (e ∷ path) xs = ap (kept_at n leaf_of path) (within-linear e xs) ∙ at-linear path (new_within e xs)

  bare-new_within : (e : E) (xs : Entries G M) → Once (keys n (bare_new n leaf_of xs)) → inside n e (bare_new n leaf_of xs) ≡ bare_new n leaf_of (new_within e xs)
  bare-new_within e nil o = refl
  bare-new_within e (leaf m xs) o = bare-new_within e xs o.1
  bare-new_within e (group g inner xs) o = elim (cases (n.same e (n.group g))) [
    | inl t ↦
        let none : inside n e (bare_new n leaf_of xs) ≡ nil = inside_none n names.sound e (bare_new n leaf_of xs) (λ h. o.0 (subst (λ (x : E). Has (keys n (bare_new n leaf_of xs)) x) (names.sound e (n.group g) t) h)) in
        rw (t, none) (join-nil (bare_new n leaf_of inner))
    | inr f ↦ rw f (bare-new_within e xs o.1)
  ]

  bare-new_at : (path : List E) (xs : Entries G M) → Once (names_in n (bare_new n leaf_of xs)) → bare_new n leaf_of (new_at path xs) ≡ level_at n path (bare_new n leaf_of xs)
  bare-new_at [] xs o = refl
  bare-new_at (e ∷ path) xs o =
      let w : inside n e (bare_new n leaf_of xs) ≡ bare_new n leaf_of (new_within e xs) = bare-new_within e xs (once_keys n (bare_new n leaf_of xs) o) in
      bare-new_at path (new_within e xs) (subst (λ (x : Entries G L). Once (names_in n x)) w (once_inside n e (bare_new n leaf_of xs) o)) ∙ ap (level_at n path) (sym w)

  level-nil : (path : List E) → level_at {G = G} {L = L} n path nil ≡ nil
  level-nil [] = refl
  level-nil (e ∷ path) = level-nil path

  none_at : (path : List E) (a : E) → Contains (keys n (level_at {G = G} {L = L} n path nil)) a → ⊥
  none_at path a c = subst (λ (x : Entries G L). Has (keys n x) a) (level-nil path) (has_from (keys n (level_at {G = G} {L = L} n path nil)) a c)

  module _ (stays : L → Bool) (new : Entries G M) (once : Once (names_in n (bare_new n leaf_of new))) where
    here : (path : List E) → bare_new n leaf_of (new_at path new) ≡ level_at n path (bare_new n leaf_of new)
    here path = bare-new_at path new once

    graph_here : (path : List E) → (kept_at n leaf_of path (lined n leaf_of new)).graph ≡ chain_graph (keys n (level_at n path (bare_new n leaf_of new)))
    graph_here path = ap (λ (k : KeptList E G M). k.graph) (at-linear path new) ∙ ap (λ (x : Entries G L). chain_graph (keys n x)) (here path)

    level_once : (path : List E) → Once (keys n (level_at n path (bare_new n leaf_of new)))
    level_once path = once_keys n (level_at n path (bare_new n leaf_of new)) (once_level n path (bare_new n leaf_of new) once)

    nodes_here : HasNodes n leaf_of (lined n leaf_of new)
    nodes_here = λ path.
        let k : KeptList E G M = kept_at n leaf_of path (lined n leaf_of new) in
        let b : bare n leaf_of k.entries ≡ level_at n path (bare_new n leaf_of new) = ap (λ (q : KeptList E G M). bare n leaf_of q.entries) (at-linear path new) ∙ bare-linear (new_at path new) ∙ here path in
        ap nodes (graph_here path) ∙ nodes-chain (keys n (level_at n path (bare_new n leaf_of new))) ∙ ap (keys n) (sym b)

    reach_here : (path : List E) (a b : E) → reach_of n leaf_of (lined n leaf_of new) path a b ↔ Before (keys n (level_at n path (bare_new n leaf_of new))) a b
    reach_here path a b = subst (λ (g : Graph E). Reaches g a b ↔ Before (keys n (level_at n path (bare_new n leaf_of new))) a b) (sym (graph_here path))
        (chain_reach (keys n (level_at n path (bare_new n leaf_of new))) (level_once path) a b)

    joined_here : (path : List E) → IsJoinedAt n (Among n (reach_of n leaf_of (record { graph = []; entries = nil })) nil path) (reach_of n leaf_of (lined n leaf_of new) path)
        (level_at n path nil) (level_at n path (bare_new n leaf_of new)) (level_at n path (bare_new n leaf_of new))
    joined_here path =
        let x : Entries G L = level_at n path (bare_new n leaf_of new) in
        let low : E → E → Type 0 = Among n (reach_of n leaf_of (record { graph = []; entries = nil })) nil path in
        let step : (a b : E) → Step n low x a b → Before (keys n x) a b = λ a b s. elim s [ inl r ↦ absurd (none_at path a r.first) | inr h ↦ h ] in
        record {
          entries = λ h. ((λ c. inr c), (λ c. elim c [ inl d ↦ absurd (subst (λ (y : Entries G L). Has (heads y) h) (level-nil path) (has_from (heads (level_at n path nil)) h d)) | inr d ↦ d ]));
          once = pairs_from n.same names.sound names.reflexive (keys n x) (level_once path);
          reach = λ a b. (
            (λ r. last (inr ((reach_here path a b).0 r))),
            (λ c. (reach_here path a b).1 (forward_all (Step n low x) (keys n x) (level_once path) step a b c)),
          );
          order = λ a b r. (reach_here path a b).0 r;
        }

    pub linear_merged : IsMerged n leaf_of stays (record { graph = []; entries = nil }) new (lined n leaf_of new)
    linear_merged = record {
      nodes_are = nodes_here;
      merges = λ path. subst (λ (x : Entries G L). IsJoinedAt n (Among n (reach_of n leaf_of (record { graph = []; entries = nil })) nil path) (reach_of n leaf_of (lined n leaf_of new) path) (level_at n path nil) (level_at n path (bare_new n leaf_of new)) (level_at n path x)) (sym (bare-linear new)) (joined_here path);
      items = λ i. (
        (λ c. inl (subst (λ (xs : List M). Contains xs i) (flat-linear new) c)),
        (λ c. elim c [ inl d ↦ subst (λ (xs : List M). Contains xs i) (sym (flat-linear new)) d | inr d ↦ absurd (has_from [] i d.0) ]),
      );
    }
