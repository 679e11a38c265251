-- The law of the merge for kept lists, and how a merge is put together level by level.
use Rattle.std.proofs.Common.{◌≡◌, refl, ap, ◌∙◌, sym, subst, Bool, true, List, [], ◌∷◌, inl, inr}
use Rattle.std.specs.Prelude.{Contains}
use Rattle.rd_list.specs.Entries.{Entries, nil, leaf, group, only}
use Rattle.rd_list.specs.Levels.{Names, keys, inside, level_at, StandsFor}
use Rattle.rd_list.specs.Joining.{Among, Step, IsJoinedAt, IsSound, Merges}
use Rattle.rd_list.specs.Laws.{IsCovered}
use Rattle.rd_list.proofs.Merges.Named.{AreNames}
use Rattle.rd_list.specs.Kept.{Ordered, KeptList, bare, bare_new, within, reach_of, KeptReady, IsMerged}
use Rattle.rd_graph.proofs.Lists.Listing.{Has, Once, cases, once_from}
use Rattle.rd_graph.proofs.Reaching.Calls.{once_to}
use Rattle.rd_list.proofs.Merges.Levelling.{join-nil, inside-only}
use Rattle.rd_list.proofs.Merges.Onces.{inside_none}
use Rattle.rd_graph.proofs.Reaching.Chains.{chain_map}
use Rattle.rd_list.proofs.Merges.Whole.{stands, sound}
use Rattle.rd_list.proofs.Merges.Narrowing.{painted}

module _ {E G M L : Type 0} (n : Names E G L) (leaf_of : M → L) (names : AreNames n) where
  -- where names differ, what stands in a group is that one group's list
  pub bare-within : (e : E) (xs : Entries (Ordered E G) M) → Once (keys n (bare n leaf_of xs)) → inside n e (bare n leaf_of xs) ≡ bare n leaf_of ((within n leaf_of e xs).entries)
  bare-within e nil o = refl
  bare-within e (leaf m xs) o = bare-within e xs o.1
  bare-within e (group g inner xs) o = elim (cases (n.same e (n.group g.of))) [
    | inl t ↦
        let none : inside n e (bare n leaf_of xs) ≡ nil = inside_none n names.sound e (bare n leaf_of xs) (λ h. o.0 (subst (λ (x : E). Has (keys n (bare n leaf_of xs)) x) (names.sound e (n.group g.of) t) h)) in
        rw (t, none) (join-nil (bare n leaf_of inner))
    | inr f ↦ rw f (bare-within e xs o.1)
  ]

  -- A merge of two lists: one level at the top, and in each group of it a merge of what stands there.
  module _ (stays : L → Bool) where
    abbrev pub Merged : KeptList E G M → Entries G L → KeptList E G M → Type 0
    Merged kept new joined = Merges n stays (reach_of n leaf_of kept) (reach_of n leaf_of joined) (bare n leaf_of kept.entries) new (bare n leaf_of joined.entries)

    pub by_levels : (kept joined : KeptList E G M) (new : Entries G L)
        → Once (keys n (bare n leaf_of kept.entries)) → Once (keys n (bare n leaf_of joined.entries))
        → IsJoinedAt n (Among n (reach_of n leaf_of kept) (only stays (bare n leaf_of kept.entries)) []) (reach_of n leaf_of joined []) (only stays (bare n leaf_of kept.entries)) new (bare n leaf_of joined.entries)
        → ((e : E) → Merged (within n leaf_of e kept.entries) (inside n e new) (within n leaf_of e joined.entries))
        → Merged kept new joined
    by_levels kept joined new ok oj top inner [] = top
    by_levels kept joined new ok oj top inner (e ∷ path) =
        let k : KeptList E G M = within n leaf_of e kept.entries in
        let j : KeptList E G M = within n leaf_of e joined.entries in
        let here : inside n e (only stays (bare n leaf_of kept.entries)) ≡ only stays (bare n leaf_of k.entries) = inside-only n stays e (bare n leaf_of kept.entries) ∙ ap (only stays) (bare-within e kept.entries ok) in
        let there : inside n e (bare n leaf_of joined.entries) ≡ bare n leaf_of j.entries = bare-within e joined.entries oj in
        let low : E → E → Type 0 = Among n (reach_of n leaf_of k) (only stays (bare n leaf_of k.entries)) path in
        let high : E → E → Type 0 = Among n (reach_of n leaf_of kept) (only stays (bare n leaf_of kept.entries)) (e ∷ path) in
        let up : (a b : E) → low a b → high a b = λ a b r. record {
          reaches = r.reaches;
          first = subst (λ (x : Entries G L). Contains (keys n (level_at n path x)) a) (sym here) r.first;
          second = subst (λ (x : Entries G L). Contains (keys n (level_at n path x)) b) (sym here) r.second;
        } in
        let down : (a b : E) → high a b → low a b = λ a b r. record {
          reaches = r.reaches;
          first = subst (λ (x : Entries G L). Contains (keys n (level_at n path x)) a) here r.first;
          second = subst (λ (x : Entries G L). Contains (keys n (level_at n path x)) b) here r.second;
        } in
        let m : IsJoinedAt n low (reach_of n leaf_of j path) (level_at n path (inside n e (only stays (bare n leaf_of kept.entries)))) (level_at n path (inside n e new)) (level_at n path (inside n e (bare n leaf_of joined.entries))) =
        subst (λ (x : Entries G L). IsJoinedAt n low (reach_of n leaf_of j path) (level_at n path (inside n e (only stays (bare n leaf_of kept.entries)))) (level_at n path (inside n e new)) (level_at n path x)) (sym there)
        (subst (λ (x : Entries G L). IsJoinedAt n low (reach_of n leaf_of j path) (level_at n path x) (level_at n path (inside n e new)) (level_at n path (bare n leaf_of j.entries))) (sym here) (inner e path)) in
        let new_at : Entries G L = level_at n path (inside n e new) in
        record {
          entries = m.entries;
          once = m.once;
          reach = λ a b. (
            (λ r. chain_map (Step n low new_at) (Step n high new_at) (λ x y s. elim s [ inl p ↦ inl (up x y p) | inr p ↦ inr p ]) a b ((m.reach a b).0 r)),
            (λ r. (m.reach a b).1 (chain_map (Step n high new_at) (Step n low new_at) (λ x y s. elim s [ inl p ↦ inl (down x y p) | inr p ↦ inr p ]) a b r)),
          );
          order = m.order;
        }

  module _ (leaves_meet : L → L → Bool) where
    pub kept_merging : ((a b : L) → leaves_meet a b ≡ leaves_meet b a) → (fresh : Entries G L) (kept joined : KeptList E G M) (new : Entries G M) (stays in_area : L → Bool)
        → StandsFor n leaves_meet fresh fresh → IsCovered n leaves_meet stays in_area fresh → KeptReady n leaf_of leaves_meet stays kept fresh → bare_new n leaf_of new ≡ only in_area fresh → IsMerged n leaf_of stays kept new joined
        → StandsFor n leaves_meet (bare n leaf_of joined.entries) fresh × IsSound n leaves_meet (reach_of n leaf_of joined) fresh × KeptReady n leaf_of leaves_meet (λ l. true) joined fresh
    kept_merging flips fresh kept joined new stays in_area once covered ready same merged =
        let k : Entries G L = only stays (bare n leaf_of kept.entries) in
        let before : List E → E → E → Type 0 = reach_of n leaf_of kept in
        let after : List E → E → E → Type 0 = reach_of n leaf_of joined in
        let j : Merges n stays before after (bare n leaf_of kept.entries) (only in_area fresh) (bare n leaf_of joined.entries) =
        subst (λ (x : Entries G L). Merges n stays before after (bare n leaf_of kept.entries) x (bare n leaf_of joined.entries)) same merged.merges in
        let s : StandsFor n leaves_meet (bare n leaf_of joined.entries) fresh = stands n names leaves_meet flips stays in_area before after fresh k (bare n leaf_of joined.entries) once covered ready.ready.stands ready.ready.sound j in
        let t : IsSound n leaves_meet after fresh = sound n names leaves_meet flips stays in_area before after fresh k (bare n leaf_of joined.entries) once covered ready.ready.stands ready.ready.sound j in
        (s, t, record { nodes_are = merged.nodes_are; names_once = λ path. once_to (keys n (level_at n path (bare n leaf_of joined.entries))) (once_from n.same names.sound names.reflexive (keys n (level_at n path (bare n leaf_of joined.entries))) (merged.merges path).once); in_order = λ path. (merged.merges path).order; ready = painted n names leaves_meet after fresh (bare n leaf_of joined.entries) once s t })
