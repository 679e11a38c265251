-- One level of a merge.
use Rattle.std.proofs.Common.{◌≡◌, subst, Bool, true, false, List, inl, inr, ◌⊎◌}
use Rattle.std.specs.Prelude.{Contains}
use Rattle.rd_list.specs.Entries.{Entries, flat, only}
use Rattle.rd_graph.specs.Orders.{Before, Chain, last, more}
use Rattle.rd_list.specs.Levels.{Names, keys, held, EntriesMeet}
use Rattle.rd_list.specs.Joining.{IsSoundAt, IsJoinedAt, Step}
use Rattle.rd_list.specs.Laws.{IsCovered}
use Rattle.rd_list.proofs.Merges.Named.{AreNames}
use Rattle.rd_graph.proofs.Lists.Listing.{Has, Once, cases, never, has_from, contains_from, has_filter, before_trans, before_either}
use Rattle.rd_list.proofs.Merges.Levelling.{held-only, held_key, held_flat, before_only}

module _ {E G L : Type 0} (n : Names E G L) (names : AreNames n) (leaves_meet : L → L → Bool) (flips : (a b : L) → leaves_meet a b ≡ leaves_meet b a) where
  -- steps that go forward lead forward
  pub chain_forward : (step : E → E → Type 0) (order : List E) → Once order → ((a b : E) → step a b → Before order a b) → (a b : E) → Chain step a b → Before order a b
  chain_forward step order once f a b (last s) = f a b s
  chain_forward step order once f a c (more {b = b} s r) = before_trans order a b c once (f a b s) (chain_forward step order once f b c r)

  module _ (stays in_area : L → Bool) (fresh stay joined : Entries G L) (reach after : E → E → Type 0)
      (once : Once (keys n fresh))
      (covered : IsCovered n leaves_meet stays in_area fresh)
      (sound : IsSoundAt n leaves_meet reach (only stays fresh))
      (j : IsJoinedAt n reach after stay (only in_area fresh) joined) where
    step_forward : (a b : E) → Step n reach (only in_area fresh) a b → Before (keys n fresh) a b
    step_forward a b (inl s) = before_only n stays fresh a b (sound.forward a b s)
    step_forward a b (inr s) = before_only n in_area fresh a b s

    pub forward : (a b : E) → after a b → Before (keys n fresh) a b
    forward a b h = chain_forward (Step n reach (only in_area fresh)) (keys n fresh) once step_forward a b ((j.reach a b).0 h)

    -- an entry that holds a leaf which passes is still there, and holds it
    stays_held : (p : L → Bool) (e : E) (l : L) → Contains (held n e fresh) l → p l ≡ true → Has (held n e (only p fresh)) l
    stays_held p e l c t = rw (held-only n p e fresh) (has_filter p (held n e fresh) l (has_from (held n e fresh) l c) t)

    in_fresh : (e : E) (l : L) → Contains (held n e fresh) l → Contains (flat fresh) l
    in_fresh e l c = contains_from (flat fresh) l (held_flat n e fresh l (has_from (held n e fresh) l c))

    by_reach : (a b : E) → reach a b → after a b
    by_reach a b r = (j.reach a b).1 (last (inl r))

    by_new : (a b : E) → Before (keys n (only in_area fresh)) a b → after a b
    by_new a b h = (j.reach a b).1 (last (inr h))

    -- both leaves stay
    both_stay : (a b : E) → n.same a b ≡ false → (m : EntriesMeet n leaves_meet fresh a b) → stays m.one ≡ true → stays m.other ≡ true → after a b ⊎ after b a
    both_stay a b d m t u =
        let in_a : Has (held n a (only stays fresh)) m.one = stays_held stays a m.one m.in_one t in
        let in_b : Has (held n b (only stays fresh)) m.other = stays_held stays b m.other m.in_other u in
        elim (sound.linked a b d (record {
          one = m.one;
          other = m.other;
          in_one = contains_from (held n a (only stays fresh)) m.one in_a;
          in_other = contains_from (held n b (only stays fresh)) m.other in_b;
          met = m.met;
        })) [
          | inl r ↦ inl (by_reach a b r)
          | inr r ↦ inr (by_reach b a r)
        ]

    -- both leaves are of the new list
    both_new : (a b : E) → n.same a b ≡ false → (m : EntriesMeet n leaves_meet fresh a b) → in_area m.one ≡ true → in_area m.other ≡ true → after a b ⊎ after b a
    both_new a b d m t u =
        let in_a : Has (held n a (only in_area fresh)) m.one = stays_held in_area a m.one m.in_one t in
        let in_b : Has (held n b (only in_area fresh)) m.other = stays_held in_area b m.other m.in_other u in
        let ka : Has (keys n (only in_area fresh)) a = held_key n names.sound a (only in_area fresh) m.one in_a in
        let kb : Has (keys n (only in_area fresh)) b = held_key n names.sound b (only in_area fresh) m.other in_b in
        elim (before_either (keys n (only in_area fresh)) a b ka kb (λ e. never (n.same a b) (subst (λ (x : E). n.same a x ≡ true) e (names.reflexive a)) d)) [
          | inl h ↦ inl (by_new a b h)
          | inr h ↦ inr (by_new b a h)
        ]

    pub linked : (a b : E) → n.same a b ≡ false → EntriesMeet n leaves_meet fresh a b → after a b ⊎ after b a
    linked a b d m =
        let one : Contains (flat fresh) m.one = in_fresh a m.one m.in_one in
        let other : Contains (flat fresh) m.other = in_fresh b m.other m.in_other in
        elim (cases (stays m.one)) [
          | inr f ↦ both_new a b d m (covered.itself m.one one f) (covered.others m.one m.other one other f m.met)
          | inl t ↦ elim (cases (stays m.other)) [
            | inr f ↦ both_new a b d m (covered.others m.other m.one other one f (rw (flips m.other m.one) m.met)) (covered.itself m.other other f)
            | inl u ↦ both_stay a b d m t u
          ]
        ]

    pub sound_after : IsSoundAt n leaves_meet after fresh
    sound_after = record { forward = forward; linked = linked }
