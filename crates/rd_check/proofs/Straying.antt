-- Leaves and the groups round them, one entry after another.
use Rattle.std.proofs.Common.{◌≡◌, ℕ, suc, ◌+◌, ◌<◌, ◌≤◌, Bool, true, false, List, [], ◌∷◌, length, map, take, drop, get_or, Some, refl, sym, ap, subst, ◌∙◌, arith}
use Rattle.std.specs.Prelude.{slice_get}
use Rattle.std.proofs.lemmas.List.{take-map, length-map}
use Rattle.std.proofs.lemmas.Option.{slice_get_read}
use Rattle.rd_list.specs.Wrappers.{Wrapper}
use Rattle.rd_check.specs.declared.around.Around.{Around}
use Rattle.rd_check.specs.declared.naming.Entry as entry
use Rattle.rd_check.specs.declared.naming.Kind as kind
use Rattle.rd_check.specs.declared.naming.Kind.TheVariants as kinds
use Rattle.rd_check.specs.declared.seen.Seen.{Seen}
use Rattle.rd_check.specs.Verdicts.{IsFirst, Never}
use Rattle.rd_check.specs.Internal.Keyed.{shown}
use Rattle.rd_check.specs.Internal.Lines.{Way}
use Rattle.rd_check.specs.Internal.Rounds.{group_of}
use Rattle.rd_check.specs.Internal.Finding.{Sight, row_depth, is_wrapped, after, wrapped_from, IsHit}
use Rattle.rd_check.specs.Internal.Sights.{sight_of, sights_of}
use Rattle.rd_check.proofs.Searching.{NoneBelow, none_more, none_all, first_here, no_hit, hit_within}
use Rattle.rd_check.proofs.Slots.{map_slice, dropped, drop_here}

depth_in : (d : ℕ) (w : kind.Kind) → row_depth (shown (record { depth = d; what = w })) ≡ d
depth_in d (kinds.Leaf l) = refl
depth_in d (kinds.Head g n) = refl

depth_is : (e : entry.Entry) → row_depth (shown e) ≡ e.depth
depth_is e = depth_in e.depth e.what

-- the groups that an entry keeps
pub cut_is : (e : entry.Entry) (round cut lent : List Around) → lent ≡ cut → cut ≡ take e.depth round → map group_of lent ≡ take (row_depth (shown e)) (map group_of round)
cut_is e round cut lent l c =
    ap (map group_of) (l ∙ c) ∙ sym (take-map group_of e.depth round) ∙ ap (λ (n : ℕ). take n (map group_of round)) (sym (depth_is e))

module _ (ways : List Way) (seen : List Seen) where
  abbrev tests : List Bool
  tests = wrapped_from ways [] (sights_of seen)

  -- none so far, and the groups round what comes
  pub record Strays (round : List Around) (i : ℕ) : Type 0 where
    pub none : NoneBelow (IsHit (wrapped_from ways [] (sights_of seen))) i
    pub rest : drop i (wrapped_from ways [] (sights_of seen)) ≡ wrapped_from ways (map group_of round) (drop i (sights_of seen))

  one : (i : ℕ) (x : Seen) → i < length seen → x ≡ get_or seen i x → slice_get (sights_of seen) i ≡ Some (sight_of x)
  one i x h e = map_slice sight_of seen i x (slice_get_read seen (length seen) i x refl h e)

  parts : (round : List Around) (i : ℕ) (x : Seen) → Strays round i → i < length seen → x ≡ get_or seen i x
      → (slice_get tests i ≡ Some (is_wrapped ways (take (row_depth (shown x.entry)) (map group_of round)) (sight_of x)))
      × (drop (suc i) tests ≡ wrapped_from ways (after (take (row_depth (shown x.entry)) (map group_of round)) (shown x.entry)) (drop (suc i) (sights_of seen)))
  parts round i x s h e =
      dropped tests i _ _ (s.rest ∙ ap (wrapped_from ways (map group_of round)) (drop_here (sights_of seen) i (sight_of x) (one i x h e)))

  pub stray_here : (round cut lent : List Around) (i : ℕ) (x : Seen) (b : Bool) → Strays round i → i < length seen → x ≡ get_or seen i x → lent ≡ cut → cut ≡ take x.entry.depth round
      → b ≡ is_wrapped ways (map group_of lent) (sight_of x) → b ≡ true → IsFirst (IsHit (wrapped_from ways [] (sights_of seen))) i
  stray_here round cut lent i x b s h e l c is t =
      first_here (IsHit tests) i s.none
      ((parts round i x s h e).0
      ∙ ap (λ (z : List Wrapper). Some (is_wrapped ways z (sight_of x))) (sym (cut_is x.entry round cut lent l c))
      ∙ ap (λ (z : Bool). Some z) (sym is ∙ t))

  pub stray_on : (round cut lent next : List Around) (i : ℕ) (x : Seen) (b : Bool) → Strays round i → i < length seen → x ≡ get_or seen i x → lent ≡ cut → cut ≡ take x.entry.depth round
      → b ≡ is_wrapped ways (map group_of lent) (sight_of x) → b ≡ false → map group_of next ≡ after (map group_of cut) (shown x.entry) → Strays next (i + 1)
  stray_on round cut lent next i x b s h e l c is t n =
      let p = parts round i x s h e in
      let k : map group_of cut ≡ take (row_depth (shown x.entry)) (map group_of round) = cut_is x.entry round cut cut refl c in
      let r : map group_of next ≡ after (take (row_depth (shown x.entry)) (map group_of round)) (shown x.entry) = n ∙ ap (λ (z : List Wrapper). after z (shown x.entry)) k in
      let step : drop (suc i) tests ≡ wrapped_from ways (map group_of next) (drop (suc i) (sights_of seen)) =
      p.1 ∙ ap (λ (z : List Wrapper). wrapped_from ways z (drop (suc i) (sights_of seen))) (sym r) in
      let at : suc i ≡ i + 1 = omega arith in
      record {
        none = none_more (IsHit tests) i s.none
            (no_hit tests i (is_wrapped ways (take (row_depth (shown x.entry)) (map group_of round)) (sight_of x)) p.0
            (ap (λ (z : List Wrapper). is_wrapped ways z (sight_of x)) (sym (cut_is x.entry round cut lent l c)) ∙ sym is ∙ t));
        rest = subst (λ (n : ℕ). drop n tests ≡ wrapped_from ways (map group_of next) (drop n (sights_of seen))) at step;
      }

  length_tests : (p : List Wrapper) (ss : List Sight) → length (wrapped_from ways p ss) ≡ length ss
  length_tests p [] = refl
  length_tests p (s ∷ ss) = ap suc (length_tests (after (take (row_depth s.0) p) s.0) ss)

  pub stray_none : (round : List Around) (i : ℕ) → Strays round i → length seen ≤ i → Never (IsHit (wrapped_from ways [] (sights_of seen)))
  stray_none round i s past =
      none_all (IsHit tests) i (length seen) s.none past (λ j p.
      let w = hit_within tests j p in
      let a = length_tests [] (sights_of seen) in
      let b = length-map seen sight_of in
      omega (arith, w, a, b))
