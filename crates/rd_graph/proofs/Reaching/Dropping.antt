-- Nodes are dropped from a graph.
use Rattle.std.proofs.Common.{◌≡◌, refl, ap, ◌∙◌, sym, subst, Bool, true, false, not, List, [], ◌∷◌, ◌++◌, inl, inr, append_assoc}
use Rattle.std.specs.Prelude.{filter, ◌↔◌}
use Rattle.std.proofs.lemmas.List.{map-append}
use Rattle.rd_keys.specs.declared.entry.EntryKey.{EntryKey}
use Rattle.rd_graph.specs.Orders as order
use Rattle.rd_graph.specs.Orders.{Before}
use Rattle.rd_graph.specs.Graphs.{Graph, nodes, Precedes, Stitch, Drops, IsInOrder}
use Rattle.rd_graph.specs.Internal.Passes.{IsSorted, distinct, stitch_pass}
use Rattle.rd_graph.specs.Names.{is_in}
use Rattle.rd_graph.specs.Names.{same_entry}
use Rattle.rd_graph.proofs.Lists.Entries.{same_entry-sound, same_entry-refl}
use Rattle.rd_graph.proofs.Lists.Listing.{Has, Once, cases, has_from, contains_from, has_left, has_right, has_either, before_join, before_from, before_to, has_filter, filter_has, once_apart, once_right}
use Rattle.rd_graph.proofs.Reaching.Calls.{once_of, once_to, stitching}
use Rattle.rd_graph.proofs.Reaching.Chains.{stitched, forward_all}
use Rattle.rd_graph.proofs.Reaching.OnePass.{passing}
use Rattle.rd_graph.proofs.Reaching.Sorting.{before_filter}

module _ {E : Type 0} (same : E → E → Bool) (gone : E → Bool) where
  pub nodes_append : (us vs : Graph E) → nodes (us ++ vs) ≡ nodes us ++ nodes vs
  nodes_append us vs = map-append {B = E} (λ (x : E × List E). x.0) us vs

  pub sorted_from : (g us xs : Graph E) (before : List E) → Once (nodes g) → ((a b : E) → Precedes g a b → Before (nodes g) a b) → g ≡ us ++ xs → ((a : E) → Has (nodes us) a ↔ Has before a) → IsSorted same gone before xs
  sorted_from g us [] before once forward is done = tt
  sorted_from g us (x ∷ xs) before once forward is done =
      let names : nodes g ≡ nodes us ++ x.0 ∷ nodes xs = ap nodes is ∙ nodes_append us (x ∷ xs) in
      let apart : Once (nodes us ++ x.0 ∷ nodes xs) = subst Once names once in (
        (λ c. once_apart (nodes us) (x.0 ∷ nodes xs) apart x.0 ((done x.0).1 (has_from before x.0 c)) (inl refl)),
        (λ p c.
            let step : Precedes g p x.0 = (x.1, contains_from g (x.0, x.1) (subst (λ (ys : Graph E). Has ys (x.0, x.1)) (sym is) (has_right us (x ∷ xs) (x.0, x.1) (inl refl))), c) in
            let there : Before (nodes us ++ x.0 ∷ nodes xs) p x.0 = subst (λ (ns : List E). Before ns p x.0) names (forward p x.0 step) in
            contains_from before p ((done p).0 (elim (before_join (nodes us) (x.0 ∷ nodes xs) p x.0 there) [
              | inl h ↦ before_from (nodes us) p x.0 h
              | inr h ↦ elim h [
                | inl k ↦ k.0
                | inr k ↦ absurd ((once_right (nodes us) (x.0 ∷ nodes xs) apart).0 (elim k [ inl m ↦ has_from (nodes xs) x.0 m.1 | inr m ↦ before_to (nodes xs) p x.0 m ]))
              ]
            ]))),
        sorted_from g (us ++ x ∷ []) xs (x.0 ∷ before) once forward (is ∙ sym (append_assoc us (x ∷ []) xs)) (λ a. (
          (λ h. elim (has_either (nodes us) (x.0 ∷ []) a (subst (λ (ns : List E). Has ns a) (nodes_append us (x ∷ [])) h)) [ inl k ↦ inr ((done a).0 k) | inr k ↦ elim k [ inl e ↦ inl e | inr n ↦ absurd n ] ]),
          (λ h. subst (λ (ns : List E). Has ns a) (sym (nodes_append us (x ∷ []))) (elim h [ inl e ↦ has_right (nodes us) (x.0 ∷ []) a (inl e) | inr k ↦ has_left (nodes us) (x.0 ∷ []) a ((done a).1 k) ])),
        )),
      )

  pass_nodes : (through xs : Graph E) → nodes (stitch_pass same gone through xs) ≡ filter (λ a. not (gone a)) (nodes xs)
  pass_nodes through [] = refl
  pass_nodes through (x ∷ xs) = elim (cases (gone x.0)) [
    | inl t ↦ rw t (pass_nodes ((x.0, distinct same gone through x.1) ∷ through) xs)
    | inr f ↦ rw f (ap (λ zs. x.0 ∷ zs) (pass_nodes through xs))
  ]

  not_false : (b : Bool) → not b ≡ true → b ≡ false
  not_false true h = absurd (cc)
  not_false false h = refl

  once_filter : (t : E → Bool) (xs : List E) → Once xs → Once (filter t xs)
  once_filter t [] o = tt
  once_filter t (x ∷ xs) o = elim (cases (t x)) [
    | inl u ↦ rw u ((λ h. o.0 (filter_has t xs x h).0), once_filter t xs o.1)
    | inr u ↦ rw u (once_filter t xs o.1)
  ]

  pub dropped : (sound : (a b : E) → same a b ≡ true → a ≡ b) (reflexive : (a : E) → same a a ≡ true) (g : Graph E) → IsInOrder g
      → IsInOrder (stitch_pass same gone [] g) × Drops gone g (stitch_pass same gone [] g)
  dropped sound reflexive g is =
      let new : Graph E = stitch_pass same gone [] g in
      let stays : E → Bool = λ a. not (gone a) in
      let once : Once (nodes g) = once_of (nodes g) is.once in
      let sorted : IsSorted same gone [] g = sorted_from g [] g [] once is.forward refl (λ a. ((λ h. h), (λ h. h))) in
      let edges : (a b : E) → Precedes new a b ↔ Stitch (Precedes g) gone a b = passing E same gone g sound reflexive sorted in
      let names : nodes new ≡ filter stays (nodes g) = pass_nodes [] g in (
        record {
          once = once_to (nodes new) (subst Once (sym names) (once_filter stays (nodes g) once));
          forward = λ a b s.
              let t = (edges a b).0 s in
              let r = stitched (Precedes g) gone a b (order.last t) in
              let f : Before (nodes g) a b = forward_all (Precedes g) (nodes g) once is.forward a b r.0 in
              let p : stays a ≡ true = (let u = r.1 in rw u refl) in
              let q : stays b ≡ true = (let u = r.2 in rw u refl) in
              subst (λ (ns : List E). Before ns a b) (sym names) (before_filter stays (nodes g) a b p q f);
        },
        record {
          nodes_are = λ a. (
            (λ c. let h = filter_has stays (nodes g) a (subst (λ (ns : List E). Has ns a) names (has_from (nodes new) a c)) in (contains_from (nodes g) a h.0, not_false (gone a) h.1)),
            (λ h. contains_from (nodes new) a (subst (λ (ns : List E). Has ns a) (sym names) (has_filter stays (nodes g) a (has_from (nodes g) a h.0) (let u = h.1 in rw u refl)))),
          );
          reach = stitching E g new gone edges;
        },
      )

pub dropped_by : (gone : List EntryKey) (stands : EntryKey → Bool) (g now new : Graph EntryKey) → ((k : EntryKey) → stands k ≡ is_in same_entry gone k) → IsInOrder g → now ≡ g
    → new ≡ stitch_pass same_entry stands [] now → IsInOrder new × Drops (is_in same_entry gone) g new
dropped_by gone stands g now new fits sound same is =
    let e : stands ≡ is_in same_entry gone = λ i k. fits k i in
    let whole : new ≡ stitch_pass same_entry (is_in same_entry gone) [] g = is ∙ ap (λ n. stitch_pass same_entry stands [] n) same ∙ ap (λ f. stitch_pass same_entry f [] g) e in
    subst (λ n. IsInOrder n × Drops (is_in same_entry gone) g n) (sym whole) (dropped same_entry (is_in same_entry gone) same_entry-sound same_entry-refl g sound)
